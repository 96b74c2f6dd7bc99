use Rattle.std.proofs.Common.{◌≡◌, ◌∙◌, Bool, Option, None, Some, ap, sym, refl, subst}
use Rattle.kl1_model.specs.Choice.{Chosen, first}
use Rattle.kl1_model.specs.Event.{reduce}
use Rattle.kl1_model.specs.Step.{step}
use Rattle.kl1_user_events.specs.Views.{reduced_or}
use Rattle.kl1_user.specs.Accounts.{Account, Reading, Fits, state_of}
use Rattle.kl1_user.specs.Readings.{fits_before, grows_as}
use Rattle.kl1_model_server.specs.Journal.{first_step}
use Rattle.kl1_script.specs.Replays.{if_accepted}
use Rattle.kl1_script.specs.Steps.{Went}
use Rattle.kl1_script.proofs.FirstSteps.{none_steps, told_none, one_steps}
use Rattle.kl1_atoms.specs.Names.{AreNames}
use Rattle.kl1_codes.specs.Numbered.{ArePlaced}
use Rattle.kl1_script.proofs.RulesKept.{rules_kept, room_kept}
use Rattle.kl1_script.proofs.replayed.Replayed.step.Goals as goal

-- the seat stays, and the rules do
pub invariant_of-self-in-Some : goal.invariant_of-self-in-Some
invariant_of-self-in-Some g c =
    let old = c.self.inside.user in
    let new = c.reduce.new.self in
    let names = subst AreNames c.reduce.ensures.knows (g.met.A.AtomSource.one_to_one c.reduce.new.names c.reduce.new.seat c.reduce.ensures.keeps.of) in
    let rules = rules_kept old new (reduce c.in-Some.goal.0 c.in-Some.clause.0) reduced_or c.reduce.result names c.reduce.ensures.step c.reduce.ensures.err in
    let placed = subst (ArePlaced (g.C.CodeSource.has c.self.inside.code_source)) (sym c.reduce.ensures.modules) c.self.invariant.3 in
    (c.reduce.ensures.keeps.of, c.reduce.ensures.knows, room_kept g.A.AtomSource.place c.self.inside.seat c.reduce.new.seat old.rules new.rules rules c.reduce.ensures.keeps.stays c.self.invariant.2, placed)

pub returns-in-None-clause-step : goal.returns-in-None-clause-step
returns-in-None-clause-step g c =
    let P : Account → Type 0 = λ a. (f : Reading) → Fits a.names f → let o : Option Chosen = None in o ≡ first (state_of f a) in
    let picks = subst P c.self.view_is c.in-None.ensures.picks in
    λ f fits. none_steps (state_of f c.args.self.now) (state_of f c.args.self.now) None refl (picks f fits)

pub returns-in_ok-refused-in-Some-clause-step : goal.returns-in_ok-refused-in-Some-clause-step
returns-in_ok-refused-in-Some-clause-step g c =
    let chosen : Chosen = record { goal = c.in-Some.goal.0; clause = c.in-Some.clause.0 } in
    let P : Account → Type 0 = λ a. (f : Reading) → Fits a.names f → Some chosen ≡ first (state_of f a) in
    let Q : Account → Type 0 = λ a. (f : Reading) → Fits c.reduce.new.self.names f → step (state_of f a) (reduce chosen.goal chosen.clause) ≡ record { state = state_of f c.reduce.new.self; reply = reduced_or c.in_ok-refused-in-Some.refused } in
    let picks = subst P c.self.view_is c.in-Some.ensures.picks in
    let steps = subst Q c.self.view_is c.in_ok-refused-in-Some.ensures.step in
    λ f fits.
    let before = fits_before c.args.self.now.names c.reduce.new.self.names f (grows_as (g.A.AtomSource.knows c.self.inside.seat) (g.A.AtomSource.knows c.reduce.new.seat) c.args.self.now.names c.reduce.new.self.names (c.self.invariant.1 ∙ ap (λ (a : Account). a.names) c.self.view_is) c.reduce.ensures.knows c.reduce.ensures.keeps.grows) fits in
    let W : Bool → Type 0 = λ b. Went b (if_accepted (first_step (state_of f c.args.self.now))) (state_of f c.reduce.new.self) in
    subst W (told_none c.in_ok-refused-in-Some.refused c.is_none.result c.is_none.ensures) (one_steps (state_of f c.args.self.now) (state_of f c.reduce.new.self) chosen c.in_ok-refused-in-Some.refused (picks f before) (steps f fits))

pub returns-in_ok-refused-in-Some-clause-before : goal.returns-in_ok-refused-in-Some-clause-before
returns-in_ok-refused-in-Some-clause-before g c = λ f fits.
    fits_before c.args.self.now.names c.reduce.new.self.names f (grows_as (g.A.AtomSource.knows c.self.inside.seat) (g.A.AtomSource.knows c.reduce.new.seat) c.args.self.now.names c.reduce.new.self.names (c.self.invariant.1 ∙ ap (λ (a : Account). a.names) c.self.view_is) c.reduce.ensures.knows c.reduce.ensures.keeps.grows) fits
