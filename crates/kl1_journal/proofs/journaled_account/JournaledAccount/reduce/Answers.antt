use Rattle.std.proofs.Common.{◌≡◌, if◌then◌else◌, ap, ◌∙◌, subst}
use Rattle.std.specs.Prelude.{is_some}
use Rattle.kl1_model.specs.Event as model
use Rattle.kl1_model_server.specs.Journal.{Journal, done}
use Rattle.kl1_atoms.specs.Names.{AreNames}
use Rattle.kl1_user.specs.Accounts.{Reading, Fits}
use Rattle.kl1_user.specs.Accounts.{Account}
use Rattle.kl1_journal_entries.specs.Lined.{with_reduction}
use Rattle.kl1_user_events.specs.Views.{reduced_or}
use Rattle.kl1_journal.specs.Keeping.{kept_of}
use Rattle.kl1_user.specs.Readings.{reading_of, fits_before, grows_as}
use Rattle.kl1_journal.proofs.Keeps.{done_step, kept_step, rules_same}
use Rattle.kl1_journal.proofs.journaled_account.JournaledAccount.reduce.Goals as goal

pub invariant_of-self-2 : goal.invariant_of-self-2
invariant_of-self-2 g c =
    let old = c.self.inside.user in
    let new = c.reduce.new.self in
    let j = c.self.inside.journal.journal in
    let k = c.note_step.new.journal.journal in
    let goal_no = c.args.goal.0 in
    let clause_no = c.args.clause.0 in
    let o = c.in_ok-refused.refused in
    let before : (f : Reading) → Fits new.names f → Fits old.names f = λ f fits. fits_before old.names new.names f (grows_as (g.A.AtomSource.knows c.self.inside.seat) (g.A.AtomSource.knows c.reduce.new.seat) old.names new.names c.self.invariant.0 c.reduce.ensures.knows c.reduce.ensures.keeps.grows) fits in
    let names = subst AreNames c.reduce.ensures.knows (g.met.A.AtomSource.one_to_one c.reduce.new.names c.reduce.new.seat c.reduce.ensures.keeps.of) in
    let k_is : k ≡ (if is_some o then j else with_reduction j goal_no clause_no new.run) = c.note_step.ensures ∙ ap (λ (i : Journal). if is_some o then i else with_reduction i goal_no clause_no c.run.result) c.reserve.ensures.same ∙ ap (λ n. if is_some o then j else with_reduction j goal_no clause_no n) (c.run.ensures (reading_of new.names)) in
    (c.reduce.ensures.knows, kept_step old new j k goal_no clause_no o c.self.invariant.1 names c.in_ok-refused.ensures.step before k_is, names)

pub returns-clause-before : goal.returns-clause-before
returns-clause-before g c = λ f fits.
    fits_before c.args.self.now.1.0.names c.reduce.new.self.names f (grows_as (g.A.AtomSource.knows c.self.inside.seat) (g.A.AtomSource.knows c.reduce.new.seat) c.args.self.now.1.0.names c.reduce.new.self.names (c.self.invariant.0 ∙ ap (λ x. x.1.0.names) c.self.view_is) c.reduce.ensures.knows c.reduce.ensures.keeps.grows) fits

pub returns-clause-step : goal.returns-clause-step
returns-clause-step g c = λ f fits.
    let old = c.self.inside.user in
    let new = c.reduce.new.self in
    let j = c.self.inside.journal.journal in
    let k = c.note_step.new.journal.journal in
    let goal_no = c.args.goal.0 in
    let clause_no = c.args.clause.0 in
    let o = c.in_ok-refused.refused in
    let k_is : k ≡ (if is_some o then j else with_reduction j goal_no clause_no new.run) = c.note_step.ensures ∙ ap (λ (i : Journal). if is_some o then i else with_reduction i goal_no clause_no c.run.result) c.reserve.ensures.same ∙ ap (λ n. if is_some o then j else with_reduction j goal_no clause_no n) (c.run.ensures (reading_of new.names)) in
    subst (λ (p : Account × Journal). done (kept_of f p) (model.reduce goal_no clause_no) ≡ record { kept = kept_of f (new, k); reply = reduced_or o }) (ap (λ x. x.1) c.self.view_is)
    (done_step f old new j k goal_no clause_no o (c.in_ok-refused.ensures.step f fits) k_is)

pub returns-clause-rules : goal.returns-clause-rules
returns-clause-rules g c =
    let names = subst AreNames c.reduce.ensures.knows (g.met.A.AtomSource.one_to_one c.reduce.new.names c.reduce.new.seat c.reduce.ensures.keeps.of) in
    rules_same c.self.inside.user c.reduce.new.self (model.reduce c.args.goal.0 c.args.clause.0) (reduced_or c.in_ok-refused.refused) names c.in_ok-refused.ensures.step ∙ ap (λ x. x.1.0.rules) c.self.view_is
