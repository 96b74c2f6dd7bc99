use Rattle.std.proofs.Common.{◌≡◌, List, ap, sym, ◌∙◌, subst, refl}
use Rattle.std.specs.Prelude.{IfOk, option_map}
use Rattle.kl1_user_events.specs.Viewing.{goal_text}
use Rattle.kl1_codes.specs.Numbered.{ArePlaced}
use Rattle.kl1_journal.specs.Keeping.{Reading, Fits}
use Rattle.kl1_journal.specs.Keeping.{Held, kept_of}
use Rattle.kl1_world.proofs.Seated.{accounts_of, as_many, stands, seated_set, changed_at, changed_none}
use Rattle.kl1_world.proofs.Steps.{still_within}
use Rattle.kl1_world.proofs.world.World.goal_text_at.Goals as goal

pub invariant_of-self : goal.invariant_of-self
invariant_of-self g c =
    let xs = c.self.inside.accounts.items in
    let n = c.args.account in
    let x = c.index_mut-kept.result.now in
    let view : accounts_of xs ≡ c.args.self.now.0 = ap (λ p. p.0) c.self.view_is in
    let less = as_many xs c.args.self.now.0 n view c.requires in
    let at = stands xs n x less c.index_mut-kept.ensures.value in
    let y = c.goal_text.new.self in
    let has = g.C.CodeSource.has c.self.inside.code_source in (
      seated_set g.A.AtomSource.is_of g.A.AtomSource.place has has c.self.inside.names c.goal_text.new.names xs n x y
          c.self.invariant.0 at c.goal_text.ensures.of c.goal_text.ensures.place c.goal_text.ensures.others (subst (λ (h : Held). ArePlaced has h.0.modules) (sym c.goal_text.ensures.same) (c.self.invariant.0 n x at).2) (λ p. (λ h. h, λ h. h)) (ap (λ (h : Held). h.0.rules) c.goal_text.ensures.same),
      still_within xs n c.self.inside.at y c.self.invariant.1,
    )

pub returns-clause-text : goal.returns-clause-text
returns-clause-text g c =
    let xs = c.self.inside.accounts.items in
    let n = c.args.account in
    let x = c.index_mut-kept.result.now in
    let view : accounts_of xs ≡ c.args.self.now.0 = ap (λ p. p.0) c.self.view_is in
    let less = as_many xs c.args.self.now.0 n view c.requires in
    let at = stands xs n x less c.index_mut-kept.ensures.value in
    let y = c.goal_text.new.self in
    subst (λ (b : Held). IfOk c.goal_text.result (λ shown. (f : Reading) → Fits b.0.names f → option_map (λ text. text.items) shown ≡ goal_text c.args.extent (kept_of f b).state c.args.goal.0)) (sym (changed_at xs n y less)) c.goal_text.ensures.text

pub returns-clause-same : goal.returns-clause-same
returns-clause-same g c =
    let xs = c.self.inside.accounts.items in
    let n = c.args.account in
    let x = c.index_mut-kept.result.now in
    let view : accounts_of xs ≡ c.args.self.now.0 = ap (λ p. p.0) c.self.view_is in
    let less = as_many xs c.args.self.now.0 n view c.requires in
    let at = stands xs n x less c.index_mut-kept.ensures.value in
    ap (λ (us : List Held). (us, c.self.inside.at)) (changed_none xs (accounts_of xs) n x c.goal_text.new.self refl at c.goal_text.ensures.same) ∙ c.self.view_is
