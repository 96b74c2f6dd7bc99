use Rattle.std.proofs.Common.{◌≡◌, ℕ, List, ◌++◌, drop, ap, ◌∙◌, subst}
use Rattle.std.specs.Prelude.{OnOk}
use Rattle.kl1_store.specs.Hooks.{Kept, told_by, told_on}
use Rattle.kl1_store.proofs.Telling.{told_on-variables}
use Rattle.kl1_store.proofs.store.Store.tell.Goals as goal

pub returns : goal.returns
returns g c =
    let s = c.self.inside in
    let n = c.args.since.sizes.bindings in
    let P : List ℕ → Type 0 = λ l. OnOk c.tell_all.result (c.tell_all.new.told.items ≡ c.args.told.now.items ++ l) in
    subst P
    (ap (λ l. told_on l s.hooks.hooks) c.bound_from-variables.ensures
    ∙ told_on-variables (drop n s.cells.held.bindings) s.hooks.hooks
    ∙ ap (λ (k : Kept g.row.N.Denot). told_by (drop n k.held.bindings) k.hooks) c.self.view_is)
    c.tell_all.ensures
