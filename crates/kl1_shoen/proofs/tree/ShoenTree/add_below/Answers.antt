use Rattle.std.proofs.Common.{◌++◌, ℕ, List, sym, ap, ◌∙◌, subst}
use Rattle.std.specs.Prelude.{Contains}
use Rattle.std.proofs.lemmas.List.Elements.{Contains-append_right}
use Rattle.kl1_shoen.specs.Shifts.{shoens_of}
use Rattle.kl1_shoen.proofs.tree.ShoenTree.add_below.Goals as goal

pub returns-clause-covers : goal.returns-clause-covers
returns-clause-covers g c = λ up n lt few on.
    let below = c.below.new.out.items in
    subst (λ (ns : List ℕ). Contains ns n) (sym (c.in_ok-add_all.ensures.numbers ∙ ap (λ (ns : List ℕ). shoens_of c.args.out.now.items ++ ns) c.deref.ensures.value))
    (Contains-append_right (shoens_of c.args.out.now.items) below n ((c.in_ok-below.ensures.among n).1 (lt, few, on)))
