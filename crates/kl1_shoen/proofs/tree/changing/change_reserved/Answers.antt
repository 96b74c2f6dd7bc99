use Rattle.std.proofs.Common.{◌≡◌, ◌-◌, List, set, sym, ap, ◌∙◌, arith, subst}
use Rattle.std.specs.Prelude.{Some, None, find}
use Rattle.kl1_shoen_paths.specs.declared.shoen.Shoen.{Shoen}
use Rattle.kl1_shoen.specs.Changes.{changed_by}
use Rattle.kl1_shoen.specs.Shoens.{has_number, AreNumbered, parents_in}
use Rattle.kl1_shoen.proofs.Changing.{number_some, place_within, changed_parent, changed_none, changed_at, parents_changed, numbered_changed}
use Rattle.kl1_shoen.proofs.tree.changing.change_reserved.Given as given
use Rattle.kl1_shoen.proofs.tree.changing.change_reserved.Goals as goal

pub returns-in_default-clause-now : goal.returns-in_default-clause-now
returns-in_default-clause-now g c =
    let p = c.items.ensures in
    let q = c.lent.ensures.value in
    let r = c.copied.ensures in
    let s = c.in_default.is in
    let none : find (has_number c.args.number) c.args.shoens.now.now ≡ None = cc in
    sym (changed_none c.args.number (changed_by c.args.change) c.args.shoens.now.now none)

found : (g : given.Over) (c : goal.After-put g) → find (has_number c.args.number) c.args.shoens.now.now ≡ Some c.in-Some.shoen
found g c =
    let p = c.items.ensures in
    let q = c.lent.ensures.value in
    let r = c.copied.ensures in
    let s = c.in-Some.is in
    cc

pub overflow_sub-number : goal.overflow_sub-number
overflow_sub-number g c =
    let p = c.items.ensures in
    let q = c.lent.ensures.value in
    let r = c.copied.ensures in
    let s = c.in-Some.is in
    let found : find (has_number c.args.number) c.args.shoens.now.now ≡ Some c.in-Some.shoen = cc in
    let lt = number_some c.args.number c.in-Some.shoen c.args.shoens.now.now c.requires.numbered found in
    omega (arith, lt)

pub put-requires-clause-place : goal.put-requires-clause-place
put-requires-clause-place g c =
    let p = c.items.ensures in
    let q = c.lent.ensures.value in
    let r = c.copied.ensures in
    let s = c.in-Some.is in
    let found : find (has_number c.args.number) c.args.shoens.now.now ≡ Some c.in-Some.shoen = cc in
    place_within c.args.number c.in-Some.shoen c.args.shoens.now.now c.requires.numbered found

pub put-requires-clause-parent : goal.put-requires-clause-parent
put-requires-clause-parent g c =
    let p = c.items.ensures in
    let q = c.lent.ensures.value in
    let r = c.copied.ensures in
    let s = c.in-Some.is in
    let found : find (has_number c.args.number) c.args.shoens.now.now ≡ Some c.in-Some.shoen = cc in
    ap (λ (x : Shoen g.row.N.Denot). x.parent) c.changed.ensures
    ∙ changed_parent c.args.number c.args.change c.in-Some.shoen c.changed.result c.args.shoens.now.now c.requires.numbered found

put_at : (g : given.Over) (c : goal.After-put g) → c.put.new.self.now ≡ set c.args.shoens.now.now (c.args.number - 1) (changed_by c.args.change c.in-Some.shoen)
put_at g c = c.put.ensures.now ∙ ap (λ (x : Shoen g.row.N.Denot). set c.args.shoens.now.now (c.args.number - 1) x) c.changed.ensures

pub returns-clause-now : goal.returns-clause-now
returns-clause-now g c =
    put_at g c ∙ sym (changed_at c.args.number (changed_by c.args.change) c.in-Some.shoen c.args.shoens.now.now c.requires.numbered (found g c))

pub returns-clause-numbered : goal.returns-clause-numbered
returns-clause-numbered g c =
    subst (λ (l : List (Shoen g.row.N.Denot)). AreNumbered 0 l) (sym (put_at g c)) (numbered_changed c.args.number c.args.change c.in-Some.shoen c.args.shoens.now.now c.requires.numbered (found g c))

pub returns-clause-parents : goal.returns-clause-parents
returns-clause-parents g c =
    ap (λ (l : List (Shoen g.row.N.Denot)). parents_in l) (put_at g c) ∙ parents_changed c.args.number c.args.change c.in-Some.shoen c.args.shoens.now.now c.requires.numbered (found g c)
