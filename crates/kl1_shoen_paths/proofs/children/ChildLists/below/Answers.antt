use Rattle.std.proofs.Common.{◌≡◌, ◌+◌, ◌++◌, ◌∷◌, [], ℕ, List, get_or, sym, ap, ◌∙◌, arith, subst}
use Rattle.std.proofs.lemmas.List.{length-map}
use Rattle.kl1_shoen_paths.specs.declared.shoen.Shoen.{Shoen}
use Rattle.kl1_shoen_paths.specs.Paths.{parents_in}
use Rattle.kl1_shoen_paths.specs.Below.{children_from}
use Rattle.kl1_shoen_paths.proofs.Below.{Closes, closes_one, closes_more, closes_few, children_once, below_closed, below_zero, below_beyond}
use Rattle.kl1_shoen_paths.proofs.children.ChildLists.below.Goals as goal

pub returns-then-number-eq0 : goal.returns-then-number-eq0
returns-then-number-eq0 g c = below_zero c.args.shoens.now c.args.number c.clear.new.self.items c.if-number-eq0.true c.clear.ensures.items

pub returns-then-shoens-number : goal.returns-then-shoens-number
returns-then-shoens-number g c = below_beyond c.args.shoens.now c.args.number c.clear.new.self.items c.requires.lower c.if-shoens-number.true c.clear.ensures.items

pub loop-index-init : goal.loop-index-init
loop-index-init g c =
    let parents = parents_in c.args.shoens.now in
    let n = c.args.number in
    let len = length-map c.args.shoens.now (λ (h : Shoen g.row.N.Denot). h.parent) in
    let one : c.push.new.self.items ≡ n ∷ [] = c.in_ok-push.ensures.items ∙ ap (λ (ns : List ℕ). ns ++ n ∷ []) c.clear.ensures.items in
    subst (λ (ns : List ℕ). Closes parents n ns 0) (sym one) (closes_one parents n c.requires.lower (omega (arith, c.if-number-eq0.false)) (omega (arith, len, c.if-shoens-number.false)))

pub loop-index-smaller : goal.loop-index-smaller
loop-index-smaller g c =
    let few = closes_few (parents_in c.args.shoens.now) c.args.number c.loop-index.out.items c.loop-index.index c.loop-index.invariant in
    let len = length-map c.args.shoens.now (λ (h : Shoen g.row.N.Denot). h.parent) in
    let ok = c.loop-index.out.ok in
    omega (arith, few, len, ok, c.len.ensures, c.loop-index-test.true)

pub loop-index-preserved : goal.loop-index-preserved
loop-index-preserved g c =
    let parents = parents_in c.args.shoens.now in
    let l = c.args.self.now in
    let x = c.index-at.result.now in
    let found = c.loop-index.out.items in
    let child = get_or l.first x 0 in
    let linked = c.requires.linked in
    let ok = c.loop-index.out.ok in
    subst (λ (ns : List ℕ). Closes parents c.args.number ns (c.loop-index.index + 1)) (sym c.in_ok-add_children.ensures)
    (closes_more parents c.args.number found (children_from l.next child) c.loop-index.index x c.requires.lower c.loop-index.invariant (omega (arith, ok, c.len.ensures, c.loop-index-test.true)) c.index-at.ensures
    (children_once l.next child child linked.lower (omega arith)) (λ n. linked.among x n))

pub returns : goal.returns
returns g c =
    let ok = c.loop-index.out.ok in
    below_closed c.args.shoens.now c.args.number c.loop-index.out.items c.loop-index.index c.requires.lower c.loop-index.invariant (omega (arith, ok, c.len.ensures, c.loop-index-test.false))
