use Rattle.std.proofs.Common.{ℕ, List, length, get_or, ap, ◌∙◌, arith}
use Rattle.std.specs.List.{list_any}
use Rattle.kl1_shoen_paths.specs.declared.shoen.Shoen.{Shoen}
use Rattle.kl1_shoen_paths.specs.Tracked.{Tracked}
use Rattle.kl1_shoen.specs.Shoens.{is_living_child_of}
use Rattle.kl1_shoen.proofs.Counting.{any_beyond, any_none, any_some}
use Rattle.kl1_shoen.proofs.counted.CountedShoens.has_living_child.Goals as goal

pub returns-then-children-place : goal.returns-then-children-place
returns-then-children-place g c =
    let e = ap (λ (l : List ℕ). length l) c.items-children.ensures in
    any_beyond c.self.inside.shoens.now c.self.inside.children.now c.args.number c.self.invariant.now (omega (arith, e, c.if-children-place.true))
    ∙ ap (λ (t : Tracked (Shoen g.row.N.Denot)). list_any (is_living_child_of c.args.number) t.now) c.self.view_is

pub returns-then-count-eq0 : goal.returns-then-count-eq0
returns-then-count-eq0 g c =
    let e = ap (λ (l : List ℕ). get_or l c.args.number 0) c.items-children.ensures in
    any_none c.self.inside.shoens.now c.self.inside.children.now c.args.number c.self.invariant.now (omega (arith, e, c.if-count-eq0.true))
    ∙ ap (λ (t : Tracked (Shoen g.row.N.Denot)). list_any (is_living_child_of c.args.number) t.now) c.self.view_is

pub returns : goal.returns
returns g c =
    let e = ap (λ (l : List ℕ). get_or l c.args.number 0) c.items-children.ensures in
    any_some c.self.inside.shoens.now c.self.inside.children.now c.args.number c.self.invariant.now (omega (arith, e, c.if-count-eq0.false))
    ∙ ap (λ (t : Tracked (Shoen g.row.N.Denot)). list_any (is_living_child_of c.args.number) t.now) c.self.view_is
