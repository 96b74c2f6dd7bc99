use Rattle.std.proofs.Common.{ℕ, sym, ap, subst}
use Rattle.kl1_store.specs.Held.{Stored}
use Rattle.kl1_store.specs.Inside.{IsInside}
use Rattle.kl1_store.proofs.Lists.{bound_at}
use Rattle.kl1_store.proofs.cells.Cells.bind.Goals as goal

pub invariant_of-self-2 : goal.invariant_of-self-2
invariant_of-self-2 g c =
    let s = c.self.inside in
    let new = c.bind.new.self in
    let e = ap (λ (v : Stored g.row.N.Denot). v.held) c.self.view_is in
    let r = c.requires in
    let P : ℕ → Type 0 = λ n. IsInside n s.nodes.items s.arguments.cells new.bindings in
    subst P (sym c.bind.ensures.same)
    (bound_at s.bindings.variables s.nodes.items s.arguments.cells s.bindings.bindings new.bindings c.args.variable c.args.value c.args.self.now.held
    c.self.invariant e c.in_ok-bind.ensures.ok r.inside r.known r.unbound r.lower r.free)
