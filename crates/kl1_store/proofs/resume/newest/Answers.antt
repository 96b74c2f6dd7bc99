use Rattle.std.proofs.Common.{ℕ, ◌-◌, sym, subst, arith}
use Rattle.kl1_store.specs.declared.rest.Rest.{Rest}
use Rattle.kl1_store.specs.Resting.{IsLeft, IsRestIn}
use Rattle.kl1_store.proofs.Resting.{left_now}
use Rattle.kl1_store.proofs.resume.newest.Goals as goal

pub returns-then-rest-right : goal.returns-then-rest-right
returns-then-rest-right g c =
    let h = c.args.cells.now.held in
    let built = g.N.NameValue.built in
    let r = c.index-rests-count.result in
    let P : Rest → Type 0 = λ x. IsRestIn built h x in
    let L : ℕ → Type 0 = λ n. IsLeft built h n r.right r.pairs.items in
    let R : ℕ → Type 0 = λ n. IsLeft built h c.args.left n r.pairs.items in
    let is = subst P (sym c.index-rests-count.is) (c.requires (c.loop-count.count - 1) r (omega (arith, c.loop-count.invariant, c.loop-count-test.true))) in
    subst R c.if-rest-right.true (subst L c.if-rest-left.true (left_now built h r is))
