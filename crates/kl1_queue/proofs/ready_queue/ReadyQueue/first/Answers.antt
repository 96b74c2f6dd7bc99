use Rattle.std.proofs.Common.{◌≡◌, ◌<◌, get_or, sym, ◌∙◌, arith, inl, inr}
use Rattle.kl1_queue.proofs.Laying.{set_first, other_first, empty_ranks}
use Rattle.std.proofs.lemmas.Bool.{cases_lt}
use Rattle.kl1_queue.proofs.ready_queue.ReadyQueue.first.Goals as goal

pub returns-then-greatest-self : goal.returns-then-greatest-self
returns-then-greatest-self c = rw (← c.self.view_is) (set_first c.self.inside.bits_rank c.self.inside.bits c.self.inside.tree.ranks c.in-Some.place c.self.invariant.over c.in-Some.ensures (λ j. omega (arith, c.greatest.ensures j, c.if-greatest-self.true)) (λ j h. omega (arith, c.greatest.ensures j, c.if-greatest-self.true)))

pub returns-then-rank-self : goal.returns-then-rank-self
returns-then-rank-self c = let f = c.in-Some-first.ensures in rw (← c.self.view_is) (set_first c.self.inside.bits_rank c.self.inside.bits c.self.inside.tree.ranks c.in-Some.place c.self.invariant.over c.in-Some.ensures (λ j. omega (arith, f.greatest j, c.rank_at-rank.ensures, c.if-rank-self.true)) (λ j h. omega (arith, f.greatest j, c.rank_at-rank.ensures, c.if-rank-self.true)))

pub returns-then-place-other : goal.returns-then-place-other
returns-then-place-other c = let f = c.in-Some-first.ensures in rw (← c.self.view_is) (set_first c.self.inside.bits_rank c.self.inside.bits c.self.inside.tree.ranks c.in-Some.place c.self.invariant.over c.in-Some.ensures (λ j. omega (arith, f.greatest j, c.rank_at-rank.ensures, c.if-rank-self-2.true)) (λ j h. omega (arith, f.least j (omega (arith, h, c.if-place-other.true)), c.rank_at-rank.ensures, c.if-rank-self-2.true)))

pub returns-in-None-first : goal.returns-in-None-first
returns-in-None-first c = let n = c.in-None-first.ensures in let b = c.self.invariant.over.some c.in-Some.place c.in-Some.ensures.here in rw (← c.self.view_is) (set_first c.self.inside.bits_rank c.self.inside.bits c.self.inside.tree.ranks c.in-Some.place c.self.invariant.over c.in-Some.ensures (λ j. omega (arith, n j)) (λ j h. omega (arith, n j, b)))

pub returns-else-rank-self-2 : goal.returns-else-rank-self-2
returns-else-rank-self-2 c =
    let f = c.in-Some-first.ensures in
    let z = c.self.invariant.over.beside c.in-Some.place c.in-Some.ensures.here in
    let tie : c.self.inside.bits_rank ≡ get_or c.self.inside.tree.ranks c.in-Some-first.other 0 → c.in-Some-first.other < c.in-Some.place = λ e. elim c.else-rank-self-2.either [
      | inl p ↦ elim (cases_lt c.in-Some-first.other c.in-Some.place) [
        | inl a ↦ a
        | inr b ↦ let q : c.in-Some-first.other ≡ c.in-Some.place = omega (arith, b, p.1) in absurd (omega (arith, rw q at f.ready, z))
      ]
      | inr n ↦ absurd (n (c.rank_at-rank.ensures ∙ sym e))
    ] in
    rw (← c.self.view_is) (other_first c.self.inside.bits_rank c.self.inside.bits c.self.inside.tree.ranks c.in-Some.place c.in-Some-first.other c.self.invariant.over c.in-Some.ensures f (omega (arith, c.if-rank-self.false, c.rank_at-rank.ensures)) tie)

pub returns-in-None : goal.returns-in-None
returns-in-None c = rw (← c.self.view_is, empty_ranks c.self.inside.bits_rank c.self.inside.bits c.self.inside.tree.ranks c.in-None.ensures) c.first-in-None.ensures
