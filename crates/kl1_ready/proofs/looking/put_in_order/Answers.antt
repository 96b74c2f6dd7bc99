use Rattle.kl1_ready.proofs.Words.{ℕ, List, ◌∙◌, ap, arith, dedup_is, IsStrictlyIncreasing-dedup, is_among, Contains-dedup_nat, Contains-from_dedup, among_contains, contains_among, dedup, eqb, list_any-IsPermutation, same_from_decides, sym, true, ◌≡◌, ◌==◌}
use Rattle.kl1_ready.proofs.looking.put_in_order.Goals as goal

-- each of these numbers once
among_dedup : (n : ℕ) (ns : List ℕ) → is_among n (dedup eqb ns) ≡ is_among n ns
among_dedup n ns =
    same_from_decides {P = is_among n ns ≡ true} (is_among n (dedup eqb ns)) (is_among n ns)
    (λ e. among_contains n ns (Contains-from_dedup eqb ns n (contains_among n (dedup eqb ns) e)), λ e. among_contains n (dedup eqb ns) (Contains-dedup_nat ns n (contains_among n ns e)))
    (λ e. e, λ e. e)

pub returns-then-len-gt1-clause-once : goal.returns-then-len-gt1-clause-once
returns-then-len-gt1-clause-once c = rw (dedup_is _ _ _ c.dedup.ensures.filtered) (IsStrictlyIncreasing-dedup c.sort_unstable.new.self.items c.sort_unstable.ensures.sorted)

pub returns-then-len-gt1-clause-same : goal.returns-then-len-gt1-clause-same
returns-then-len-gt1-clause-same c n =
    ap (λ (ns : List ℕ). is_among n ns) (dedup_is _ _ _ c.dedup.ensures.filtered)
    ∙ among_dedup n c.sort_unstable.new.self.items
    ∙ sym (list_any-IsPermutation (λ m. n == m) c.args.numbers.now.items c.sort_unstable.new.self.items c.sort_unstable.ensures.permutation)

pub returns-else-len-gt1-clause-once : goal.returns-else-len-gt1-clause-once
returns-else-len-gt1-clause-once c k lt = absurd (omega (arith, lt, c.len.ensures, c.if-len-gt1.false))
