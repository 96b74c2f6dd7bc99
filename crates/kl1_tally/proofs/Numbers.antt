-- Numbers in a row, and how often one stands among them.
use Rattle.std.proofs.Common.{◌≡◌, ◌≢◌, ℕ, zero, suc, ◌+◌, ◌<◌, ◌≤◌, ◌⊎◌, List, [], ◌∷◌, ◌++◌, take, drop, refl, ap, ◌∙◌, inl, inr, arith}
use Rattle.std.specs.Prelude.{sum_by}
use Rattle.std.proofs.lemmas.Bool.{cases_eq}
use Rattle.std.proofs.lemmas.Bool.Decides.{nat_tests}
use Rattle.std.proofs.lemmas.List.Sums.{sum_by-cons}
use Rattle.kl1_tally.specs.Numbers.{up_from, same, times}

-- a number is itself
pub same_here : (k n : ℕ) → n ≡ k → same k n ≡ 1
same_here k n e = grind (arith, nat_tests)

-- two numbers are not the same
pub same_else : (k n : ℕ) → n ≢ k → same k n ≡ 0
same_else k n d = grind (arith, nat_tests)

-- a number is as often in a list as in its first place and after it
pub cut_sum : (f : ℕ → ℕ) (ns : List ℕ) → sum_by f (take 1 ns) + sum_by f (drop 1 ns) ≡ sum_by f ns
cut_sum f [] = refl
cut_sum f (n ∷ ns) = omega (arith, sum_by-cons f n ns, sum_by-cons f n [])

-- a number that lies outside a row isn't in it
pub outside : (k a n : ℕ) → (k < a) ⊎ (a + n ≤ k) → times k (up_from a n) ≡ 0
outside k a zero out = refl
outside k a (suc n) out =
    let d : a ≢ k = elim out [ inl h ↦ (λ e. omega arith) | inr h ↦ (λ e. omega arith) ] in
    let r : times k (up_from (a + 1) n) ≡ 0 = outside k (a + 1) n (elim out [ inl h ↦ inl (omega arith) | inr h ↦ inr (omega arith) ]) in
    omega (arith, sum_by-cons (same k) a (up_from (a + 1) n), same_else k a d)

-- a number that lies in a row is in it once
pub inside : (k a n : ℕ) → a ≤ k → k < a + n → times k (up_from a n) ≡ 1
inside k a zero low high = absurd (omega arith)
inside k a (suc n) low high = elim (cases_eq a k) [
  | inl e ↦
      let r : times k (up_from (a + 1) n) ≡ 0 = outside k (a + 1) n (inl (omega arith)) in
      omega (arith, sum_by-cons (same k) a (up_from (a + 1) n), same_here k a e)
  | inr d ↦
      let r : times k (up_from (a + 1) n) ≡ 1 = inside k (a + 1) n (omega arith) (omega arith) in
      omega (arith, sum_by-cons (same k) a (up_from (a + 1) n), same_else k a d)
]

-- a row with one number more
pub up_more : (a n : ℕ) → up_from a (n + 1) ≡ up_from a n ++ (a + n) ∷ []
up_more a zero = ap (λ x. x ∷ []) (let e : a ≡ a + 0 = omega arith in e)
up_more a (suc n) = rw (let e : suc n + 1 ≡ suc (n + 1) = omega arith in e) (ap (λ xs. a ∷ xs) (up_more (a + 1) n ∙ ap (λ x. up_from (a + 1) n ++ x ∷ []) (let e : a + 1 + n ≡ a + suc n = omega arith in e)))

-- a number is below another or not
pub lt_or_le : (k n : ℕ) → (k < n) ⊎ (n ≤ k)
lt_or_le k zero = inr (omega arith)
lt_or_le zero (suc n) = inl (omega arith)
lt_or_le (suc k) (suc n) = elim (lt_or_le k n) [ inl h ↦ inl (omega arith) | inr h ↦ inr (omega arith) ]
