-- Whether a turn is gone on, by what its account looks at after it.
use Rattle.std.proofs.Common.{◌≡◌, ℕ, ◌<◌, ◌≤◌, ◌⊎◌, inl, inr, ◌==◌, nat_le, not, ◌&&◌, ◌||◌, Bool, ap, sym, ◌∙◌, eq-or-lt_of_le, arith}
use Rattle.std.proofs.lemmas.Bool.{le-leb, lt-leb, eq-eqb, ne_eqb}

-- all of at most these steps were done
all_of : (most n : ℕ) → n ≤ most → (n == most) ≡ nat_le most n
all_of most n few = by (eq-or-lt_of_le few)
  where
    by : (n ≡ most) ⊎ (n < most) → (n == most) ≡ nat_le most n
    by (inl same) = eq-eqb n most same ∙ sym (le-leb most n (omega (arith, same)))
    by (inr less) = ne_eqb n most (λ same. omega (arith, less, same)) ∙ sym (lt-leb most n less)

-- whether a whole turn is gone on
pub whole_on : (most n : ℕ) (over is_over none is_quiet : Bool) → n ≤ most → over ≡ is_over → none ≡ is_quiet → (((n == most) || over) && not none) ≡ ((nat_le most n || is_over) && not is_quiet)
whole_on most n over is_over none is_quiet few o q =
    ap (λ (t : Bool). (t || over) && not none) (all_of most n few) ∙ ap (λ (t : Bool). (nat_le most n || t) && not none) o ∙ ap (λ (t : Bool). (nat_le most n || is_over) && not t) q

-- whether a short one is
pub short_on : (more : Bool) (most n : ℕ) (over is_over none is_quiet : Bool) → n ≤ most → over ≡ is_over → none ≡ is_quiet → ((more || not over) && ((n == most) && not none)) ≡ ((more || not is_over) && (nat_le most n && not is_quiet))
short_on more most n over is_over none is_quiet few o q =
    ap (λ (t : Bool). (more || not over) && (t && not none)) (all_of most n few) ∙ ap (λ (t : Bool). (more || not t) && (nat_le most n && not none)) o ∙ ap (λ (t : Bool). (more || not is_over) && (nat_le most n && not t)) q
