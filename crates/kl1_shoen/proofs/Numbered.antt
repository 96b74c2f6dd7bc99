-- Shoens in order of number, taken in and exchanged by place.
use Rattle.std.proofs.Common.{◌≡◌, ℕ, zero, suc, ◌+◌, ◌-◌, ◌<◌, List, [], ◌∷◌, ◌++◌, length, sym, ap, ◌∙◌, arith}
use Rattle.std.specs.Prelude.{Option, Some, None, find, slice_get, slice_set, IfSome}
use Rattle.std.proofs.lemmas.Option.{none-some, same_Some}
use Rattle.kl1_shoen_paths.specs.declared.shoen.Shoen.{Shoen}
use Rattle.kl1_shoen.specs.Shoens.{has_number, AreNumbered}
use Rattle.kl1_shoen_paths.proofs.Numbered.{found_at, number_from}

pub numbered_push : {N : Type 0} (last : ℕ) (ss : List (Shoen N)) (s : Shoen N) → AreNumbered last ss → s.number ≡ suc (last + length ss) → AreNumbered last (ss ++ s ∷ [])
numbered_push last [] s a e = (omega arith, tt)
numbered_push last (r ∷ ss) s a e = (a.0, numbered_push (suc last) ss s a.1 (omega arith))

pub numbered_set : {N : Type 0} (last : ℕ) (ss : List (Shoen N)) (i : ℕ) (s : Shoen N) → AreNumbered last ss → s.number ≡ suc (last + i) → AreNumbered last (slice_set ss i s)
numbered_set last [] i s a e = tt
numbered_set last (r ∷ ss) zero s a e = (omega arith, a.1)
numbered_set last (r ∷ ss) (suc i) s a e = (a.0, numbered_set (suc last) ss i s a.1 (omega arith))

some_number : {N : Type 0} (o : Option (Shoen N)) (s : Shoen N) (n : ℕ) → o ≡ Some s → IfSome o (λ r. r.number ≡ n) → s.number ≡ n
some_number None s n e h = absurd (none-some s e)
some_number (Some r) s n e h = ap (λ (x : Shoen _). x.number) (sym (same_Some r s e)) ∙ h

-- a shoen that is found has that number
pub number_is : {N : Type 0} (n : ℕ) (s : Shoen N) (ss : List (Shoen N)) → AreNumbered 0 ss → 0 < n → find (has_number n) ss ≡ Some s → s.number ≡ n
number_is n s ss a lt e =
    some_number (slice_get ss (n - 1)) s (suc (0 + (n - 1))) (sym (found_at n ss a lt) ∙ e) (number_from 0 (n - 1) ss a) ∙ omega (arith, lt)
