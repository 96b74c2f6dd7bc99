-- Where the codes of modules stand.
use Rattle.std.proofs.Common.{◌≡◌, ℕ, zero, suc, List, [], ◌∷◌, ◌++◌, subst}
use Rattle.std.specs.Prelude.{◌↔◌, Some, slice_get}
use Rattle.kl1_codes.specs.Numbered.{Numbered, ArePlaced}

-- if every place will do
pub placed_anywhere : (has : ℕ × ℕ → Type 0) → ((p : ℕ × ℕ) → has p) → (ls : List Numbered) → ArePlaced has ls
placed_anywhere has all [] = tt
placed_anywhere has all (l ∷ ls) = (all l.place, placed_anywhere has all ls)

-- they stand there still if a source has the same places
pub placed_still : (old new : ℕ × ℕ → Type 0) → ((p : ℕ × ℕ) → old p ↔ new p) → (ls : List Numbered) → ArePlaced old ls → ArePlaced new ls
placed_still old new same [] a = tt
placed_still old new same (l ∷ ls) a = ((same l.place).0 a.0, placed_still old new same ls a.1)

-- with one module more
pub placed_more : (has : ℕ × ℕ → Type 0) (ls : List Numbered) (d : Numbered) → ArePlaced has ls → has d.place → ArePlaced has (ls ++ d ∷ [])
placed_more has [] d a h = (h, tt)
placed_more has (l ∷ ls) d a h = (a.0, placed_more has ls d a.1 h)

-- the code of a module stands where those of all do
pub placed_in : (has : ℕ × ℕ → Type 0) (ls : List Numbered) (k : ℕ) (l : Numbered) → ArePlaced has ls → slice_get ls k ≡ Some l → has l.place
placed_in has [] k l a e = absurd (cc)
placed_in has (m ∷ ls) zero l a e = let same : m ≡ l = cc in let P : Numbered → Type 0 = λ x. has x.place in subst P same a.0
placed_in has (m ∷ ls) (suc k) l a e = placed_in has ls k l a.1 e
