-- How many lines a text has.
use Rattle.std.specs.Prelude.{◌≡◌, ℕ, zero, suc, ◌+◌, ◌≤◌, ◌==◌, Bool, true, false, if◌then◌else◌, List, [], ◌∷◌, ◌++◌, take, drop}
use Rattle.std.proofs.Common.{refl, ap, ◌∙◌, arith}
use Rattle.kl1_reasons_items.specs.declared.place.Place.{Place}
use Rattle.kl1_reasons_items.specs.Places.{place_behind}
use Rattle.kl1_reasons.specs.Reasons.{line_feeds}

-- how many line feeds there are among bytes
abbrev pub feeds : List ℕ → ℕ
feeds [] = 0
feeds (b ∷ bs) = if b == 10 then suc (feeds bs) else feeds bs

tail_case : (x : Bool) (n : ℕ) → n ≤ (if x then suc n else n)
tail_case true n = omega arith
tail_case false n = omega arith

-- what is after a byte has no more line feeds
pub feeds_tail : (b : ℕ) (bs : List ℕ) → feeds bs ≤ feeds (b ∷ bs)
feeds_tail b bs = tail_case (b == 10) (feeds bs)

-- nor has what is after several
pub feeds_drop : (n : ℕ) (bs : List ℕ) → feeds (drop n bs) ≤ feeds bs
feeds_drop zero bs = omega arith
feeds_drop (suc n) [] = omega arith
feeds_drop (suc n) (b ∷ bs) = omega (arith, feeds_drop n bs, feeds_tail b bs)

place_case : (x : Bool) (p : Place) (b : ℕ) (bs : List ℕ) → ((q : Place) → (place_behind q bs).line ≡ q.line + feeds bs) → (place_behind (if x then record { line = suc p.line; column = 1 } else record { line = p.line; column = suc p.column }) bs).line ≡ p.line + (if x then suc (feeds bs) else feeds bs)
place_case true p b bs same = same (record { line = suc p.line; column = 1 }) ∙ omega arith
place_case false p b bs same = same (record { line = p.line; column = suc p.column })

-- the line of what follows bytes is further on by their line feeds
pub line_behind : (p : Place) (bs : List ℕ) → (place_behind p bs).line ≡ p.line + feeds bs
line_behind p [] = omega arith
line_behind p (b ∷ bs) = place_case (b == 10) p b bs (λ q. line_behind q bs)

append_case : (x : Bool) (m n : ℕ) → (if x then suc (m + n) else m + n) ≡ (if x then suc m else m) + n
append_case true m n = omega arith
append_case false m n = omega arith

pub feeds_append : (bs cs : List ℕ) → feeds (bs ++ cs) ≡ feeds bs + feeds cs
feeds_append [] cs = omega arith
feeds_append (b ∷ bs) cs = ap (λ n. if b == 10 then suc n else n) (feeds_append bs cs) ∙ append_case (b == 10) (feeds bs) (feeds cs)

filter_case : (x y : Bool) (b : ℕ) (bs : List ℕ) (n : ℕ) → feeds bs ≡ n → (b == 10) ≡ x → feeds (if x then b ∷ bs else bs) ≡ (if x then suc n else n)
filter_case true y b bs n same is = ap (λ z. if z then suc (feeds bs) else feeds bs) is ∙ ap suc same
filter_case false y b bs n same is = same

-- the line feeds among bytes are as many
pub feeds_filtered : (bs : List ℕ) → feeds (line_feeds bs) ≡ feeds bs
feeds_filtered [] = refl
feeds_filtered (b ∷ bs) = filter_case (b == 10) true b (line_feeds bs) (feeds bs) (feeds_filtered bs) refl

split_case : (x : Bool) (m n k : ℕ) → m + n ≡ k → (if x then suc m else m) + n ≡ (if x then suc k else k)
split_case true m n k same = omega arith
split_case false m n k same = same

-- the front and what is left have the line feeds of the whole
pub feeds_split : (k : ℕ) (bs : List ℕ) → feeds (take k bs) + feeds (drop k bs) ≡ feeds bs
feeds_split zero bs = omega arith
feeds_split (suc k) [] = omega arith
feeds_split (suc k) (b ∷ bs) = split_case (b == 10) (feeds (take k bs)) (feeds (drop k bs)) (feeds bs) (feeds_split k bs)
