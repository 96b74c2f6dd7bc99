-- Sums come off again.
use Rattle.std.proofs.Common.{◌≡◌, ℕ, zero, suc, ◌==◌, not, Bool, true, false, if◌then◌else◌, List, [], ◌∷◌, ◌++◌, length, take, drop, refl, sym, ap, ◌∙◌, arith, append_assoc}
use Rattle.std.specs.Prelude.{Option, Some, None, is_some, bytes_eq, nat_le}
use Rattle.std.specs.List.{list_all}
use Rattle.std.proofs.Math.Seq.{take-append_seam, drop-append_seam}
use Rattle.std.proofs.lemmas.Bool.{and_parts, and_from}
use Rattle.std.proofs.lemmas.List.{length-append}
use Rattle.std.proofs.lemmas.Slice.Eq.{bytes_eq-Decides}
use Rattle.kl1_model_server.specs.laws.TextLaws.{is_unbroken}
use Rattle.kl1_sums.specs.Sums.{sum_of, summed_line, summed_lines, sum_after, plain_line, emptied, plain_from, have_sums, plain_lines, digits_before, last_digits}
use Rattle.kl1_sums.specs.laws.SumLaws.{SumsComeOff, FrontsAreFronts, LinesStay}
use Rattle.kl1_sums.proofs.Digits.{length_sum, sum_unbroken}

-- ---- one line

-- what is after the sum and its space
pub behind_sum : (prev line : List ℕ) → drop 17 (summed_line prev line) ≡ line
behind_sum prev line =
    let s = sum_of prev line in
    let front = s ++ 32 ∷ [] in
    let size : 17 ≡ length front = omega (arith, length_sum prev line, length-append s (32 ∷ [])) in
    ap (λ (n : ℕ). drop n (s ++ 32 ∷ line)) size ∙ ap (drop (length front)) (sym (append_assoc s (32 ∷ []) line)) ∙ drop-append_seam front line

-- a line with its sum
pub line_comes_off : (prev line : List ℕ) → plain_line prev (summed_line prev line) ≡ Some line
line_comes_off prev line =
    let is = behind_sum prev line in
    let same : bytes_eq (summed_line prev line) (summed_line prev (drop 17 (summed_line prev line))) ≡ true =
    (bytes_eq-Decides (summed_line prev line) (summed_line prev (drop 17 (summed_line prev line)))).1 (ap (summed_line prev) (sym is)) in
    ap (λ (b : Bool). if◌then◌else◌ {A = Option (List ℕ)} b (Some (drop 17 (summed_line prev line))) None) same ∙ ap (λ (x : List ℕ). let o : Option (List ℕ) = Some x in o) is

-- the 16 bytes before a line with its sum are the sum
pub digits_are : (prev line : List ℕ) → digits_before (summed_line prev line) ≡ sum_of prev line
digits_are prev line =
    let s = sum_of prev line in
    let size = length_sum prev line in
    let long : nat_le 16 (length (summed_line prev line)) ≡ true = grind (arith, size, length-append s (32 ∷ line)) in
    let front : take 16 (s ++ 32 ∷ line) ≡ s = ap (λ (n : ℕ). take n (s ++ 32 ∷ line)) (sym size) ∙ take-append_seam s (32 ∷ line) in
    ap (λ (b : Bool). if◌then◌else◌ {A = List ℕ} b (take 16 (summed_line prev line)) []) long ∙ front

-- ---- lines

pub lines_come_off : (prev : List ℕ) (ls : List (List ℕ)) → plain_from prev (summed_lines prev ls) ≡ ls
lines_come_off prev [] = refl
lines_come_off prev (l ∷ ls) =
    let rest = summed_lines (sum_of prev l) ls in
    ap (λ (o : Option (List ℕ)). elim o [ Some plain ↦ plain ∷ plain_from (sum_of prev plain) rest | None ↦ emptied (summed_line prev l ∷ rest) ]) (line_comes_off prev l)
    ∙ ap (λ (x : List (List ℕ)). l ∷ x) (lines_come_off (sum_of prev l) ls)

pub sums_come_off : SumsComeOff
sums_come_off [] = refl
sums_come_off (l ∷ ls) =
    let all = summed_lines [] (l ∷ ls) in
    ap (λ (o : Option (List ℕ)). if◌then◌else◌ {A = List (List ℕ)} (is_some o) (plain_from [] all) all) (line_comes_off [] l) ∙ lines_come_off [] (l ∷ ls)

emptied_front : (ls : List (List ℕ)) (n : ℕ) → emptied (take n ls) ≡ take n (emptied ls)
emptied_front ls zero = refl
emptied_front [] (suc n) = refl
emptied_front (l ∷ ls) (suc n) = ap (λ (x : List (List ℕ)). [] ∷ x) (emptied_front ls n)

front_by : (o : Option (List ℕ)) (prev l : List ℕ) (ls : List (List ℕ)) (n : ℕ) → ((p : List ℕ) → plain_from p (take n ls) ≡ take n (plain_from p ls)) →
    elim o [ Some plain ↦ plain ∷ plain_from (sum_of prev plain) (take n ls) | None ↦ emptied (l ∷ take n ls) ] ≡ take {A = List ℕ} (suc n) (elim o [ Some plain ↦ plain ∷ plain_from (sum_of prev plain) ls | None ↦ emptied (l ∷ ls) ])
front_by (Some plain) prev l ls n more = ap (λ (x : List (List ℕ)). plain ∷ x) (more (sum_of prev plain))
front_by None prev l ls n more = ap (λ (x : List (List ℕ)). [] ∷ x) (emptied_front ls n)

pub plain_front : (prev : List ℕ) (ls : List (List ℕ)) (n : ℕ) → plain_from prev (take n ls) ≡ take n (plain_from prev ls)
plain_front prev ls zero = refl
plain_front prev [] (suc n) = refl
plain_front prev (l ∷ ls) (suc n) = front_by (plain_line prev l) prev l ls n (λ p. plain_front p ls n)

chosen_front : (b : Bool) (ls : List (List ℕ)) (n : ℕ) → (if b then plain_from [] (take n ls) else take n ls) ≡ take n (if b then plain_from [] ls else ls)
chosen_front true ls n = plain_front [] ls n
chosen_front false ls n = refl

pub fronts_are_fronts : FrontsAreFronts
fronts_are_fronts ls zero = refl
fronts_are_fronts [] (suc n) = refl
fronts_are_fronts (l ∷ ls) (suc n) = chosen_front (is_some (plain_line [] l)) (l ∷ ls) (suc n)

emptied_count : (ls : List (List ℕ)) → length (emptied ls) ≡ length ls
emptied_count [] = refl
emptied_count (l ∷ ls) = ap suc (emptied_count ls)

count_by : (o : Option (List ℕ)) (prev l : List ℕ) (ls : List (List ℕ)) → ((p : List ℕ) → length (plain_from p ls) ≡ length ls) →
    length {A = List ℕ} (elim o [ Some plain ↦ plain ∷ plain_from (sum_of prev plain) ls | None ↦ emptied (l ∷ ls) ]) ≡ suc (length ls)
count_by (Some plain) prev l ls more = ap suc (more (sum_of prev plain))
count_by None prev l ls more = ap suc (emptied_count ls)

plain_count : (prev : List ℕ) (ls : List (List ℕ)) → length (plain_from prev ls) ≡ length ls
plain_count prev [] = refl
plain_count prev (l ∷ ls) = count_by (plain_line prev l) prev l ls (λ p. plain_count p ls)

chosen_count : (b : Bool) (ls : List (List ℕ)) → length (if b then plain_from [] ls else ls) ≡ length ls
chosen_count true ls = plain_count [] ls
chosen_count false ls = refl

pub lines_stay : LinesStay
lines_stay ls = chosen_count (have_sums ls) ls

-- ---- lines after others

pub summed_more : (prev : List ℕ) (ls ms : List (List ℕ)) → summed_lines prev (ls ++ ms) ≡ summed_lines prev ls ++ summed_lines (sum_after prev ls) ms
summed_more prev [] ms = refl
summed_more prev (l ∷ ls) ms = ap (λ (x : List (List ℕ)). summed_line prev l ∷ x) (summed_more (sum_of prev l) ls ms)

pub last_is : (prev : List ℕ) (ls : List (List ℕ)) → last_digits prev (summed_lines prev ls) ≡ sum_after prev ls
last_is prev [] = refl
last_is prev (l ∷ ls) = ap (λ (x : List ℕ). last_digits x (summed_lines (sum_of prev l) ls)) (digits_are prev l) ∙ last_is (sum_of prev l) ls

-- ---- no line feed comes in

more_unbroken : (xs ys : List ℕ) → is_unbroken xs ≡ true → is_unbroken ys ≡ true → is_unbroken (xs ++ ys) ≡ true
more_unbroken [] ys h k = k
more_unbroken (x ∷ xs) ys h k =
    let both = and_parts (not (x == 10)) (is_unbroken xs) h in
    and_from (not (x == 10)) (is_unbroken (xs ++ ys)) both.0 (more_unbroken xs ys both.1 k)

pub summed_unbroken : (prev : List ℕ) (ls : List (List ℕ)) → list_all is_unbroken ls ≡ true → list_all is_unbroken (summed_lines prev ls) ≡ true
summed_unbroken prev [] h = refl
summed_unbroken prev (l ∷ ls) h =
    let both = and_parts (is_unbroken l) (list_all is_unbroken ls) h in
    and_from (is_unbroken (summed_line prev l)) (list_all is_unbroken (summed_lines (sum_of prev l) ls))
    (more_unbroken (sum_of prev l) (32 ∷ l) (sum_unbroken prev l) (and_from true (is_unbroken l) refl both.0))
    (summed_unbroken (sum_of prev l) ls both.1)

behind_unbroken : (n : ℕ) (line : List ℕ) → is_unbroken line ≡ true → is_unbroken (drop n line) ≡ true
behind_unbroken zero line h = h
behind_unbroken (suc n) [] h = refl
behind_unbroken (suc n) (b ∷ bs) h = behind_unbroken n bs (and_parts (not (b == 10)) (is_unbroken bs) h).1

emptied_unbroken : (ls : List (List ℕ)) → list_all is_unbroken (emptied ls) ≡ true
emptied_unbroken [] = refl
emptied_unbroken (l ∷ ls) = and_from true (list_all is_unbroken (emptied ls)) refl (emptied_unbroken ls)

unbroken_by : (b : Bool) (prev l behind : List ℕ) (ls : List (List ℕ)) → is_unbroken behind ≡ true → ((p : List ℕ) → list_all is_unbroken (plain_from p ls) ≡ true) →
    list_all is_unbroken (elim (if◌then◌else◌ {A = Option (List ℕ)} b (Some behind) None) [ Some plain ↦ plain ∷ plain_from (sum_of prev plain) ls | None ↦ emptied (l ∷ ls) ]) ≡ true
unbroken_by true prev l behind ls h more = and_from (is_unbroken behind) (list_all is_unbroken (plain_from (sum_of prev behind) ls)) h (more (sum_of prev behind))
unbroken_by false prev l behind ls h more = emptied_unbroken (l ∷ ls)

pub plain_unbroken : (prev : List ℕ) (ls : List (List ℕ)) → list_all is_unbroken ls ≡ true → list_all is_unbroken (plain_from prev ls) ≡ true
plain_unbroken prev [] h = refl
plain_unbroken prev (l ∷ ls) h =
    let both = and_parts (is_unbroken l) (list_all is_unbroken ls) h in
    unbroken_by (bytes_eq l (summed_line prev (drop 17 l))) prev l (drop 17 l) ls (behind_unbroken 17 l both.0) (λ p. plain_unbroken p ls both.1)

chosen_unbroken : (b : Bool) (ls : List (List ℕ)) → list_all is_unbroken ls ≡ true → list_all is_unbroken (if b then plain_from [] ls else ls) ≡ true
chosen_unbroken true ls h = plain_unbroken [] ls h
chosen_unbroken false ls h = h

pub lines_unbroken : (ls : List (List ℕ)) → list_all is_unbroken ls ≡ true → list_all is_unbroken (plain_lines ls) ≡ true
lines_unbroken ls h = chosen_unbroken (have_sums ls) ls h

-- ---- the first lines

pub summed_front : (prev : List ℕ) (ls : List (List ℕ)) (n : ℕ) → summed_lines prev (take n ls) ≡ take n (summed_lines prev ls)
summed_front prev ls zero = refl
summed_front prev [] (suc n) = refl
summed_front prev (l ∷ ls) (suc n) = ap (λ (x : List (List ℕ)). summed_line prev l ∷ x) (summed_front (sum_of prev l) ls n)

pub summed_count : (prev : List ℕ) (ls : List (List ℕ)) → length (summed_lines prev ls) ≡ length ls
summed_count prev [] = refl
summed_count prev (l ∷ ls) = ap suc (summed_count (sum_of prev l) ls)
