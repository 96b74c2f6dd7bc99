-- Whether variables tell their numbers, and which.
use Rattle.std.proofs.Common.{◌≡◌, ℕ, suc, ◌+◌, ◌-◌, ◌<◌, ◌≤◌, ◌&&◌, Bool, true, false, if◌then◌else◌, List, [], ◌∷◌, ◌++◌, length, drop, codes, bytes_eq, Option, Some, None, refl, sym, ap, ◌∙◌, arith}
use Rattle.std.specs.Prelude.{decimal, nat_le, nat_lt}
use Rattle.std.specs.HashMap.{HashMap}
use Rattle.std.proofs.lemmas.Bool.{leb-false, leb-true, le-leb, le-ltb, lt-ltb}
use Rattle.kl1_model.specs.declared.limits.TheConstants.{FIRST_UNTOLD}
use Rattle.kl1_model.specs.Token.{number_of}
use Rattle.kl1_model.specs.Numbering.{place_of, variable_number, seen_after}
use Rattle.kl1_model.specs.Telling.{is_told, told_number, others_after}
use Rattle.kl1_read.specs.Spellings.{Finds, IsNumbered}
use Rattle.kl1_read.specs.Tellings.{Tells, IsTold}

-- the number that digits write, if it is below 2 ^ 62
abbrev pub low_number : List ℕ → Option ℕ
low_number ds = if nat_le (number_of ds) (FIRST_UNTOLD - 1) then Some (number_of ds) else None

no_number : (n : ℕ) (b : Bool) → (if b then Some n else None) ≡ None → b ≡ false
no_number n true e = absurd (cc)
no_number n false e = refl

record IsValue (n k : ℕ) (b : Bool) : Type 0 where
  pub value : k ≡ n
  pub low : b ≡ true

a_number : (n k : ℕ) (b : Bool) → (if b then Some n else None) ≡ Some k → IsValue n k b
a_number n k true e = let same : k ≡ n = cc in record { value = same; low = refl }
a_number n k false e = absurd (cc)

first_no : (a b c : Bool) → a ≡ false → ((a && b) && c) ≡ false
first_no true b c e = absurd (cc)
first_no false b c e = refl

second_no : (a b c : Bool) → b ≡ false → ((a && b) && c) ≡ false
second_no true true c e = absurd (cc)
second_no true false c e = refl
second_no false b c e = refl

third_no : (a b c : Bool) → c ≡ false → ((a && b) && c) ≡ false
third_no true true c e = e
third_no true false c e = refl
third_no false b c e = refl

all_yes : (a b c : Bool) → a ≡ true → b ≡ true → c ≡ true → ((a && b) && c) ≡ true
all_yes true true true p q r = refl
all_yes true true false p q r = r
all_yes true false c p q r = q
all_yes false b c p q r = p

-- the number is too great
pub too_great : (v ds : List ℕ) (o : Option ℕ) → ds ≡ drop 1 v → o ≡ low_number ds → o ≡ None → is_told v ≡ false
too_great v ds o d is none =
    let n = number_of (drop 1 v) in
    let high = no_number n (nat_le n (FIRST_UNTOLD - 1)) (sym (is ∙ ap low_number d) ∙ none) in
    let above : FIRST_UNTOLD - 1 < n = leb-false n (FIRST_UNTOLD - 1) high in
    second_no (nat_le 1 n) (nat_lt n FIRST_UNTOLD) (bytes_eq v (codes "_" ++ decimal n)) (le-ltb n FIRST_UNTOLD (omega (arith, above)))

value_of : (v ds : List ℕ) (o : Option ℕ) (k : ℕ) → ds ≡ drop 1 v → o ≡ low_number ds → o ≡ Some k → IsValue (number_of (drop 1 v)) k (nat_le (number_of (drop 1 v)) (FIRST_UNTOLD - 1))
value_of v ds o k d is some = a_number (number_of (drop 1 v)) k (nat_le (number_of (drop 1 v)) (FIRST_UNTOLD - 1)) (sym (is ∙ ap low_number d) ∙ some)

-- it is 0
pub is_zero : (v ds : List ℕ) (o : Option ℕ) (k : ℕ) → ds ≡ drop 1 v → o ≡ low_number ds → o ≡ Some k → k ≡ 0 → is_told v ≡ false
is_zero v ds o k d is some zero =
    let n = number_of (drop 1 v) in
    let x = value_of v ds o k d is some in
    first_no (nat_le 1 n) (nat_lt n FIRST_UNTOLD) (bytes_eq v (codes "_" ++ decimal n)) (ap (nat_le 1) (sym x.value ∙ zero))

-- the variable isn't written by it
pub other_spelling : (v ds : List ℕ) (o : Option ℕ) (k : ℕ) → ds ≡ drop 1 v → o ≡ low_number ds → o ≡ Some k → bytes_eq v (codes "_" ++ decimal k) ≡ false → is_told v ≡ false
other_spelling v ds o k d is some written =
    let n = number_of (drop 1 v) in
    let x = value_of v ds o k d is some in
    third_no (nat_le 1 n) (nat_lt n FIRST_UNTOLD) (bytes_eq v (codes "_" ++ decimal n)) (ap (λ j. bytes_eq v (codes "_" ++ decimal j)) (sym x.value) ∙ written)

-- it is told
pub tells : (v ds : List ℕ) (o : Option ℕ) (k : ℕ) → ds ≡ drop 1 v → o ≡ low_number ds → o ≡ Some k → (k ≡ 0 → ⊥) → bytes_eq v (codes "_" ++ decimal k) ≡ true → Tells v k
tells v ds o k d is some more written =
    let n = number_of (drop 1 v) in
    let x = value_of v ds o k d is some in
    let value = x.value in
    let low : n ≤ FIRST_UNTOLD - 1 = leb-true n (FIRST_UNTOLD - 1) x.low in
    let positive : 1 ≤ n = omega (arith, more, value) in
    record {
      told = all_yes (nat_le 1 n) (nat_lt n FIRST_UNTOLD) (bytes_eq v (codes "_" ++ decimal n)) (le-leb 1 n positive) (lt-ltb n FIRST_UNTOLD (omega (arith, low)))
          (ap (λ j. bytes_eq v (codes "_" ++ decimal j)) (sym value) ∙ written);
      value = value;
    }

-- ---- numbers

place_bounds : (seen : List (List ℕ)) (v : List ℕ) → (1 ≤ place_of seen v) × (place_of seen v ≤ suc (length seen))
place_bounds [] v = (omega arith, omega arith)
place_bounds (s ∷ seen) v = by (bytes_eq s v) (place_bounds seen v)
  where
    by : (b : Bool) → (1 ≤ place_of seen v) × (place_of seen v ≤ suc (length seen)) → (1 ≤ (if b then 1 else suc (place_of seen v))) × ((if b then 1 else suc (place_of seen v)) ≤ suc (suc (length seen)))
    by true p = (omega arith, omega arith)
    by false p = (omega arith, let low = p.1 in omega (arith, low))

-- variables are counted from 1, and by those seen
pub number_bounds : (seen : List (List ℕ)) (v : List ℕ) → (1 ≤ variable_number seen v) × (variable_number seen v ≤ suc (length seen))
number_bounds seen v = by (bytes_eq v (codes "_")) (place_bounds seen v)
  where
    by : (b : Bool) → (1 ≤ place_of seen v) × (place_of seen v ≤ suc (length seen)) → (1 ≤ (if b then suc (length seen) else place_of seen v)) × ((if b then suc (length seen) else place_of seen v) ≤ suc (length seen))
    by true p = (omega arith, omega arith)
    by false p = p

-- a variable that tells its number leaves those seen
pub told_one : {S : Type 0} (numbers : HashMap (List ℕ) ℕ S) (seen : List (List ℕ)) (v : List ℕ) (n : ℕ) → Finds numbers seen → Tells v n → IsTold numbers seen seen v n
told_one numbers seen v n finds t = record {
  finds = finds;
  value = t.value ∙ sym (ap (λ b. if b then number_of (drop 1 v) else FIRST_UNTOLD + (variable_number seen v - 1)) t.told);
  seen = sym (ap (λ (b : Bool). if b then seen else seen_after seen v) t.told);
}

-- another one has its number among these
pub untold_one : {S : Type 0} (numbers : HashMap (List ℕ) ℕ S) (seen now : List (List ℕ)) (v : List ℕ) (n : ℕ) → is_told v ≡ false → IsNumbered numbers seen now v n → IsTold numbers seen now v (FIRST_UNTOLD + (n - 1))
untold_one numbers seen now v n other i = record {
  finds = i.finds;
  value = ap (λ m. FIRST_UNTOLD + (m - 1)) i.value ∙ sym (ap (λ b. if b then number_of (drop 1 v) else FIRST_UNTOLD + (variable_number seen v - 1)) other);
  seen = i.seen ∙ sym (ap (λ (b : Bool). if b then seen else seen_after seen v) other);
}
