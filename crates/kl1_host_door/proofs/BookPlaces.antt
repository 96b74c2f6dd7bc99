-- Sessions that pass a test, and where they stand.
use Rattle.std.proofs.Common.{◌≡◌, ◌≤◌, ◌+◌, ℕ, zero, suc, Bool, true, false, if◌then◌else◌, List, [], ◌∷◌, set, get_or, bytes_eq, Option, Some, None, refl, ap, ◌∙◌, arith, le_of_eq}
use Rattle.kl1_host_door.specs.declared.session.WebSession.{WebSession}
use Rattle.kl1_host_door.specs.declared.book.SessionTest.TheVariants as test
use Rattle.kl1_host_door.specs.Books.{passes, seen_at, touched, place_from, place_of, first_of}

some_same : (n p : ℕ) → Some n ≡ Some p → n ≡ p
some_same n p e = cc

add_suc : (n i : ℕ) → n + suc i ≡ suc n + i
add_suc n i = omega arith

zero_add : (i : ℕ) → i ≡ 0 + i
zero_add i = omega arith

-- where none has a place, none passes
pub none_at : (test : WebSession → Bool) (n : ℕ) (xs : List WebSession) → place_from test n xs ≡ None → first_of test xs ≡ None
none_at test n [] e = refl
none_at test n (x ∷ xs) e =
    elim (test x) as (λ v. if◌then◌else◌ {A = Option ℕ} v (Some n) (place_from test (suc n) xs) ≡ None → if◌then◌else◌ {A = Option WebSession} v (Some x) (first_of test xs) ≡ None) [
      | true ↦ λ none. cc
      | false ↦ λ none. none_at test (suc n) xs none
    ] e

-- ---- the last request of a session

-- a place that is counted from a number on isn't before it
place_after : (test : WebSession → Bool) (n p : ℕ) (xs : List WebSession) → place_from test n xs ≡ Some p → n ≤ p
place_after test n p [] e = cc
place_after test n p (x ∷ xs) e =
    elim (test x) as (λ v. if◌then◌else◌ {A = Option ℕ} v (Some n) (place_from test (suc n) xs) ≡ Some p → n ≤ p) [
      | true ↦ λ same. le_of_eq (some_same n p same)
      | false ↦ λ same. let later = place_after test (suc n) p xs same in omega arith
    ] e

-- the session at the place of the first with a name, put back with another second
put_back : (id : List ℕ) (second n i : ℕ) (xs : List WebSession) (d y : WebSession) → place_from (λ s. bytes_eq s.id id) n xs ≡ Some (n + i) → y ≡ seen_at second (get_or xs i d) → set xs i y ≡ touched id second xs
put_back id second n i [] d y e is = cc
put_back id second n zero (x ∷ xs) d y e is =
    elim (bytes_eq x.id id) as (λ v. if◌then◌else◌ {A = Option ℕ} v (Some n) (place_from (λ s. bytes_eq s.id id) (suc n) xs) ≡ Some (n + 0) → y ∷ xs ≡ if◌then◌else◌ {A = List WebSession} v (seen_at second x ∷ xs) (x ∷ touched id second xs)) [
      | true ↦ λ found. ap (λ s. s ∷ xs) is
      | false ↦ λ found. let later = place_after (λ s. bytes_eq s.id id) (suc n) (n + 0) xs found in absurd (omega (arith, later))
    ] e
put_back id second n (suc i) (x ∷ xs) d y e is =
    elim (bytes_eq x.id id) as (λ v. if◌then◌else◌ {A = Option ℕ} v (Some n) (place_from (λ s. bytes_eq s.id id) (suc n) xs) ≡ Some (n + suc i) → x ∷ set xs i y ≡ if◌then◌else◌ {A = List WebSession} v (seen_at second x ∷ xs) (x ∷ touched id second xs)) [
      | true ↦ λ found. let same : n ≡ n + suc i = some_same n (n + suc i) found in absurd (omega (arith, same))
      | false ↦ λ found. ap (λ ss. x ∷ ss) (put_back id second (suc n) i xs d y (found ∙ ap Some (add_suc n i)) is)
    ] e

pub touched_at : (id : List ℕ) (second i : ℕ) (xs : List WebSession) (d y : WebSession) → place_of (passes (test.IsCalled id)) xs ≡ Some i → y ≡ seen_at second (get_or xs i d) → set xs i y ≡ touched id second xs
touched_at id second i xs d y e is = put_back id second 0 i xs d y (e ∙ ap Some (zero_add i)) is

-- where none has the name, all stay
untouched : (id : List ℕ) (second n : ℕ) (xs : List WebSession) → place_from (λ s. bytes_eq s.id id) n xs ≡ None → xs ≡ touched id second xs
untouched id second n [] e = refl
untouched id second n (x ∷ xs) e =
    elim (bytes_eq x.id id) as (λ v. if◌then◌else◌ {A = Option ℕ} v (Some n) (place_from (λ s. bytes_eq s.id id) (suc n) xs) ≡ None → x ∷ xs ≡ if◌then◌else◌ {A = List WebSession} v (seen_at second x ∷ xs) (x ∷ touched id second xs)) [
      | true ↦ λ none. cc
      | false ↦ λ none. ap (λ ss. x ∷ ss) (untouched id second (suc n) xs none)
    ] e

pub none_touched : (id : List ℕ) (second : ℕ) (xs : List WebSession) → place_of (passes (test.IsCalled id)) xs ≡ None → xs ≡ touched id second xs
none_touched id second xs e = untouched id second 0 xs e
