-- Lines by their places, and pages of them.
use Rattle.std.proofs.Common.{◌≡◌, ℕ, zero, suc, ◌<◌, ◌≤◌, ◌+◌, ◌-◌, ◌^◌, min, List, [], ◌∷◌, ◌++◌, map, length, take, drop, refl, sym, ap, ◌∙◌, arith, get_or, inl, inr}
use Rattle.std.specs.Prelude.{slice_get, Some, None, option_map}
use Rattle.std.proofs.lemmas.List.{length-map, length-drop, length-append}
use Rattle.std.proofs.lemmas.Bool.{cases_lt}
use Rattle.kl1_model_server.specs.Journal.{Entry, Journal}
use Rattle.kl1_model_server.specs.JournalText.{name_line, entry_line, journal_lines, page_of}

get_map : {X Y : Type 0} (f : X → Y) (xs : List X) (k : ℕ) (x : X) → slice_get xs k ≡ Some x → slice_get (map f xs) k ≡ Some (f x)
get_map f [] k x h = cc
get_map f (y ∷ ys) zero x h = ap (option_map f) h
get_map f (y ∷ ys) (suc k) x h = get_map f ys k x h

get_left : {X : Type 0} (xs ys : List X) (k : ℕ) (x : X) → slice_get xs k ≡ Some x → slice_get (xs ++ ys) k ≡ Some x
get_left [] ys k x h = cc
get_left (z ∷ zs) ys zero x h = h
get_left (z ∷ zs) ys (suc k) x h = get_left zs ys k x h

get_right : {X : Type 0} (xs ys : List X) (m k : ℕ) → m ≡ length xs + k → slice_get (xs ++ ys) m ≡ slice_get ys k
get_right [] ys m k is = ap (slice_get ys) (omega (arith, is))
get_right (x ∷ xs) ys zero k is = absurd (omega (arith, is))
get_right (x ∷ xs) ys (suc m) k is = get_right xs ys m k (omega (arith, is))

get_second : {X : Type 0} (x : X) (xs : List X) (m k : ℕ) → m ≡ suc k → slice_get (x ∷ xs) m ≡ slice_get xs k
get_second x xs zero k is = absurd (omega (arith, is))
get_second x xs (suc m) k is = ap (slice_get xs) (omega (arith, is))

-- what indexing gave is at that place
pub get_is : {X : Type 0} (xs : List X) (k : ℕ) (x : X) → k < length xs → x ≡ get_or xs k x → slice_get xs k ≡ Some x
get_is [] k x less is = absurd (omega (arith, less))
get_is (y ∷ ys) zero x less is = ap (λ z. Some z) (sym is)
get_is (y ∷ ys) (suc k) x less is = get_is ys k x (omega (arith, less)) is

-- the line of a name stands after the first line
pub name_place : (j : Journal) (m k : ℕ) (t : List ℕ) → m ≡ suc k → slice_get j.names k ≡ Some t → slice_get (journal_lines j) m ≡ Some (name_line t)
name_place j m k t is h = get_second _ (map name_line j.names ++ map entry_line j.entries) m k is ∙ get_left (map name_line j.names) (map entry_line j.entries) k (name_line t) (get_map name_line j.names k t h)

-- the line of an entry stands after those of the names
pub entry_place : (j : Journal) (m k n : ℕ) (e : Entry) → m ≡ suc k → k ≡ length j.names + n → slice_get j.entries n ≡ Some e → slice_get (journal_lines j) m ≡ Some (entry_line e)
entry_place j m k n e is at h =
    get_second _ (map name_line j.names ++ map entry_line j.entries) m k is
    ∙ get_right (map name_line j.names) (map entry_line j.entries) k n (omega (arith, at, length-map j.names name_line))
    ∙ get_map entry_line j.entries n e h

pub get_entry : {X Y : Type 0} (f : X → Y) (xs : List X) (k : ℕ) (x : X) → slice_get xs k ≡ Some x → slice_get (map f xs) k ≡ Some (f x)
get_entry f xs k x h = get_map f xs k x h

-- how many lines a journal's text has
pub lines_count : (j : Journal) → length (journal_lines j) ≡ 1 + length j.names + length j.entries
lines_count j = omega (arith, length-append (map name_line j.names) (map entry_line j.entries), length-map j.names name_line, length-map j.entries entry_line)

take_next : {X : Type 0} (ys : List X) (n : ℕ) (x : X) → slice_get ys n ≡ Some x → take (suc n) ys ≡ take n ys ++ x ∷ []
take_next [] n x h = cc
take_next (y ∷ ys) zero x h = ap (λ o. elim o [ None ↦ [] | Some z ↦ z ∷ [] ]) h
take_next (y ∷ ys) (suc n) x h = ap (λ zs. y ∷ zs) (take_next ys n x h)

get_drop : {X : Type 0} (xs : List X) (first n m : ℕ) → m ≡ first + n → slice_get xs m ≡ slice_get (drop first xs) n
get_drop xs zero n m is = ap (slice_get xs) (omega (arith, is))
get_drop [] (suc first) n m is = refl
get_drop (x ∷ xs) (suc first) n zero is = absurd (omega (arith, is))
get_drop (x ∷ xs) (suc first) n (suc m) is = get_drop xs first n m (omega (arith, is))

-- a page with the next line
pub page_next : {X : Type 0} (xs : List X) (first m : ℕ) (x : X) → first ≤ m → slice_get xs m ≡ Some x → take (m + 1 - first) (drop first xs) ≡ take (m - first) (drop first xs) ++ x ∷ []
page_next xs first m x within h =
    let more : m + 1 - first ≡ suc (m - first) = omega (arith, within) in
    let at : m ≡ first + (m - first) = omega (arith, within) in
    ap (λ n. take n (drop first xs)) more ∙ take_next (drop first xs) (m - first) x (sym (get_drop xs first (m - first) m at) ∙ h)

take_same : {X : Type 0} (ys : List X) (n m : ℕ) → min n (length ys) ≡ min m (length ys) → take n ys ≡ take m ys
take_same [] zero zero same = refl
take_same [] zero (suc m) same = refl
take_same [] (suc n) zero same = refl
take_same [] (suc n) (suc m) same = refl
take_same (y ∷ ys) zero zero same = refl
take_same (y ∷ ys) zero (suc m) same = absurd (omega (arith, same))
take_same (y ∷ ys) (suc n) zero same = absurd (omega (arith, same))
take_same (y ∷ ys) (suc n) (suc m) same = ap (λ zs. y ∷ zs) (take_same ys n m (omega (arith, same)))

page_upto : {X : Type 0} (xs : List X) (first count place end : ℕ) → end ≡ min (min (first + count) (2 ^ 64 - 1)) (length xs) → length xs < 2 ^ 64 → place ≡ end → take (place - first) (drop first xs) ≡ take count (drop first xs)
page_upto xs first count place end is few at =
    take_same (drop first xs) (place - first) count (omega (arith, is, few, at, length-drop first xs))

page_none : {X : Type 0} (xs : List X) (first count place : ℕ) → length xs ≤ first → take (place - first) (drop first xs) ≡ take count (drop first xs)
page_none xs first count place past = take_same (drop first xs) (place - first) count (omega (arith, past, length-drop first xs))

-- a page up to its end, or to the last line
pub page_whole : {X : Type 0} (xs : List X) (first count place end : ℕ) → end ≡ min (min (first + count) (2 ^ 64 - 1)) (length xs) → first < 2 ^ 64 → length xs < 2 ^ 64 → (first ≤ end → place ≤ end) → end ≤ place → take (place - first) (drop first xs) ≡ take count (drop first xs)
page_whole xs first count place end is small few high past = elim (cases_lt end first) [
  | inl less ↦ page_none xs first count place (omega (arith, is, small, less))
  | inr more ↦ page_upto xs first count place end is few (let low = high more in omega (arith, low, past))
]

take_all : {X : Type 0} (xs : List X) (count : ℕ) → length xs ≤ count → take count xs ≡ xs
take_all [] zero few = refl
take_all [] (suc count) few = refl
take_all (x ∷ xs) zero few = absurd (omega (arith, few))
take_all (x ∷ xs) (suc count) few = ap (λ ys. x ∷ ys) (take_all xs count (omega (arith, few)))

-- a page of all lines
pub page_all : (j : Journal) (count : ℕ) → length (journal_lines j) ≤ count → page_of j 1 count ≡ journal_lines j
page_all j count few = take_all (journal_lines j) count few
