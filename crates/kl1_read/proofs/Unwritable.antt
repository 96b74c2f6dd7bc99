-- A term that holds one that no text can write is none itself.
use Rattle.std.proofs.Common.{◌≡◌, ℕ, suc, max, ◌≤◌, nat_le, ◌&&◌, Bool, true, false, List, [], ◌∷◌, ◌++◌, codes, bytes_eq, if◌then◌else◌, refl, ap, arith}
use Rattle.std.specs.List.{list_all}
use Rattle.std.proofs.lemmas.Bool.{and_parts, and_from, leb-true, le-leb, both_ways}
use Rattle.kl1_model.specs.declared.limits.TheConstants.{MOST_DEPTH, MOST_ARGUMENTS}
use Rattle.kl1_model.specs.Term.{Term, variable, integer, atom, structure, Terms, none, more, terms_of, count_of}
use Rattle.kl1_model.specs.Text.{is_text}
use Rattle.kl1_model.specs.Meaning.{pair, cells, Depth, depths, depth, deepest, flat, pair_depth, cell_depth, is_narrow, are_narrow, is_writable}

-- a truth that would make a falsehood true is false
not_so : (a b : Bool) → (b ≡ true → a ≡ true) → a ≡ false → b ≡ false
not_so a true h e = absurd (both_ways a e (h refl))
not_so a false h e = refl

-- a term is at most 1 deeper than it is as what follows elements
pair_rest : (f : List ℕ) (a b : Depth) → (pair_depth f a b).whole ≤ suc (pair_depth f a b).rest
pair_rest f a b =
    elim (bytes_eq f (codes ".")) as (λ w. (if◌then◌else◌ {A = Depth} w (cell_depth a b) (flat (suc (max a.whole b.whole)))).whole ≤ suc (if◌then◌else◌ {A = Depth} w (cell_depth a b) (flat (suc (max a.whole b.whole)))).rest) [ true ↦ omega arith | false ↦ omega arith ]

whole_rest : (t : Term) → (depths t).whole ≤ suc (depths t).rest
whole_rest (variable n) = omega arith
whole_rest (integer i) = omega arith
whole_rest (atom a) = omega arith
whole_rest (structure f none) = omega arith
whole_rest (structure f (more a none)) = omega arith
whole_rest (structure f (more a (more b none))) = pair_rest f (depths a) (depths b)
whole_rest (structure f (more a (more b (more c ts)))) = omega arith

pair_deep : (f : List ℕ) (a b : Depth) → a.whole ≤ suc a.rest → b.whole ≤ suc b.rest → max a.whole b.whole ≤ (pair_depth f a b).whole
pair_deep f a b h k =
    elim (bytes_eq f (codes ".")) as (λ w. max a.whole b.whole ≤ (if◌then◌else◌ {A = Depth} w (cell_depth a b) (flat (suc (max a.whole b.whole)))).whole) [ true ↦ omega arith | false ↦ omega arith ]

-- a structure is as deep as its arguments
structure_deep : (f : List ℕ) (ts : Terms) → deepest ts ≤ depth (structure f ts)
structure_deep f none = omega arith
structure_deep f (more a none) = omega arith
structure_deep f (more a (more b none)) = omega (arith, pair_deep f (depths a) (depths b) (whole_rest a) (whole_rest b))
structure_deep f (more a (more b (more c ts))) = omega arith

-- an argument is no deeper than the deepest
deepest_at : (before : List Term) (e : Term) (s : List Term) → depth e ≤ deepest (terms_of (before ++ e ∷ s))
deepest_at [] e s = omega arith
deepest_at (b ∷ before) e s = omega (arith, deepest_at before e s)

narrow_at : (before : List Term) (e : Term) (s : List Term) → are_narrow (terms_of (before ++ e ∷ s)) ≡ true → is_narrow e ≡ true
narrow_at [] e s h = (and_parts (is_narrow e) _ h).0
narrow_at (b ∷ before) e s h = narrow_at before e s (and_parts (is_narrow b) _ h).1

structure_writable : (f : List ℕ) (before : List Term) (e : Term) (s : List Term) → is_writable (structure f (terms_of (before ++ e ∷ s))) ≡ true → is_writable e ≡ true
structure_writable f before e s h =
    let ts : Terms = terms_of (before ++ e ∷ s) in
    let both = and_parts (is_narrow (structure f ts)) (nat_le (depth (structure f ts)) MOST_DEPTH) h in
    let narrow = and_parts (is_text f && nat_le 1 (count_of ts) && nat_le (count_of ts) MOST_ARGUMENTS) (are_narrow ts) both.0 in
    let deep = leb-true (depth (structure f ts)) MOST_DEPTH both.1 in
    and_from (is_narrow e) (nat_le (depth e) MOST_DEPTH) (narrow_at before e s narrow.1)
    (le-leb (depth e) MOST_DEPTH (omega (arith, deep, structure_deep f ts, deepest_at before e s)))

-- a structure with an argument that no text can write
pub structure_unwritable : (f : List ℕ) (before : List Term) (e : Term) (s : List Term) → is_writable e ≡ false → is_writable (structure f (terms_of (before ++ e ∷ s))) ≡ false
structure_unwritable f before e s h = not_so (is_writable e) _ (structure_writable f before e s) h

pub first_unwritable : (f : List ℕ) (a b : Term) → is_writable a ≡ false → is_writable (pair f a b) ≡ false
first_unwritable f a b h = structure_unwritable f [] a (b ∷ []) h

pub second_unwritable : (f : List ℕ) (a b : Term) → is_writable b ≡ false → is_writable (pair f a b) ≡ false
second_unwritable f a b h = structure_unwritable f (a ∷ []) b [] h

-- a list with a tail that no text can write
pub tail_unwritable : (es : List Term) (t : Term) → is_writable t ≡ false → is_writable (cells (terms_of es) t) ≡ false
tail_unwritable [] t h = h
tail_unwritable (e ∷ es) t h = second_unwritable (codes ".") e (cells (terms_of es) t) (tail_unwritable es t h)

-- a list with an element that no text can write
pub element_unwritable : (before : List Term) (e : Term) (s : List Term) (t : Term) → is_writable e ≡ false → is_writable (cells (terms_of (before ++ e ∷ s)) t) ≡ false
element_unwritable [] e s t h = first_unwritable (codes ".") e (cells (terms_of s) t) h
element_unwritable (b ∷ before) e s t h =
    second_unwritable (codes ".") b (cells (terms_of (before ++ e ∷ s)) t) (element_unwritable before e s t h)

-- terms one of which no text can write
pub list_unwritable : (before : List Term) (e : Term) (s : List Term) → is_writable e ≡ false → list_all is_writable (before ++ e ∷ s) ≡ false
list_unwritable [] e s h = ap (λ b. b && list_all is_writable s) h
list_unwritable (b ∷ before) e s h = not_so (list_all is_writable (before ++ e ∷ s)) _ (λ k. (and_parts (is_writable b) _ k).1) (list_unwritable before e s h)
