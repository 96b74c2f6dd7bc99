-- The variables of a term that is numbered anew.
use Rattle.std.proofs.Common.{◌≡◌, ℕ, suc, ◌≤◌, ◌==◌, max, Bool, true, false, List, [], ◌∷◌, ◌++◌, map, length, None, if◌then◌else◌, refl, sym, ap, ap₂, ◌∙◌, ◌⊎◌, inl, inr, arith}
use Rattle.std.specs.Prelude.{nat_le, ◌&&◌}
use Rattle.std.proofs.lemmas.Bool.{cases_eq, le-leb, true≢false, false≢true}
use Rattle.std.proofs.lemmas.List.{map-append, length-append}
use Rattle.kl1_model.specs.Term.{Term, variable, integer, atom, structure, Terms, none, more, each_substituted}
use Rattle.kl1_model.specs.Module.{is_among}
use Rattle.kl1_model.specs.Meaning.{variables_of, variables_in, numbered_after, is_numbered, highest, highest_in}
use Rattle.kl1_model.specs.Telling.{new_among, place_among}
use Rattle.kl1_term.specs.Telling.{anew, renumbered}
use Rattle.kl1_term.proofs.Renumbering.{place_same, place_other, among_other, place_kept, place_new, among_new, goes_on}

-- those of a term with other numbers are these numbers
mutual
  pub variables_renumbered : (f : ℕ → ℕ) (t : Term) → variables_of (renumbered f t) ≡ map f (variables_of t)
  variables_renumbered f (variable n) = refl
  variables_renumbered f (integer i) = refl
  variables_renumbered f (atom a) = refl
  variables_renumbered f (structure a ts) = each_renumbered f ts

  each_renumbered : (f : ℕ → ℕ) (ts : Terms) → variables_in (each_substituted (λ n. variable (f n)) ts) ≡ map f (variables_in ts)
  each_renumbered f none = refl
  each_renumbered f (more t ts) =
      ap₂ (λ (x y : List ℕ). x ++ y) (variables_renumbered f t) (each_renumbered f ts) ∙ sym (map-append f (variables_of t) (variables_in ts))

-- they are the places of those that it had
pub variables_anew : (seen : List ℕ) (t : Term) → variables_of (anew seen t) ≡ map (place_among seen) (variables_of t)
variables_anew seen t = variables_renumbered (place_among seen) t

-- a number that was seen has a place, which is none beyond
pub place_from : (seen : List ℕ) (n : ℕ) → 1 ≤ place_among seen n
place_from [] n = omega arith
place_from (m ∷ ms) n = by (m == n)
  where
    by : (b : Bool) → 1 ≤ (if◌then◌else◌ {A = ℕ} b 1 (suc (place_among ms n)))
    by true = omega arith
    by false = omega arith

place_to : (seen : List ℕ) (n : ℕ) → is_among n seen ≡ true → place_among seen n ≤ length seen
place_to [] n e = absurd (true≢false (sym e))
place_to (m ∷ ms) n e = by (cases_eq m n) (λ f. place_to ms n f)
  where
    by : (m ≡ n) ⊎ (m ≡ n → ⊥) → (is_among n ms ≡ true → place_among ms n ≤ length ms) → place_among (m ∷ ms) n ≤ suc (length ms)
    by (inl s) within = let p = place_same m n ms s in omega (arith, p)
    by (inr d) within =
        let p = place_other m n ms d in
        let q = within (sym (among_other m n ms d) ∙ e) in
        omega (arith, p, q)

-- one more of numbers that are in order
in_order : (seen p : ℕ) (vs : List ℕ) → 1 ≤ p → p ≤ suc seen → numbered_after (max seen p) vs ≡ true → numbered_after seen (p ∷ vs) ≡ true
in_order seen p vs low high h = all (nat_le 1 p) (nat_le p (suc seen)) (numbered_after (max seen p) vs) (le-leb 1 p low) (le-leb p (suc seen) high) h
  where
    all : (a b c : Bool) → a ≡ true → b ≡ true → c ≡ true → (a && b && c) ≡ true
    all true true true x y z = refl
    all false b c x y z = absurd (false≢true x)
    all true false c x y z = absurd (false≢true y)
    all true true false x y z = absurd (false≢true z)

-- a number's place at the end, if it was seen before, and if it is new
old_place : (seen ns : List ℕ) (n : ℕ) → is_among n seen ≡ true → place_among (new_among None seen ns) n ≡ place_among seen n
old_place seen ns n e =
    let on = goes_on seen ns in
    ap (λ xs. place_among xs n) on.all_are ∙ place_kept seen on.rest n e

new_place : (seen ns : List ℕ) (n : ℕ) → is_among n seen ≡ false → place_among (new_among None (seen ++ n ∷ []) ns) n ≡ suc (length seen)
new_place seen ns n e = old_place (seen ++ n ∷ []) ns n (among_new seen n) ∙ place_new seen n e

one_longer : (seen : List ℕ) (n : ℕ) → length (seen ++ n ∷ []) ≡ suc (length seen)
one_longer seen n = let e = length-append seen (n ∷ []) in omega (arith, e)

-- places at the end are in order
order_on : (seen ns : List ℕ) → numbered_after (length seen) (map (place_among (new_among None seen ns)) ns) ≡ true
order_on seen [] = refl
order_on seen (n ∷ ns) = by (is_among n seen) refl (order_on seen ns) (order_on (seen ++ n ∷ []) ns)
  where
    by : (b : Bool) → is_among n seen ≡ b →
        numbered_after (length seen) (map (place_among (new_among None seen ns)) ns) ≡ true →
        numbered_after (length (seen ++ n ∷ [])) (map (place_among (new_among None (seen ++ n ∷ []) ns)) ns) ≡ true →
        numbered_after (length seen) (map (place_among (if b then new_among None seen ns else new_among None (seen ++ n ∷ []) ns)) (n ∷ ns)) ≡ true
    by true e old new =
        let all = new_among None seen ns in
        let p = old_place seen ns n e in
        let low = place_from all n in
        let high = place_to seen n e in
        let same : max (length seen) (place_among all n) ≡ length seen = omega (arith, p, high) in
        in_order (length seen) (place_among all n) (map (place_among all) ns) low (omega (arith, p, high)) (ap (λ k. numbered_after k (map (place_among all) ns)) same ∙ old)
    by false e old new =
        let now = seen ++ n ∷ [] in
        let all = new_among None now ns in
        let p = new_place seen ns n e in
        let longer = one_longer seen n in
        let same : max (length seen) (place_among all n) ≡ length now = omega (arith, p, longer) in
        in_order (length seen) (place_among all n) (map (place_among all) ns) (omega (arith, p)) (omega (arith, p)) (ap (λ k. numbered_after k (map (place_among all) ns)) same ∙ new)

-- the greatest of numbers
abbrev pub top : List ℕ → ℕ
top [] = 0
top (v ∷ vs) = max v (top vs)

top_append : (xs ys : List ℕ) → top (xs ++ ys) ≡ max (top xs) (top ys)
top_append [] ys = omega arith
top_append (x ∷ xs) ys = let h = top_append xs ys in omega (arith, h)

mutual
  pub highest_top : (t : Term) → highest t ≡ top (variables_of t)
  highest_top (variable n) = omega arith
  highest_top (integer i) = refl
  highest_top (atom a) = refl
  highest_top (structure f ts) = each_top ts

  each_top : (ts : Terms) → highest_in ts ≡ top (variables_in ts)
  each_top none = refl
  each_top (more t ts) = ap₂ max (highest_top t) (each_top ts) ∙ sym (top_append (variables_of t) (variables_in ts))

-- the greatest place at the end is how many were seen
top_on : (seen ns : List ℕ) → max (length seen) (top (map (place_among (new_among None seen ns)) ns)) ≡ length (new_among None seen ns)
top_on seen [] = omega arith
top_on seen (n ∷ ns) = by (is_among n seen) refl (top_on seen ns) (top_on (seen ++ n ∷ []) ns)
  where
    by : (b : Bool) → is_among n seen ≡ b →
        max (length seen) (top (map (place_among (new_among None seen ns)) ns)) ≡ length (new_among None seen ns) →
        max (length (seen ++ n ∷ [])) (top (map (place_among (new_among None (seen ++ n ∷ []) ns)) ns)) ≡ length (new_among None (seen ++ n ∷ []) ns) →
        max (length seen) (top (map (place_among (if b then new_among None seen ns else new_among None (seen ++ n ∷ []) ns)) (n ∷ ns))) ≡ length (if b then new_among None seen ns else new_among None (seen ++ n ∷ []) ns)
    by true e old new =
        let all = new_among None seen ns in
        let p = old_place seen ns n e in
        let high = place_to seen n e in
        omega (arith, p, high, old)
    by false e old new =
        let now = seen ++ n ∷ [] in
        let all = new_among None now ns in
        let p = new_place seen ns n e in
        let longer = one_longer seen n in
        omega (arith, p, longer, new)

-- so a term that is numbered anew is numbered from 1 by first occurrence, up to how many variables it has
pub numbered_anew : (seen : List ℕ) (t : Term) → seen ≡ new_among None [] (variables_of t) → is_numbered (anew seen t) ≡ true
numbered_anew seen t is =
    ap (numbered_after 0) (variables_anew seen t ∙ ap (λ (xs : List ℕ). map (place_among xs) (variables_of t)) is) ∙ order_on [] (variables_of t)

pub highest_anew : (seen : List ℕ) (t : Term) → seen ≡ new_among None [] (variables_of t) → highest (anew seen t) ≡ length seen
highest_anew seen t is =
    let h = top_on [] (variables_of t) in
    let all = new_among None [] (variables_of t) in
    let same : highest (anew seen t) ≡ top (map (place_among all) (variables_of t)) = highest_top (anew seen t) ∙ ap top (variables_anew seen t ∙ ap (λ (xs : List ℕ). map (place_among xs) (variables_of t)) is) in
    let long : length seen ≡ length all = ap (λ (xs : List ℕ). length xs) is in
    same ∙ omega (arith, h, long)
