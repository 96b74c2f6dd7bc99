-- If variables are numbered by first occurrence, those of a test are the head's if none has a greater number than those.
use Rattle.std.proofs.Common.{◌≡◌, ℕ, suc, ◌≤◌, ◌<◌, ◌==◌, max, nat_le, ◌&&◌, ◌||◌, Bool, true, false, if◌then◌else◌, List, [], ◌∷◌, ◌++◌, Option, Some, None, option_map, option_and_then, refl, ap, sym, ◌∙◌, arith}
use Rattle.std.specs.List.{list_all}
use Rattle.std.proofs.lemmas.Bool.{true≢false, and_parts, and_from, eqb-true, eqb-false, leb-true, le-leb}
use Rattle.std.proofs.Math.Bool.{and-true}
use Rattle.std.proofs.lemmas.Bool.Decides.{nat_tests}
use Rattle.std.proofs.lemmas.List.{append_assoc, append-nil}
use Rattle.std.proofs.lemmas.List.Folds.{list_all-append}
use Rattle.kl1_model.specs.Term.{Term, variable, integer, atom, structure, Terms, none, more, list_of}
use Rattle.kl1_model.specs.Meaning.{variables_of, variables_in, highest, highest_in, numbered_after, is_writable}
use Rattle.kl1_model.specs.Goal.{is_test}
use Rattle.kl1_model.specs.Module.{each_of, is_among, has_only, fit_test}
use Rattle.kl1_read.specs.Statements.{fit_test_upto}

-- the greatest of numbers and this one
abbrev most_of : ℕ → List ℕ → ℕ
most_of k [] = k
most_of k (v ∷ vs) = most_of (max k v) vs

grows : (vs : List ℕ) (k : ℕ) → k ≤ most_of k vs
grows [] k = omega arith
grows (v ∷ vs) k = omega (arith, grows vs (max k v))

found_case : (b : Bool) (v : ℕ) (vs : List ℕ) (k n : ℕ) → (n == v) ≡ b → v ≤ suc k → k < n → (max k v < n → is_among n vs ≡ true) → b || is_among n vs ≡ true
found_case true v vs k n e next above rest = refl
found_case false v vs k n e next above rest =
    let other : n ≡ v → ⊥ = eqb-false n v e in
    rest (omega (arith, other))

-- each number after this one, up to the greatest, stands there
found : (vs : List ℕ) (k n : ℕ) → numbered_after k vs ≡ true → k < n → n ≤ most_of k vs → is_among n vs ≡ true
found [] k n h above within = absurd (omega arith)
found (v ∷ vs) k n h above within =
    let here = and_parts (nat_le 1 v && nat_le v (suc k)) (numbered_after (max k v) vs) h in
    found_case (n == v) v vs k n refl (leb-true v (suc k) (and_parts (nat_le 1 v) (nat_le v (suc k)) here.0).1) above (λ over. found vs (max k v) n here.1 over within)

below_case : (b : Bool) (v : ℕ) (vs : List ℕ) (k n : ℕ) → (n == v) ≡ b → b || is_among n vs ≡ true → (is_among n vs ≡ true → n ≤ most_of (max k v) vs) → n ≤ most_of (max k v) vs
below_case true v vs k n e h rest = omega (arith, eqb-true n v e, grows vs (max k v))
below_case false v vs k n e h rest = rest h

-- a number that stands there is no greater
below : (vs : List ℕ) (k n : ℕ) → is_among n vs ≡ true → n ≤ most_of k vs
below [] k n h = absurd (true≢false (sym h))
below (v ∷ vs) k n h = below_case (n == v) v vs k n refl h (below vs (max k v) n)

among_by : (vs : List ℕ) (n : ℕ) (a b : Bool) → is_among n vs ≡ a → nat_le n (most_of 0 vs) ≡ b → numbered_after 0 vs ≡ true → 1 ≤ n → a ≡ b
among_by vs n true b e f h some = sym (sym f ∙ le-leb n (most_of 0 vs) (below vs 0 n e))
among_by vs n false true e f h some = sym e ∙ found vs 0 n h some (leb-true n (most_of 0 vs) f)
among_by vs n false false e f h some = refl

-- of numbers by first occurrence, those from 1 up to the greatest stand there
among_is : (vs : List ℕ) (n : ℕ) → numbered_after 0 vs ≡ true → 1 ≤ n → is_among n vs ≡ nat_le n (most_of 0 vs)
among_is vs n h some = among_by vs n (is_among n vs) (nat_le n (most_of 0 vs)) refl refl h some

all_among : (vs ns : List ℕ) → numbered_after 0 vs ≡ true → list_all (nat_le 1) ns ≡ true → list_all (λ n. is_among n vs) ns ≡ list_all (λ n. nat_le n (most_of 0 vs)) ns
all_among vs [] h some = refl
all_among vs (n ∷ ns) h some =
    let here = and_parts (nat_le 1 n) (list_all (nat_le 1) ns) some in
    ap (λ b. b && list_all (λ n. is_among n vs) ns) (among_is vs n h (leb-true 1 n here.0))
    ∙ ap (λ b. nat_le n (most_of 0 vs) && b) (all_among vs ns h here.1)

no_more : (k : ℕ) → k ≡ max k 0
no_more k = omega arith

max_zero : (a : ℕ) → max 0 a ≡ a
max_zero a = omega arith

max_thrice : (a b c : ℕ) → max (max a b) c ≡ max a (max b c)
max_thrice a b c = omega arith

-- the greatest of a term's variables is its highest
mutual
  most_one : (t : Term) (k : ℕ) (ns : List ℕ) → most_of k (variables_of t ++ ns) ≡ most_of (max k (highest t)) ns
  most_one (variable n) k ns = refl
  most_one (integer i) k ns = ap (λ j. most_of j ns) (no_more k)
  most_one (atom a) k ns = ap (λ j. most_of j ns) (no_more k)
  most_one (structure f ts) k ns = most_each ts k ns

  most_each : (ts : Terms) (k : ℕ) (ns : List ℕ) → most_of k (variables_in ts ++ ns) ≡ most_of (max k (highest_in ts)) ns
  most_each none k ns = ap (λ j. most_of j ns) (no_more k)
  most_each (more t ts) k ns =
      ap (most_of k) (append_assoc (variables_of t) (variables_in ts) ns)
      ∙ most_one t k (variables_in ts ++ ns)
      ∙ most_each ts (max k (highest t)) ns
      ∙ ap (λ j. most_of j ns) (max_thrice k (highest t) (highest_in ts))

most_is : (ts : Terms) → most_of 0 (variables_in ts) ≡ highest_in ts
most_is ts = ap (most_of 0) (sym (append-nil (variables_in ts))) ∙ most_each ts 0 [] ∙ max_zero (highest_in ts)

both_upto : (a b m : ℕ) → nat_le a m && nat_le b m ≡ nat_le (max a b) m
both_upto a b m = grind (arith, nat_tests)

-- each of a term's variables is at most `m` if its highest is
mutual
  upto_one : (t : Term) (m : ℕ) → list_all (λ n. nat_le n m) (variables_of t) ≡ nat_le (highest t) m
  upto_one (variable n) m = and-true (nat_le n m)
  upto_one (integer i) m = sym (le-leb 0 m (omega arith))
  upto_one (atom a) m = sym (le-leb 0 m (omega arith))
  upto_one (structure f ts) m = upto_each ts m

  upto_each : (ts : Terms) (m : ℕ) → list_all (λ n. nat_le n m) (variables_in ts) ≡ nat_le (highest_in ts) m
  upto_each none m = sym (le-leb 0 m (omega arith))
  upto_each (more t ts) m =
      list_all-append (λ n. nat_le n m) (variables_of t) (variables_in ts)
      ∙ ap (λ b. b && list_all (λ n. nat_le n m) (variables_in ts)) (upto_one t m)
      ∙ ap (λ b. nat_le (highest t) m && b) (upto_each ts m)
      ∙ both_upto (highest t) (highest_in ts) m

-- a term has variables of a head alone if its highest is no greater than the head's
only_heads : (ps : Terms) (t : Term) → numbered_after 0 (variables_in ps) ≡ true → list_all (nat_le 1) (variables_of t) ≡ true → has_only (variables_in ps) t ≡ nat_le (highest t) (highest_in ps)
only_heads ps t h some = all_among (variables_in ps) (variables_of t) h some ∙ upto_one t (most_of 0 (variables_in ps)) ∙ ap (nat_le (highest t)) (most_is ps)

-- tests after a head are fit by their highest numbers
pub tests_fit : (ps ts : Terms) → numbered_after 0 (variables_in ps) ≡ true → list_all (nat_le 1) (variables_in ts) ≡ true → each_of (fit_test (variables_in ps)) (list_of ts) ≡ each_of (fit_test_upto (highest_in ps)) (list_of ts)
tests_fit ps none h some = refl
tests_fit ps (more t ts) h some =
    let parts = and_parts (list_all (nat_le 1) (variables_of t)) (list_all (nat_le 1) (variables_in ts)) (sym (list_all-append (nat_le 1) (variables_of t) (variables_in ts)) ∙ some) in
    ap (λ b. option_and_then (λ y. option_map (λ ys. y ∷ ys) (each_of (fit_test (variables_in ps)) (list_of ts))) (if◌then◌else◌ {A = Option Term} (is_writable t && is_test t && b) (Some t) None)) (only_heads ps t h parts.0)
    ∙ ap (λ (x : Option (List Term)). option_and_then (λ y. option_map (λ ys. y ∷ ys) x) (fit_test_upto (highest_in ps) t)) (tests_fit ps ts h parts.1)

-- the first of numbers by first occurrence are such, and each is 1 at least
pub numbered_front : (vs ws : List ℕ) (k : ℕ) → numbered_after k (vs ++ ws) ≡ true → numbered_after k vs ≡ true
numbered_front [] ws k h = refl
numbered_front (v ∷ vs) ws k h =
    let here = and_parts (nat_le 1 v && nat_le v (suc k)) (numbered_after (max k v) (vs ++ ws)) h in
    and_from (nat_le 1 v && nat_le v (suc k)) (numbered_after (max k v) vs) here.0 (numbered_front vs ws (max k v) here.1)

pub numbered_some : (vs : List ℕ) (k : ℕ) → numbered_after k vs ≡ true → list_all (nat_le 1) vs ≡ true
numbered_some [] k h = refl
numbered_some (v ∷ vs) k h =
    let here = and_parts (nat_le 1 v && nat_le v (suc k)) (numbered_after (max k v) vs) h in
    and_from (nat_le 1 v) (list_all (nat_le 1) vs) (and_parts (nat_le 1 v) (nat_le v (suc k)) here.0).0 (numbered_some vs (max k v) here.1)
