-- Which heads may stand there.
use Rattle.std.proofs.Common.{◌≡◌, ℕ, suc, ◌+◌, ◌||◌, get_or, drop, ◌<◌, ◌≤◌, max, nat_lt, nat_le, ◌&&◌, not, if◌then◌else◌, Bool, true, false, IsTrue, List, [], ◌∷◌, length, codes, bytes_eq, refl, ap, sym, ◌∙◌, arith}
use Rattle.std.proofs.lemmas.List.{at_drop_more}
use Rattle.std.proofs.lemmas.Bool.{both_ways, not-true, and_parts, and_left, and_right, lt-leb, le-leb, and_from}
use Rattle.std.proofs.lemmas.Slice.Eq.{bytes_eq-Decides}
use Rattle.std.proofs.lemmas.Bool.Decides.{nat_tests}
use Rattle.kl1_model.specs.declared.limits.TheConstants.{MOST_ARGUMENTS, MOST_DEPTH}
use Rattle.kl1_model.specs.Text.{is_text, text_of}
use Rattle.kl1_model.specs.Term.{Term, structure, Terms, none, more, terms_of, count_of}
use Rattle.kl1_model.specs.Meaning.{Depth, depths, depth, deepest, flat, cell_depth, is_narrow, are_narrow, is_writable}
use Rattle.kl1_model.specs.Goal.{is_head, is_reserved}
use Rattle.kl1_model.specs.declared.built_in.BuiltIn.{BuiltIn}
use Rattle.kl1_read.specs.Heads.{is_named, may_name_atom, may_name_structure}
use Rattle.kl1_read.specs.Statements.{is_fit_name}

count_is : (ts : List Term) → count_of (terms_of ts) ≡ length ts
count_is [] = refl
count_is (t ∷ ts) = ap suc (count_is ts)

-- a structure that isn't a list cell is 1 deeper than its deepest argument
flat_by : (w : Bool) (d e : Depth) → w ≡ false → if◌then◌else◌ {A = Depth} w d e ≡ e
flat_by w d e h = ap (λ b. if◌then◌else◌ {A = Depth} b d e) h

top_max : (a b : ℕ) → suc (max a b) ≡ suc (max a (max b 0))
top_max a b = omega arith

depth_is : (f : List ℕ) (ts : Terms) → bytes_eq f (codes ".") ≡ false → depth (structure f ts) ≡ suc (deepest ts)
depth_is f none e = refl
depth_is f (more a none) e = refl
depth_is f (more a (more b none)) e = ap (λ (d : Depth). d.whole) (flat_by (bytes_eq f (codes ".")) (cell_depth (depths a) (depths b)) (flat (suc (max (depths a).whole (depths b).whole))) e) ∙ top_max (depths a).whole (depths b).whole
depth_is f (more a (more b (more c ts))) e = refl

-- a name that isn't reserved isn't that of a list cell
dot_by : (p : List ℕ) (b : Bool) → bytes_eq p (codes ".") ≡ b → is_reserved p ≡ false → bytes_eq p (codes ".") ≡ false
dot_by p true e h =
    let same : p ≡ codes "." = (bytes_eq-Decides p (codes ".")).0 e in
    absurd (both_ways (is_reserved p) h (ap is_reserved same))
dot_by p false e h = e

name_free : (p : List ℕ) (n : ℕ) → may_name_structure p n ≡ true → is_reserved p ≡ false
name_free p n h = not-true (is_reserved p) (and_parts (not (is_reserved p)) _ h).0

named : (p : List ℕ) (ts : List Term) → is_head (structure p (terms_of ts)) ≡ may_name_structure p (length ts)
named p ts = ap (may_name_structure p) (count_is ts)

-- a name that may not be that of such a head
pub name_unfit : (p : List ℕ) (ts : List Term) → 0 < length ts → may_name_structure p (length ts) ≡ false → false ≡ is_fit_name p ts
name_unfit p [] h e = absurd (omega arith)
name_unfit p (t ∷ ts) h e = sym (and_right (is_writable (structure p (terms_of (t ∷ ts)))) _ (named p (t ∷ ts) ∙ e))

-- more than eight arguments
pub many_unfit : (p : List ℕ) (ts : List Term) → MOST_ARGUMENTS < length ts → false ≡ is_fit_name p ts
many_unfit p [] h = absurd (omega arith)
many_unfit p (t ∷ ts) h =
    let xs : Terms = terms_of (t ∷ ts) in
    let many : nat_le (count_of xs) MOST_ARGUMENTS ≡ false = lt-leb (count_of xs) MOST_ARGUMENTS (omega (arith, count_is (t ∷ ts))) in
    sym (and_left (is_writable (structure p xs)) _ (and_left (is_narrow (structure p xs)) _ (and_left _ (are_narrow xs) (and_right (is_text p && nat_le 1 (count_of xs)) (nat_le (count_of xs) MOST_ARGUMENTS) many))))

all_true : (a b c : Bool) → a ≡ true → c ≡ true → b ≡ (a && b) && c
all_true a b c h k = grind arith

all_true_first : (a c : Bool) → a ≡ true → c ≡ (a && true) && c
all_true_first a c h = grind arith

below_most : (d : ℕ) → nat_lt d MOST_DEPTH ≡ nat_le (suc d) MOST_DEPTH
below_most d = grind (arith, nat_tests)

-- arguments of which the deepest is deep enough, or not
pub depth_fits : (p : List ℕ) (ts : List Term) → 0 < length ts → length ts ≤ MOST_ARGUMENTS → may_name_structure p (length ts) ≡ true → IsTrue (is_text p) → IsTrue (are_narrow (terms_of ts)) → nat_lt (deepest (terms_of ts)) MOST_DEPTH ≡ is_fit_name p ts
depth_fits p [] h k may text narrow = absurd (omega arith)
depth_fits p (t ∷ ts) h k may text narrow =
    let xs : Terms = terms_of (t ∷ ts) in
    let some : nat_le 1 (count_of xs) ≡ true = le-leb 1 (count_of xs) (omega (arith, count_is (t ∷ ts))) in
    let few : nat_le (count_of xs) MOST_ARGUMENTS ≡ true = le-leb (count_of xs) MOST_ARGUMENTS (omega (arith, count_is (t ∷ ts))) in
    let dot : bytes_eq p (codes ".") ≡ false = dot_by p (bytes_eq p (codes ".")) refl (name_free p (length (t ∷ ts)) may) in
    let whole : is_narrow (structure p xs) ≡ true = and_from _ _ (and_from _ _ (and_from (is_text p) _ text some) few) narrow in
    below_most (deepest xs)
    ∙ ap (λ d. nat_le d MOST_DEPTH) (sym (depth_is p xs dot))
    ∙ all_true (is_narrow (structure p xs)) (nat_le (depth (structure p xs)) MOST_DEPTH) (is_head (structure p xs)) whole (named p (t ∷ ts) ∙ may)

-- a name alone
pub atom_fits : (p : List ℕ) (ts : List Term) → length ts ≡ 0 → IsTrue (is_text p) → may_name_atom p ≡ is_fit_name p ts
atom_fits p [] h text = all_true_first (is_text p) (may_name_atom p) text
atom_fits p (t ∷ ts) h text = absurd (omega arith)

-- the next of the names is another one
pub named_next : (p : List ℕ) (names : List BuiltIn) (i : ℕ) (b : BuiltIn) (name : List ℕ) (all : Bool) → i < length names → name ≡ text_of (get_or names i b) → bytes_eq p name ≡ false → is_named p (drop i names) ≡ all → is_named p (drop (i + 1) names) ≡ all
named_next p names i b name all within n q h =
    ap (λ x. x || is_named p (drop (i + 1) names)) (sym (ap (bytes_eq p) (sym n) ∙ q))
    ∙ sym (at_drop_more (is_named p) names i b within)
    ∙ h
