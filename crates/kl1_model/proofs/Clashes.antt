-- Clashes, and the paths that lead to them.
use Rattle.std.proofs.Common.{◌≡◌, ℕ, zero, suc, ◌==◌, ◌&&◌, ◌||◌, not, Bool, true, false, if◌then◌else◌, List, [], ◌∷◌, refl, sym, ap, ◌∙◌}
use Rattle.std.specs.Prelude.{Some, None, bytes_eq}
use Rattle.std.specs.Ordering.{int_eq}
use Rattle.std.proofs.lemmas.Bool.{and_from, eq-eqb, not-true, cond-true, cond-false, false≢true, and_parts, eqb-true, or_from, or_left, or_right, not_from_false, false_from_ne_true}
use Rattle.std.proofs.lemmas.Bool.Decides.{Decides-int_eq}
use Rattle.std.proofs.lemmas.Slice.Eq.{bytes_eq-Decides}
use Rattle.kl1_model.specs.Term.{Term, variable, integer, atom, structure, Terms, none, more, count_of, same_term}
use Rattle.kl1_model.specs.code.Comparing.{clash, any_clash, same, differs, unknown}
use Rattle.kl1_model.specs.laws.Clashes.{argument_at, IsOther, child, DiffersAt, ClashesAreOnPaths, SameIsEqual, DiffersIsOnPath}
use Rattle.kl1_model.proofs.TermFacts.{same_term_decides}

-- arguments of one number that differ somewhere
abbrev ArgumentsDiffer : Terms → Terms → Type 0
ArgumentsDiffer ts us = (k : ℕ) × ((path : List ℕ) × ((a : Term) × ((b : Term) × ((argument_at ts k ≡ Some a) × (argument_at us k ≡ Some b) × DiffersAt path a b))))

here : (t u : Term) (ts us : Terms) → (path : List ℕ) × DiffersAt path t u → ArgumentsDiffer (more t ts) (more u us)
here t u ts us d = (0, (d.0, (t, (u, (refl, refl, d.1)))))

later : (t u : Term) (ts us : Terms) → ArgumentsDiffer ts us → ArgumentsDiffer (more t ts) (more u us)
later t u ts us d = (suc d.0, d.1)

in_structures : (c : Bool) (f g : List ℕ) (ts us : Terms) → bytes_eq f g && count_of ts == count_of us ≡ c → (if c then any_clash ts us else true) ≡ true →
    (any_clash ts us ≡ true → ArgumentsDiffer ts us) → (path : List ℕ) × DiffersAt path (structure f ts) (structure g us)
in_structures true f g ts us e h below = let d = below h in (d.0 ∷ d.1.0, d.1.1)
in_structures false f g ts us e h below = ([], λ p. false≢true (sym e ∙ and_from (bytes_eq f g) (count_of ts == count_of us) ((bytes_eq-Decides f g).1 p.0) (eq-eqb (count_of ts) (count_of us) p.1)))

either : (p q : Bool) (t u : Term) (ts us : Terms) → (p || q) ≡ true → (p ≡ true → (path : List ℕ) × DiffersAt path t u) → (q ≡ true → ArgumentsDiffer ts us) → ArgumentsDiffer (more t ts) (more u us)
either true q t u ts us h d ds = here t u ts us (d refl)
either false q t u ts us h d ds = later t u ts us (ds h)

mutual
  path_of : (t u : Term) → clash t u ≡ true → (path : List ℕ) × DiffersAt path t u
  path_of (variable v) u h = absurd (false≢true h)
  path_of (integer i) (variable w) h = absurd (false≢true h)
  path_of (integer i) (integer j) h = ([], λ e. false≢true (sym (not-true (int_eq i j) h) ∙ (Decides-int_eq i j).1 e))
  path_of (integer i) (atom b) h = ([], tt)
  path_of (integer i) (structure g us) h = ([], tt)
  path_of (atom a) (variable w) h = absurd (false≢true h)
  path_of (atom a) (integer j) h = ([], tt)
  path_of (atom a) (atom b) h = ([], λ e. false≢true (sym (not-true (bytes_eq a b) h) ∙ (bytes_eq-Decides a b).1 e))
  path_of (atom a) (structure g us) h = ([], tt)
  path_of (structure f ts) (variable w) h = absurd (false≢true h)
  path_of (structure f ts) (integer j) h = ([], tt)
  path_of (structure f ts) (atom b) h = ([], tt)
  path_of (structure f ts) (structure g us) h = in_structures (bytes_eq f g && count_of ts == count_of us) f g ts us refl h (path_in ts us)

  path_in : (ts us : Terms) → any_clash ts us ≡ true → ArgumentsDiffer ts us
  path_in none us h = absurd (false≢true h)
  path_in (more t ts) none h = absurd (false≢true h)
  path_in (more t ts) (more u us) h = either (clash t u) (any_clash ts us) t u ts us h (path_of t u) (path_in ts us)

none≢some : {A : Type 0} {x : A} → None ≡ Some x → ⊥
none≢some e = cc

some-is : {A : Type 0} {x y : A} → Some x ≡ Some y → x ≡ y
some-is e = cc

any_at : (ts us : Terms) (k : ℕ) (a b : Term) → argument_at ts k ≡ Some a → argument_at us k ≡ Some b → clash a b ≡ true → any_clash ts us ≡ true
any_at none us k a b p q c = absurd (none≢some p)
any_at (more t ts) none k a b p q c = absurd (none≢some q)
any_at (more t ts) (more u us) zero a b p q c =
    or_left (clash t u) (any_clash ts us) (ap (λ x. clash x u) (some-is p) ∙ ap (clash a) (some-is q) ∙ c)
any_at (more t ts) (more u us) (suc k) a b p q c = or_right (clash t u) (any_clash ts us) (any_at ts us k a b p q c)

clash_here : (t u : Term) → IsOther t u → clash t u ≡ true
clash_here (variable v) u o = absurd o
clash_here (integer i) (variable w) o = absurd o
clash_here (integer i) (integer j) o = not_from_false (int_eq i j) (false_from_ne_true (int_eq i j) (λ e. o ((Decides-int_eq i j).0 e)))
clash_here (integer i) (atom b) o = refl
clash_here (integer i) (structure g us) o = refl
clash_here (atom a) (variable w) o = absurd o
clash_here (atom a) (integer j) o = refl
clash_here (atom a) (atom b) o = not_from_false (bytes_eq a b) (false_from_ne_true (bytes_eq a b) (λ e. o ((bytes_eq-Decides a b).0 e)))
clash_here (atom a) (structure g us) o = refl
clash_here (structure f ts) (variable w) o = absurd o
clash_here (structure f ts) (integer j) o = refl
clash_here (structure f ts) (atom b) o = refl
clash_here (structure f ts) (structure g us) o =
    cond-false (bytes_eq f g && count_of ts == count_of us) (any_clash ts us) true
    (false_from_ne_true (bytes_eq f g && count_of ts == count_of us) (λ e. let p = and_parts (bytes_eq f g) (count_of ts == count_of us) e in o ((bytes_eq-Decides f g).0 p.0, eqb-true (count_of ts) (count_of us) p.1)))

both_true : (c b : Bool) → b ≡ true → (if c then b else true) ≡ true
both_true true b h = h
both_true false b h = refl

clash_below : (t u : Term) (k : ℕ) (a b : Term) → child t k ≡ Some a → child u k ≡ Some b → clash a b ≡ true → clash t u ≡ true
clash_below (variable v) u k a b p q c = absurd (none≢some p)
clash_below (integer i) u k a b p q c = absurd (none≢some p)
clash_below (atom x) u k a b p q c = absurd (none≢some p)
clash_below (structure f ts) (variable w) k a b p q c = absurd (none≢some q)
clash_below (structure f ts) (integer i) k a b p q c = absurd (none≢some q)
clash_below (structure f ts) (atom x) k a b p q c = absurd (none≢some q)
clash_below (structure f ts) (structure g us) k a b p q c = both_true (bytes_eq f g && count_of ts == count_of us) (any_clash ts us) (any_at ts us k a b p q c)

clash_at : (path : List ℕ) (t u : Term) → DiffersAt path t u → clash t u ≡ true
clash_at [] t u d = clash_here t u d
clash_at (k ∷ path) t u d = clash_below t u k d.0 d.1.0 d.1.1.0 d.1.1.1 (clash_at path d.0 d.1.0 d.1.1.2)

pub clashes_on_paths : ClashesAreOnPaths
clashes_on_paths t u = (path_of t u, λ d. clash_at d.0 t u d.1)

-- a term does not clash with itself
mutual
  pub no_clash : (t : Term) → clash t t ≡ false
  no_clash (variable v) = refl
  no_clash (integer i) = ap not ((Decides-int_eq i i).1 refl)
  no_clash (atom a) = ap not ((bytes_eq-Decides a a).1 refl)
  no_clash (structure f ts) =
      cond-true (bytes_eq f f && count_of ts == count_of ts) (any_clash ts ts) true
      (and_from (bytes_eq f f) (count_of ts == count_of ts) ((bytes_eq-Decides f f).1 refl) (eq-eqb (count_of ts) (count_of ts) refl))
      ∙ no_clashes ts

  pub no_clashes : (ts : Terms) → any_clash ts ts ≡ false
  no_clashes none = refl
  no_clashes (more t ts) = or_from (clash t t) (any_clash ts ts) (no_clash t) (no_clashes ts)

-- the answer for what was found, and back
pub same_or : (p q : Bool) → (if p then same else if q then differs else unknown) ≡ same → p ≡ true
same_or true q h = refl
same_or false true h = absurd (cc)
same_or false false h = absurd (cc)

pub differs_or : (p q : Bool) → (if p then same else if q then differs else unknown) ≡ differs → q ≡ true
differs_or true q h = absurd (cc)
differs_or false true h = refl
differs_or false false h = absurd (cc)

differs_from : (p q : Bool) → p ≡ false → q ≡ true → (if p then same else if q then differs else unknown) ≡ differs
differs_from true q hp hq = absurd (cc)
differs_from false true hp hq = refl
differs_from false false hp hq = absurd (cc)

pub same_is_equal : SameIsEqual
same_is_equal t u = (
  λ h. (same_term_decides t u).0 (same_or (same_term t u) (clash t u) h),
  λ e. cond-true (same_term t u) same (if clash t u then differs else unknown) ((same_term_decides t u).1 e),
)

-- terms that clash are not the same
pub clash_differs : (t u : Term) → clash t u ≡ true → same_term t u ≡ false
clash_differs t u h =
    false_from_ne_true (same_term t u) (λ s. false≢true (sym (no_clash t) ∙ ap (clash t) ((same_term_decides t u).0 s) ∙ h))

pub differs_on_path : DiffersIsOnPath
differs_on_path t u = (
  λ h. path_of t u (differs_or (same_term t u) (clash t u) h),
  λ d. let h = clash_at d.0 t u d.1 in differs_from (same_term t u) (clash t u) (clash_differs t u h) h,
)
