-- What passive equality answers when variables are replaced.
use Rattle.std.proofs.Common.{◌≡◌, ℕ, ◌==◌, ◌&&◌, ◌||◌, Bool, true, false, if◌then◌else◌, List, [], ◌∷◌, ◌++◌, refl, sym, ap, ap₂, ◌∙◌}
use Rattle.std.specs.Prelude.{bytes_eq}
use Rattle.std.proofs.lemmas.Bool.{and_from, and_parts, or_parts, or_from, or_left, or_right, eqb-true, cond-true, cond-false, false≢true, eq-eqb, false_from_ne_true}
use Rattle.std.proofs.lemmas.Slice.Eq.{bytes_eq-Decides}
use Rattle.kl1_model.specs.Term.{Term, variable, integer, atom, structure, Terms, none, more, count_of, same_term, same_terms, substituted, each_substituted}
use Rattle.kl1_model.specs.code.Comparing.{clash, any_clash, same, differs, unknown, awaited, all_awaited, same_as_all, all_same, clashes_with_some, some_clash, awaited_with, awaited_by}
use Rattle.kl1_model.specs.code.Waits.{LeavesEach}
use Rattle.kl1_model.specs.laws.SameLaws.{all_substituted, SameStays, DiffersStays, UnknownWaits, UnknownStays, AllSameStays, SomeDifferStays, AllUnknownWaits, AllUnknownStays}
use Rattle.kl1_model.proofs.TermFacts.{same_term_decides}
use Rattle.kl1_model.proofs.Substitutions.{count-each_substituted}
use Rattle.kl1_model.proofs.Clashes.{no_clash, clash_differs, same_is_equal, same_or, differs_or}
use Rattle.kl1_model.proofs.SameEach.{in_both, same_from, same_each, quiet_each}

-- ---- lists of variables that are left

pub left_front : (s : ℕ → Term) (vs ws : List ℕ) → LeavesEach s (vs ++ ws) → LeavesEach s vs
left_front s [] ws a = tt
left_front s (v ∷ vs) ws a = (a.0, left_front s vs ws a.1)

pub left_back : (s : ℕ → Term) (vs ws : List ℕ) → LeavesEach s (vs ++ ws) → LeavesEach s ws
left_back s [] ws a = a
left_back s (v ∷ vs) ws a = left_back s vs ws a.1

-- ---- two variables: the same one, or both are left

variables_clash_not : (s : ℕ → Term) (v w : ℕ) (c : Bool) → v == w ≡ c → LeavesEach s (if c then [] else v ∷ w ∷ []) → clash (s v) (s w) ≡ false
variables_clash_not s v w true e a = ap (λ x. clash (s v) (s x)) (sym (eqb-true v w e)) ∙ no_clash (s v)
variables_clash_not s v w false e a = ap (λ x. clash x (s w)) a.0

variable_is : {v w : ℕ} → variable v ≡ variable w → v ≡ w
variable_is e = cc

variables_same : (s : ℕ → Term) (v w : ℕ) (c : Bool) → v == w ≡ c → LeavesEach s (if c then [] else v ∷ w ∷ []) → s v ≡ s w → v == w ≡ true
variables_same s v w true e a h = e
variables_same s v w false e a h = eq-eqb v w (variable_is (sym a.0 ∙ h ∙ a.1.0))

-- ---- what doesn't clash doesn't clash afterwards

no_else_after : (c b : Bool) → c ≡ true → b ≡ false → (if c then b else true) ≡ false
no_else_after c b e f = cond-true c b true e ∙ f

mutual
  clash_stays_off : (s : ℕ → Term) (t u : Term) → clash t u ≡ false → LeavesEach s (awaited t u) → clash (substituted s t) (substituted s u) ≡ false
  clash_stays_off s (variable v) (variable w) c a = variables_clash_not s v w (v == w) refl a
  clash_stays_off s (variable v) (integer j) c a = ap (λ x. clash x (integer j)) a.0
  clash_stays_off s (variable v) (atom b) c a = ap (λ x. clash x (atom b)) a.0
  clash_stays_off s (variable v) (structure g us) c a = ap (λ x. clash x (structure g (each_substituted s us))) a.0
  clash_stays_off s (integer i) (variable w) c a = ap (clash (integer i)) a.0
  clash_stays_off s (integer i) (integer j) c a = c
  clash_stays_off s (integer i) (atom b) c a = c
  clash_stays_off s (integer i) (structure g us) c a = c
  clash_stays_off s (atom x) (variable w) c a = ap (clash (atom x)) a.0
  clash_stays_off s (atom x) (integer j) c a = c
  clash_stays_off s (atom x) (atom b) c a = c
  clash_stays_off s (atom x) (structure g us) c a = c
  clash_stays_off s (structure f ts) (variable w) c a = ap (clash (structure f (each_substituted s ts))) a.0
  clash_stays_off s (structure f ts) (integer j) c a = c
  clash_stays_off s (structure f ts) (atom b) c a = c
  clash_stays_off s (structure f ts) (structure g us) c a =
      let p = in_both f g ts us (bytes_eq f g && count_of ts == count_of us) (any_clash ts us) refl c in
      no_else_after
      (bytes_eq f g && count_of (each_substituted s ts) == count_of (each_substituted s us))
      (any_clash (each_substituted s ts) (each_substituted s us))
      (and_from (bytes_eq f g) (count_of (each_substituted s ts) == count_of (each_substituted s us)) p.0 (eq-eqb (count_of (each_substituted s ts)) (count_of (each_substituted s us)) (count-each_substituted s ts ∙ p.1 ∙ sym (count-each_substituted s us))))
      (clashes_stay_off s ts us p.2 a)

  clashes_stay_off : (s : ℕ → Term) (ts us : Terms) → any_clash ts us ≡ false → LeavesEach s (all_awaited ts us) → any_clash (each_substituted s ts) (each_substituted s us) ≡ false
  clashes_stay_off s none us c a = refl
  clashes_stay_off s (more t ts) none c a = refl
  clashes_stay_off s (more t ts) (more u us) c a =
      let p = or_parts (clash t u) (any_clash ts us) c in
      or_from (clash (substituted s t) (substituted s u)) (any_clash (each_substituted s ts) (each_substituted s us))
      (clash_stays_off s t u p.0 (left_front s (awaited t u) (all_awaited ts us) a))
      (clashes_stay_off s ts us p.1 (left_back s (awaited t u) (all_awaited ts us) a))

-- ---- what is the same afterwards was the same

structure_parts : {f g : List ℕ} {ts us : Terms} → structure f ts ≡ structure g us → (f ≡ g) × (ts ≡ us)
structure_parts e = (cc, cc)

more_parts : {t u : Term} {ts us : Terms} → more t ts ≡ more u us → (t ≡ u) × (ts ≡ us)
more_parts e = (cc, cc)

mutual
  was_same : (s : ℕ → Term) (t u : Term) → LeavesEach s (awaited t u) → substituted s t ≡ substituted s u → same_term t u ≡ true
  was_same s (variable v) (variable w) a h = variables_same s v w (v == w) refl a h
  was_same s (variable v) (integer j) a h = absurd (let e = sym a.0 ∙ h in cc)
  was_same s (variable v) (atom b) a h = absurd (let e = sym a.0 ∙ h in cc)
  was_same s (variable v) (structure g us) a h = absurd (let e = sym a.0 ∙ h in cc)
  was_same s (integer i) (variable w) a h = absurd (let e = h ∙ a.0 in cc)
  was_same s (integer i) (integer j) a h = (same_term_decides (integer i) (integer j)).1 h
  was_same s (integer i) (atom b) a h = absurd (cc)
  was_same s (integer i) (structure g us) a h = absurd (cc)
  was_same s (atom x) (variable w) a h = absurd (let e = h ∙ a.0 in cc)
  was_same s (atom x) (integer j) a h = absurd (cc)
  was_same s (atom x) (atom b) a h = (same_term_decides (atom x) (atom b)).1 h
  was_same s (atom x) (structure g us) a h = absurd (cc)
  was_same s (structure f ts) (variable w) a h = absurd (let e = h ∙ a.0 in cc)
  was_same s (structure f ts) (integer j) a h = absurd (cc)
  was_same s (structure f ts) (atom b) a h = absurd (cc)
  was_same s (structure f ts) (structure g us) a h =
      let p = structure_parts h in
      and_from (bytes_eq f g) (same_terms ts us) ((bytes_eq-Decides f g).1 p.0) (were_same s ts us a p.1)

  were_same : (s : ℕ → Term) (ts us : Terms) → LeavesEach s (all_awaited ts us) → each_substituted s ts ≡ each_substituted s us → same_terms ts us ≡ true
  were_same s none none a h = refl
  were_same s none (more u us) a h = absurd (cc)
  were_same s (more t ts) none a h = absurd (cc)
  were_same s (more t ts) (more u us) a h =
      let p = more_parts h in
      and_from (same_term t u) (same_terms ts us)
      (was_same s t u (left_front s (awaited t u) (all_awaited ts us) a) p.0)
      (were_same s ts us (left_back s (awaited t u) (all_awaited ts us) a) p.1)

-- ---- what clashes clashes afterwards

else_before : (c d b e : Bool) → c ≡ d → (if c then b else true) ≡ true → (b ≡ true → e ≡ true) → (if d then e else true) ≡ true
else_before true true b e h k f = f k
else_before true false b e h k f = refl
else_before false true b e h k f = absurd (cc)
else_before false false b e h k f = refl

or_else : (p q x y : Bool) → (p || q) ≡ true → (p ≡ true → x ≡ true) → (q ≡ true → y ≡ true) → (x || y) ≡ true
or_else true q x y h f g = or_left x y (f refl)
or_else false q x y h f g = or_right x y (g h)

mutual
  clash_stays : (s : ℕ → Term) (t u : Term) → clash t u ≡ true → clash (substituted s t) (substituted s u) ≡ true
  clash_stays s (variable v) u c = absurd (false≢true c)
  clash_stays s (integer i) (variable w) c = absurd (false≢true c)
  clash_stays s (integer i) (integer j) c = c
  clash_stays s (integer i) (atom b) c = c
  clash_stays s (integer i) (structure g us) c = c
  clash_stays s (atom x) (variable w) c = absurd (false≢true c)
  clash_stays s (atom x) (integer j) c = c
  clash_stays s (atom x) (atom b) c = c
  clash_stays s (atom x) (structure g us) c = c
  clash_stays s (structure f ts) (variable w) c = absurd (false≢true c)
  clash_stays s (structure f ts) (integer j) c = c
  clash_stays s (structure f ts) (atom b) c = c
  clash_stays s (structure f ts) (structure g us) c =
      else_before
      (bytes_eq f g && count_of ts == count_of us)
      (bytes_eq f g && count_of (each_substituted s ts) == count_of (each_substituted s us))
      (any_clash ts us)
      (any_clash (each_substituted s ts) (each_substituted s us))
      (ap₂ (λ m n. bytes_eq f g && m == n) (sym (count-each_substituted s ts)) (sym (count-each_substituted s us)))
      c
      (clashes_stay s ts us)

  clashes_stay : (s : ℕ → Term) (ts us : Terms) → any_clash ts us ≡ true → any_clash (each_substituted s ts) (each_substituted s us) ≡ true
  clashes_stay s none us c = absurd (false≢true c)
  clashes_stay s (more t ts) none c = absurd (false≢true c)
  clashes_stay s (more t ts) (more u us) c =
      or_else (clash t u) (any_clash ts us) (clash (substituted s t) (substituted s u)) (any_clash (each_substituted s ts) (each_substituted s us)) c (clash_stays s t u) (clashes_stay s ts us)

-- ---- answers

-- the answer for what was found, and back
unknown_or : (p q : Bool) → (if p then same else if q then differs else unknown) ≡ unknown → (p ≡ false) × (q ≡ false)
unknown_or true q h = absurd (cc)
unknown_or false true h = absurd (cc)
unknown_or false false h = (refl, refl)

is_unknown : (p q : Bool) → p ≡ false → q ≡ false → (if p then same else if q then differs else unknown) ≡ unknown
is_unknown p q hp hq = cond-false p same (if q then differs else unknown) hp ∙ cond-false q differs unknown hq

is_different : (p q : Bool) → p ≡ false → q ≡ true → (if p then same else if q then differs else unknown) ≡ differs
is_different p q hp hq = cond-false p same (if q then differs else unknown) hp ∙ cond-true q differs unknown hq

pub same_stays : SameStays
same_stays s t u h = (same_is_equal (substituted s t) (substituted s u)).1 (ap (substituted s) ((same_is_equal t u).0 h))

pub differs_stays : DiffersStays
differs_stays s t u h =
    let c = clash_stays s t u (differs_or (same_term t u) (clash t u) h) in
    is_different (same_term (substituted s t) (substituted s u)) (clash (substituted s t) (substituted s u)) (clash_differs (substituted s t) (substituted s u) c) c

pub unknown_waits : UnknownWaits
unknown_waits t u h a =
    let p = unknown_or (same_term t u) (clash t u) h in
    false≢true (sym p.0 ∙ same_from t u p.1 a)

-- terms that are not the same are not afterwards
same_stays_off : (s : ℕ → Term) (t u : Term) → same_term t u ≡ false → LeavesEach s (awaited t u) → same_term (substituted s t) (substituted s u) ≡ false
same_stays_off s t u n a =
    false_from_ne_true (same_term (substituted s t) (substituted s u)) (λ h. false≢true (sym n ∙ was_same s t u a ((same_term_decides (substituted s t) (substituted s u)).0 h)))

pub unknown_stays : UnknownStays
unknown_stays s t u h a =
    let p = unknown_or (same_term t u) (clash t u) h in
    is_unknown (same_term (substituted s t) (substituted s u)) (clash (substituted s t) (substituted s u)) (same_stays_off s t u p.0 a) (clash_stays_off s t u p.1 a)

-- ---- lists of terms

same_with_stays : (s : ℕ → Term) (t : Term) (us : List Term) → same_as_all t us ≡ true → same_as_all (substituted s t) (all_substituted s us) ≡ true
same_with_stays s t [] h = refl
same_with_stays s t (u ∷ us) h =
    let p = and_parts (same_term t u) (same_as_all t us) h in
    and_from (same_term (substituted s t) (substituted s u)) (same_as_all (substituted s t) (all_substituted s us))
    ((same_term_decides (substituted s t) (substituted s u)).1 (ap (substituted s) ((same_term_decides t u).0 p.0)))
    (same_with_stays s t us p.1)

all_same_stays : (s : ℕ → Term) (ts : List Term) → all_same ts ≡ true → all_same (all_substituted s ts) ≡ true
all_same_stays s [] h = refl
all_same_stays s (t ∷ ts) h =
    let p = and_parts (same_as_all t ts) (all_same ts) h in
    and_from (same_as_all (substituted s t) (all_substituted s ts)) (all_same (all_substituted s ts)) (same_with_stays s t ts p.0) (all_same_stays s ts p.1)

clash_with_stays : (s : ℕ → Term) (t : Term) (us : List Term) → clashes_with_some t us ≡ true → clashes_with_some (substituted s t) (all_substituted s us) ≡ true
clash_with_stays s t [] h = absurd (false≢true h)
clash_with_stays s t (u ∷ us) h =
    or_else (clash t u) (clashes_with_some t us) (clash (substituted s t) (substituted s u)) (clashes_with_some (substituted s t) (all_substituted s us)) h (clash_stays s t u) (clash_with_stays s t us)

some_clash_stays : (s : ℕ → Term) (ts : List Term) → some_clash ts ≡ true → some_clash (all_substituted s ts) ≡ true
some_clash_stays s [] h = absurd (false≢true h)
some_clash_stays s (t ∷ ts) h =
    or_else (clashes_with_some t ts) (some_clash ts) (clashes_with_some (substituted s t) (all_substituted s ts)) (some_clash (all_substituted s ts)) h (clash_with_stays s t ts) (some_clash_stays s ts)

clash_with_stays_off : (s : ℕ → Term) (t : Term) (us : List Term) → clashes_with_some t us ≡ false → LeavesEach s (awaited_with t us) → clashes_with_some (substituted s t) (all_substituted s us) ≡ false
clash_with_stays_off s t [] c a = refl
clash_with_stays_off s t (u ∷ us) c a =
    let p = or_parts (clash t u) (clashes_with_some t us) c in
    or_from (clash (substituted s t) (substituted s u)) (clashes_with_some (substituted s t) (all_substituted s us))
    (clash_stays_off s t u p.0 (left_front s (awaited t u) (awaited_with t us) a))
    (clash_with_stays_off s t us p.1 (left_back s (awaited t u) (awaited_with t us) a))

some_clash_stays_off : (s : ℕ → Term) (ts : List Term) → some_clash ts ≡ false → LeavesEach s (awaited_by ts) → some_clash (all_substituted s ts) ≡ false
some_clash_stays_off s [] c a = refl
some_clash_stays_off s (t ∷ ts) c a =
    let p = or_parts (clashes_with_some t ts) (some_clash ts) c in
    or_from (clashes_with_some (substituted s t) (all_substituted s ts)) (some_clash (all_substituted s ts))
    (clash_with_stays_off s t ts p.0 (left_front s (awaited_with t ts) (awaited_by ts) a))
    (some_clash_stays_off s ts p.1 (left_back s (awaited_with t ts) (awaited_by ts) a))

same_with_was : (s : ℕ → Term) (t : Term) (us : List Term) → LeavesEach s (awaited_with t us) → same_as_all (substituted s t) (all_substituted s us) ≡ true → same_as_all t us ≡ true
same_with_was s t [] a h = refl
same_with_was s t (u ∷ us) a h =
    let p = and_parts (same_term (substituted s t) (substituted s u)) (same_as_all (substituted s t) (all_substituted s us)) h in
    and_from (same_term t u) (same_as_all t us)
    (was_same s t u (left_front s (awaited t u) (awaited_with t us) a) ((same_term_decides (substituted s t) (substituted s u)).0 p.0))
    (same_with_was s t us (left_back s (awaited t u) (awaited_with t us) a) p.1)

all_same_was : (s : ℕ → Term) (ts : List Term) → LeavesEach s (awaited_by ts) → all_same (all_substituted s ts) ≡ true → all_same ts ≡ true
all_same_was s [] a h = refl
all_same_was s (t ∷ ts) a h =
    let p = and_parts (same_as_all (substituted s t) (all_substituted s ts)) (all_same (all_substituted s ts)) h in
    and_from (same_as_all t ts) (all_same ts)
    (same_with_was s t ts (left_front s (awaited_with t ts) (awaited_by ts) a) p.0)
    (all_same_was s ts (left_back s (awaited_with t ts) (awaited_by ts) a) p.1)

pub each_same_stays : AllSameStays
each_same_stays s ts h =
    let e = all_same_stays s ts (same_or (all_same ts) (some_clash ts) h) in
    cond-true (all_same (all_substituted s ts)) same (if some_clash (all_substituted s ts) then differs else unknown) e

-- terms of which some two clash are not all the same
clash_not_same : (ts : List Term) → some_clash ts ≡ true → all_same ts ≡ false
clash_not_same ts c = false_from_ne_true (all_same ts) (λ h. false≢true (sym (quiet_each ts h).0 ∙ c))

pub each_differs_stays : SomeDifferStays
each_differs_stays s ts h =
    let c = some_clash_stays s ts (differs_or (all_same ts) (some_clash ts) h) in
    is_different (all_same (all_substituted s ts)) (some_clash (all_substituted s ts)) (clash_not_same (all_substituted s ts) c) c

pub each_unknown_waits : AllUnknownWaits
each_unknown_waits ts h a =
    let p = unknown_or (all_same ts) (some_clash ts) h in
    false≢true (sym p.0 ∙ same_each ts p.1 a)

pub each_unknown_stays : AllUnknownStays
each_unknown_stays s ts h a =
    let p = unknown_or (all_same ts) (some_clash ts) h in
    is_unknown (all_same (all_substituted s ts)) (some_clash (all_substituted s ts))
    (false_from_ne_true (all_same (all_substituted s ts)) (λ e. false≢true (sym p.0 ∙ all_same_was s ts a e)))
    (some_clash_stays_off s ts p.1 a)
