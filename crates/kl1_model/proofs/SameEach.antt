-- Passive equality of a list of terms, from its clashes and the variables that it waits for.
use Rattle.std.proofs.Common.{◌≡◌, ℕ, ◌==◌, ◌&&◌, Bool, true, false, if◌then◌else◌, List, [], ◌∷◌, ◌++◌, refl, sym, ap, ◌∙◌, arith}
use Rattle.std.specs.Prelude.{bytes_eq}
use Rattle.std.specs.Ordering.{int_eq}
use Rattle.std.proofs.lemmas.Bool.{and_from, and_parts, or_parts, or_from, eqb-true, not-false, cond-true, cond-false, false≢true, eq-eqb, false_from_ne_true}
use Rattle.kl1_model.specs.Term.{Term, variable, integer, atom, structure, Terms, none, more, count_of, same_term, same_terms}
use Rattle.kl1_model.specs.code.Comparing.{clash, any_clash, same, differs, unknown, awaited, all_awaited, same_as_all, all_same, clashes_with_some, some_clash, awaited_with, awaited_by, passive_each}
use Rattle.kl1_model.proofs.TermFacts.{same_term_decides}
use Rattle.kl1_model.proofs.Clashes.{no_clash}

mutual
  pub awaited_self : (t : Term) → awaited t t ≡ []
  awaited_self (variable v) = cond-true (v == v) [] (v ∷ v ∷ []) (eq-eqb v v refl)
  awaited_self (integer i) = refl
  awaited_self (atom a) = refl
  awaited_self (structure f ts) = all_awaited_self ts

  all_awaited_self : (ts : Terms) → all_awaited ts ts ≡ []
  all_awaited_self none = refl
  all_awaited_self (more t ts) = ap (λ l. l ++ all_awaited ts ts) (awaited_self t) ∙ all_awaited_self ts

both_nil : (xs ys : List ℕ) → xs ++ ys ≡ [] → (xs ≡ []) × (ys ≡ [])
both_nil [] ys h = (refl, h)
both_nil (x ∷ xs) ys h = absurd (cc)

nil_if : (c : Bool) (v w : ℕ) → (if c then [] else v ∷ w ∷ []) ≡ [] → c ≡ true
nil_if true v w h = refl
nil_if false v w h = absurd (cc)

no_else : (c b : Bool) → (if c then b else true) ≡ false → (c ≡ true) × (b ≡ false)
no_else true b h = (refl, h)
no_else false b h = absurd (cc)

pub in_both : (f g : List ℕ) (ts us : Terms) (c b : Bool) → bytes_eq f g && count_of ts == count_of us ≡ c → (if c then b else true) ≡ false → (bytes_eq f g ≡ true) × (count_of ts ≡ count_of us) × (b ≡ false)
in_both f g ts us c b e h =
    let n = no_else c b h in
    let p = and_parts (bytes_eq f g) (count_of ts == count_of us) (e ∙ n.0) in
    (p.0, eqb-true (count_of ts) (count_of us) p.1, n.1)

-- terms that neither clash nor wait are the same
mutual
  pub same_from : (t u : Term) → clash t u ≡ false → awaited t u ≡ [] → same_term t u ≡ true
  same_from (variable v) (variable w) c a = nil_if (v == w) v w a
  same_from (variable v) (integer j) c a = absurd (cc)
  same_from (variable v) (atom b) c a = absurd (cc)
  same_from (variable v) (structure g us) c a = absurd (cc)
  same_from (integer i) (variable w) c a = absurd (cc)
  same_from (integer i) (integer j) c a = not-false (int_eq i j) c
  same_from (integer i) (atom b) c a = absurd (cc)
  same_from (integer i) (structure g us) c a = absurd (cc)
  same_from (atom x) (variable w) c a = absurd (cc)
  same_from (atom x) (integer j) c a = absurd (cc)
  same_from (atom x) (atom b) c a = not-false (bytes_eq x b) c
  same_from (atom x) (structure g us) c a = absurd (cc)
  same_from (structure f ts) (variable w) c a = absurd (cc)
  same_from (structure f ts) (integer j) c a = absurd (cc)
  same_from (structure f ts) (atom b) c a = absurd (cc)
  same_from (structure f ts) (structure g us) c a =
      let p = in_both f g ts us (bytes_eq f g && count_of ts == count_of us) (any_clash ts us) refl c in
      and_from (bytes_eq f g) (same_terms ts us) p.0 (same_from_each ts us p.1 p.2 a)

  same_from_each : (ts us : Terms) → count_of ts ≡ count_of us → any_clash ts us ≡ false → all_awaited ts us ≡ [] → same_terms ts us ≡ true
  same_from_each none none n c a = refl
  same_from_each none (more u us) n c a = absurd (omega arith)
  same_from_each (more t ts) none n c a = absurd (omega arith)
  same_from_each (more t ts) (more u us) n c a =
      let p = or_parts (clash t u) (any_clash ts us) c in
      let q = both_nil (awaited t u) (all_awaited ts us) a in
      and_from (same_term t u) (same_terms ts us) (same_from t u p.0 q.0) (same_from_each ts us (omega arith) p.1 q.1)

-- ---- lists

same_with : (t : Term) (us : List Term) → clashes_with_some t us ≡ false → awaited_with t us ≡ [] → same_as_all t us ≡ true
same_with t [] c a = refl
same_with t (u ∷ us) c a =
    let p = or_parts (clash t u) (clashes_with_some t us) c in
    let q = both_nil (awaited t u) (awaited_with t us) a in
    and_from (same_term t u) (same_as_all t us) (same_from t u p.0 q.0) (same_with t us p.1 q.1)

pub same_each : (ts : List Term) → some_clash ts ≡ false → awaited_by ts ≡ [] → all_same ts ≡ true
same_each [] c a = refl
same_each (t ∷ ts) c a =
    let p = or_parts (clashes_with_some t ts) (some_clash ts) c in
    let q = both_nil (awaited_with t ts) (awaited_by ts) a in
    and_from (same_as_all t ts) (all_same ts) (same_with t ts p.0 q.0) (same_each ts p.1 q.1)

quiet_with : (t : Term) (us : List Term) → same_as_all t us ≡ true → (clashes_with_some t us ≡ false) × (awaited_with t us ≡ [])
quiet_with t [] h = (refl, refl)
quiet_with t (u ∷ us) h =
    let p = and_parts (same_term t u) (same_as_all t us) h in
    let e = (same_term_decides t u).0 p.0 in
    let r = quiet_with t us p.1 in (
      or_from (clash t u) (clashes_with_some t us) (ap (λ x. clash x u) e ∙ no_clash u) r.0,
      ap (λ l. l ++ awaited_with t us) (ap (λ x. awaited x u) e ∙ awaited_self u) ∙ r.1,
    )

pub quiet_each : (ts : List Term) → all_same ts ≡ true → (some_clash ts ≡ false) × (awaited_by ts ≡ [])
quiet_each [] h = (refl, refl)
quiet_each (t ∷ ts) h =
    let p = and_parts (same_as_all t ts) (all_same ts) h in
    let q = quiet_with t ts p.0 in
    let r = quiet_each ts p.1 in
    (or_from (clashes_with_some t ts) (some_clash ts) q.0 r.0, ap (λ l. l ++ awaited_by ts) q.1 ∙ r.1)

pub each_is_same : (ts : List Term) → some_clash ts ≡ false → awaited_by ts ≡ [] → passive_each ts ≡ same
each_is_same ts c a = cond-true (all_same ts) same (if some_clash ts then differs else unknown) (same_each ts c a)

pub each_differs : (ts : List Term) → some_clash ts ≡ true → passive_each ts ≡ differs
each_differs ts c =
    cond-false (all_same ts) same (if some_clash ts then differs else unknown)
    (false_from_ne_true (all_same ts) (λ h. false≢true (sym (quiet_each ts h).0 ∙ c)))
    ∙ cond-true (some_clash ts) differs unknown c

pub each_is_unknown : (ts : List Term) (w : ℕ) (ws : List ℕ) → some_clash ts ≡ false → awaited_by ts ≡ w ∷ ws → passive_each ts ≡ unknown
each_is_unknown ts w ws c a =
    cond-false (all_same ts) same (if some_clash ts then differs else unknown)
    (false_from_ne_true (all_same ts) (λ h. never (sym (quiet_each ts h).1 ∙ a)))
    ∙ cond-false (some_clash ts) differs unknown c
  where
    never : [] ≡ w ∷ ws → ⊥
    never e = cc
