-- Verdicts when variables are replaced.
use Rattle.std.proofs.Common.{◌≡◌, ℕ, suc, ◌==◌, ◌&&◌, Bool, true, false, if◌then◌else◌, List, [], ◌∷◌, ◌++◌, refl, sym, ap, ap₂, ◌∙◌, subst, ◌⊎◌, inl, inr}
use Rattle.std.specs.Prelude.{bytes_eq, Option, Some, None}
use Rattle.std.proofs.lemmas.List.{map-append}
use Rattle.kl1_model.specs.Term.{Term, variable, integer, atom, structure, Terms, none, more, count_of, substituted, each_substituted, Replacement}
use Rattle.kl1_model.specs.Module.{Clause}
use Rattle.kl1_model.specs.Answer.{Answer, yes, no, wait, together, awaited_in}
use Rattle.kl1_model.specs.Match.{Match, with_answer, match_both, match_pattern, match_patterns, each_answer, guard_answer, whole}
use Rattle.kl1_model.specs.code.Verdicts.{Verdict, accepts, rejects, suspends, verdict_with, verdict_of, named_verdict}
use Rattle.kl1_model.specs.code.Waits.{LeavesEach}
use Rattle.kl1_model.specs.laws.WaitsLaws.{place_substituted, places_substituted, ClausesStay}
use Rattle.kl1_model.specs.laws.VerdictLaws.{NamedRejectsStays, NamedAcceptsStays, NamedSuspendsStays}
use Rattle.kl1_model.proofs.Substitutions.{count-each_substituted}
use Rattle.kl1_model.proofs.SameStays.{left_front, left_back}
use Rattle.kl1_model.proofs.NamedWaits.{named_least_by, named_least_within, named_least_from, named_after, named_within, named_by_clauses, least_from_named, clauses_named}
use Rattle.kl1_model.proofs.GuardStays.{Stays, both_stay, guard_stays, each_answer_stays}

-- ---- outcomes that stay

-- an outcome that is no clash, and whose variables a substitution leaves
abbrev Left : (ℕ → Term) → Answer → Type 0
Left s yes = Unit {0}
Left s no = ⊥
Left s (wait vs) = LeavesEach s vs

left_both : (s : ℕ → Term) (a b : Answer) → Left s (together a b) → Left s a × Left s b
left_both s yes b l = (tt, l)
left_both s no b l = absurd l
left_both s (wait vs) yes l = (l, tt)
left_both s (wait vs) no l = absurd l
left_both s (wait vs) (wait ws) l = (left_front s vs ws l, left_back s vs ws l)

-- a match after a substitution
abbrev after : (ℕ → Term) → Match → Match
after s m = record { answer = m.answer; places = places_substituted s m.places }

after_both : (s : ℕ → Term) (a b : Match) → match_both (after s a) (after s b) ≡ after s (match_both a b)
after_both s a b = ap (λ (l : List Replacement). let m : Match = record { answer = together a.answer b.answer; places = l } in m) (sym (map-append (place_substituted s) a.places b.places))

inside : (s : ℕ → Term) (c : Bool) (m n : Match) → Left s (if c then m else with_answer no).answer → (Left s m.answer → n ≡ after s m) → (if c then n else with_answer no) ≡ after s (if c then m else with_answer no)
inside s true m n l f = f l
inside s false m n l f = refl

mutual
  match_stays : (s : ℕ → Term) (p t : Term) → Left s (match_pattern p t).answer → match_pattern p (substituted s t) ≡ after s (match_pattern p t)
  match_stays s (variable v) t l = refl
  match_stays s (integer i) (variable w) l = ap (match_pattern (integer i)) l.0
  match_stays s (integer i) (integer j) l = refl
  match_stays s (integer i) (atom b) l = refl
  match_stays s (integer i) (structure g us) l = refl
  match_stays s (atom a) (variable w) l = ap (match_pattern (atom a)) l.0
  match_stays s (atom a) (integer j) l = refl
  match_stays s (atom a) (atom b) l = refl
  match_stays s (atom a) (structure g us) l = refl
  match_stays s (structure f ps) (variable w) l = ap (match_pattern (structure f ps)) l.0
  match_stays s (structure f ps) (integer j) l = refl
  match_stays s (structure f ps) (atom b) l = refl
  match_stays s (structure f ps) (structure g ts) l =
      ap (λ n. if bytes_eq f g && count_of ps == n then match_patterns ps (each_substituted s ts) else with_answer no) (count-each_substituted s ts)
      ∙ inside s (bytes_eq f g && count_of ps == count_of ts) (match_patterns ps ts) (match_patterns ps (each_substituted s ts)) l (match_all_stays s ps ts)

  match_all_stays : (s : ℕ → Term) (ps ts : Terms) → Left s (match_patterns ps ts).answer → match_patterns ps (each_substituted s ts) ≡ after s (match_patterns ps ts)
  match_all_stays s none none l = refl
  match_all_stays s none (more t ts) l = refl
  match_all_stays s (more p ps) none l = refl
  match_all_stays s (more p ps) (more t ts) l =
      let b = left_both s (match_pattern p t).answer (match_patterns ps ts).answer l in
      ap₂ match_both (match_stays s p t b.0) (match_all_stays s ps ts b.1) ∙ after_both s (match_pattern p t) (match_patterns ps ts)

-- ---- clashes stay

pub both_clash : (a b : Answer) → together a b ≡ no → (a ≡ no) ⊎ (b ≡ no)
both_clash yes b e = inr e
both_clash no b e = inl refl
both_clash (wait vs) yes e = absurd (cc)
both_clash (wait vs) no e = inr refl
both_clash (wait vs) (wait ws) e = absurd (cc)

pub clash_left : (a b : Answer) → a ≡ no → together a b ≡ no
clash_left a b e = ap (λ o. together o b) e

pub clash_right : (a b : Answer) → b ≡ no → together a b ≡ no
clash_right yes b e = e
clash_right no b e = refl
clash_right (wait vs) b e = ap (together (wait vs)) e

clash_inside : (c : Bool) (m n : Match) → (if c then m else with_answer no).answer ≡ no → (m.answer ≡ no → n.answer ≡ no) → (if c then n else with_answer no).answer ≡ no
clash_inside true m n e f = f e
clash_inside false m n e f = refl

mutual
  clash_stays : (s : ℕ → Term) (p t : Term) → (match_pattern p t).answer ≡ no → (match_pattern p (substituted s t)).answer ≡ no
  clash_stays s (variable v) t e = absurd (cc)
  clash_stays s (integer i) (variable w) e = absurd (cc)
  clash_stays s (integer i) (integer j) e = e
  clash_stays s (integer i) (atom b) e = e
  clash_stays s (integer i) (structure g us) e = e
  clash_stays s (atom a) (variable w) e = absurd (cc)
  clash_stays s (atom a) (integer j) e = e
  clash_stays s (atom a) (atom b) e = e
  clash_stays s (atom a) (structure g us) e = e
  clash_stays s (structure f ps) (variable w) e = absurd (cc)
  clash_stays s (structure f ps) (integer j) e = e
  clash_stays s (structure f ps) (atom b) e = e
  clash_stays s (structure f ps) (structure g ts) e =
      ap (λ n. (if bytes_eq f g && count_of ps == n then match_patterns ps (each_substituted s ts) else with_answer no).answer) (count-each_substituted s ts)
      ∙ clash_inside (bytes_eq f g && count_of ps == count_of ts) (match_patterns ps ts) (match_patterns ps (each_substituted s ts)) e (clashes_stay s ps ts)

  pub clashes_stay : (s : ℕ → Term) (ps ts : Terms) → (match_patterns ps ts).answer ≡ no → (match_patterns ps (each_substituted s ts)).answer ≡ no
  clashes_stay s none none e = absurd (cc)
  clashes_stay s none (more t ts) e = e
  clashes_stay s (more p ps) none e = e
  clashes_stay s (more p ps) (more t ts) e =
      elim (both_clash (match_pattern p t).answer (match_patterns ps ts).answer e) [
        | inl a ↦ clash_left (match_pattern p (substituted s t)).answer (match_patterns ps (each_substituted s ts)).answer (clash_stays s p t a)
        | inr b ↦ clash_right (match_pattern p (substituted s t)).answer (match_patterns ps (each_substituted s ts)).answer (clashes_stay s ps ts b)
      ]

-- ---- verdicts

-- the whole answer stays if the match does, until a variable for which it waits is replaced
whole_stays : (s : ℕ → Term) (tests : List Term) (m : Match) → Stays s (whole tests m) (whole tests (after s m))
whole_stays s tests m =
    both_stay s (together m.answer (each_answer m.places)) (guard_answer m.places tests) (together m.answer (each_answer (places_substituted s m.places))) (guard_answer (places_substituted s m.places) tests)
    (both_stay s m.answer (each_answer m.places) m.answer (each_answer (places_substituted s m.places)) (λ l. refl) (each_answer_stays s m.places))
    (guard_stays s m.places tests)

-- the verdict if the match stays and the whole outcome is this
stays_with : (s : ℕ → Term) (c : Clause) (ts : Terms) (o : Answer) → whole c.tests (match_patterns c.patterns ts) ≡ o → Left s (match_patterns c.patterns ts).answer → LeavesEach s (awaited_in o) →
    named_verdict c (each_substituted s ts) ≡ verdict_with (after s (match_patterns c.patterns ts)) o
stays_with s c ts o e left l =
    let m = match_patterns c.patterns ts in
    ap (verdict_of c.tests) (match_all_stays s c.patterns ts left)
    ∙ ap (verdict_with (after s m)) (whole_stays s c.tests m (subst (λ p. LeavesEach s (awaited_in p)) (sym e) l) ∙ e)

pub was_clash : (m : Match) (o : Answer) (vs : List ℕ) → verdict_with m o ≡ rejects vs → (o ≡ no) × (awaited_in m.answer ≡ vs)
was_clash m yes vs e = absurd (cc)
was_clash m no vs e = (refl, cc)
was_clash m (wait ws) vs e = absurd (cc)

pub was_agreed : (m : Match) (o : Answer) (ps : List Replacement) → verdict_with m o ≡ accepts ps → (o ≡ yes) × (m.places ≡ ps)
was_agreed m yes ps e = (refl, cc)
was_agreed m no ps e = absurd (cc)
was_agreed m (wait vs) ps e = absurd (cc)

was_waiting : (m : Match) (o : Answer) (vs : List ℕ) → verdict_with m o ≡ suspends vs → o ≡ wait vs
was_waiting m yes vs e = absurd (cc)
was_waiting m no vs e = absurd (cc)
was_waiting m (wait ws) vs e = cc

-- a match that doesn't clash stays if the variables for which it waits are left, and so does what it names
open_stays : (s : ℕ → Term) (c : Clause) (ts : Terms) (o : Answer) → (match_patterns c.patterns ts).answer ≡ o → whole c.tests (match_patterns c.patterns ts) ≡ no → LeavesEach s (awaited_in o) → named_verdict c (each_substituted s ts) ≡ rejects (awaited_in o)
open_stays s c ts yes e w l = stays_with s c ts no w (subst (λ o. Left s o) (sym e) tt) tt ∙ ap (λ o. rejects (awaited_in o)) e
open_stays s c ts no e w l =
    let k : (match_patterns c.patterns (each_substituted s ts)).answer ≡ no = clashes_stay s c.patterns ts e in
    let n = match_patterns c.patterns (each_substituted s ts) in
    ap (verdict_with n) (ap (λ o. together (together o (each_answer n.places)) (guard_answer n.places c.tests)) k) ∙ ap (λ o. rejects (awaited_in o)) k
open_stays s c ts (wait vs) e w l = stays_with s c ts no w (subst (λ o. Left s o) (sym e) l) tt ∙ ap (λ o. rejects (awaited_in o)) e

pub named_rejects_stays : NamedRejectsStays
named_rejects_stays s c ts vs e l =
    let m = match_patterns c.patterns ts in
    let w = was_clash m (whole c.tests m) vs e in
    open_stays s c ts m.answer refl w.0 (subst (λ (x : List ℕ). LeavesEach s x) (sym w.1) l) ∙ ap (λ x. rejects x) w.1

-- what a whole outcome that is no clash leaves, its match leaves
match_left : (s : ℕ → Term) (tests : List Term) (m : Match) → Left s (whole tests m) → Left s m.answer
match_left s tests m l = (left_both s m.answer (each_answer m.places) (left_both s (together m.answer (each_answer m.places)) (guard_answer m.places tests) l).0).0

pub named_accepts_stays : NamedAcceptsStays
named_accepts_stays s c ts places e =
    let m = match_patterns c.patterns ts in
    let w = was_agreed m (whole c.tests m) places e in
    stays_with s c ts yes w.0 (match_left s c.tests m (subst (λ o. Left s o) (sym w.0) tt)) tt
    ∙ ap (λ (ps : List Replacement). accepts (places_substituted s ps)) w.1

pub named_suspends_stays : NamedSuspendsStays
named_suspends_stays s c ts vs e l =
    let m = match_patterns c.patterns ts in
    let w : whole c.tests m ≡ wait vs = was_waiting m (whole c.tests m) vs e in
    stays_with s c ts (wait vs) w (match_left s c.tests m (subst (λ o. Left s o) (sym w) l)) l

-- ---- the clauses of a predicate

-- the answers of clauses before and after, and the variables that they wait for, within a section
abbrev SameWithin : (ℕ → Term) → ℕ → List Clause → Terms → Type 0
SameWithin s section cs ts =
    ((n : ℕ) → named_least_within section n cs (each_substituted s ts) ≡ named_least_within section n cs ts) × (named_within section cs (each_substituted s ts) ≡ named_within section cs ts)

-- the answers of clauses before and after, and the variables that they wait for, in all sections
abbrev Same : (ℕ → Term) → List Clause → Terms → Type 0
Same s cs ts = ((n : ℕ) → named_least_from n cs (each_substituted s ts) ≡ named_least_from n cs ts) × (named_by_clauses cs (each_substituted s ts) ≡ named_by_clauses cs ts)

-- a verdict after a substitution, but for the terms at places
abbrev SameVerdict : (ℕ → Term) → Verdict → Verdict → Type 0
SameVerdict s (accepts ps) w = w ≡ accepts (places_substituted s ps)
SameVerdict s (rejects vs) w = w ≡ rejects vs
SameVerdict s (suspends vs) w = w ≡ suspends vs

-- a verdict, and what later clauses lead to if it rejects and if it suspends
verdict_stays : (s : ℕ → Term) (c : Clause) (ts : Terms) (v : Verdict) (rs ws : List ℕ) → named_verdict c ts ≡ v → LeavesEach s (named_after v rs ws) → SameVerdict s v (named_verdict c (each_substituted s ts))
verdict_stays s c ts (accepts ps) rs ws e l = named_accepts_stays s c ts ps e
verdict_stays s c ts (rejects vs) rs ws e l = named_rejects_stays s c ts vs e (left_front s vs rs l)
verdict_stays s c ts (suspends vs) rs ws e l = named_suspends_stays s c ts vs e (left_front s vs ws l)

least_same : (s : ℕ → Term) (v w : Verdict) (a r x q y : Option ℕ) (rs ws : List ℕ) → SameVerdict s v w → LeavesEach s (named_after v rs ws) → (LeavesEach s rs → q ≡ r) → (LeavesEach s ws → y ≡ x) → named_least_by a q y w ≡ named_least_by a r x v
least_same s (accepts ps) w a r x q y rs ws e l f g = ap (named_least_by a q y) e
least_same s (rejects vs) w a r x q y rs ws e l f g = ap (named_least_by a q y) e ∙ f (left_back s vs rs l)
least_same s (suspends vs) w a r x q y rs ws e l f g = ap (named_least_by a q y) e ∙ g (left_back s vs ws l)

awaited_same : (s : ℕ → Term) (v w : Verdict) (rs ws qs ys : List ℕ) → SameVerdict s v w → LeavesEach s (named_after v rs ws) → (LeavesEach s rs → qs ≡ rs) → (LeavesEach s ws → ys ≡ ws) → named_after w qs ys ≡ named_after v rs ws
awaited_same s (accepts ps) w rs ws qs ys e l f g = ap (λ u. named_after u qs ys) e
awaited_same s (rejects vs) w rs ws qs ys e l f g = ap (λ u. named_after u qs ys) e ∙ ap (λ x. vs ++ x) (f (left_back s vs rs l))
awaited_same s (suspends vs) w rs ws qs ys e l f g = ap (λ u. named_after u qs ys) e ∙ ap (λ x. vs ++ x) (g (left_back s vs ws l))

within_if : (s : ℕ → Term) (section : ℕ) (c : Clause) (cs : List Clause) (ts : Terms) (b : Bool) → LeavesEach s (if b then named_after (named_verdict c ts) (named_within section cs ts) (named_within section cs ts) else []) → (LeavesEach s (named_within section cs ts) → SameWithin s section cs ts) →
    ((n : ℕ) →
    (if b then named_least_by (Some n) (named_least_within section (suc n) cs (each_substituted s ts)) (named_least_within section (suc n) cs (each_substituted s ts)) (named_verdict c (each_substituted s ts)) else None)
    ≡ (if b then named_least_by (Some n) (named_least_within section (suc n) cs ts) (named_least_within section (suc n) cs ts) (named_verdict c ts) else None))
    × ((if b then named_after (named_verdict c (each_substituted s ts)) (named_within section cs (each_substituted s ts)) (named_within section cs (each_substituted s ts)) else [])
    ≡ (if b then named_after (named_verdict c ts) (named_within section cs ts) (named_within section cs ts) else []))
within_if s section c cs ts true l f =
    let us = each_substituted s ts in
    let ws = named_within section cs ts in
    let v = verdict_stays s c ts (named_verdict c ts) ws ws refl l in (
      λ n.
          least_same s (named_verdict c ts) (named_verdict c us) (Some n) (named_least_within section (suc n) cs ts) (named_least_within section (suc n) cs ts) (named_least_within section (suc n) cs us) (named_least_within section (suc n) cs us) ws ws v l (λ k. (f k).0 (suc n)) (λ k. (f k).0 (suc n)),
      awaited_same s (named_verdict c ts) (named_verdict c us) ws ws (named_within section cs us) (named_within section cs us) v l (λ k. (f k).1) (λ k. (f k).1),
    )
within_if s section c cs ts false l f = (λ n. refl, refl)

within_same : (s : ℕ → Term) (section : ℕ) (cs : List Clause) (ts : Terms) → LeavesEach s (named_within section cs ts) → SameWithin s section cs ts
within_same s section [] ts l = (λ n. refl, refl)
within_same s section (c ∷ cs) ts l = within_if s section c cs ts (c.section == section) l (within_same s section cs ts)

clauses_same : (s : ℕ → Term) (cs : List Clause) (ts : Terms) → LeavesEach s (named_by_clauses cs ts) → Same s cs ts
clauses_same s [] ts l = (λ n. refl, refl)
clauses_same s (c ∷ cs) ts l =
    let us = each_substituted s ts in
    let rs = named_by_clauses cs ts in
    let ws = named_within c.section cs ts in
    let v = verdict_stays s c ts (named_verdict c ts) rs ws refl l in (
      λ n.
          least_same s (named_verdict c ts) (named_verdict c us) (Some n) (named_least_from (suc n) cs ts) (named_least_within c.section (suc n) cs ts) (named_least_from (suc n) cs us) (named_least_within c.section (suc n) cs us) rs ws v l (λ k. (clauses_same s cs ts k).0 (suc n)) (λ k. (within_same s c.section cs ts k).0 (suc n)),
      awaited_same s (named_verdict c ts) (named_verdict c us) rs ws (named_by_clauses cs us) (named_within c.section cs us) v l (λ k. (clauses_same s cs ts k).1) (λ k. (within_same s c.section cs ts k).1),
    )

pub clauses_stay : ClausesStay
clauses_stay s cs ts l =
    let us = each_substituted s ts in
    let k = clauses_same s cs ts (subst (λ (vs : List ℕ). LeavesEach s vs) (clauses_named cs ts) l) in (
      least_from_named 1 cs us ∙ k.0 1 ∙ sym (least_from_named 1 cs ts),
      clauses_named cs us ∙ k.1 ∙ sym (clauses_named cs ts),
    )
