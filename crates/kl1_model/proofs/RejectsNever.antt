-- A clause that rejects a goal never comes to accept it.
use Rattle.std.proofs.Common.{◌≡◌, ℕ, suc, ◌+◌, ◌≤◌, ◌==◌, ◌&&◌, Bool, true, false, if◌then◌else◌, List, [], ◌∷◌, ◌++◌, refl, sym, ap, ap₂, ◌∙◌, subst, ◌⊎◌, inl, inr, arith}
use Rattle.std.specs.Prelude.{nat_le, bytes_eq}
use Rattle.std.proofs.lemmas.Bool.{cond-true, cond-false, eqb-true, eq-eqb, le-leb, false≢true}
use Rattle.std.proofs.lemmas.List.{map-append}
use Rattle.kl1_model.specs.Term.{Term, variable, integer, atom, structure, Terms, none, more, terms_of, count_of, substituted, each_substituted, Replacement}
use Rattle.kl1_model.specs.Meaning.{highest_in}
use Rattle.kl1_model.specs.Answer.{Answer, yes, no, wait, together, awaited_in}
use Rattle.kl1_model.specs.Same.{compare}
use Rattle.kl1_model.specs.Guard.{test_of}
use Rattle.kl1_model.specs.Match.{Match, option_answer, with_answer, match_pattern, match_patterns, two_answer, one_answer, each_answer, beside, test_variable, own_answer, one_test_answer, tests_answer, guard_answer, whole}
use Rattle.kl1_model.specs.code.Waits.{LeavesEach}
use Rattle.kl1_model.specs.laws.WaitsLaws.{place_substituted, places_substituted}
use Rattle.kl1_model.specs.laws.VerdictLaws.{NamedRejectsNeverAccepts}
use Rattle.kl1_model.proofs.Comparisons.{compare_is_equal}
use Rattle.kl1_model.proofs.Substitutions.{count-each_substituted}
use Rattle.kl1_model.proofs.GuardStays.{then_substituted, everywhere, behind_last, few_test, by_test, guard_stays, each_answer_stays}
use Rattle.kl1_model.proofs.VerdictStays.{both_clash, clash_left, clash_right, clashes_stay, was_clash, was_agreed}

-- ---- one of several places

abbrev Has : List Replacement → Replacement → Type 0
Has [] p = ⊥
Has (q ∷ qs) p = (q ≡ p) ⊎ Has qs p

-- each of these places is one of those
abbrev Within : List Replacement → List Replacement → Type 0
Within ps qs = (p : Replacement) → Has ps p → Has qs p

has_left : (ls bs : List Replacement) (p : Replacement) → Has ls p → Has (ls ++ bs) p
has_left [] bs p h = absurd h
has_left (a ∷ ls) bs p (inl e) = inl e
has_left (a ∷ ls) bs p (inr h) = inr (has_left ls bs p h)

has_right : (ls bs : List Replacement) (p : Replacement) → Has bs p → Has (ls ++ bs) p
has_right [] bs p h = h
has_right (a ∷ ls) bs p h = inr (has_right ls bs p h)

within_both : (ls bs cs ds : List Replacement) → Within ls cs → Within bs ds → Within (ls ++ bs) (cs ++ ds)
within_both [] bs cs ds f g p h = has_right cs ds p (g p h)
within_both (a ∷ ls) bs cs ds f g p (inl e) = has_left cs ds p (f p (inl e))
within_both (a ∷ ls) bs cs ds f g p (inr h) = within_both ls bs cs ds (λ q k. f q (inr k)) g p h

-- ---- places of one variable have one term

abbrev Agree : List Replacement → Type 0
Agree ps = (p q : Replacement) → Has ps p → Has ps q → p.number ≡ q.number → p.by ≡ q.by

both_agree : (a b : Answer) → together a b ≡ yes → (a ≡ yes) × (b ≡ yes)
both_agree yes b e = (refl, e)
both_agree no b e = absurd (cc)
both_agree (wait vs) yes e = absurd (cc)
both_agree (wait vs) no e = absurd (cc)
both_agree (wait vs) (wait ws) e = absurd (cc)

alike_self : (t u : Term) → t ≡ u → compare t u ≡ yes
alike_self t u e = (compare_is_equal t u).1 e

alike_one : (p q : Replacement) → two_answer p q ≡ yes → p.number ≡ q.number → p.by ≡ q.by
alike_one p q h e = (compare_is_equal p.by q.by).0 (sym (cond-true (p.number == q.number) (compare p.by q.by) yes (eq-eqb p.number q.number e)) ∙ h)

alike_each : (p : Replacement) (qs : List Replacement) → one_answer p qs ≡ yes → (q : Replacement) → Has qs q → p.number ≡ q.number → p.by ≡ q.by
alike_each p [] h q k e = absurd k
alike_each p (r ∷ qs) h q (inl i) e = alike_one p r (both_agree (two_answer p r) (one_answer p qs) h).0 (e ∙ sym (ap (λ (x : Replacement). x.number) i)) ∙ ap (λ (x : Replacement). x.by) i
alike_each p (r ∷ qs) h q (inr k) e = alike_each p qs (both_agree (two_answer p r) (one_answer p qs) h).1 q k e

agree : (ps : List Replacement) → each_answer ps ≡ yes → Agree ps
agree [] h p q i j e = absurd i
agree (r ∷ ps) h p q (inl i) (inl j) e = ap (λ (x : Replacement). x.by) (sym i ∙ j)
agree (r ∷ ps) h p q (inl i) (inr j) e =
    sym (ap (λ (x : Replacement). x.by) i) ∙ alike_each r ps (both_agree (one_answer r ps) (each_answer ps) h).0 q j (ap (λ (x : Replacement). x.number) i ∙ e)
agree (r ∷ ps) h p q (inr i) (inl j) e =
    sym (alike_each r ps (both_agree (one_answer r ps) (each_answer ps) h).0 p i (ap (λ (x : Replacement). x.number) j ∙ sym e)) ∙ ap (λ (x : Replacement). x.by) j
agree (r ∷ ps) h p q (inr i) (inr j) e = agree ps (both_agree (one_answer r ps) (each_answer ps) h).1 p q i j e

one_agrees : (p q : Replacement) (c : Bool) → p.number == q.number ≡ c → (p.number ≡ q.number → p.by ≡ q.by) → (if c then compare p.by q.by else yes) ≡ yes
one_agrees p q true e f = alike_self p.by q.by (f (eqb-true p.number q.number e))
one_agrees p q false e f = refl

with_agrees : (p : Replacement) (qs : List Replacement) → ((q : Replacement) → Has qs q → p.number ≡ q.number → p.by ≡ q.by) → one_answer p qs ≡ yes
with_agrees p [] f = refl
with_agrees p (q ∷ qs) f = ap₂ together (one_agrees p q (p.number == q.number) refl (f q (inl refl))) (with_agrees p qs (λ r k. f r (inr k)))

each_agrees : (ps : List Replacement) → Agree ps → each_answer ps ≡ yes
each_agrees [] f = refl
each_agrees (p ∷ ps) f = ap₂ together (with_agrees p ps (λ q k. f p q (inl refl) (inr k))) (each_agrees ps (λ q r i j. f q r (inr i) (inr j)))

-- ---- tests by more places

-- what stands for a variable of a test by places, and the goal's variables as they are
abbrev filled : ℕ → List Replacement → ℕ → Term
filled last qs n = if nat_le n last then test_variable last qs n else variable n

filled_beside : (last : ℕ) (qs : List Replacement) (t : Term) → substituted (filled last qs) (beside last t) ≡ beside last t
filled_beside last qs t =
    then_substituted (filled last qs) (λ v. variable (suc (last + v))) t
    ∙ everywhere (λ v. filled last qs (suc (last + v))) (λ v. variable (suc (last + v))) (λ v. cond-false (nat_le (suc (last + v)) last) (test_variable last qs (suc (last + v))) (variable (suc (last + v))) (behind_last last v)) t

first_by : (last : ℕ) (q : Replacement) (qs : List Replacement) (p : Replacement) (c : Bool) → q.number == p.number ≡ c → (q.number ≡ p.number → q.by ≡ p.by) → (Has qs p → test_variable last qs p.number ≡ beside last p.by) → Has (q ∷ qs) p → (if c then beside last q.by else test_variable last qs p.number) ≡ beside last p.by
first_by last q qs p true e f g h = ap (beside last) (f (eqb-true q.number p.number e))
first_by last q qs p false e f g (inl i) = absurd (false≢true (sym e ∙ eq-eqb q.number p.number (ap (λ (x : Replacement). x.number) i)))
first_by last q qs p false e f g (inr h) = g h

first_is : (last : ℕ) (qs : List Replacement) (p : Replacement) → ((r : Replacement) → Has qs r → r.number ≡ p.number → r.by ≡ p.by) → Has qs p → test_variable last qs p.number ≡ beside last p.by
first_is last [] p f h = absurd h
first_is last (q ∷ qs) p f h = first_by last q qs p (q.number == p.number) refl (f q (inl refl)) (first_is last qs p (λ r k. f r (inr k))) h

filled_by : (last : ℕ) (qs : List Replacement) (p : Replacement) (v : ℕ) (c : Bool) (u : Term) → p.number == v ≡ c → Agree qs → Has qs p → test_variable last qs v ≡ substituted (filled last qs) u → test_variable last qs v ≡ substituted (filled last qs) (if c then beside last p.by else u)
filled_by last qs p v true u e a h k =
    sym (ap (test_variable last qs) (eqb-true p.number v e)) ∙ first_is last qs p (λ r i j. a r p i h j) h ∙ sym (filled_beside last qs p.by)
filled_by last qs p v false u e a h k = k

filled_is : (last : ℕ) (qs ps : List Replacement) → Agree qs → Within ps qs → (v : ℕ) → v ≤ last → test_variable last qs v ≡ substituted (filled last qs) (test_variable last ps v)
filled_is last qs [] a w v few = sym (cond-true (nat_le v last) (test_variable last qs v) (variable v) (le-leb v last few))
filled_is last qs (p ∷ ps) a w v few = filled_by last qs p v (p.number == v) (test_variable last ps v) refl a (w p (inl refl)) (filled_is last qs ps a (λ q k. w q (inr k)) v few)

own_clash : (last : ℕ) (o : Answer) → own_answer last o ≡ no → o ≡ no
own_clash last yes e = absurd (cc)
own_clash last no e = refl
own_clash last (wait vs) e = absurd (cc)

test_clashes : (last : ℕ) (ps qs : List Replacement) (t : Term) → highest_in (more t none) ≤ last → Agree qs → Within ps qs → one_test_answer last ps t ≡ no → one_test_answer last qs t ≡ no
test_clashes last ps qs t few a w e =
    let s = filled last qs in
    let before = test_variable last ps in
    let later = test_variable last qs in
    let again = filled_is last qs ps a w in
    let k : option_answer before (test_of t) ≡ no = own_clash last (option_answer before (test_of t)) e in
    ap (own_answer last) (by_test last s before later again (test_of t) (few_test last s before later again t (omega (arith, few))) (subst (λ o. LeavesEach s (awaited_in o)) (sym k) tt) ∙ k)

tests_clash : (last : ℕ) (ps qs : List Replacement) (ts : List Term) → highest_in (terms_of ts) ≤ last → Agree qs → Within ps qs → tests_answer last ps ts ≡ no → tests_answer last qs ts ≡ no
tests_clash last ps qs [] few a w e = absurd (cc)
tests_clash last ps qs (t ∷ ts) few a w e =
    elim (both_clash (one_test_answer last ps t) (tests_answer last ps ts) e) [
      | inl h ↦ clash_left (one_test_answer last qs t) (tests_answer last qs ts) (test_clashes last ps qs t (omega (arith, few)) a w h)
      | inr h ↦ clash_right (one_test_answer last qs t) (tests_answer last qs ts) (tests_clash last ps qs ts (omega (arith, few)) a w h)
    ]

-- ---- places that were reached are reached still

if_within : (s : ℕ → Term) (c : Bool) (m n : Match) → Within (places_substituted s m.places) n.places → Within (places_substituted s (if c then m else with_answer no).places) (if c then n else with_answer no).places
if_within s true m n w = w
if_within s false m n w = λ p h. absurd h

mutual
  reached : (s : ℕ → Term) (p t : Term) → Within (places_substituted s (match_pattern p t).places) (match_pattern p (substituted s t)).places
  reached s (variable v) t = λ q h. h
  reached s (integer i) (variable w) = λ q h. absurd h
  reached s (integer i) (integer j) = λ q h. absurd h
  reached s (integer i) (atom b) = λ q h. absurd h
  reached s (integer i) (structure g us) = λ q h. absurd h
  reached s (atom a) (variable w) = λ q h. absurd h
  reached s (atom a) (integer j) = λ q h. absurd h
  reached s (atom a) (atom b) = λ q h. absurd h
  reached s (atom a) (structure g us) = λ q h. absurd h
  reached s (structure f ps) (variable w) = λ q h. absurd h
  reached s (structure f ps) (integer j) = λ q h. absurd h
  reached s (structure f ps) (atom b) = λ q h. absurd h
  reached s (structure f ps) (structure g ts) =
      subst (λ n. Within (places_substituted s (match_pattern (structure f ps) (structure g ts)).places) (if bytes_eq f g && count_of ps == n then match_patterns ps (each_substituted s ts) else with_answer no).places) (sym (count-each_substituted s ts))
      (if_within s (bytes_eq f g && count_of ps == count_of ts) (match_patterns ps ts) (match_patterns ps (each_substituted s ts)) (all_reached s ps ts))

  all_reached : (s : ℕ → Term) (ps ts : Terms) → Within (places_substituted s (match_patterns ps ts).places) (match_patterns ps (each_substituted s ts)).places
  all_reached s none none = λ q h. absurd h
  all_reached s none (more t ts) = λ q h. absurd h
  all_reached s (more p ps) none = λ q h. absurd h
  all_reached s (more p ps) (more t ts) =
      subst (λ (l : List Replacement). Within l (match_patterns (more p ps) (each_substituted s (more t ts))).places) (sym (map-append (place_substituted s) (match_pattern p t).places (match_patterns ps ts).places))
      (within_both (places_substituted s (match_pattern p t).places) (places_substituted s (match_patterns ps ts).places) (match_pattern p (substituted s t)).places (match_patterns ps (each_substituted s ts)).places (reached s p t) (all_reached s ps ts))

-- ---- verdicts

agrees_or_clashes : (o : Answer) → o ≡ no → o ≡ yes → ⊥
agrees_or_clashes o e h = absurd (cc)

never : (s : ℕ → Term) (tests : List Term) (m n : Match) → (m.answer ≡ no → n.answer ≡ no) → Within (places_substituted s m.places) n.places → whole tests m ≡ no → whole tests n ≡ yes → ⊥
never s tests m n f w e h =
    let k = both_agree (together n.answer (each_answer n.places)) (guard_answer n.places tests) h in
    let i = both_agree n.answer (each_answer n.places) k.0 in
    let ps = places_substituted s m.places in
    let a = agree n.places i.1 in
    elim (both_clash (together m.answer (each_answer m.places)) (guard_answer m.places tests) e) [
      | inl x ↦ elim (both_clash m.answer (each_answer m.places) x) [
        | inl y ↦ agrees_or_clashes n.answer (f y) i.0
        | inr y ↦ agrees_or_clashes (each_answer ps) (each_answer_stays s m.places (subst (λ o. LeavesEach s (awaited_in o)) (sym y) tt) ∙ y) (each_agrees ps (λ p q c d. a p q (w p c) (w q d)))
      ]
      | inr x ↦ agrees_or_clashes (guard_answer n.places tests) (tests_clash (highest_in (terms_of tests)) ps n.places tests (omega arith) a w (guard_stays s m.places tests (subst (λ o. LeavesEach s (awaited_in o)) (sym x) tt) ∙ x)) k.1
    ]

pub named_rejects_never_accepts : NamedRejectsNeverAccepts
named_rejects_never_accepts s c ts vs places e h =
    let m = match_patterns c.patterns ts in
    let n = match_patterns c.patterns (each_substituted s ts) in
    never s c.tests m n (clashes_stay s c.patterns ts) (all_reached s c.patterns ts) (was_clash m (whole c.tests m) vs e).0 (was_agreed n (whole c.tests n) places h).0
