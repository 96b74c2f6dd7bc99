-- Candidates by their sections.
use Rattle.std.proofs.Common.{◌≡◌, ℕ, zero, suc, ◌+◌, ◌-◌, ◌<◌, ◌≤◌, ◌==◌, Bool, true, false, if◌then◌else◌, List, [], ◌∷◌, ◌++◌, length, map, drop, get_or, refl, sym, ap, ◌∙◌, arith, length-drop, drop-drop, get_or-drop}
use Rattle.std.specs.Prelude.{Option, Some, None}
use Rattle.std.proofs.lemmas.Bool.{cond-true, cond-false, eq-eqb, ne_eqb, eqb-true, eqb-false}
use Rattle.kl1_model.specs.declared.built_in.BuiltIn.{BuiltIn}
use Rattle.kl1_model.specs.Term.{Terms, Replacement}
use Rattle.kl1_model.specs.Module.{Clause}
use Rattle.kl1_model.specs.Match.{Answer, yes, no, wait, Candidate, candidate_by, is_no, places_of, verdict}
use Rattle.kl1_model.specs.code.Sections.{candidates_within, candidates_from}
use Rattle.kl1_model.specs.code.Verdicts.{answer_in}
use Rattle.kl1_model.proofs.LeastClause.{AreFrom, are_from, are_from_within}
use Rattle.kl1_model.proofs.VerdictNames.{verdicts_answer, places_in, candidate_in}
use Rattle.kl1_text.specs.Reading.{Reads}
use Rattle.kl1_store.specs.declared.cell.Cell.{Cell}
use Rattle.kl1_store.specs.Held.{Held}
use Rattle.kl1_store.specs.Meaning.{term_of}
use Rattle.kl1_clause.specs.declared.compiled_clause.CompiledClause.{CompiledClause}
use Rattle.kl1_clause.specs.Clauses.{AreCompiled}
use Rattle.kl1_match.specs.declared.place.Place.{Place}
use Rattle.kl1_match.specs.declared.verdict.Verdict.{Verdict}
use Rattle.kl1_match.specs.declared.verdict.Verdict.TheVariants.{Accepts, Rejects, Suspends}
use Rattle.kl1_match.specs.Verdicts.{arguments_of_goal, is_rejection, verdict_with_places, IsVerdict}
use Rattle.kl1_match_verdict.specs.Candidates.{section_at, IsRun, numbered, Takes, AllReject, OneDoesNot}
use Rattle.kl1_match_verdict.proofs.Choosing.{there, as_many}

-- ---- numbers

-- the first of candidates
abbrev pub first_of : List Candidate → Option Candidate
first_of [] = None
first_of (k ∷ ks) = Some k

pub none_numbered : (j n : ℕ) (ks : List Candidate) → j < n → AreFrom n ks → numbered j ks ≡ None
none_numbered j n [] lt a = refl
none_numbered j n (k ∷ ks) lt a =
    let le = a.0 in
    cond-false (k.number == j) (Some k) (numbered j ks) (ne_eqb k.number j (λ e. absurd (omega (arith, le, lt, e)))) ∙ none_numbered j n ks lt a.1

pub at_front : (j n : ℕ) (c : Clause) (ps : List Replacement) (ks : List Candidate) (v : Answer) → j ≡ n → AreFrom (suc n) ks → numbered j (candidate_by n c ps v ++ ks) ≡ first_of (candidate_by j c ps v)
at_front j n c ps ks yes e a =
    cond-true (n == j) (Some (record { number = n; clause = c; places = ps })) (numbered j ks) (eq-eqb n j (sym e)) ∙ ap (λ k. first_of (candidate_by k c ps yes)) (sym e)
at_front j n c ps ks no e a = none_numbered j (suc n) ks (omega (arith, e)) a
at_front j n c ps ks (wait vs) e a = none_numbered j (suc n) ks (omega (arith, e)) a

pub behind_front : (j n : ℕ) (c : Clause) (ps : List Replacement) (ks : List Candidate) (v : Answer) → n < j → numbered j (candidate_by n c ps v ++ ks) ≡ numbered j ks
behind_front j n c ps ks yes lt = cond-false (n == j) (Some (record { number = n; clause = c; places = ps })) (numbered j ks) (ne_eqb n j (λ e. absurd (omega (arith, lt, e))))
behind_front j n c ps ks no lt = refl
behind_front j n c ps ks (wait vs) lt = refl

-- ---- sections

abbrev sections : List Clause → List ℕ
sections cs = map (λ (c : Clause). c.section) cs

sections_same : (names : List (List ℕ)) (cs : List CompiledClause) (ds : List Clause) → AreCompiled names cs ds → map (λ (c : CompiledClause). c.section) cs ≡ sections ds
sections_same names [] [] a = refl
sections_same names [] (d ∷ ds) a = absurd a
sections_same names (c ∷ cs) [] a = absurd a
sections_same names (c ∷ cs) (d ∷ ds) a = ap (λ s. s ∷ map (λ (k : CompiledClause). k.section) cs) a.0.section ∙ ap (λ l. d.section ∷ l) (sections_same names cs ds a.1)

sections_drop : (n : ℕ) (cs : List Clause) → sections (drop n cs) ≡ drop n (sections cs)
sections_drop zero cs = refl
sections_drop (suc n) [] = refl
sections_drop (suc n) (c ∷ cs) = sections_drop n cs

pub same_first : {A : Type 0} {x y : A} {xs ys : List A} → x ∷ xs ≡ y ∷ ys → x ≡ y
same_first e = cc

-- in a run of one section the candidate with a number is its clause, if that accepts
run_within : (j k n s : ℕ) (cs rest : List Clause) (c : Clause) (ts : Terms) → drop k cs ≡ c ∷ rest → ((i : ℕ) → i ≤ k → get_or (sections cs) i 0 ≡ s) → j ≡ n + k → numbered j (candidates_within s n cs ts) ≡ first_of (candidate_by j c (places_of c ts) (verdict c ts))
run_within j zero n s [] rest c ts e run is = absurd (cc)
run_within j (suc k) n s [] rest c ts e run is = absurd (cc)
run_within j zero n s (d ∷ ds) rest c ts e run is =
    ap (λ b. numbered j (if b then candidate_by n d (places_of d ts) (verdict d ts) ++ candidates_within s (suc n) ds ts else [])) (eq-eqb d.section s (run 0 (omega arith)))
    ∙ at_front j n d (places_of d ts) (candidates_within s (suc n) ds ts) (verdict d ts) (omega (arith, is)) (are_from_within s (suc n) ds ts)
    ∙ ap (λ x. first_of (candidate_by j x (places_of x ts) (verdict x ts))) (same_first e)
run_within j (suc k) n s (d ∷ ds) rest c ts e run is =
    ap (λ b. numbered j (if b then candidate_by n d (places_of d ts) (verdict d ts) ++ candidates_within s (suc n) ds ts else [])) (eq-eqb d.section s (run 0 (omega arith)))
    ∙ behind_front j n d (places_of d ts) (candidates_within s (suc n) ds ts) (verdict d ts) (omega (arith, is))
    ∙ run_within j k (suc n) s ds rest c ts e (λ i le. run (suc i) (omega (arith, le))) (omega (arith, is))

nothing_by : (j : ℕ) (c : Clause) (ps : List Replacement) (v : Answer) → is_no v ≡ true → first_of (candidate_by j c ps v) ≡ None
nothing_by j c ps yes e = absurd (cc)
nothing_by j c ps no e = refl
nothing_by j c ps (wait vs) e = refl

run_from : (j k n s : ℕ) (cs rest : List Clause) (c : Clause) (ts : Terms) → drop k cs ≡ c ∷ rest → ((i : ℕ) → i ≤ k → get_or (sections cs) i 0 ≡ s) → j ≡ n + k → numbered j (candidates_from n cs ts) ≡ first_of (candidate_by j c (places_of c ts) (verdict c ts))
run_from j zero n s [] rest c ts e run is = absurd (cc)
run_from j (suc k) n s [] rest c ts e run is = absurd (cc)
run_from j zero n s (d ∷ ds) rest c ts e run is = by (is_no (verdict d ts)) refl
  where
    here : d.section ≡ s
    here = run 0 (omega arith)

    by : (b : Bool) → is_no (verdict d ts) ≡ b → numbered j (candidates_from n (d ∷ ds) ts) ≡ first_of (candidate_by j c (places_of c ts) (verdict c ts))
    by true r =
        ap (λ b. numbered j (if b then candidates_from (suc n) ds ts else candidates_within d.section n (d ∷ ds) ts)) r
        ∙ none_numbered j (suc n) (candidates_from (suc n) ds ts) (omega (arith, is)) (are_from (suc n) ds ts)
        ∙ sym (nothing_by j d (places_of d ts) (verdict d ts) r)
        ∙ ap (λ x. first_of (candidate_by j x (places_of x ts) (verdict x ts))) (same_first e)
    by false r =
        ap (λ b. numbered j (if b then candidates_from (suc n) ds ts else candidates_within d.section n (d ∷ ds) ts)) r
        ∙ ap (λ x. numbered j (candidates_within x n (d ∷ ds) ts)) here
        ∙ run_within j zero n s (d ∷ ds) rest c ts e run is
run_from j (suc k) n s (d ∷ ds) rest c ts e run is =
    by (is_no (verdict d ts)) refl (run_from j k (suc n) s ds rest c ts e (λ i le. run (suc i) (omega (arith, le))) (omega (arith, is)))
  where
    here : d.section ≡ s
    here = run 0 (omega arith)

    by : (b : Bool) → is_no (verdict d ts) ≡ b → numbered j (candidates_from (suc n) ds ts) ≡ first_of (candidate_by j c (places_of c ts) (verdict c ts)) → numbered j (candidates_from n (d ∷ ds) ts) ≡ first_of (candidate_by j c (places_of c ts) (verdict c ts))
    by true r next = ap (λ b. numbered j (if b then candidates_from (suc n) ds ts else candidates_within d.section n (d ∷ ds) ts)) r ∙ next
    by false r next =
        ap (λ b. numbered j (if b then candidates_from (suc n) ds ts else candidates_within d.section n (d ∷ ds) ts)) r
        ∙ ap (λ x. numbered j (candidates_within x n (d ∷ ds) ts)) here
        ∙ run_within j (suc k) n s (d ∷ ds) rest c ts e run is

-- after a clause of another section there is none
section_ends : (j k e n s : ℕ) (cs : List Clause) (ts : Terms) → e ≤ k → e < length cs → (get_or (sections cs) e 0 ≡ s → ⊥) → j ≡ n + k → numbered j (candidates_within s n cs ts) ≡ None
section_ends j k e n s [] ts le lt other is = refl
section_ends j k zero n s (d ∷ ds) ts le lt other is =
    ap (λ b. numbered j (if b then candidate_by n d (places_of d ts) (verdict d ts) ++ candidates_within s (suc n) ds ts else [])) (ne_eqb d.section s other)
section_ends j zero (suc e) n s (d ∷ ds) ts le lt other is = absurd (omega arith)
section_ends j (suc k) (suc e) n s (d ∷ ds) ts le lt other is = by (d.section == s) (section_ends j k e (suc n) s ds ts (omega (arith, le)) (omega (arith, lt)) other (omega (arith, is)))
  where
    by : (b : Bool) → numbered j (candidates_within s (suc n) ds ts) ≡ None → numbered j (if b then candidate_by n d (places_of d ts) (verdict d ts) ++ candidates_within s (suc n) ds ts else []) ≡ None
    by true next = behind_front j n d (places_of d ts) (candidates_within s (suc n) ds ts) (verdict d ts) (omega (arith, is)) ∙ next
    by false next = refl

-- ---- compiled clauses

pub section_is : (cs : List CompiledClause) (place : ℕ) (x : CompiledClause) → place < length cs → (get_or cs place x).section ≡ section_at cs place
section_is [] place x lt = absurd (omega arith)
section_is (c ∷ cs) zero x lt = refl
section_is (c ∷ cs) (suc place) x lt = section_is cs place x (omega (arith, lt))

section_there : (k : ℕ) (cs rest : List Clause) (c : Clause) → drop k cs ≡ c ∷ rest → get_or (sections cs) k 0 ≡ c.section
section_there zero [] rest c e = absurd (cc)
section_there (suc k) [] rest c e = absurd (cc)
section_there zero (d ∷ ds) rest c e = ap (λ (x : Clause). x.section) (same_first e)
section_there (suc k) (d ∷ ds) rest c e = section_there k ds rest c e

-- the section of a clause after others, by those that are left
section_behind : (names : List (List ℕ)) (clauses : List CompiledClause) (cs : List Clause) (start i : ℕ) → AreCompiled names clauses cs → get_or (sections (drop start cs)) i 0 ≡ section_at clauses (start + i)
section_behind names clauses cs start i a =
    ap (λ l. get_or l i 0) (sections_drop start cs) ∙ get_or-drop start (sections cs) i 0 ∙ ap (λ l. get_or l (start + i) 0) (sym (sections_same names clauses cs a))

as_rejected : {N : Type 0} (f : N → List ℕ) (h : Held N) (places : List (Place N)) (named : List ℕ) (given : Verdict) (b : Bool) → is_rejection given ≡ b → is_no (answer_in (verdict_with_places f h places named given)) ≡ b
as_rejected f h places named Accepts b e = e
as_rejected f h places named Rejects b e = e
as_rejected f h places named Suspends b e = e

-- ---- runs

pub run_begins : (cs : List CompiledClause) (place : ℕ) → IsRun cs place place
run_begins cs place i low high = ap (section_at cs) (omega (arith, low, high))

pub run_longer : (cs : List CompiledClause) (start place : ℕ) → 0 < start → section_at cs (start - 1) ≡ section_at cs place → IsRun cs start place → IsRun cs (start - 1) place
run_longer cs start place some e run i low high = by (i == (start - 1)) refl
  where
    by : (b : Bool) → (i == (start - 1)) ≡ b → section_at cs i ≡ section_at cs place
    by true p = let is = eqb-true i (start - 1) p in ap (section_at cs) is ∙ e
    by false p = let ne = eqb-false i (start - 1) p in run i (later ne) high
      where
        later : (i ≡ start - 1 → ⊥) → start ≤ i
        later ne = omega (arith, low, some, ne)

-- ---- clauses that reject

module _ {N : Type 0} (built : BuiltIn → N) (names : List N) (clauses : List CompiledClause) (h : Held N) (goal : Cell N) where
  pub none_reject : AllReject built names clauses h goal 0
  none_reject f reads cs a = refl

  -- what the clause at a place makes of the candidates that are left
  by_one : (place : ℕ) (x : CompiledClause) (places : List (Place N)) (before after : List ℕ) (given : Verdict) (b : Bool) → place < length clauses → is_rejection given ≡ b → IsVerdict built names (get_or clauses place x) h goal places before after given →
      AllReject built names clauses h goal place → (f : N → List ℕ) → Reads built f → (cs : List Clause) → AreCompiled (map f names) clauses cs →
      candidates_from 1 cs (arguments_of_goal (term_of f h goal)) ≡ (if b then candidates_from (suc (suc place)) (drop (suc place) cs) (arguments_of_goal (term_of f h goal)) else candidates_within (section_at clauses place) (suc place) (drop place cs) (arguments_of_goal (term_of f h goal)))
  by_one place x places before after given b lt is v l f reads cs a =
      let ts = arguments_of_goal (term_of f h goal) in
      let t = there (map f names) clauses cs place x a lt in
      let g = v.gives f reads t.clause t.is in
      let rest = drop (suc place) cs in
      let rejects_is : is_no (verdict t.clause ts) ≡ b = ap is_no (sym (verdicts_answer t.clause ts) ∙ ap answer_in g.verdict_is) ∙ as_rejected f h places g.defined given b is in
      let own : t.clause.section ≡ section_at clauses place = sym (ap (λ l. get_or l place 0) (sections_same (map f names) clauses cs a) ∙ section_there place cs rest t.clause t.left) in
      l f reads cs a
      ∙ ap (λ ds. candidates_from (suc place) ds ts) t.left
      ∙ ap (λ q. if q then candidates_from (suc (suc place)) rest ts else candidates_within t.clause.section (suc place) (t.clause ∷ rest) ts) rejects_is
      ∙ ap (λ s. if b then candidates_from (suc (suc place)) rest ts else candidates_within s (suc place) (t.clause ∷ rest) ts) own
      ∙ ap (λ ds. if b then candidates_from (suc (suc place)) rest ts else candidates_within (section_at clauses place) (suc place) ds ts) (sym t.left)

  pub one_rejects : (place : ℕ) (x : CompiledClause) (places : List (Place N)) (before after : List ℕ) (given : Verdict) → place < length clauses → is_rejection given ≡ true → IsVerdict built names (get_or clauses place x) h goal places before after given →
      AllReject built names clauses h goal place → AllReject built names clauses h goal (place + 1)
  one_rejects place x places before after given lt is v l f reads cs a =
      let ts = arguments_of_goal (term_of f h goal) in
      let one : suc place ≡ place + 1 = omega arith in
      by_one place x places before after given true lt is v l f reads cs a ∙ ap (λ n. candidates_from (suc n) (drop n cs) ts) one

  pub one_does_not : (place count : ℕ) (x : CompiledClause) (places : List (Place N)) (before after : List ℕ) (given : Verdict) → place < count → place < length clauses → is_rejection given ≡ false → IsVerdict built names (get_or clauses place x) h goal places before after given →
      AllReject built names clauses h goal place → OneDoesNot built names clauses h goal count
  one_does_not place count x places before after given below lt is v l = record { at = place; below = below; within = λ f reads cs a. by_one place x places before after given false lt is v l f reads cs a }

  -- ---- the clause at a place

  found_there : (start place : ℕ) (rest : List Clause) (c : Clause) → start ≤ place → IsRun clauses start place → AllReject built names clauses h goal start →
      (f : N → List ℕ) → Reads built f → (cs : List Clause) → AreCompiled (map f names) clauses cs → drop place cs ≡ c ∷ rest →
      numbered (suc place) (candidates_from 1 cs (arguments_of_goal (term_of f h goal))) ≡ first_of (candidate_by (suc place) c (places_of c (arguments_of_goal (term_of f h goal))) (verdict c (arguments_of_goal (term_of f h goal))))
  found_there start place rest c le run l f reads cs a e =
      let ts = arguments_of_goal (term_of f h goal) in
      let k = place - start in
      let all : start + k ≡ place = omega (arith, le) in
      ap (numbered (suc place)) (l f reads cs a)
      ∙ run_from (suc place) k (suc start) (section_at clauses place) (drop start cs) rest c ts (drop-drop k start cs ∙ ap (λ n. drop n cs) all ∙ e)
      (λ i low. section_behind (map f names) clauses cs start i a ∙ run (start + i) (omega arith) (omega (arith, low, all))) (omega (arith, all))

  pub it_is_taken : (start place : ℕ) (x : CompiledClause) (places : List (Place N)) (before after : List ℕ) → start ≤ place → place < length clauses → IsRun clauses start place → AllReject built names clauses h goal start →
      IsVerdict built names (get_or clauses place x) h goal places before after Accepts → Takes built names clauses place h goal places true
  it_is_taken start place x places before after le lt run l v = record {
    inside = λ e. v.inside;
    taken = λ f reads cs a.
        let ts = arguments_of_goal (term_of f h goal) in
        let t = there (map f names) clauses cs place x a lt in
        let g = v.gives f reads t.clause t.is in
        record {
          clause = t.clause;
          others = drop (suc place) cs;
          at = t.left;
          found = found_there start place (drop (suc place) cs) t.clause le run l f reads cs a t.left ∙ ap first_of (candidate_in (suc place) t.clause ts (verdict_with_places f h places g.defined Accepts) g.verdict_is);
        };
  }

  pub it_is_not : (start place : ℕ) (x : CompiledClause) (places : List (Place N)) (before after : List ℕ) (given : Verdict) → start ≤ place → place < length clauses → IsRun clauses start place → AllReject built names clauses h goal start →
      IsVerdict built names (get_or clauses place x) h goal places before after given → (given ≡ Accepts → ⊥) → Takes built names clauses place h goal places false
  it_is_not start place x places before after given le lt run l v other = record {
    inside = λ e. absurd (cc);
    taken = λ f reads cs a.
        let t = there (map f names) clauses cs place x a lt in
        let g = v.gives f reads t.clause t.is in
        found_there start place (drop (suc place) cs) t.clause le run l f reads cs a t.left
        ∙ ap first_of (candidate_in (suc place) t.clause (arguments_of_goal (term_of f h goal)) (verdict_with_places f h places g.defined given) g.verdict_is)
        ∙ none_by f t.clause g.defined given other;
  }
    where
      none_by : (f : N → List ℕ) (c : Clause) (named : List ℕ) (w : Verdict) → (w ≡ Accepts → ⊥) → first_of (candidate_by (suc place) c (places_in (verdict_with_places f h places named w)) (answer_in (verdict_with_places f h places named w))) ≡ None
      none_by f c named Accepts ne = absurd (ne refl)
      none_by f c named Rejects ne = refl
      none_by f c named Suspends ne = refl

  -- a clause above the section doesn't reject
  pub it_is_closed : (start place : ℕ) (places : List (Place N)) → start ≤ place → place < length clauses → (0 < start → section_at clauses (start - 1) ≡ section_at clauses place → ⊥) → OneDoesNot built names clauses h goal start → Takes built names clauses place h goal places false
  it_is_closed start place places le lt first o = record {
    inside = λ e. absurd (cc);
    taken = λ f reads cs a. ap (numbered (suc place)) (o.within f reads cs a) ∙ closed f cs a (section_at clauses o.at == section_at clauses place) refl;
  }
    where
      ends : (f : N → List ℕ) (cs : List Clause) → AreCompiled (map f names) clauses cs → (e : ℕ) → o.at ≤ e → e ≤ place → (section_at clauses e ≡ section_at clauses o.at → ⊥) → numbered (suc place) (candidates_within (section_at clauses o.at) (suc o.at) (drop o.at cs) (arguments_of_goal (term_of f h goal))) ≡ None
      ends f cs a e low high other =
          let at_e : o.at + (e - o.at) ≡ e = omega (arith, low) in
          let count : length cs ≡ length clauses = as_many (map f names) clauses cs a in
          section_ends (suc place) (place - o.at) (e - o.at) (suc o.at) (section_at clauses o.at) (drop o.at cs) (arguments_of_goal (term_of f h goal)) (omega (arith, low, high)) (omega (arith, low, high, lt, count, length-drop o.at cs))
          (λ q. other (sym (section_behind (map f names) clauses cs o.at (e - o.at) a ∙ ap (section_at clauses) at_e) ∙ q)) (omega (arith, low, high))

      closed : (f : N → List ℕ) (cs : List Clause) → AreCompiled (map f names) clauses cs → (b : Bool) → (section_at clauses o.at == section_at clauses place) ≡ b → numbered (suc place) (candidates_within (section_at clauses o.at) (suc o.at) (drop o.at cs) (arguments_of_goal (term_of f h goal))) ≡ None
      closed f cs a true p =
          let same = eqb-true (section_at clauses o.at) (section_at clauses place) p in
          let below = o.below in
          ends f cs a (start - 1) (omega (arith, below)) (omega (arith, le)) (λ q. first (omega (arith, below)) (q ∙ same))
      closed f cs a false p =
          let below = o.below in
          ends f cs a place (omega (arith, below, le)) (omega arith) (λ q. eqb-false (section_at clauses o.at) (section_at clauses place) p (sym q))

pub never_accepts_rejects : Rejects ≡ Accepts → ⊥
never_accepts_rejects e = absurd (cc)

pub never_accepts_suspends : Suspends ≡ Accepts → ⊥
never_accepts_suspends e = absurd (cc)
