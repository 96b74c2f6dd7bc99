-- Clauses that are tried one after another.
use Rattle.std.proofs.Common.{◌≡◌, ℕ, zero, suc, ◌+◌, ◌<◌, ◌≤◌, Bool, true, false, List, [], ◌∷◌, ◌++◌, length, map, drop, get_or, refl, sym, ap, ap₂, ◌∙◌, subst, arith, append_assoc, append-nil}
use Rattle.std.proofs.Common.{◌==◌, if◌then◌else◌, not}
use Rattle.std.specs.Prelude.{Option, Some, None}
use Rattle.std.proofs.lemmas.Bool.{eqb-true}
use Rattle.std.proofs.lemmas.List.{drop_all}
use Rattle.kl1_model.specs.declared.built_in.BuiltIn.{BuiltIn}
use Rattle.kl1_model.specs.Term.{Terms}
use Rattle.kl1_model.specs.Module.{Clause}
use Rattle.kl1_model.specs.code.Verdicts as model
use Rattle.kl1_model.specs.Match.{verdict}
use Rattle.kl1_model.specs.code.Verdicts.{named_verdict, answer_in, named_in}
use Rattle.kl1_model.specs.code.Waits.{by_answer, least_within, least_from, least_clause, awaited_after, awaited_within, awaited_by_clause, awaited_by_clauses}
use Rattle.kl1_model.proofs.VerdictNames.{verdicts_answer, verdicts_name}
use Rattle.kl1_text.specs.Reading.{Reads}
use Rattle.kl1_store.specs.declared.cell.Cell.{Cell}
use Rattle.kl1_store.specs.Held.{Held}
use Rattle.kl1_store.specs.Meaning.{term_of}
use Rattle.kl1_clause.specs.declared.compiled_clause.CompiledClause.{CompiledClause}
use Rattle.kl1_clause.specs.Clauses.{IsCompiled, AreCompiled}
use Rattle.kl1_match.specs.declared.place.Place.{Place}
use Rattle.kl1_match.specs.declared.verdict.Verdict.{Verdict}
use Rattle.kl1_match.specs.declared.verdict.Verdict.TheVariants.{Accepts, Rejects, Suspends}
use Rattle.kl1_match.specs.Instances.{IsClause}
use Rattle.kl1_match.specs.Waiting.{AreUnbound, AreSame}
use Rattle.kl1_match.specs.Verdicts.{arguments_of_goal, verdict_with_places, IsVerdict}
use Rattle.kl1_match_verdict.specs.Choices.{AreClauses, IsChoice, is_past, without_clause}
use Rattle.kl1_match.proofs.Naming.{same_as_itself, more_same}
use Rattle.kl1_match.proofs.Coming.{AreUnbound-append, more_named}

-- ---- clauses at places

pub clause_in : {N : Type 0} (names : List N) (cs : List CompiledClause) (place : ℕ) (x : CompiledClause) → AreClauses names cs → place < length cs → IsClause names (get_or cs place x)
clause_in names [] place x a lt = absurd (omega arith)
clause_in names (c ∷ cs) zero x a lt = a.0
clause_in names (c ∷ cs) (suc place) x a lt = clause_in names cs place x a.1 (omega arith)

-- the clause that a compiled one at a place is, and those after it
pub record IsThere (names : List (List ℕ)) (compiled : CompiledClause) (ds : List Clause) (place : ℕ) : Type 0 where
  pub clause : Clause
  pub left : drop place ds ≡ clause ∷ drop (suc place) ds
  pub is : IsCompiled names compiled clause

pub there : (names : List (List ℕ)) (cs : List CompiledClause) (ds : List Clause) (place : ℕ) (x : CompiledClause) → AreCompiled names cs ds → place < length cs → IsThere names (get_or cs place x) ds place
there names [] ds place x a lt = absurd (omega arith)
there names (c ∷ cs) [] place x a lt = absurd a
there names (c ∷ cs) (d ∷ ds) zero x a lt = record { clause = d; left = refl; is = a.0 }
there names (c ∷ cs) (d ∷ ds) (suc place) x a lt = let r = there names cs ds place x a.1 (omega arith) in record { clause = r.clause; left = r.left; is = r.is }

pub as_many : (names : List (List ℕ)) (cs : List CompiledClause) (ds : List Clause) → AreCompiled names cs ds → length ds ≡ length cs
as_many names [] [] a = refl
as_many names [] (d ∷ ds) a = absurd a
as_many names (c ∷ cs) [] a = absurd a
as_many names (c ∷ cs) (d ∷ ds) a = ap suc (as_many names cs ds a.1)

-- ---- the clauses that are left

-- the answer of the clauses that are left, by whether one before them waits in a section
abbrev pub least_left : Option ℕ → ℕ → List Clause → Terms → Option ℕ
least_left None n cs ts = least_from n cs ts
least_left (Some section) n cs ts = least_within section n cs ts

-- the variables that they wait for
abbrev pub awaited_left : Option ℕ → List Clause → Terms → List ℕ
awaited_left None cs ts = awaited_by_clauses cs ts
awaited_left (Some section) cs ts = awaited_within section cs ts

-- the clauses from a place on give the answer of all, with what those before it wait for
pub record IsLeftOf (cs : List Clause) (ts : Terms) (named : List ℕ) (tried : ℕ) (waiting : Option ℕ) : Type 0 where
  pub answer : least_left waiting (suc tried) (drop tried cs) ts ≡ least_clause cs ts
  pub defined : List ℕ
  pub same : AreSame named defined
  pub awaited : awaited_by_clauses cs ts ≡ defined ++ awaited_left waiting (drop tried cs) ts

-- the compiled clauses from a place on give the answer of all, for each reading of the names
pub record ChoosesFrom {N : Type 0} (built : BuiltIn → N) (names : List N) (clauses : List CompiledClause) (h : Held N) (goal : Cell N) (before now : List ℕ) (tried : ℕ) (waiting : Option ℕ) : Type 0 where
  pub within : tried ≤ length clauses
  pub named : List ℕ
  pub unbound : AreUnbound h named
  pub awaited : now ≡ before ++ named
  pub left : (f : N → List ℕ) → Reads built f → (cs : List Clause) → AreCompiled (map f names) clauses cs → IsLeftOf cs (arguments_of_goal (term_of f h goal)) named tried waiting

pub none_tried : {N : Type 0} (built : BuiltIn → N) (names : List N) (clauses : List CompiledClause) (h : Held N) (goal : Cell N) (before : List ℕ) → ChoosesFrom built names clauses h goal before before 0 None
none_tried built names clauses h goal before = record {
  within = omega arith;
  named = [];
  unbound = tt;
  awaited = sym (append-nil before);
  left = λ f reads cs a. record { answer = refl; defined = []; same = same_as_itself []; awaited = refl };
}

-- ---- a clause of the section

here_within : (s n : ℕ) (d : Clause) (rest : List Clause) (ts : Terms) → d.section ≡ s → (d.section == s) ≡ true →
    least_within s n (d ∷ rest) ts ≡ by_answer (Some n) (least_within s (suc n) rest ts) (least_within d.section (suc n) rest ts) (verdict d ts)
here_within s n d rest ts e is =
    ap (λ b. if b then by_answer (Some n) (least_within s (suc n) rest ts) (least_within s (suc n) rest ts) (verdict d ts) else None) is
    ∙ ap (λ k. by_answer (Some n) (least_within s (suc n) rest ts) (least_within k (suc n) rest ts) (verdict d ts)) (sym e)

awaited_here : (s : ℕ) (d : Clause) (rest : List Clause) (ts : Terms) → d.section ≡ s → (d.section == s) ≡ true →
    awaited_within s (d ∷ rest) ts ≡ awaited_after (verdict d ts) (awaited_by_clause d ts) (awaited_within s rest ts) (awaited_within d.section rest ts)
awaited_here s d rest ts e is =
    ap (λ b. if b then awaited_after (verdict d ts) (awaited_by_clause d ts) (awaited_within s rest ts) (awaited_within s rest ts) else []) is
    ∙ ap (λ k. awaited_after (verdict d ts) (awaited_by_clause d ts) (awaited_within s rest ts) (awaited_within k rest ts)) (sym e)

not_other : (b : Bool) → not b ≡ false → b ≡ true
not_other true e = refl
not_other false e = absurd (cc)

other : (b : Bool) → not b ≡ true → b ≡ false
other true e = absurd (cc)
other false e = refl

least_here : (waiting : Option ℕ) (n : ℕ) (d : Clause) (rest : List Clause) (ts : Terms) → is_past waiting d.section ≡ false →
    least_left waiting n (d ∷ rest) ts ≡ by_answer (Some n) (least_left waiting (suc n) rest ts) (least_within d.section (suc n) rest ts) (verdict d ts)
least_here None n d rest ts e = refl
least_here (Some s) n d rest ts e = let is = not_other (d.section == s) e in here_within s n d rest ts (eqb-true d.section s is) is

waits_here : (waiting : Option ℕ) (d : Clause) (rest : List Clause) (ts : Terms) → is_past waiting d.section ≡ false →
    awaited_left waiting (d ∷ rest) ts ≡ awaited_after (verdict d ts) (awaited_by_clause d ts) (awaited_left waiting rest ts) (awaited_within d.section rest ts)
waits_here None d rest ts e = refl
waits_here (Some s) d rest ts e = let is = not_other (d.section == s) e in awaited_here s d rest ts (eqb-true d.section s is) is

-- a clause of another section ends the search

none_past : (waiting : Option ℕ) (n : ℕ) (d : Clause) (rest : List Clause) (ts : Terms) → is_past waiting d.section ≡ true → least_left waiting n (d ∷ rest) ts ≡ None
none_past None n d rest ts e = absurd (cc)
none_past (Some s) n d rest ts e = ap (λ b. if b then by_answer (Some n) (least_within s (suc n) rest ts) (least_within s (suc n) rest ts) (verdict d ts) else None) (other (d.section == s) e)

nothing_past : (waiting : Option ℕ) (d : Clause) (rest : List Clause) (ts : Terms) → is_past waiting d.section ≡ true → awaited_left waiting (d ∷ rest) ts ≡ []
nothing_past None d rest ts e = absurd (cc)
nothing_past (Some s) d rest ts e = ap (λ b. if b then awaited_after (verdict d ts) (awaited_by_clause d ts) (awaited_within s rest ts) (awaited_within s rest ts) else []) (other (d.section == s) e)

-- ---- a verdict more

-- what a clause's verdict leads to
record LeadsTo (cs : List Clause) (ts : Terms) (defined : List ℕ) (tried section : ℕ) (waiting : Option ℕ) (v : model.Verdict) : Type 0 where
  pub answer : by_answer (Some (suc tried)) (least_left waiting (suc (suc tried)) (drop (suc tried) cs) ts) (least_within section (suc (suc tried)) (drop (suc tried) cs) ts) (answer_in v) ≡ least_clause cs ts
  pub awaited : awaited_by_clauses cs ts ≡ defined ++ awaited_after (answer_in v) (named_in v) (awaited_left waiting (drop (suc tried) cs) ts) (awaited_within section (drop (suc tried) cs) ts)

leads_to : (cs : List Clause) (ts : Terms) (named : List ℕ) (tried : ℕ) (waiting : Option ℕ) (d : Clause) (v : model.Verdict) → drop tried cs ≡ d ∷ drop (suc tried) cs → is_past waiting d.section ≡ false → named_verdict d ts ≡ v →
    (l : IsLeftOf cs ts named tried waiting) → LeadsTo cs ts l.defined tried d.section waiting v
leads_to cs ts named tried waiting d v e near is l =
    let rest = drop (suc tried) cs in
    let said : verdict d ts ≡ answer_in v = sym (verdicts_answer d ts) ∙ ap answer_in is in
    let named_is : awaited_by_clause d ts ≡ named_in v = verdicts_name d ts ∙ ap named_in is in
    record {
      answer =
          sym (ap (λ ds. least_left waiting (suc tried) ds ts) e ∙ (least_here waiting (suc tried) d rest ts near
          ∙ ap (by_answer (Some (suc tried)) (least_left waiting (suc (suc tried)) rest ts) (least_within d.section (suc (suc tried)) rest ts)) said)) ∙ l.answer;
      awaited =
          l.awaited ∙ (ap (λ ds. l.defined ++ awaited_left waiting ds ts) e ∙ (ap (λ ws. l.defined ++ ws) (waits_here waiting d rest ts near)
          ∙ ap₂ (λ a (ws : List ℕ). l.defined ++ awaited_after a ws (awaited_left waiting rest ts) (awaited_within d.section rest ts)) said named_is));
    }

-- what the verdict of the clause at a place leads to, for one reading
record Judged (cs : List Clause) (ts : Terms) (tried section : ℕ) (waiting : Option ℕ) (named more : List ℕ) (Given : List ℕ → model.Verdict) : Type 0 where
  pub before : List ℕ
  pub before_same : AreSame named before
  pub added : List ℕ
  pub added_same : AreSame more added
  pub leads : LeadsTo cs ts before tried section waiting (Given added)

judged : {N : Type 0} (built : BuiltIn → N) (names : List N) (clauses : List CompiledClause) (h : Held N) (goal : Cell N) (before now next : List ℕ) (tried : ℕ) (waiting : Option ℕ) (x : CompiledClause) (places : List (Place N)) (given : Verdict) →
    tried < length clauses → is_past waiting (get_or clauses tried x).section ≡ false → (all : ChoosesFrom built names clauses h goal before now tried waiting) → (v : IsVerdict built names (get_or clauses tried x) h goal places now next given) →
    (f : N → List ℕ) → Reads built f → (cs : List Clause) → AreCompiled (map f names) clauses cs →
    Judged cs (arguments_of_goal (term_of f h goal)) tried (get_or clauses tried x).section waiting all.named v.named (λ added. verdict_with_places f h places added given)
judged built names clauses h goal before now next tried waiting x places given lt near all v = λ f reads cs a.
    let ts = arguments_of_goal (term_of f h goal) in
    let t = there (map f names) clauses cs tried x a lt in
    let l = all.left f reads cs a in
    let g = v.gives f reads t.clause t.is in
    let w = verdict_with_places f h places g.defined given in
    let L : ℕ → Type 0 = λ s. LeadsTo cs ts l.defined tried s waiting w in
    record {
      before = l.defined;
      before_same = l.same;
      added = g.defined;
      added_same = g.same;
      leads = subst L (sym t.is.section) (leads_to cs ts all.named tried waiting t.clause w t.left (sym (ap (is_past waiting) t.is.section) ∙ near) g.verdict_is l);
    }

pub accepted_there : {N : Type 0} (built : BuiltIn → N) (names : List N) (clauses : List CompiledClause) (h : Held N) (goal : Cell N) (before now next : List ℕ) (tried : ℕ) (waiting : Option ℕ) (x : CompiledClause) (places : List (Place N)) →
    tried < length clauses → is_past waiting (get_or clauses tried x).section ≡ false → ChoosesFrom built names clauses h goal before now tried waiting → IsVerdict built names (get_or clauses tried x) h goal places now next Accepts →
    IsChoice built names clauses h goal before next (Some (tried + 1))
accepted_there built names clauses h goal before now next tried waiting x places lt near all v = record {
  named = all.named ++ v.named;
  unbound = AreUnbound-append h all.named v.named all.unbound v.unbound;
  awaited = more_named before now next all.named v.named all.awaited v.awaited;
  chooses = λ f reads cs a.
      let ts = arguments_of_goal (term_of f h goal) in
      let t = judged built names clauses h goal before now next tried waiting x places Accepts lt near all v f reads cs a in
      let one : tried + 1 ≡ suc tried = omega arith in
      let S : List ℕ → Type 0 = λ ws. AreSame (all.named ++ v.named) ws in
      let T : List ℕ → Type 0 = λ ws. AreSame ws [] in
      record {
        clause = ap (λ n. Some n) one ∙ t.leads.answer;
        awaited = subst S (sym t.leads.awaited) (more_same all.named t.before v.named [] t.before_same (subst T (sym v.named_as) (same_as_itself [])));
      };
}

pub rejected_there : {N : Type 0} (built : BuiltIn → N) (names : List N) (clauses : List CompiledClause) (h : Held N) (goal : Cell N) (before now next : List ℕ) (tried : ℕ) (waiting : Option ℕ) (x : CompiledClause) (places : List (Place N)) →
    tried < length clauses → is_past waiting (get_or clauses tried x).section ≡ false → ChoosesFrom built names clauses h goal before now tried waiting → IsVerdict built names (get_or clauses tried x) h goal places now next Rejects →
    ChoosesFrom built names clauses h goal before next (tried + 1) waiting
rejected_there built names clauses h goal before now next tried waiting x places lt near all v =
    let one : suc tried ≡ tried + 1 = omega arith in
    record {
      within = omega arith;
      named = all.named ++ v.named;
      unbound = AreUnbound-append h all.named v.named all.unbound v.unbound;
      awaited = more_named before now next all.named v.named all.awaited v.awaited;
      left = λ f reads cs a.
          let ts = arguments_of_goal (term_of f h goal) in
          let t = judged built names clauses h goal before now next tried waiting x places Rejects lt near all v f reads cs a in
          let L : ℕ → Type 0 = λ n. IsLeftOf cs ts (all.named ++ v.named) n waiting in
          subst L one (record {
            answer = t.leads.answer;
            defined = t.before ++ t.added;
            same = more_same all.named t.before v.named t.added t.before_same t.added_same;
            awaited = t.leads.awaited ∙ sym (append_assoc t.before t.added (awaited_left waiting (drop (suc tried) cs) ts));
          });
    }

pub suspended_there : {N : Type 0} (built : BuiltIn → N) (names : List N) (clauses : List CompiledClause) (h : Held N) (goal : Cell N) (before now next : List ℕ) (tried : ℕ) (waiting : Option ℕ) (x : CompiledClause) (places : List (Place N)) →
    tried < length clauses → is_past waiting (get_or clauses tried x).section ≡ false → ChoosesFrom built names clauses h goal before now tried waiting → IsVerdict built names (get_or clauses tried x) h goal places now next Suspends →
    ChoosesFrom built names clauses h goal before next (tried + 1) (Some (get_or clauses tried x).section)
suspended_there built names clauses h goal before now next tried waiting x places lt near all v =
    let one : suc tried ≡ tried + 1 = omega arith in
    let section = (get_or clauses tried x).section in
    record {
      within = omega arith;
      named = all.named ++ v.named;
      unbound = AreUnbound-append h all.named v.named all.unbound v.unbound;
      awaited = more_named before now next all.named v.named all.awaited v.awaited;
      left = λ f reads cs a.
          let ts = arguments_of_goal (term_of f h goal) in
          let t = judged built names clauses h goal before now next tried waiting x places Suspends lt near all v f reads cs a in
          let L : ℕ → Type 0 = λ n. IsLeftOf cs ts (all.named ++ v.named) n (Some section) in
          subst L one (record {
            answer = t.leads.answer;
            defined = t.before ++ t.added;
            same = more_same all.named t.before v.named t.added t.before_same t.added_same;
            awaited = t.leads.awaited ∙ sym (append_assoc t.before t.added (awaited_within section (drop (suc tried) cs) ts));
          });
    }

-- ---- the end of the search

-- what was named is what is waited for, if nothing is left to wait for
all_named : (cs : List Clause) (ts : Terms) (named : List ℕ) (tried : ℕ) (waiting : Option ℕ) (l : IsLeftOf cs ts named tried waiting) → awaited_left waiting (drop tried cs) ts ≡ [] → AreSame named (awaited_by_clauses cs ts)
all_named cs ts named tried waiting l none =
    let S : List ℕ → Type 0 = λ ws. AreSame named ws in
    subst S (sym (l.awaited ∙ (ap (λ ws. l.defined ++ ws) none ∙ append-nil l.defined))) l.same

pub section_ended : {N : Type 0} (built : BuiltIn → N) (names : List N) (clauses : List CompiledClause) (h : Held N) (goal : Cell N) (before now : List ℕ) (tried : ℕ) (waiting : Option ℕ) (x : CompiledClause) →
    tried < length clauses → is_past waiting (get_or clauses tried x).section ≡ true → ChoosesFrom built names clauses h goal before now tried waiting → IsChoice built names clauses h goal before now None
section_ended built names clauses h goal before now tried waiting x lt past all = record {
  named = all.named;
  unbound = all.unbound;
  awaited = all.awaited;
  chooses = λ f reads cs a.
      let ts = arguments_of_goal (term_of f h goal) in
      let t = there (map f names) clauses cs tried x a lt in
      let l = all.left f reads cs a in
      let rest = drop (suc tried) cs in
      let behind : is_past waiting t.clause.section ≡ true = sym (ap (is_past waiting) t.is.section) ∙ past in
      record {
        clause = sym (ap (λ ds. least_left waiting (suc tried) ds ts) t.left ∙ none_past waiting (suc tried) t.clause rest ts behind) ∙ l.answer;
        awaited = all_named cs ts all.named tried waiting l (ap (λ ds. awaited_left waiting ds ts) t.left ∙ nothing_past waiting t.clause rest ts behind);
      };
}

least_of_none : (waiting : Option ℕ) (n : ℕ) (ts : Terms) → least_left waiting n [] ts ≡ without_clause waiting
least_of_none None n ts = refl
least_of_none (Some s) n ts = refl

awaited_of_none : (waiting : Option ℕ) (ts : Terms) → awaited_left waiting [] ts ≡ []
awaited_of_none None ts = refl
awaited_of_none (Some s) ts = refl

pub all_tried : {N : Type 0} (built : BuiltIn → N) (names : List N) (clauses : List CompiledClause) (h : Held N) (goal : Cell N) (before now : List ℕ) (tried : ℕ) (waiting : Option ℕ) →
    length clauses ≤ tried → ChoosesFrom built names clauses h goal before now tried waiting → IsChoice built names clauses h goal before now (without_clause waiting)
all_tried built names clauses h goal before now tried waiting le all = record {
  named = all.named;
  unbound = all.unbound;
  awaited = all.awaited;
  chooses = λ f reads cs a.
      let ts = arguments_of_goal (term_of f h goal) in
      let l = all.left f reads cs a in
      let none : drop tried cs ≡ [] = drop_all tried cs (omega (arith, as_many (map f names) clauses cs a)) in
      record {
        clause = sym (ap (λ ds. least_left waiting (suc tried) ds ts) none ∙ least_of_none waiting (suc tried) ts) ∙ l.answer;
        awaited = all_named cs ts all.named tried waiting l (ap (λ ds. awaited_left waiting ds ts) none ∙ awaited_of_none waiting ts);
      };
}
