-- What is left of a clause's patterns, for each reading of the names.
use Rattle.std.proofs.Common.{◌≡◌, ℕ, zero, suc, ◌+◌, ◌<◌, ◌≤◌, List, [], ◌∷◌, ◌++◌, length, map, drop, get_or, refl, sym, ap, ◌∙◌, subst, arith, drop-cons, take, append_assoc, append-nil, length-append}
use Rattle.std.proofs.Math.Seq.{take-append_seam}
use Rattle.std.proofs.lemmas.List.{drop_all}
use Rattle.kl1_model.specs.declared.built_in.BuiltIn.{BuiltIn}
use Rattle.kl1_model.specs.Term.{Term, Terms, more}
use Rattle.kl1_model.specs.code.TermCode.{nodes_of_all}
use Rattle.kl1_model.specs.Module.{Clause}
use Rattle.kl1_model.specs.Answer.{no, wait, together, awaited_in}
use Rattle.kl1_model.specs.Match.{Match, match_patterns, each_answer, guard_answer}
use Rattle.kl1_model.specs.code.Verdicts.{accepts, rejects, named_verdict, verdict_with}
use Rattle.kl1_text.specs.Reading.{Reads}
use Rattle.kl1_store.specs.declared.cell.Cell.{Cell}
use Rattle.kl1_store.specs.Held.{Held}
use Rattle.kl1_store.specs.Meaning.{term_of, terms_of}
use Rattle.kl1_clause.specs.declared.compiled_clause.CompiledClause.{CompiledClause}
use Rattle.kl1_clause.specs.declared.instruction.Instruction.{Instruction}
use Rattle.kl1_clause.specs.Instructions.{IsNamed, AreNamed, code_in}
use Rattle.kl1_clause.specs.Clauses.{IsCompiled}
use Rattle.kl1_clause.specs.Plain.{IsPlain}
use Rattle.kl1_match.specs.declared.place.Place.{Place}
use Rattle.kl1_match.specs.declared.verdict.Verdict.{Verdict}
use Rattle.kl1_match.specs.declared.verdict.Verdict.TheVariants.{Accepts, Rejects, Suspends}
use Rattle.kl1_match.specs.Instances.{AreThere, IsClause, replacements_of}
use Rattle.kl1_match.specs.Matching.{Continues, Decides}
use Rattle.kl1_match.specs.Verdicts.{arguments_of_goal, NamesAs, GivesMatch, IsTried, IsVerdict}
use Rattle.kl1_match.specs.Waiting.{IsUnbound, AreUnbound}
use Rattle.kl1_match.proofs.Answered.{matched_with, so_far, IsLeft, IsNext, begun, next_of, agreed, waited, clashed, no_terms, no_patterns, all_matched}
use Rattle.kl1_match.proofs.Naming.{same_as_itself}
use Rattle.kl1_match.proofs.Alone.{plain_verdict}

-- what is left from a place of the row on, and of cells, gives the answer of all, for each reading
pub record GivesAll {N : Type 0} (built : BuiltIn → N) (names : List N) (compiled : CompiledClause) (h : Held N) (goal : Cell N) (at : ℕ) (cells : List (Cell N)) (places : List (Place N)) (before after : List ℕ) : Type 0 where
  pub below : at ≤ length compiled.patterns.items
  pub places_in : AreThere h places
  pub named : List ℕ
  pub awaited : after ≡ before ++ named
  pub unbound : AreUnbound h named
  pub left : (f : N → List ℕ) → Reads built f → (clause : Clause) → IsCompiled (map f names) compiled clause →
      IsLeft f h clause.patterns (arguments_of_goal (term_of f h goal)) (map (code_in (map f names)) (drop at compiled.patterns.items)) cells places named

AreUnbound-push : {N : Type 0} (h : Held N) (vs : List ℕ) (v : ℕ) → AreUnbound h vs → IsUnbound h v → AreUnbound h (vs ++ v ∷ [])
AreUnbound-push h [] v a u = (u, tt)
AreUnbound-push h (w ∷ vs) v a u = (a.0, AreUnbound-push h vs v a.1 u)

-- ---- names

named_in : (count : ℕ) (row : List Instruction) (at : ℕ) (i : Instruction) → AreNamed count row → at < length row → IsNamed count (get_or row at i)
named_in count [] at i named lt = absurd (omega arith)
named_in count (k ∷ row) zero i named lt = named.0
named_in count (k ∷ row) (suc at) i named lt = named_in count row at i named.1 (omega arith)

pub named_at : {N : Type 0} (names : List N) (compiled : CompiledClause) (at : ℕ) (i : Instruction) → IsClause names compiled → at < length compiled.patterns.items → IsNamed (length names) (get_or compiled.patterns.items at i)
named_at names compiled at i c lt =
    let P : ℕ → Type 0 = λ n. IsNamed n (get_or compiled.patterns.items at i) in
    subst P c.count (named_in (length c.texts) compiled.patterns.items at i c.is.patterns.named lt)

-- ---- steps

pub starts : {N : Type 0} (built : BuiltIn → N) (names : List N) (compiled : CompiledClause) (h : Held N) (goal : Cell N) (cells : List (Cell N)) (places : List (Place N)) (before : List ℕ) →
    ((f : N → List ℕ) → terms_of f h cells ≡ arguments_of_goal (term_of f h goal)) → places ≡ [] → GivesAll built names compiled h goal 0 cells places before before
starts {N = N} built names compiled h goal cells places before means empty =
    let P : List (Place N) → Type 0 = λ l. AreThere h l in
    record {
      below = omega arith;
      places_in = subst P (sym empty) tt;
      named = [];
      awaited = sym (append-nil before);
      unbound = tt;
      left = λ f reads clause is. begun f h clause.patterns (arguments_of_goal (term_of f h goal)) (map (code_in (map f names)) compiled.patterns.items) cells places is.patterns.nodes_are (means f) empty;
    }

row_at : (names : List (List ℕ)) (row : List Instruction) (at : ℕ) (i : Instruction) → at < length row → map (code_in names) (drop at row) ≡ code_in names (get_or row at i) ∷ map (code_in names) (drop (at + 1) row)
row_at names row at i lt =
    let one : suc at ≡ at + 1 = omega arith in
    ap (map (code_in names)) (drop-cons row at i lt) ∙ ap (λ n. code_in names (get_or row at i) ∷ map (code_in names) (drop n row)) one

next_at : {N : Type 0} (built : BuiltIn → N) (names : List N) (compiled : CompiledClause) (h : Held N) (goal x : Cell N) (at : ℕ) (i : Instruction) (cells rest : List (Cell N)) (places : List (Place N)) (before after : List ℕ) →
    at < length compiled.patterns.items → cells ≡ x ∷ rest → (all : GivesAll built names compiled h goal at cells places before after) →
    (f : N → List ℕ) → Reads built f → (clause : Clause) → IsCompiled (map f names) compiled clause →
    IsNext f h clause.patterns (arguments_of_goal (term_of f h goal)) (code_in (map f names) (get_or compiled.patterns.items at i)) (map (code_in (map f names)) (drop (at + 1) compiled.patterns.items)) x rest places all.named
next_at built names compiled h goal x at i cells rest places before after lt popped all = λ f reads clause is.
    next_of f h clause.patterns (arguments_of_goal (term_of f h goal)) (code_in (map f names) (get_or compiled.patterns.items at i)) (map (code_in (map f names)) (drop at compiled.patterns.items)) (map (code_in (map f names)) (drop (at + 1) compiled.patterns.items)) x cells rest places all.named
    (row_at (map f names) compiled.patterns.items at i lt) popped (all.left f reads clause is)

pub goes_on : {N : Type 0} (built : BuiltIn → N) (names : List N) (compiled : CompiledClause) (h : Held N) (goal x : Cell N) (at : ℕ) (i : Instruction) (cells rest now : List (Cell N)) (places longer : List (Place N)) (before after : List ℕ) →
    at < length compiled.patterns.items → cells ≡ x ∷ rest → GivesAll built names compiled h goal at cells places before after →
    Continues built h names (get_or compiled.patterns.items at i) x rest now places longer → GivesAll built names compiled h goal (at + 1) now longer before after
goes_on built names compiled h goal x at i cells rest now places longer before after lt popped all met = record {
  below = omega arith;
  places_in = met.places_in;
  named = all.named;
  awaited = all.awaited;
  unbound = all.unbound;
  left = λ f reads clause is.
      let n = next_at built names compiled h goal x at i cells rest places before after lt popped all f reads clause is in
      agreed f h clause.patterns (arguments_of_goal (term_of f h goal)) (code_in (map f names) (get_or compiled.patterns.items at i)) (map (code_in (map f names)) (drop (at + 1) compiled.patterns.items)) x rest now places longer all.named n
      (met.goes_into f reads n.first n.begins);
}

pub waits_there : {N : Type 0} (built : BuiltIn → N) (names : List N) (compiled : CompiledClause) (h : Held N) (goal x : Cell N) (at next : ℕ) (i : Instruction) (cells rest now : List (Cell N)) (places longer : List (Place N)) (before after later : List ℕ) (v : ℕ) →
    at < length compiled.patterns.items → cells ≡ x ∷ rest → GivesAll built names compiled h goal at cells places before after →
    Decides built h names (get_or compiled.patterns.items at i) x rest now places longer (wait (v ∷ [])) → IsUnbound h v → later ≡ after ++ v ∷ [] → next ≤ length compiled.patterns.items →
    ((texts : List (List ℕ)) (p : Term) (ps : Terms) → map (code_in texts) (drop at compiled.patterns.items) ≡ nodes_of_all (more p ps) → map (code_in texts) (drop next compiled.patterns.items) ≡ nodes_of_all ps) →
    GivesAll built names compiled h goal next now longer before later
waits_there {N = N} built names compiled h goal x at next i cells rest now places longer before after later v lt popped all met unbound e le skips =
    let P : List (Cell N) → Type 0 = λ l. GivesAll built names compiled h goal next l longer before later in
    let Q : List (Place N) → Type 0 = λ l. GivesAll built names compiled h goal next rest l before later in
    subst P (sym met.cells_are) (subst Q (sym met.places_are) (record {
      below = le;
      places_in = all.places_in;
      named = all.named ++ v ∷ [];
      awaited = e ∙ ap (λ l. l ++ v ∷ []) all.awaited ∙ append_assoc before all.named (v ∷ []);
      unbound = AreUnbound-push h all.named v all.unbound unbound;
      left = λ f reads clause is.
          let n = next_at built names compiled h goal x at i cells rest places before after lt popped all f reads clause is in
          let c = code_in (map f names) (get_or compiled.patterns.items at i) in
          let behind = map (code_in (map f names)) (drop (at + 1) compiled.patterns.items) in
          waited f h clause.patterns (arguments_of_goal (term_of f h goal)) c behind (map (code_in (map f names)) (drop next compiled.patterns.items)) x rest places all.named v n (met.matched f reads n.first n.begins)
          (skips (map f names) n.first n.others (row_at (map f names) compiled.patterns.items at i lt ∙ n.nodes_are));
    }))

-- ---- ends

rejected : {N : Type 0} (built : BuiltIn → N) (names : List N) (compiled : CompiledClause) (h : Held N) (goal : Cell N) (places : List (Place N)) (before after named : List ℕ) → AreThere h places → AreUnbound h named → after ≡ before ++ named →
    ((f : N → List ℕ) → Reads built f → (clause : Clause) → IsCompiled (map f names) compiled clause → (match_patterns clause.patterns (arguments_of_goal (term_of f h goal))).answer ≡ no) →
    IsTried built names compiled h goal places before after Rejects
rejected built names compiled h goal places before after named inside unbound awaited clash = record {
  inside = inside;
  named = named;
  named_as = tt;
  unbound = unbound;
  awaited = awaited;
  gives = clash;
}

pub clash_there : {N : Type 0} (built : BuiltIn → N) (names : List N) (compiled : CompiledClause) (h : Held N) (goal x : Cell N) (at : ℕ) (i : Instruction) (cells rest now : List (Cell N)) (places longer : List (Place N)) (before after : List ℕ) →
    at < length compiled.patterns.items → cells ≡ x ∷ rest → GivesAll built names compiled h goal at cells places before after →
    Decides built h names (get_or compiled.patterns.items at i) x rest now places longer no → IsTried built names compiled h goal longer before after Rejects
clash_there {N = N} built names compiled h goal x at i cells rest now places longer before after lt popped all met =
    let Q : List (Place N) → Type 0 = λ l. IsTried built names compiled h goal l before after Rejects in
    subst Q (sym met.places_are) (rejected built names compiled h goal places before after all.named all.places_in all.unbound all.awaited (λ f reads clause is.
    let n = next_at built names compiled h goal x at i cells rest places before after lt popped all f reads clause is in
    let c = code_in (map f names) (get_or compiled.patterns.items at i) in
    let behind = map (code_in (map f names)) (drop (at + 1) compiled.patterns.items) in
    clashed f h clause.patterns (arguments_of_goal (term_of f h goal)) c behind x rest places all.named n (met.matched f reads n.first n.begins)))

pub terms_wanted : {N : Type 0} (built : BuiltIn → N) (names : List N) (compiled : CompiledClause) (h : Held N) (goal : Cell N) (at : ℕ) (i : Instruction) (cells : List (Cell N)) (places : List (Place N)) (before after : List ℕ) →
    at < length compiled.patterns.items → cells ≡ [] → GivesAll built names compiled h goal at cells places before after → IsTried built names compiled h goal places before after Rejects
terms_wanted built names compiled h goal at i cells places before after lt empty all =
    rejected built names compiled h goal places before after all.named all.places_in all.unbound all.awaited (λ f reads clause is.
    no_terms f h clause.patterns (arguments_of_goal (term_of f h goal)) (code_in (map f names) (get_or compiled.patterns.items at i)) (map (code_in (map f names)) (drop (at + 1) compiled.patterns.items)) (map (code_in (map f names)) (drop at compiled.patterns.items)) cells places all.named
    (row_at (map f names) compiled.patterns.items at i lt) empty (all.left f reads clause is))

-- the first of a list
first_of : {A : Type 0} (xs : List A) → (xs ≡ [] → ⊥) → (x : A) × (rest : List A) × (xs ≡ x ∷ rest)
first_of [] ne = absurd (ne refl)
first_of (x ∷ xs) ne = (x, xs, refl)

nothing_more : (names : List (List ℕ)) (row : List Instruction) (at : ℕ) → length row ≤ at → map (code_in names) (drop at row) ≡ []
nothing_more names row at le = ap (map (code_in names)) (drop_all at row le)

pub patterns_wanted : {N : Type 0} (built : BuiltIn → N) (names : List N) (compiled : CompiledClause) (h : Held N) (goal : Cell N) (at : ℕ) (cells : List (Cell N)) (places : List (Place N)) (before after : List ℕ) →
    length compiled.patterns.items ≤ at → (cells ≡ [] → ⊥) → GivesAll built names compiled h goal at cells places before after → IsTried built names compiled h goal places before after Rejects
patterns_wanted built names compiled h goal at cells places before after le some all =
    let r = first_of cells some in
    rejected built names compiled h goal places before after all.named all.places_in all.unbound all.awaited (λ f reads clause is.
    no_patterns f h clause.patterns (arguments_of_goal (term_of f h goal)) (map (code_in (map f names)) (drop at compiled.patterns.items)) cells r.1 r.0 places all.named (nothing_more (map f names) compiled.patterns.items at le) r.2 (all.left f reads clause is))

-- the verdict if nothing clashed
abbrev pub verdict_so_far : List ℕ → Verdict
verdict_so_far [] = Accepts
verdict_so_far (v ∷ vs) = Suspends

gives_so_far : {N : Type 0} (f : N → List ℕ) (h : Held N) (places : List (Place N)) (named : List ℕ) (m : Match) → m ≡ matched_with (so_far named) (replacements_of f h places) → GivesMatch f h places named (verdict_so_far named) m
gives_so_far f h places [] m e = (ap (λ (n : Match). n.answer) e, ap (λ (n : Match). n.places) e)
gives_so_far f h places (v ∷ vs) m e = (ap (λ (n : Match). n.answer) e, ap (λ (n : Match). n.places) e)

names_so_far : (named : List ℕ) → NamesAs (verdict_so_far named) named
names_so_far [] = refl
names_so_far (v ∷ vs) = λ e. absurd (cc)

ends : {N : Type 0} (built : BuiltIn → N) (names : List N) (compiled : CompiledClause) (h : Held N) (goal : Cell N) (at : ℕ) (cells : List (Cell N)) (places : List (Place N)) (before after : List ℕ) →
    length compiled.patterns.items ≤ at → cells ≡ [] → (all : GivesAll built names compiled h goal at cells places before after) → IsTried built names compiled h goal places before after (verdict_so_far all.named)
ends built names compiled h goal at cells places before after le empty all = record {
  inside = all.places_in;
  named = all.named;
  named_as = names_so_far all.named;
  unbound = all.unbound;
  awaited = all.awaited;
  gives = λ f reads clause is.
      let ts = arguments_of_goal (term_of f h goal) in
      gives_so_far f h places all.named (match_patterns clause.patterns ts)
      (all_matched f h clause.patterns ts (map (code_in (map f names)) (drop at compiled.patterns.items)) cells places all.named (nothing_more (map f names) compiled.patterns.items at le) empty (all.left f reads clause is));
}

none_named : (named : List ℕ) → length named ≡ 0 → verdict_so_far named ≡ Accepts
none_named [] e = refl
none_named (v ∷ vs) e = absurd (omega arith)

some_named : (named : List ℕ) → (length named ≡ 0 → ⊥) → verdict_so_far named ≡ Suspends
some_named [] ne = absurd (ne refl)
some_named (v ∷ vs) ne = refl

-- how many variables were named
pub named_count : (before after named : List ℕ) → after ≡ before ++ named → length after ≡ length before + length named
named_count before after named e = ap length e ∙ length-append before named

pub accepted : {N : Type 0} (built : BuiltIn → N) (names : List N) (compiled : CompiledClause) (h : Held N) (goal : Cell N) (at : ℕ) (cells : List (Cell N)) (places : List (Place N)) (before after : List ℕ) →
    length compiled.patterns.items ≤ at → cells ≡ [] → length after ≡ length before → GivesAll built names compiled h goal at cells places before after → IsTried built names compiled h goal places before after Accepts
accepted built names compiled h goal at cells places before after le empty same all =
    let V : Verdict → Type 0 = λ v. IsTried built names compiled h goal places before after v in
    subst V (none_named all.named (omega (arith, named_count before after all.named all.awaited))) (ends built names compiled h goal at cells places before after le empty all)

pub suspended : {N : Type 0} (built : BuiltIn → N) (names : List N) (compiled : CompiledClause) (h : Held N) (goal : Cell N) (at : ℕ) (cells : List (Cell N)) (places : List (Place N)) (before after : List ℕ) →
    length compiled.patterns.items ≤ at → cells ≡ [] → (length after ≡ length before → ⊥) → GivesAll built names compiled h goal at cells places before after → IsTried built names compiled h goal places before after Suspends
suspended built names compiled h goal at cells places before after le empty ne all =
    let V : Verdict → Type 0 = λ v. IsTried built names compiled h goal places before after v in
    subst V (some_named all.named (λ e. ne (omega (arith, named_count before after all.named all.awaited, e)))) (ends built names compiled h goal at cells places before after le empty all)

-- ---- verdicts of clauses of which the match alone decides

-- a match that clashes decides, whatever the places and the tests say
pub clash_verdict : (c : Clause) (ts : Terms) → (match_patterns c.patterns ts).answer ≡ no → named_verdict c ts ≡ rejects []
clash_verdict c ts clash =
    let m = match_patterns c.patterns ts in
    ap (λ o. verdict_with m (together (together o (each_answer m.places)) (guard_answer m.places c.tests))) clash ∙ ap (λ o. rejects (awaited_in o)) clash

-- what a clause that clashes named is dropped
pub dropped : {N : Type 0} (built : BuiltIn → N) (names : List N) (compiled : CompiledClause) (h : Held N) (goal : Cell N) (places : List (Place N)) (before after now : List ℕ) (n : ℕ) → n ≡ length before → now ≡ take n after →
    IsTried built names compiled h goal places before after Rejects → IsVerdict built names compiled h goal places before now Rejects
dropped built names compiled h goal places before after now n count e t = record {
  inside = t.inside;
  named = [];
  named_as = tt;
  unbound = tt;
  awaited = e ∙ ap (λ l. take n l) t.awaited ∙ ap (λ m. take m (before ++ t.named)) count ∙ take-append_seam before t.named ∙ sym (append-nil before);
  gives = λ f reads clause is. record {
    defined = [];
    same = same_as_itself [];
    verdict_is = clash_verdict clause (arguments_of_goal (term_of f h goal)) (t.gives f reads clause is);
  };
}

pub accepts_as : {N : Type 0} (built : BuiltIn → N) (names : List N) (compiled : CompiledClause) (h : Held N) (goal : Cell N) (places : List (Place N)) (before after : List ℕ) → IsPlain compiled.patterns.items compiled.tests.items →
    IsTried built names compiled h goal places before after Accepts → IsVerdict built names compiled h goal places before after Accepts
accepts_as built names compiled h goal places before after plain t = record {
  inside = t.inside;
  named = t.named;
  named_as = t.named_as;
  unbound = t.unbound;
  awaited = t.awaited;
  gives = λ f reads clause is.
      let ts = arguments_of_goal (term_of f h goal) in
      let m = match_patterns clause.patterns ts in
      let g = t.gives f reads clause is in
      record {
        defined = t.named;
        same = same_as_itself t.named;
        verdict_is = plain_verdict (map f names) compiled clause ts plain is ∙ (ap (verdict_with m) g.0 ∙ ap accepts g.1);
      };
}

pub suspends_as : {N : Type 0} (built : BuiltIn → N) (names : List N) (compiled : CompiledClause) (h : Held N) (goal : Cell N) (places : List (Place N)) (before after : List ℕ) → IsPlain compiled.patterns.items compiled.tests.items →
    IsTried built names compiled h goal places before after Suspends → IsVerdict built names compiled h goal places before after Suspends
suspends_as built names compiled h goal places before after plain t = record {
  inside = t.inside;
  named = t.named;
  named_as = t.named_as;
  unbound = t.unbound;
  awaited = t.awaited;
  gives = λ f reads clause is.
      let ts = arguments_of_goal (term_of f h goal) in
      let m = match_patterns clause.patterns ts in
      let g = t.gives f reads clause is in
      record {
        defined = t.named;
        same = same_as_itself t.named;
        verdict_is = plain_verdict (map f names) compiled clause ts plain is ∙ ap (verdict_with m) g.0;
      };
}
