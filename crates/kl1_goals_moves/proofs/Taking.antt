-- What a call can do by a clause's number, by cells.
use Rattle.std.proofs.Common.{◌≡◌, ℕ, zero, suc, ◌-◌, ◌<◌, ◌≤◌, Bool, true, false, List, [], ◌∷◌, length, map, drop, get_or, refl, sym, ap, ◌∙◌, subst, arith}
use Rattle.std.specs.Prelude.{codes, Option, Some, None, slice_get}
use Rattle.kl1_model.specs.declared.built_in.BuiltIn.{BuiltIn}
use Rattle.kl1_model.specs.Term.{Term}
use Rattle.kl1_model.specs.Module.{Clause, Module}
use Rattle.kl1_model.specs.Match.{clauses_of, Candidate}
use Rattle.kl1_model.specs.declared.number.Number.{Number}
use Rattle.kl1_model.specs.declared.number.Number.TheVariants.{Value, Overflow, ZeroDivisor}
use Rattle.kl1_model.specs.Text.{text_of}
use Rattle.kl1_model.specs.Arithmetic.{evaluated}
use Rattle.kl1_model.specs.Look.{spelling, arguments_look}
use Rattle.kl1_model.specs.declared.rules.Rules.{Rules}
use Rattle.kl1_model.specs.State.{most_spelled}
use Rattle.kl1_model.specs.Reduction as model_moves
use Rattle.kl1_model.specs.Reduction.{raises, unifies, goes, illegal_input, built_in_move}
use Rattle.kl1_model.specs.code.Waits.{move_by, least_clause}
use Rattle.kl1_text.specs.Reading.{Reads}
use Rattle.kl1_store.specs.declared.cell.Cell.{Cell}
use Rattle.kl1_store.specs.declared.cell.Cell.TheVariants.{Integer}
use Rattle.kl1_store.specs.Held.{Held}
use Rattle.kl1_store.specs.Meaning.{term_of}
use Rattle.kl1_clause.specs.declared.compiled_clause.CompiledClause.{CompiledClause}
use Rattle.kl1_clause.specs.declared.predicate.Predicate.{Predicate}
use Rattle.kl1_clause.specs.Clauses.{IsCompiled, AreCompiled}
use Rattle.kl1_clause.specs.Predicates.{AreSome}
use Rattle.kl1_match.specs.declared.place.Place.{Place}
use Rattle.kl1_match.specs.Instances.{IsClause, replacements_of}
use Rattle.kl1_match.specs.Verdicts.{arguments_of_goal}
use Rattle.kl1_match_verdict.specs.Choices.{AreClauses}
use Rattle.kl1_match_verdict.specs.Candidates.{IsTaken, TakenAs, Takes, TakesLeast}
use Rattle.kl1_match.proofs.Cells.{at_integer}
use Rattle.kl1_match_guard.specs.declared.evaluated.Evaluated.{Evaluated}
use Rattle.kl1_match_guard.specs.declared.evaluated.Evaluated.TheVariants.{ComesTo, Awaits, IsNoExpression}
use Rattle.kl1_match_guard.specs.Evaluations.{evaluated_of}
use Rattle.kl1_goals_moves.specs.declared.call.Call.{Call}
use Rattle.kl1_goals_moves.specs.declared.kind.Kind.{Kind}
use Rattle.kl1_goals_moves.specs.declared.kind.Kind.TheVariants as kind
use Rattle.kl1_goals_moves.specs.declared.moves.Move.{Move}
use Rattle.kl1_goals_moves.specs.declared.moves.Move.TheVariants as move
use Rattle.kl1_goals_moves.specs.Calls.{cell_of, arguments_at, call_at}
use Rattle.kl1_goals_moves.specs.Assigning as assigning
use Rattle.kl1_goals_moves.specs.Opening.{naming, opening}
use Rattle.kl1_goals_moves.specs.declared.look.Look.{Look}
use Rattle.kl1_goals_moves.specs.declared.look.Look.TheVariants as look
use Rattle.kl1_goals_moves.specs.Looks.{look_of}
use Rattle.kl1_goals_moves.specs.declared.spelling.Spelling.{Spelling}
use Rattle.kl1_goals_moves.specs.declared.spelling.Spelling.TheVariants as spelled
use Rattle.kl1_goals_moves.specs.Spellings.{spelling_of}
use Rattle.kl1_goals_moves.specs.declared.order.ExecuteArguments.{ExecuteArguments}
use Rattle.kl1_goals_moves.specs.Orders.{order_at, IsOrder}
use Rattle.kl1_goals_moves.specs.Kinds.{IsKind, IsCall, IsAssignment, IsSpelling, IsExecution}
use Rattle.kl1_goals_moves.specs.Moves.{HasPredicate, FailsAs, candidate_at, CommitsAs, MovesAs}
use Rattle.kl1_goals_moves.proofs.Candidates.{none_behind, fails_by, goes_on_by, commits_by, by_zero}

-- ---- compiled clauses of a predicate

clauses_by : {N : Type 0} (names : List N) (texts : List (List ℕ)) (cs : List CompiledClause) (ds : List Clause) → length texts ≡ length names → AreCompiled texts cs ds → AreClauses names cs
clauses_by names texts [] [] e a = tt
clauses_by names texts [] (d ∷ ds) e a = absurd a
clauses_by names texts (c ∷ cs) [] e a = absurd a
clauses_by names texts (c ∷ cs) (d ∷ ds) e a = (record { texts = texts; count = e; clause = d; is = a.0 }, clauses_by names texts cs ds e a.1)

-- some clauses are clauses one by one
pub are_clauses : {N : Type 0} (names : List N) (cs : List CompiledClause) → AreSome names cs → AreClauses names cs
are_clauses names cs s = clauses_by names s.texts cs s.meant s.count s.are

pub clause_at : {N : Type 0} (names : List N) (cs : List CompiledClause) (place : ℕ) (x : CompiledClause) → AreClauses names cs → place < length cs → IsClause names (get_or cs place x)
clause_at names [] place x a lt = absurd (omega arith)
clause_at names (c ∷ cs) zero x a lt = a.0
clause_at names (c ∷ cs) (suc place) x a lt = clause_at names cs place x a.1 (omega arith)

-- the compiled clause at the place of a clause
record IsThere (names : List (List ℕ)) (cs : List CompiledClause) (clause : Clause) (place : ℕ) : Type 0 where
  compiled : CompiledClause
  at : slice_get cs place ≡ Some compiled
  is : IsCompiled names compiled clause

there : (names : List (List ℕ)) (cs : List CompiledClause) (ds rest : List Clause) (place : ℕ) (d : Clause) → AreCompiled names cs ds → drop place ds ≡ d ∷ rest → IsThere names cs d place
there names [] [] rest zero d a e = absurd (cc)
there names [] [] rest (suc place) d a e = absurd (cc)
there names [] (c ∷ ds) rest place d a e = absurd a
there names (c ∷ cs) [] rest place d a e = absurd a
there names (c ∷ cs) (b ∷ ds) rest zero d a e = let same : b ≡ d = cc in record { compiled = c; at = refl; is = subst (λ x. IsCompiled names c x) same a.0 }
there names (c ∷ cs) (b ∷ ds) rest (suc place) d a e = let r = there names cs ds rest place d a.1 e in record { compiled = r.compiled; at = r.at; is = r.is }

as_many : (names : List (List ℕ)) (cs : List CompiledClause) (ds : List Clause) → AreCompiled names cs ds → length ds ≡ length cs
as_many names [] [] a = refl
as_many names [] (d ∷ ds) a = absurd a
as_many names (c ∷ cs) [] a = absurd a
as_many names (c ∷ cs) (d ∷ ds) a = ap suc (as_many names cs ds a.1)

-- ---- one clause tried

pub none_left : {N : Type 0} (f : N → List ℕ) (h : Held N) (c : Call N) (p : Predicate N) (cs : List Clause) (number : ℕ) → 0 < number → AreCompiled (map f p.names.now) p.clauses.now cs → length p.clauses.now ≤ number - 1 → candidate_at f h c cs number ≡ None
none_left f h c p cs number some a le = let count = as_many (map f p.names.now) p.clauses.now cs a in none_behind number 1 cs (arguments_at f h c) (omega (arith, some, le, count))

-- the move by the clause at a place, whether it is a candidate or isn't
abbrev pub by_answer : {N : Type 0} → ℕ → Bool → Option (Move N)
by_answer place true = Some (move.Commits place)
by_answer place false = None

taken_by : {N : Type 0} (f : N → List ℕ) (h : Held N) (c : Call N) (p : Predicate N) (cs : List Clause) (number place : ℕ) (places : List (Place N)) (answer : Bool) → suc place ≡ number → AreCompiled (map f p.names.now) p.clauses.now cs →
    TakenAs f h p.clauses.now (map f p.names.now) cs (arguments_at f h c) place places answer → CommitsAs f h c p cs number places (by_answer place answer)
taken_by f h c p cs number place places true e a t =
    let r = there (map f p.names.now) p.clauses.now cs t.others place t.clause a t.at in
    let k : Candidate = record { number = suc place; clause = t.clause; places = replacements_of f h places } in
    record {
      candidate = k;
      found = ap (candidate_at f h c cs) (sym e) ∙ t.found;
      is = record { compiled = r.compiled; at = r.at; is = r.is; places_are = refl };
    }
taken_by f h c p cs number place places false e a t = ap (candidate_at f h c cs) (sym e) ∙ t

-- whether a clause is a candidate decides the move by its number
pub tried : {N : Type 0} (built : BuiltIn → N) (f : N → List ℕ) (h : Held N) (c : Call N) (p : Predicate N) (cs : List Clause) (number : ℕ) (goal : Cell N) (places : List (Place N)) (answer : Bool) → Reads built f → 0 < number → goal ≡ cell_of c →
    AreCompiled (map f p.names.now) p.clauses.now cs → Takes built p.names.now p.clauses.now (number - 1) h goal places answer → CommitsAs f h c p cs number places (by_answer (number - 1) answer)
tried {N = N} built f h c p cs number goal places answer r some own a t =
    let P : Cell N → Type 0 = λ x. TakenAs f h p.clauses.now (map f p.names.now) cs (arguments_of_goal (term_of f h x)) (number - 1) places answer in
    taken_by f h c p cs number (number - 1) places answer (omega (arith, some)) a (subst P own (t.taken f r cs a))

-- the clause that is known to be the least that accepts is one
pub judged : {N : Type 0} (built : BuiltIn → N) (f : N → List ℕ) (h : Held N) (c : Call N) (p : Predicate N) (cs : List Clause) (number : ℕ) (goal : Cell N) (places : List (Place N)) → Reads built f → 0 < number → goal ≡ cell_of c → AreCompiled (map f p.names.now) p.clauses.now cs →
    TakesLeast built p.names.now p.clauses.now (number - 1) h goal places → least_clause cs (arguments_at f h c) ≡ Some number → CommitsAs f h c p cs number places (Some (move.Commits (number - 1)))
judged {N = N} built f h c p cs number goal places r some own a t least =
    let P : Cell N → Type 0 = λ x. least_clause cs (arguments_of_goal (term_of f h x)) ≡ Some (suc (number - 1)) → IsTaken f h p.clauses.now (map f p.names.now) cs (arguments_of_goal (term_of f h x)) (number - 1) places in
    let next : suc (number - 1) ≡ number = omega (arith, some) in
    taken_by f h c p cs number (number - 1) places true next a (subst P own (t.taken f r cs a) (least ∙ ap (λ n. Some n) (sym next)))

-- ---- moves of terms

pub fails_as : {N : Type 0} (f : N → List ℕ) (h : Held N) (rules : Rules) (modules : List Module) (t : Term) (c : Call N) (n : ℕ) (p : Predicate N) (places : List (Place N)) (text : List ℕ) (found : Option (Move N)) → IsCall f h t c → n ≡ 0 → FailsAs f h c (clauses_of modules (call_at f h c)) found → MovesAs f h rules modules t n p places text found
fails_as f h rules modules t c n p places text None e z r = goes_on_by rules modules t (call_at f h c) n e.is z r
fails_as f h rules modules t c n p places text (Some (move.Commits place)) e z r = absurd r
fails_as f h rules modules t c n p places text (Some (move.Raises b)) e z r = fails_by rules modules t (call_at f h c) n e.is z r.1 ∙ ap (λ k. Some (raises (text_of k))) (sym r.0)
fails_as f h rules modules t c n p places text (Some (move.Unifies a b)) e z r = absurd r
fails_as f h rules modules t c n p places text (Some (move.Names a)) e z r = absurd r
fails_as f h rules modules t c n p places text (Some (move.Opens o)) e z r = absurd r
fails_as f h rules modules t c n p places text (Some move.Goes) e z r = absurd r
fails_as f h rules modules t c n p places text (Some move.GivesWay) e z r = absurd r

pub commits_as : {N : Type 0} (f : N → List ℕ) (h : Held N) (rules : Rules) (modules : List Module) (t : Term) (c : Call N) (n : ℕ) (p : Predicate N) (places : List (Place N)) (text : List ℕ) (found : Option (Move N)) → IsCall f h t c → 0 < n → CommitsAs f h c p (clauses_of modules (call_at f h c)) n places found → MovesAs f h rules modules t n p places text found
commits_as f h rules modules t c n p places text None e lt r = commits_by rules modules t (call_at f h c) n None e.is lt r
commits_as f h rules modules t c n p places text (Some (move.Commits place)) e lt r = record { candidate = r.candidate; moves = commits_by rules modules t (call_at f h c) n (Some r.candidate) e.is lt r.found; is = r.is }
commits_as f h rules modules t c n p places text (Some (move.Raises b)) e lt r = absurd r
commits_as f h rules modules t c n p places text (Some (move.Unifies a b)) e lt r = absurd r
commits_as f h rules modules t c n p places text (Some (move.Names a)) e lt r = absurd r
commits_as f h rules modules t c n p places text (Some (move.Opens o)) e lt r = absurd r
commits_as f h rules modules t c n p places text (Some move.Goes) e lt r = absurd r
commits_as f h rules modules t c n p places text (Some move.GivesWay) e lt r = absurd r

-- what comes of a cell that becomes a number
becomes_as : {N : Type 0} (f : N → List ℕ) (h : Held N) (rules : Rules) (modules : List Module) (t : Term) (n : ℕ) (p : Predicate N) (places : List (Place N)) (text : List ℕ) (a : Cell N) (x : Number) → move_by rules modules t n ≡ Some (model_moves.becomes (term_of f h a) x) → MovesAs f h rules modules t n p places text (Some (assigning.becomes a x))
becomes_as f h rules modules t n p places text a (Value z) e = e ∙ ap (λ u. Some (unifies (term_of f h a) u)) (sym (at_integer f h (Integer z) z refl))
becomes_as f h rules modules t n p places text a Overflow e = e
becomes_as f h rules modules t n p places text a ZeroDivisor e = e

-- and of one that becomes what an expression comes to
pub assigned_as : {N : Type 0} (f : N → List ℕ) (h : Held N) (rules : Rules) (modules : List Module) (t : Term) (n : ℕ) (p : Predicate N) (places : List (Place N)) (text : List ℕ) (a b : Cell N) (x : Evaluated ℕ) → IsAssignment f h t a b → n ≡ 0 → evaluated_of (λ v. v) x ≡ evaluated (term_of f h b) →
    MovesAs f h rules modules t n p places text (assigning.assigned a x)
assigned_as f h rules modules t n p places text a b x u z e = by x (by_zero rules modules t n (model_moves.move_found (model_moves.becomes (term_of f h a)) (evaluated (term_of f h b))) u.call (u.built_in rules) z ∙ ap (model_moves.move_found (model_moves.becomes (term_of f h a))) (sym e))
  where
    by : (x : Evaluated ℕ) → move_by rules modules t n ≡ model_moves.move_found (model_moves.becomes (term_of f h a)) (evaluated_of (λ v. v) x) → MovesAs f h rules modules t n p places text (assigning.assigned a x)
    by (ComesTo k) m = becomes_as f h rules modules t n p places text a k m
    by (Awaits v) m = m
    by IsNoExpression m = m

-- what comes of a cell that becomes the name that codes spell
pub named_as : {N : Type 0} (f : N → List ℕ) (h : Held N) (rules : Rules) (modules : List Module) (t : Term) (n : ℕ) (p : Predicate N) (places : List (Place N)) (text : List ℕ) (codes target : Cell N) (x : Spelling) → IsSpelling f h t codes target → n ≡ 0 →
    spelling_of x text ≡ spelling (most_spelled rules) (term_of f h codes) → MovesAs f h rules modules t n p places text (naming target x)
named_as f h rules modules t n p places text codes target x u z e = by x (by_zero rules modules t n (model_moves.move_found (λ text. model_moves.names text (term_of f h target)) (spelling (most_spelled rules) (term_of f h codes))) u.call (u.built_in rules) z ∙ ap (model_moves.move_found (λ text. model_moves.names text (term_of f h target))) (sym e))
  where
    by : (x : Spelling) → move_by rules modules t n ≡ model_moves.move_found (λ text. model_moves.names text (term_of f h target)) (spelling_of x text) → MovesAs f h rules modules t n p places text (naming target x)
    by spelled.Spelled m = m
    by (spelled.Waits v) m = m
    by spelled.Misspelled m = m

-- a structure is one order
one_order : {N : Type 0} (h : Held N) (s : ℕ) (o q : ExecuteArguments N) → IsOrder h s o → IsOrder h s q → o ≡ q
one_order {N = N} h s o q a b =
    let first : o.goal ≡ q.goal = one (sym a.goal_is ∙ b.goal_is) in
    let second : o.low ≡ q.low = one (sym a.low_is ∙ b.low_is) in
    let third : o.high ≡ q.high = one (sym a.high_is ∙ b.high_is) in
    let fourth : o.allowance ≡ q.allowance = one (sym a.allowance_is ∙ b.allowance_is) in
    let fifth : o.control ≡ q.control = one (sym a.control_is ∙ b.control_is) in
    let sixth : o.reports ≡ q.reports = one (sym a.reports_is ∙ b.reports_is) in
    λ i. record { goal = first i; low = second i; high = third i; allowance = fourth i; control = fifth i; reports = sixth i }
  where
    one : {x y : Cell N} → Some x ≡ Some y → x ≡ y
    one e = cc

-- what comes of an order by the look at it
pub opened_as : {N : Type 0} (f : N → List ℕ) (h : Held N) (rules : Rules) (modules : List Module) (t : Term) (n : ℕ) (p : Predicate N) (places : List (Place N)) (text : List ℕ) (s : ℕ) (o : ExecuteArguments N) (x : Look) → IsExecution f h t s → n ≡ 0 → IsOrder h s o →
    look_of x ≡ arguments_look (order_at f h o) → MovesAs f h rules modules t n p places text (opening s x)
opened_as {N = N} f h rules modules t n p places text s o x u z at e = by x (by_zero rules modules t n (model_moves.move_found (λ right. model_moves.opens (order_at f h o)) (arguments_look (order_at f h o))) u.call (u.built_in rules o at) z ∙ ap (model_moves.move_found (λ right. model_moves.opens (order_at f h o))) (sym e))
  where
    by : (x : Look) → move_by rules modules t n ≡ model_moves.move_found (λ right. model_moves.opens (order_at f h o)) (look_of x) → MovesAs f h rules modules t n p places text (opening s x)
    by look.Right m = λ q k. m ∙ ap (λ (y : ExecuteArguments N). Some (model_moves.opens (order_at f h y))) (one_order h s o q at k)
    by (look.Waits v) m = m
    by look.Wrong m = m

-- ---- by kinds

pub positive : (n : ℕ) → (n ≡ 0 → ⊥) → 0 < n
positive zero ne = absurd (ne refl)
positive (suc n) ne = omega arith

pub call_fails_as : {N : Type 0} (f : N → List ℕ) (h : Held N) (rules : Rules) (modules : List Module) (t : Term) (k : Kind N) (c : Call N) (n : ℕ) (p : Predicate N) (places : List (Place N)) (text : List ℕ) (found : Option (Move N)) → k ≡ kind.Calls c → n ≡ 0 →
    ((cs : List Clause) → AreCompiled (map f p.names.now) p.clauses.now cs → FailsAs f h c cs found) → IsKind f h t k → HasPredicate f h modules k p → MovesAs f h rules modules t n p places text found
call_fails_as {N = N} f h rules modules t k c n p places text found e z fails is has =
    let P : Kind N → Type 0 = λ x. IsKind f h t x in
    let Q : Kind N → Type 0 = λ x. HasPredicate f h modules x p in
    fails_as f h rules modules t c n p places text found (subst P e is) z (fails (clauses_of modules (call_at f h c)) (subst Q e has))

pub call_commits_as : {N : Type 0} (f : N → List ℕ) (h : Held N) (rules : Rules) (modules : List Module) (t : Term) (k : Kind N) (c : Call N) (n : ℕ) (p : Predicate N) (places : List (Place N)) (text : List ℕ) (found : Option (Move N)) → k ≡ kind.Calls c → (n ≡ 0 → ⊥) →
    (AreCompiled (map f p.names.now) p.clauses.now (clauses_of modules (call_at f h c)) → CommitsAs f h c p (clauses_of modules (call_at f h c)) n places found) → IsKind f h t k → HasPredicate f h modules k p → MovesAs f h rules modules t n p places text found
call_commits_as {N = N} f h rules modules t k c n p places text found e z takes is has =
    let P : Kind N → Type 0 = λ x. IsKind f h t x in
    let Q : Kind N → Type 0 = λ x. HasPredicate f h modules x p in
    commits_as f h rules modules t c n p places text found (subst P e is) (positive n z) (takes (subst Q e has))

pub goal_assigns_as : {N : Type 0} (f : N → List ℕ) (h : Held N) (rules : Rules) (modules : List Module) (t : Term) (k : Kind N) (a b : Cell N) (x : Evaluated ℕ) (n : ℕ) (p : Predicate N) (places : List (Place N)) (text : List ℕ) (found : Option (Move N)) → k ≡ kind.Assigns a b → n ≡ 0 → found ≡ assigning.assigned a x →
    evaluated_of (λ v. v) x ≡ evaluated (term_of f h b) → IsKind f h t k → MovesAs f h rules modules t n p places text found
goal_assigns_as {N = N} f h rules modules t k a b x n p places text found e z own value is =
    let P : Kind N → Type 0 = λ y. IsKind f h t y in
    let Q : Option (Move N) → Type 0 = λ o. MovesAs f h rules modules t n p places text o in
    subst Q (sym own) (assigned_as f h rules modules t n p places text a b x (subst P e is) z value)

pub goal_names_as : {N : Type 0} (f : N → List ℕ) (h : Held N) (rules : Rules) (modules : List Module) (t : Term) (k : Kind N) (a b : Cell N) (x : Spelling) (n : ℕ) (p : Predicate N) (places : List (Place N)) (text : List ℕ) (found : Option (Move N)) → k ≡ kind.Spells a b → n ≡ 0 → found ≡ naming b x →
    spelling_of x text ≡ spelling (most_spelled rules) (term_of f h a) → IsKind f h t k → MovesAs f h rules modules t n p places text found
goal_names_as {N = N} f h rules modules t k a b x n p places text found e z own value is =
    let P : Kind N → Type 0 = λ y. IsKind f h t y in
    let Q : Option (Move N) → Type 0 = λ o. MovesAs f h rules modules t n p places text o in
    subst Q (sym own) (named_as f h rules modules t n p places text a b x (subst P e is) z value)

pub goal_opens_as : {N : Type 0} (f : N → List ℕ) (h : Held N) (rules : Rules) (modules : List Module) (t : Term) (k : Kind N) (s : ℕ) (o : ExecuteArguments N) (x : Look) (n : ℕ) (p : Predicate N) (places : List (Place N)) (text : List ℕ) (found : Option (Move N)) → k ≡ kind.Executes s → n ≡ 0 → found ≡ opening s x →
    IsOrder h s o → look_of x ≡ arguments_look (order_at f h o) → IsKind f h t k → MovesAs f h rules modules t n p places text found
goal_opens_as {N = N} f h rules modules t k s o x n p places text found e z own at value is =
    let P : Kind N → Type 0 = λ y. IsKind f h t y in
    let Q : Option (Move N) → Type 0 = λ m. MovesAs f h rules modules t n p places text m in
    subst Q (sym own) (opened_as f h rules modules t n p places text s o x (subst P e is) z at value)
