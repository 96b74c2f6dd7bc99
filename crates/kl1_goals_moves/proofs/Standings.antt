-- How goals stand by their kinds, and what they wait for.
use Rattle.std.proofs.Common.{◌≡◌, ℕ, Bool, true, false, if◌then◌else◌, List, [], ◌∷◌, ◌++◌, refl, sym, ap, ◌∙◌, subst, append-nil}
use Rattle.std.specs.Prelude.{◌==◌, codes, Option, Some, None}
use Rattle.std.proofs.lemmas.Bool.{eqb-true, eqb-false}
use Rattle.kl1_model.specs.declared.built_in.BuiltIn.{BuiltIn}
use Rattle.kl1_model.specs.Term.{Term}
use Rattle.kl1_model.specs.Module.{Module}
use Rattle.kl1_model.specs.Match as model
use Rattle.kl1_model.specs.Match.{call_of, clauses_of, Candidate}
use Rattle.kl1_model.specs.declared.number.Number.{Number}
use Rattle.kl1_model.specs.declared.number.Number.TheVariants.{Value, Overflow, ZeroDivisor}
use Rattle.kl1_model.specs.Arithmetic.{evaluated}
use Rattle.kl1_model.specs.Look.{spelling, arguments_look}
use Rattle.kl1_model.specs.declared.rules.Rules.{Rules}
use Rattle.kl1_model.specs.State.{most_spelled}
use Rattle.kl1_model.specs.Reduction as model_moves
use Rattle.kl1_model.specs.Reduction.{raises, unifies, goes, illegal_input, built_in_move}
use Rattle.kl1_model.specs.code.Waits.{awaited_by_term, awaited_by_call, awaited_by_clauses, awaited_at_head, awaited_by_built_in, awaited_by_found}
use Rattle.kl1_model.proofs.LeastClause.{term_clause-call, term_clause-built_in, term_clause-none}
use Rattle.kl1_text.specs.Reading.{Reads}
use Rattle.kl1_store.specs.declared.cell.Cell.{Cell}
use Rattle.kl1_store.specs.Held.{Held}
use Rattle.kl1_store.specs.Meaning.{term_of}
use Rattle.kl1_clause.specs.declared.predicate.Predicate.{Predicate}
use Rattle.kl1_match.specs.Verdicts.{arguments_of_goal}
use Rattle.kl1_match_verdict.specs.Choices.{Chooses, IsChoice}
use Rattle.kl1_match.specs.Waiting.{AreSame}
use Rattle.kl1_match.proofs.Naming.{same_as_itself}
use Rattle.kl1_match_guard.specs.declared.evaluated.Evaluated.{Evaluated}
use Rattle.kl1_match_guard.specs.declared.evaluated.Evaluated.TheVariants.{ComesTo, Awaits, IsNoExpression}
use Rattle.kl1_match_guard.specs.Evaluations.{evaluated_of}
use Rattle.kl1_goals_moves.specs.declared.call.Call.{Call}
use Rattle.kl1_goals_moves.specs.declared.kind.Kind.{Kind}
use Rattle.kl1_goals_moves.specs.declared.kind.Kind.TheVariants as kind
use Rattle.kl1_goals_moves.specs.Calls.{cell_of, arguments_at, call_at}
use Rattle.kl1_goals_moves.specs.Shapes.{IsNoGoal}
use Rattle.kl1_goals_moves.specs.declared.look.Look.{Look}
use Rattle.kl1_goals_moves.specs.declared.look.Look.TheVariants as look
use Rattle.kl1_goals_moves.specs.Looks.{look_of}
use Rattle.kl1_goals_moves.specs.declared.spelling.Spelling.{Spelling}
use Rattle.kl1_goals_moves.specs.declared.spelling.Spelling.TheVariants as spelled
use Rattle.kl1_goals_moves.specs.Spellings.{spelling_of}
use Rattle.kl1_goals_moves.specs.declared.order.ExecuteArguments.{ExecuteArguments}
use Rattle.kl1_goals_moves.specs.Orders.{order_at, IsOrder}
use Rattle.kl1_goals_moves.specs.Kinds.{IsKind, IsCall, IsUnification, IsAssignment, IsSpelling, IsExecution, IsTrueGoal}
use Rattle.kl1_goals_moves.specs.Moves.{HasPredicate}
use Rattle.kl1_goals.specs.declared.standing.Standing.{Standing}
use Rattle.kl1_goals.specs.declared.standing.Standing.TheVariants as standing
use Rattle.kl1_goals.specs.Readies.{clause_in}
use Rattle.kl1_model.specs.Meaning.{pair}
use Rattle.kl1_goals_moves.specs.Judged.{IsCalling, DoesAs}
use Rattle.kl1_goals_moves.specs.Standing.{standing_by, becoming, StandsAs}
use Rattle.kl1_model.specs.Found as looks
use Rattle.kl1_goals_moves.proofs.Taking.{positive}

-- what a term waits for, by its head, its call and as a built-in goal
awaited_parts : (rules : Rules) (modules : List Module) (t : Term) (hs bs : List ℕ) (o : Option model.Call) → awaited_at_head t ≡ hs → call_of t ≡ o → awaited_by_built_in rules t ≡ bs → awaited_by_term rules modules t ≡ hs ++ awaited_by_call modules o ++ bs
awaited_parts rules modules t hs bs o a b c =
    ap (λ vs. vs ++ awaited_by_call modules (call_of t) ++ awaited_by_built_in rules t) a ∙ ap (λ q. hs ++ awaited_by_call modules q ++ awaited_by_built_in rules t) b ∙ ap (λ vs. hs ++ awaited_by_call modules o ++ vs) c

same_by : (vs awaited : List ℕ) → awaited ≡ vs → AreSame awaited vs
same_by vs awaited e = subst (λ (ws : List ℕ). AreSame ws vs) (sym e) (same_as_itself vs)

-- a call by the least clause that accepts it
call_does : (rules : Rules) (t : Term) (o : Option ℕ) (place : ℕ) → IsCalling t → (clause_in (standing_by o place) ≡ o) × DoesAs rules t (standing_by o place)
call_does rules t None place is = (refl, tt)
call_does rules t (Some n) place is = by (n == 0) refl
  where
    by : (b : Bool) → (n == 0) ≡ b → (clause_in (if b then standing.Fails else standing.Commits n place) ≡ Some n) × DoesAs rules t (if b then standing.Fails else standing.Commits n place)
    by true e = (ap (λ k. Some k) (sym (eqb-true n 0 e)), is)
    by false e = (refl, (is, positive n (eqb-false n 0 e)))

pub call_stands : {N : Type 0} (f : N → List ℕ) (h : Held N) (rules : Rules) (modules : List Module) (t : Term) (c : Call N) (goal : Cell N) (named awaited : List ℕ) (choice : Option ℕ) (place : ℕ) → IsCall f h t c → goal ≡ cell_of c → awaited ≡ [] ++ named → Chooses (clauses_of modules (call_at f h c)) (arguments_of_goal (term_of f h goal)) named choice → StandsAs rules modules t awaited (standing_by choice place)
call_stands {N = N} f h rules modules t c goal named awaited choice place e own a k =
    let cs = clauses_of modules (call_at f h c) in
    let P : Cell N → Type 0 = λ x. Chooses cs (arguments_of_goal (term_of f h x)) named choice in
    let k = subst P own k in
    let all : awaited_by_term rules modules t ≡ awaited_by_clauses cs (arguments_at f h c) = awaited_parts rules modules t [] [] (Some (call_at f h c)) e.awaits e.is (e.waits_no_more rules) ∙ append-nil (awaited_by_clauses cs (arguments_at f h c)) in
    let d = call_does rules t choice place (record { call = call_at f h c; is = e.is }) in
    record {
      clause_is = d.0 ∙ k.clause ∙ sym (term_clause-call rules modules t (call_at f h c) e.is);
      does = d.1;
      awaits = subst (λ (ws : List ℕ). AreSame ws (awaited_by_term rules modules t)) (sym a) (subst (λ (ws : List ℕ). AreSame named ws) (sym all) k.awaited);
    }

-- a goal that is no call waits for what counts at its head, or as a built-in goal
alone : (rules : Rules) (modules : List Module) (t : Term) (vs awaited : List ℕ) → call_of t ≡ None → awaited_at_head t ≡ vs → awaited_by_built_in rules t ≡ [] → awaited ≡ vs → AreSame awaited (awaited_by_term rules modules t)
alone rules modules t vs awaited e h b a = same_by (awaited_by_term rules modules t) awaited (a ∙ sym (append-nil vs) ∙ sym (append-nil (vs ++ [])) ∙ sym (awaited_parts rules modules t vs [] None h e b))

pub unification_stands : {N : Type 0} (f : N → List ℕ) (h : Held N) (rules : Rules) (modules : List Module) (t : Term) (left right : Cell N) (awaited : List ℕ) → IsUnification f h t left right → awaited ≡ [] → StandsAs rules modules t awaited standing.Unifies
unification_stands f h rules modules t left right awaited u a = record {
  clause_is = sym (term_clause-built_in rules modules t (unifies (term_of f h left) (term_of f h right)) u.call (u.built_in rules));
  does = record { left = term_of f h left; right = term_of f h right; is = u.is };
  awaits = alone rules modules t [] awaited u.call u.awaits (u.waits_no_more rules) a;
}

pub true_stands : (rules : Rules) (modules : List Module) (t : Term) (awaited : List ℕ) → IsTrueGoal t → awaited ≡ [] → StandsAs rules modules t awaited standing.Goes
true_stands rules modules t awaited u a = record { clause_is = sym (term_clause-built_in rules modules t goes u.call (u.built_in rules)); does = u.is; awaits = alone rules modules t [] awaited u.call u.awaits (u.waits_no_more rules) a }

pub nothing_stands : (rules : Rules) (modules : List Module) (t : Term) (vs awaited : List ℕ) → IsNoGoal t vs → awaited ≡ vs → StandsAs rules modules t awaited standing.Waits
nothing_stands rules modules t vs awaited u a = record { clause_is = sym (term_clause-none rules modules t u.call (u.built_in rules)); does = tt; awaits = alone rules modules t vs awaited u.call u.awaits (u.waits_no_more rules) a }

-- a goal that is no call and raises illegal input
misuse_stands : (rules : Rules) (modules : List Module) (t : Term) (awaited : List ℕ) → call_of t ≡ None → built_in_move rules t ≡ Some (raises illegal_input) → awaited ≡ awaited_by_term rules modules t → StandsAs rules modules t awaited standing.Misuses
misuse_stands rules modules t awaited e m a = record { clause_is = sym (term_clause-built_in rules modules t (raises illegal_input) e m); does = record { call = e; move = m }; awaits = same_by (awaited_by_term rules modules t) awaited a }

-- how a goal stands that makes a cell what an expression comes to
abbrev pub computing : {V : Type 0} → Evaluated V → Standing
computing (ComesTo x) = becoming x
computing (Awaits v) = standing.Waits
computing IsNoExpression = standing.Misuses

-- and what it waits for
abbrev pub waits_by : Evaluated ℕ → List ℕ
waits_by (ComesTo x) = []
waits_by (Awaits v) = v ∷ []
waits_by IsNoExpression = []

-- by a number that an expression comes to
number_does : (rules : Rules) (t a b : Term) (k : Number) → t ≡ pair (codes ":=") a b → evaluated b ≡ looks.found k → call_of t ≡ None → built_in_move rules t ≡ Some (model_moves.becomes a k) → (clause_in (becoming k) ≡ Some 0) × DoesAs rules t (becoming k)
number_does rules t a b (Value z) is comes e m = (refl, record { left = a; right = b; is = is; comes = comes })
number_does rules t a b Overflow is comes e m = (refl, record { left = a; right = b; is = is; comes = comes })
number_does rules t a b ZeroDivisor is comes e m = (refl, record { call = e; move = m })

pub assignment_stands : {N : Type 0} (f : N → List ℕ) (h : Held N) (rules : Rules) (modules : List Module) (t : Term) (left right : Cell N) (x : Evaluated ℕ) (awaited : List ℕ) → IsAssignment f h t left right → evaluated_of (λ v. v) x ≡ evaluated (term_of f h right) → awaited ≡ waits_by x →
    StandsAs rules modules t awaited (computing x)
assignment_stands f h rules modules t left right x awaited u e a =
    by x (u.built_in rules ∙ ap (model_moves.move_found (model_moves.becomes (term_of f h left))) (sym e)) (awaited_parts rules modules t [] (awaited_by_found (evaluated (term_of f h right))) None u.awaits u.call (u.waits_for rules) ∙ ap awaited_by_found (sym e)) a (sym e)
  where
    by : (x : Evaluated ℕ) → built_in_move rules t ≡ model_moves.move_found (model_moves.becomes (term_of f h left)) (evaluated_of (λ v. v) x) → awaited_by_term rules modules t ≡ awaited_by_found (evaluated_of (λ v. v) x) → awaited ≡ waits_by x → evaluated (term_of f h right) ≡ evaluated_of (λ v. v) x →
        StandsAs rules modules t awaited (computing x)
    by (ComesTo k) m w b c =
        let d = number_does rules t (term_of f h left) (term_of f h right) k u.is c u.call m in
        record { clause_is = d.0 ∙ sym (term_clause-built_in rules modules t (model_moves.becomes (term_of f h left) k) u.call m); does = d.1; awaits = same_by (awaited_by_term rules modules t) awaited (b ∙ sym w) }
    by (Awaits v) m w b c = record { clause_is = sym (term_clause-none rules modules t u.call m); does = tt; awaits = same_by (awaited_by_term rules modules t) awaited (b ∙ sym w) }
    by IsNoExpression m w b c = misuse_stands rules modules t awaited u.call m (b ∙ sym w)

-- how a goal stands that makes of a cell the name that codes spell
abbrev pub naming_by : Spelling → Standing
naming_by spelled.Spelled = standing.Names
naming_by (spelled.Waits v) = standing.Waits
naming_by spelled.Misspelled = standing.Misuses

-- and what it waits for
abbrev pub waits_by_spelling : Spelling → List ℕ
waits_by_spelling spelled.Spelled = []
waits_by_spelling (spelled.Waits v) = v ∷ []
waits_by_spelling spelled.Misspelled = []

pub spelling_stands : {N : Type 0} (f : N → List ℕ) (h : Held N) (rules : Rules) (modules : List Module) (t : Term) (list target : Cell N) (x : Spelling) (text awaited : List ℕ) → IsSpelling f h t list target → spelling_of x text ≡ spelling (most_spelled rules) (term_of f h list) → awaited ≡ waits_by_spelling x →
    StandsAs rules modules t awaited (naming_by x)
spelling_stands f h rules modules t list target x text awaited u e a =
    by x (u.built_in rules ∙ ap (model_moves.move_found (λ text. model_moves.names text (term_of f h target))) (sym e)) (awaited_parts rules modules t [] (awaited_by_found (spelling (most_spelled rules) (term_of f h list))) None u.awaits u.call (u.waits_for rules) ∙ ap awaited_by_found (sym e)) a (sym e)
  where
    by : (x : Spelling) → built_in_move rules t ≡ model_moves.move_found (λ text. model_moves.names text (term_of f h target)) (spelling_of x text) → awaited_by_term rules modules t ≡ awaited_by_found (spelling_of x text) → awaited ≡ waits_by_spelling x → spelling (most_spelled rules) (term_of f h list) ≡ spelling_of x text →
        StandsAs rules modules t awaited (naming_by x)
    by spelled.Spelled m w b c = record {
      clause_is = sym (term_clause-built_in rules modules t (model_moves.names text (term_of f h target)) u.call m);
      does = record { list = term_of f h list; target = term_of f h target; text = text; is = u.is; spells = c };
      awaits = same_by (awaited_by_term rules modules t) awaited (b ∙ sym w);
    }
    by (spelled.Waits v) m w b c = record { clause_is = sym (term_clause-none rules modules t u.call m); does = tt; awaits = same_by (awaited_by_term rules modules t) awaited (b ∙ sym w) }
    by spelled.Misspelled m w b c = misuse_stands rules modules t awaited u.call m (b ∙ sym w)

-- how a goal stands that opens a shoen
abbrev pub opening_by : Look → Standing
opening_by look.Right = standing.Opens
opening_by (look.Waits v) = standing.Waits
opening_by look.Wrong = standing.Misuses

-- and what it waits for
abbrev pub waits_by_look : Look → List ℕ
waits_by_look look.Right = []
waits_by_look (look.Waits v) = v ∷ []
waits_by_look look.Wrong = []

pub execution_stands : {N : Type 0} (f : N → List ℕ) (h : Held N) (rules : Rules) (modules : List Module) (t : Term) (s : ℕ) (o : ExecuteArguments N) (x : Look) (awaited : List ℕ) → IsExecution f h t s → IsOrder h s o → look_of x ≡ arguments_look (order_at f h o) → awaited ≡ waits_by_look x →
    StandsAs rules modules t awaited (opening_by x)
execution_stands f h rules modules t s o x awaited u at e a =
    by x (u.built_in rules o at ∙ ap (model_moves.move_found (λ right. model_moves.opens (order_at f h o))) (sym e)) (awaited_parts rules modules t [] (awaited_by_found (arguments_look (order_at f h o))) None u.awaits u.call (u.waits_for rules o at) ∙ ap awaited_by_found (sym e)) a (sym e)
  where
    by : (x : Look) → built_in_move rules t ≡ model_moves.move_found (λ right. model_moves.opens (order_at f h o)) (look_of x) → awaited_by_term rules modules t ≡ awaited_by_found (look_of x) → awaited ≡ waits_by_look x → arguments_look (order_at f h o) ≡ look_of x →
        StandsAs rules modules t awaited (opening_by x)
    by look.Right m w b c = record {
      clause_is = sym (term_clause-built_in rules modules t (model_moves.opens (order_at f h o)) u.call m);
      does = record { order = order_at f h o; is = u.is o at; look = c };
      awaits = same_by (awaited_by_term rules modules t) awaited (b ∙ sym w);
    }
    by (look.Waits v) m w b c = record { clause_is = sym (term_clause-none rules modules t u.call m); does = tt; awaits = same_by (awaited_by_term rules modules t) awaited (b ∙ sym w) }
    by look.Wrong m w b c = misuse_stands rules modules t awaited u.call m (b ∙ sym w)

-- ---- by kinds

-- how `shoen:execute` stands by the look at its arguments, and what it waits for
pub kind_executes : {N : Type 0} (f : N → List ℕ) (h : Held N) (rules : Rules) (modules : List Module) (t : Term) (k : Kind N) (s : ℕ) (o : ExecuteArguments N) (x : Look) (awaited : List ℕ) → k ≡ kind.Executes s → IsOrder h s o → look_of x ≡ arguments_look (order_at f h o) → awaited ≡ waits_by_look x →
    IsKind f h t k → StandsAs rules modules t awaited (opening_by x)
kind_executes {N = N} f h rules modules t k s o x awaited e at value waits is =
    let P : Kind N → Type 0 = λ y. IsKind f h t y in
    execution_stands f h rules modules t s o x awaited (subst P e is) at value waits

-- and `atom_from` by what its codes spell
pub kind_spells : {N : Type 0} (f : N → List ℕ) (h : Held N) (rules : Rules) (modules : List Module) (t : Term) (k : Kind N) (list target : Cell N) (x : Spelling) (text awaited : List ℕ) → k ≡ kind.Spells list target → spelling_of x text ≡ spelling (most_spelled rules) (term_of f h list) → awaited ≡ waits_by_spelling x →
    IsKind f h t k → StandsAs rules modules t awaited (naming_by x)
kind_spells {N = N} f h rules modules t k list target x text awaited e spells waits is =
    let P : Kind N → Type 0 = λ y. IsKind f h t y in
    spelling_stands f h rules modules t list target x text awaited (subst P e is) spells waits

pub kind_stands : {N : Type 0} (built : BuiltIn → N) (f : N → List ℕ) (h : Held N) (rules : Rules) (modules : List Module) (t : Term) (k : Kind N) (c : Call N) (goal : Cell N) (p : Predicate N) (before after : List ℕ) (choice : Option ℕ) (place : ℕ) (made : Standing) → Reads built f → k ≡ kind.Calls c → goal ≡ cell_of c → before ≡ [] →
    IsChoice built p.names.now p.clauses.now h goal before after choice → IsKind f h t k → HasPredicate f h modules k p → made ≡ standing_by choice place → StandsAs rules modules t after made
kind_stands {N = N} built f h rules modules t k c goal p before after choice place made r e own empty chosen is has so =
    let P : Kind N → Type 0 = λ x. IsKind f h t x in
    let Q : Kind N → Type 0 = λ x. HasPredicate f h modules x p in
    subst (λ (s : Standing). StandsAs rules modules t after s) (sym so) (call_stands f h rules modules t c goal chosen.named after choice place (subst P e is) own (chosen.awaited ∙ ap (λ l. l ++ chosen.named) empty) (chosen.chooses f r (clauses_of modules (call_at f h c)) (subst Q e has)))
