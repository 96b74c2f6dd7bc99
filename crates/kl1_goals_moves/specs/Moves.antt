-- What a goal can do, by the definitions, told of cells and compiled clauses.
use Rattle.std.specs.Prelude.{◌≡◌, ℕ, ◌<◌, IsTrue, List, length, map, Option, Some, None, slice_get, if◌then◌else◌}
use Rattle.kl1_model.specs.declared.built_in.BuiltIn.TheVariants.{Failure}
use Rattle.kl1_model.specs.declared.rules.Rules.{Rules}
use Rattle.kl1_model.specs.Text.{is_text, text_of}
use Rattle.kl1_model.specs.Term.{Term}
use Rattle.kl1_model.specs.Module.{Clause, Module}
use Rattle.kl1_model.specs.Match.{clauses_of, Candidate}
use Rattle.kl1_model.specs.code.Sections.{candidates_from}
use Rattle.kl1_model.specs.Reduction as model
use Rattle.kl1_model.specs.Reduction.{commits, raises, unifies, names, opens, goes, gives_way}
use Rattle.kl1_model.specs.code.Waits.{move_by, least_clause}
use Rattle.kl1_store.specs.Held.{Held, IsIn, arguments_of}
use Rattle.kl1_store.specs.Meaning.{term_of}
use Rattle.kl1_clause.specs.declared.compiled_clause.CompiledClause.{CompiledClause}
use Rattle.kl1_clause.specs.declared.predicate.Predicate.{Predicate}
use Rattle.kl1_clause.specs.Clauses.{IsCompiled, AreCompiled}
use Rattle.kl1_match.specs.declared.place.Place.{Place}
use Rattle.kl1_match.specs.Instances.{AreThere, replacements_of}
use Rattle.kl1_match_verdict.specs.Candidates.{numbered}
use Rattle.kl1_goals_moves.specs.declared.call.Call.{Call}
use Rattle.kl1_goals_moves.specs.declared.kind.Kind.{Kind}
use Rattle.kl1_goals_moves.specs.declared.kind.Kind.TheVariants as kind
use Rattle.kl1_goals_moves.specs.declared.moves.Move.{Move}
use Rattle.kl1_goals_moves.specs.declared.moves.Move.TheVariants as move
use Rattle.kl1_match.specs.Kept.{kept_places}
use Rattle.kl1_goals_moves.specs.declared.trial.Trial.{Trial}
use Rattle.kl1_goals_moves.specs.declared.order.ExecuteArguments.{ExecuteArguments}
use Rattle.kl1_goals_moves.specs.Orders.{order_at, IsOrder}
use Rattle.kl1_goals_moves.specs.Calls.{arguments_at, call_at}

-- the cells at the places of the head's variables of the clause that was tried last
abbrev pub taken_places : {N : Type 0} → Trial N → List (Place N)
taken_places t = if t.is_in_order then kept_places t.scratch else t.places.items

-- if a goal is a call, these are the clauses of its predicate compiled
abbrev pub HasPredicate : {N : Type 0} → (N → List ℕ) → Held N → List Module → Kind N → Predicate N → Type 0
HasPredicate f h modules (kind.Calls c) p = AreCompiled (map f p.names.now) p.clauses.now (clauses_of modules (call_at f h c))
HasPredicate f h modules (kind.Unifies a b) p = Unit {0}
HasPredicate f h modules (kind.Assigns a b) p = Unit {0}
HasPredicate f h modules (kind.Spells a b) p = Unit {0}
HasPredicate f h modules (kind.Executes s) p = Unit {0}
HasPredicate f h modules kind.Goes p = Unit {0}
HasPredicate f h modules (kind.Waits v) p = Unit {0}
HasPredicate f h modules kind.Nothing p = Unit {0}

-- the clause of a move is one of the predicate, its cells are of the store, a text is a name, and an order has six arguments
abbrev pub MoveIn : {N : Type 0} → Held N → Predicate N → List (Place N) → List ℕ → Option (Move N) → Type 0
MoveIn h p places text None = Unit {0}
MoveIn h p places text (Some (move.Commits place)) = (place < length p.clauses.now) × AreThere h places
MoveIn h p places text (Some (move.Raises b)) = Unit {0}
MoveIn h p places text (Some (move.Unifies a b)) = IsIn h a × IsIn h b
MoveIn h p places text (Some (move.Names a)) = IsTrue (is_text text) × IsIn h a
MoveIn h p places text (Some (move.Opens s)) = (s < length h.structures) × (length (arguments_of h s) ≡ 6)
MoveIn h p places text (Some move.Goes) = Unit {0}
MoveIn h p places text (Some move.GivesWay) = Unit {0}

-- the move of a call that fails, or nothing
abbrev pub FailsAs : {N : Type 0} → (N → List ℕ) → Held N → Call N → List Clause → Option (Move N) → Type 0
FailsAs f h c cs None = least_clause cs (arguments_at f h c) ≡ Some 0 → ⊥
FailsAs f h c cs (Some (move.Commits place)) = ⊥
FailsAs f h c cs (Some (move.Raises b)) = (b ≡ Failure) × (least_clause cs (arguments_at f h c) ≡ Some 0)
FailsAs f h c cs (Some (move.Unifies a b)) = ⊥
FailsAs f h c cs (Some (move.Names a)) = ⊥
FailsAs f h c cs (Some (move.Opens s)) = ⊥
FailsAs f h c cs (Some move.Goes) = ⊥
FailsAs f h c cs (Some move.GivesWay) = ⊥

-- the candidate numbered `number` among the clauses of a call
abbrev pub candidate_at : {N : Type 0} → (N → List ℕ) → Held N → Call N → List Clause → ℕ → Option Candidate
candidate_at f h c cs number = numbered number (candidates_from 1 cs (arguments_at f h c))

-- this candidate has the clause at a place of a predicate, and these cells at the places of its head's variables
pub record IsCandidate {N : Type 0} (f : N → List ℕ) (h : Held N) (p : Predicate N) (place : ℕ) (places : List (Place N)) (k : Candidate) : Type 0 where
  pub compiled : CompiledClause
  pub at : slice_get p.clauses.now place ≡ Some compiled
  pub is : IsCompiled (map f p.names.now) compiled k.clause
  pub places_are : replacements_of f h places ≡ k.places

-- the candidate numbered `number`, whose clause stands at `place`
pub record CommitsBy {N : Type 0} (f : N → List ℕ) (h : Held N) (c : Call N) (p : Predicate N) (cs : List Clause) (number place : ℕ) (places : List (Place N)) : Type 0 where
  pub candidate : Candidate
  pub found : candidate_at f h c cs number ≡ Some candidate
  pub is : IsCandidate f h p place places candidate

-- the move by the clause numbered `number`, or nothing
abbrev pub CommitsAs : {N : Type 0} → (N → List ℕ) → Held N → Call N → Predicate N → List Clause → ℕ → List (Place N) → Option (Move N) → Type 0
CommitsAs f h c p cs number places None = candidate_at f h c cs number ≡ None
CommitsAs f h c p cs number places (Some (move.Commits place)) = CommitsBy f h c p cs number place places
CommitsAs f h c p cs number places (Some (move.Raises b)) = ⊥
CommitsAs f h c p cs number places (Some (move.Unifies a b)) = ⊥
CommitsAs f h c p cs number places (Some (move.Names a)) = ⊥
CommitsAs f h c p cs number places (Some (move.Opens s)) = ⊥
CommitsAs f h c p cs number places (Some move.Goes) = ⊥
CommitsAs f h c p cs number places (Some move.GivesWay) = ⊥

-- the move is a candidate, whose clause stands at a place
pub record CommitsTo {N : Type 0} (f : N → List ℕ) (h : Held N) (m : Option model.Move) (p : Predicate N) (place : ℕ) (places : List (Place N)) : Type 0 where
  pub candidate : Candidate
  pub moves : m ≡ Some (commits candidate)
  pub is : IsCandidate f h p place places candidate

-- a move of the definitions, or none, is this one told of cells, and a text is what it names
abbrev pub IsMove : {N : Type 0} → (N → List ℕ) → Held N → Option model.Move → Predicate N → List (Place N) → List ℕ → Option (Move N) → Type 0
IsMove f h m p places text None = m ≡ None
IsMove f h m p places text (Some (move.Commits place)) = CommitsTo f h m p place places
IsMove f h m p places text (Some (move.Raises b)) = m ≡ Some (raises (text_of b))
IsMove f h m p places text (Some (move.Unifies a b)) = m ≡ Some (unifies (term_of f h a) (term_of f h b))
IsMove f h m p places text (Some (move.Names a)) = m ≡ Some (names text (term_of f h a))
IsMove {N = N} f h m p places text (Some (move.Opens s)) = (o : ExecuteArguments N) → IsOrder h s o → m ≡ Some (opens (order_at f h o))
IsMove f h m p places text (Some move.Goes) = m ≡ Some goes
IsMove f h m p places text (Some move.GivesWay) = m ≡ Some gives_way

-- what a goal can do by the clause numbered `number` is this move, and a text is what it names
abbrev pub MovesAs : {N : Type 0} → (N → List ℕ) → Held N → Rules → List Module → Term → ℕ → Predicate N → List (Place N) → List ℕ → Option (Move N) → Type 0
MovesAs f h rules modules t number p places text found = IsMove f h (move_by rules modules t number) p places text found
