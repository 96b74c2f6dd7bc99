-- What stands at the top of a goal.
use Rattle.std.specs.Prelude.{◌≡◌, ℕ, Bool, true, false, List, [], None}
use Rattle.kl1_model.specs.declared.rules.Rules.{Rules}
use Rattle.kl1_model.specs.Term.{Term, variable, integer, atom, structure, none, more}
use Rattle.kl1_model.specs.Match.{call_of}
use Rattle.kl1_model.specs.Reduction.{built_in_move}
use Rattle.kl1_model.specs.code.Waits.{awaited_at_head, awaited_by_built_in}
use Rattle.kl1_store.specs.declared.cell.Cell.{Cell}
use Rattle.kl1_store.specs.Held.{Held, IsIn}
use Rattle.kl1_store.specs.Meaning.{term_of}
use Rattle.kl1_match.specs.Waiting.{IsUnbound}
use Rattle.kl1_goals_moves.specs.declared.shape.Shape.{Shape}
use Rattle.kl1_goals_moves.specs.declared.shape.Shape.TheVariants.{Variable, Atom, Two, Other}

-- the term of a name and two arguments
abbrev pub two_terms : {N : Type 0} → (N → List ℕ) → Held N → N → Cell N → Cell N → Term
two_terms f h name left right = structure (f name) (more (term_of f h left) (more (term_of f h right) none))

-- a term that is neither a call nor a built-in goal, for which these variables count
pub record IsNoGoal (t : Term) (vs : List ℕ) : Type 0 where
  pub call : call_of t ≡ None
  pub built_in : (rules : Rules) → built_in_move rules t ≡ None
  pub awaits : awaited_at_head t ≡ vs
  pub waits_no_more : (rules : Rules) → awaited_by_built_in rules t ≡ []

-- whether a term is an integer, or a structure of another number of arguments than two
abbrev pub is_other : Term → Bool
is_other (variable v) = false
is_other (integer i) = true
is_other (atom a) = false
is_other (structure f (more a (more b none))) = false
is_other (structure f ts) = true

-- this stands at the top of a term
abbrev pub HasShape : {N : Type 0} → (N → List ℕ) → Held N → Term → Shape N → Type 0
HasShape f h t (Variable v) = t ≡ variable v
HasShape f h t (Atom name) = t ≡ atom (f name)
HasShape f h t (Two name left right) = t ≡ two_terms f h name left right
HasShape f h t Other = is_other t ≡ true

-- the cells are of the store, and a variable is unbound
abbrev pub ShapeIn : {N : Type 0} → Held N → Shape N → Type 0
ShapeIn h (Variable v) = IsUnbound h v
ShapeIn h (Atom name) = Unit {0}
ShapeIn h (Two name left right) = IsIn h left × IsIn h right
ShapeIn h Other = Unit {0}
