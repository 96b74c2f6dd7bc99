-- What goals are to do that were judged.
use Rattle.std.specs.Prelude.{◌≡◌, ℕ, ◌<◌, List, codes, Some, None}
use Rattle.kl1_model.specs.Term.{Term, atom, structure, Terms, none, more}
use Rattle.kl1_model.specs.Meaning.{pair}
use Rattle.kl1_model.specs.Match.{Call, call_of}
use Rattle.kl1_model.specs.Arithmetic.{evaluated}
use Rattle.kl1_model.specs.Look.{spelling, goal_look, ExecuteArguments, arguments_look}
use Rattle.kl1_model.specs.Found.{found, wrong}
use Rattle.kl1_model.specs.declared.number.Number.{Number}
use Rattle.kl1_model.specs.declared.number.Number.TheVariants.{Value, Overflow}
use Rattle.kl1_model.specs.declared.rules.Rules.{Rules}
use Rattle.kl1_model.specs.State.{most_spelled}
use Rattle.kl1_model.specs.Reduction.{raises, built_in_move, illegal_input}
use Rattle.kl1_goals.specs.declared.standing.Standing.{Standing}
use Rattle.kl1_goals.specs.declared.standing.Standing.TheVariants as standing

-- the arguments of an order
abbrev pub six : ExecuteArguments → Terms
six o = more o.goal (more o.low (more o.high (more o.allowance (more o.control (more o.reports none)))))

-- an order for a new shoen as a goal
abbrev pub order_goal : ExecuteArguments → Term
order_goal o = pair (codes ":") (atom (codes "shoen")) (structure (codes "execute") (six o))

-- a term is a call
pub record IsCalling (t : Term) : Type 0 where
  pub call : Call
  pub is : call_of t ≡ Some call

-- a term is a unification
pub record IsUnifying (t : Term) : Type 0 where
  pub left : Term
  pub right : Term
  pub is : t ≡ pair (codes "=") left right

-- a term makes its first argument what the second comes to: this number
pub record IsComputing (t : Term) (n : Number) : Type 0 where
  pub left : Term
  pub right : Term
  pub is : t ≡ pair (codes ":=") left right
  pub comes : evaluated right ≡ found n

-- a term uses a text as a name
pub record IsNaming (rules : Rules) (t : Term) : Type 0 where
  pub list : Term
  pub target : Term
  pub text : List ℕ
  pub is : t ≡ pair (codes "atom_from") list target
  pub spells : spelling (most_spelled rules) list ≡ found text

-- a term is a right order for a new shoen
pub record IsOrdering (t : Term) : Type 0 where
  pub order : ExecuteArguments
  pub is : t ≡ order_goal order
  pub look : arguments_look order ≡ found tt

-- a term raises an exception of illegal input, and is no call
pub record IsMisusing (rules : Rules) (t : Term) : Type 0 where
  pub call : call_of t ≡ None
  pub move : built_in_move rules t ≡ Some (raises illegal_input)

-- a term that stands so as a goal is of this form
abbrev pub DoesAs : Rules → Term → Standing → Type 0
DoesAs rules t standing.Waits = Unit {0}
DoesAs rules t (standing.Commits clause place) = IsCalling t × (0 < clause)
DoesAs rules t standing.Fails = IsCalling t
DoesAs rules t standing.Unifies = IsUnifying t
DoesAs rules t (standing.Becomes z) = IsComputing t (Value z)
DoesAs rules t standing.Overflows = IsComputing t Overflow
DoesAs rules t standing.Misuses = IsMisusing rules t
DoesAs rules t standing.Names = IsNaming rules t
DoesAs rules t standing.Opens = IsOrdering t
DoesAs rules t standing.Goes = t ≡ atom (codes "true")
DoesAs rules t standing.Reads = ⊥
DoesAs rules t standing.GivesWay = ⊥

-- a substitute stands so while its term is this
abbrev pub SubstituteDoes : Term → Standing → Type 0
SubstituteDoes t standing.Waits = Unit {0}
SubstituteDoes t (standing.Commits clause place) = ⊥
SubstituteDoes t standing.Fails = ⊥
SubstituteDoes t standing.Unifies = ⊥
SubstituteDoes t (standing.Becomes z) = ⊥
SubstituteDoes t standing.Overflows = ⊥
SubstituteDoes t standing.Misuses = goal_look t ≡ wrong
SubstituteDoes t standing.Names = ⊥
SubstituteDoes t standing.Opens = ⊥
SubstituteDoes t standing.Goes = ⊥
SubstituteDoes t standing.Reads = ⊥
SubstituteDoes t standing.GivesWay = goal_look t ≡ found tt

-- a goal that stands so doesn't commit
abbrev pub IsNoCommit : Standing → Type 0
IsNoCommit s = (clause place : ℕ) → s ≡ standing.Commits clause place → ⊥
