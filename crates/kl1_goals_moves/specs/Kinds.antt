-- What kinds of goals terms are.
use Rattle.std.specs.Prelude.{◌≡◌, ℕ, ◌<◌, if◌then◌else◌, List, [], ◌∷◌, length, codes, Option, Some, None}
use Rattle.kl1_model.specs.Term.{Term, atom, count_of}
use Rattle.kl1_model.specs.Match.{call_of}
use Rattle.kl1_model.specs.Arithmetic.{evaluated}
use Rattle.kl1_model.specs.Look.{spelling, arguments_look}
use Rattle.kl1_model.specs.declared.rules.Rules.{Rules}
use Rattle.kl1_model.specs.State.{most_spelled}
use Rattle.kl1_model.specs.Reduction.{unifies, goes, built_in_move, becomes, move_found, names, opens}
use Rattle.kl1_model.specs.code.Waits.{awaited_at_head, awaited_by_built_in, awaited_by_found}
use Rattle.kl1_store.specs.declared.cell.Cell.{Cell}
use Rattle.kl1_store.specs.Held.{Held, IsIn, arguments_of}
use Rattle.kl1_store.specs.Meaning.{term_of}
use Rattle.kl1_goals_moves.specs.declared.call.Call.{Call}
use Rattle.kl1_goals_moves.specs.declared.calling.Callee.{Callee}
use Rattle.kl1_goals_moves.specs.declared.calling.Callee.TheVariants as callee
use Rattle.kl1_goals_moves.specs.declared.order.ExecuteArguments.{ExecuteArguments}
use Rattle.kl1_goals_moves.specs.declared.kind.Kind.{Kind}
use Rattle.kl1_goals_moves.specs.declared.kind.Kind.TheVariants as kind
use Rattle.kl1_model.specs.Meaning.{pair}
use Rattle.kl1_goals_moves.specs.Judged.{order_goal}
use Rattle.kl1_goals_moves.specs.Shapes.{IsNoGoal}
use Rattle.kl1_match.specs.Waiting.{IsUnbound}
use Rattle.kl1_goals_moves.specs.Orders.{order_at, IsOrder}
use Rattle.kl1_goals_moves.specs.Calls.{cell_of, arguments_at, call_at, is_order}

-- a term is this call
pub record IsCall {N : Type 0} (f : N → List ℕ) (h : Held N) (t : Term) (c : Call N) : Type 0 where
  pub is : call_of t ≡ Some (call_at f h c)
  pub counted : count_of (arguments_at f h c) ≡ c.count
  pub awaits : awaited_at_head t ≡ []
  pub waits_no_more : (rules : Rules) → awaited_by_built_in rules t ≡ []

-- a term is a unification of two cells
pub record IsUnification {N : Type 0} (f : N → List ℕ) (h : Held N) (t : Term) (left right : Cell N) : Type 0 where
  pub is : t ≡ pair (codes "=") (term_of f h left) (term_of f h right)
  pub call : call_of t ≡ None
  pub built_in : (rules : Rules) → built_in_move rules t ≡ Some (unifies (term_of f h left) (term_of f h right))
  pub awaits : awaited_at_head t ≡ []
  pub waits_no_more : (rules : Rules) → awaited_by_built_in rules t ≡ []

-- a term makes a cell what another comes to as an expression
pub record IsAssignment {N : Type 0} (f : N → List ℕ) (h : Held N) (t : Term) (left right : Cell N) : Type 0 where
  pub is : t ≡ pair (codes ":=") (term_of f h left) (term_of f h right)
  pub call : call_of t ≡ None
  pub built_in : (rules : Rules) → built_in_move rules t ≡ move_found (becomes (term_of f h left)) (evaluated (term_of f h right))
  pub awaits : awaited_at_head t ≡ []
  pub waits_for : (rules : Rules) → awaited_by_built_in rules t ≡ awaited_by_found (evaluated (term_of f h right))

-- a term makes of a cell the name that another spells
pub record IsSpelling {N : Type 0} (f : N → List ℕ) (h : Held N) (t : Term) (list target : Cell N) : Type 0 where
  pub is : t ≡ pair (codes "atom_from") (term_of f h list) (term_of f h target)
  pub call : call_of t ≡ None
  pub built_in : (rules : Rules) → built_in_move rules t ≡ move_found (λ text. names text (term_of f h target)) (spelling (most_spelled rules) (term_of f h list))
  pub awaits : awaited_at_head t ≡ []
  pub waits_for : (rules : Rules) → awaited_by_built_in rules t ≡ awaited_by_found (spelling (most_spelled rules) (term_of f h list))

-- a term is `shoen:execute` with the arguments of a structure, which are an order for a new shoen
pub record IsExecution {N : Type 0} (f : N → List ℕ) (h : Held N) (t : Term) (s : ℕ) : Type 0 where
  pub is : (o : ExecuteArguments N) → IsOrder h s o → t ≡ order_goal (order_at f h o)
  pub call : call_of t ≡ None
  pub built_in : (rules : Rules) (o : ExecuteArguments N) → IsOrder h s o → built_in_move rules t ≡ move_found (λ right. opens (order_at f h o)) (arguments_look (order_at f h o))
  pub awaits : awaited_at_head t ≡ []
  pub waits_for : (rules : Rules) (o : ExecuteArguments N) → IsOrder h s o → awaited_by_built_in rules t ≡ awaited_by_found (arguments_look (order_at f h o))

-- a term is `true`
pub record IsTrueGoal (t : Term) : Type 0 where
  pub is : t ≡ atom (codes "true")
  pub call : call_of t ≡ None
  pub built_in : (rules : Rules) → built_in_move rules t ≡ Some goes
  pub awaits : awaited_at_head t ≡ []
  pub waits_no_more : (rules : Rules) → awaited_by_built_in rules t ≡ []

-- a term is of this kind
abbrev pub IsKind : {N : Type 0} → (N → List ℕ) → Held N → Term → Kind N → Type 0
IsKind f h t (kind.Calls c) = IsCall f h t c
IsKind f h t (kind.Unifies left right) = IsUnification f h t left right
IsKind f h t (kind.Assigns left right) = IsAssignment f h t left right
IsKind f h t (kind.Spells list target) = IsSpelling f h t list target
IsKind f h t (kind.Executes s) = IsExecution f h t s
IsKind f h t kind.Goes = IsTrueGoal t
IsKind f h t (kind.Waits v) = IsNoGoal t (v ∷ [])
IsKind f h t kind.Nothing = IsNoGoal t []

-- the cells are of the store, and a variable is unbound
abbrev pub KindIn : {N : Type 0} → Held N → Kind N → Type 0
KindIn h (kind.Calls c) = IsIn h (cell_of c)
KindIn h (kind.Unifies left right) = IsIn h left × IsIn h right
KindIn h (kind.Assigns left right) = IsIn h left × IsIn h right
KindIn h (kind.Spells list target) = IsIn h list × IsIn h target
KindIn h (kind.Executes s) = (s < length h.structures) × (length (arguments_of h s) ≡ 6)
KindIn h kind.Goes = Unit {0}
KindIn h (kind.Waits v) = IsUnbound h v
KindIn h kind.Nothing = Unit {0}

-- a call of `shoen:execute` is an order if its goal is a structure
abbrev pub order_kind : {N : Type 0} → Call N → Option ℕ → Kind N
order_kind c None = kind.Calls c
order_kind c (Some s) = kind.Executes s

-- the kind of goal that a call is
abbrev pub call_kind : {N : Type 0} → (N → List ℕ) → Call N → Kind N
call_kind f c = if is_order f c then order_kind c c.structure else kind.Calls c

-- what is called in the module of a name, as a goal's kind
abbrev pub callee_kind : {N : Type 0} → (N → List ℕ) → Callee N → Kind N
callee_kind f (callee.Calls c) = call_kind f c
callee_kind f (callee.Waits v) = kind.Waits v
callee_kind f callee.Nothing = kind.Nothing
