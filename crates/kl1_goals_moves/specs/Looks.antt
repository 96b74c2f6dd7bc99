-- What looks at cells come to.
use Rattle.std.specs.Prelude.{ℕ, nat_le, Bool, if◌then◌else◌, ℤ, pos, negsuc, Option, Some, None, ⊤}
use Rattle.kl1_model.specs.declared.limits.TheConstants.{MOST_PRIORITY}
use Rattle.kl1_store.specs.declared.cell.Cell.{Cell}
use Rattle.kl1_store.specs.declared.cell.Cell.TheVariants.{Variable, Integer, Atom, Structure}
use Rattle.kl1_store.specs.Held.{Held}
use Rattle.kl1_match.specs.Waiting.{IsUnbound}
use Rattle.kl1_goals_moves.specs.declared.look.Look.{Look}
use Rattle.kl1_goals_moves.specs.declared.look.Look.TheVariants.{Right, Waits, Wrong}
use Rattle.kl1_model.specs.Found.{Found, found, awaits, wrong}

-- a look as in the definitions
abbrev pub look_of : Look → Found ⊤
look_of Right = found tt
look_of (Waits v) = awaits v
look_of Wrong = wrong

-- the variable that a look waits for is unbound
abbrev pub LookIn : {N : Type 0} → Held N → Look → Type 0
LookIn h Right = Unit {0}
LookIn h (Waits v) = IsUnbound h v
LookIn h Wrong = Unit {0}

-- a look that is right if this holds
abbrev pub right_if : Bool → Look
right_if b = if b then Right else Wrong

-- one look, and another if it is right
abbrev pub then_look : Look → Look → Look
then_look Right next = next
then_look (Waits v) next = Waits v
then_look Wrong next = Wrong

-- an integer from 0 as a number
abbrev pub whole_of : ℤ → Option ℕ
whole_of (pos n) = Some n
whole_of (negsuc n) = None

-- the look at what may be a priority
abbrev pub priority_in : Option ℕ → Look
priority_in (Some n) = right_if (nat_le n MOST_PRIORITY)
priority_in None = Wrong

-- the look at what may be an allowance
abbrev pub allowance_in : Option ℕ → Look
allowance_in (Some n) = Right
allowance_in None = Wrong

-- the look at a priority, by what stands at its top
abbrev pub priority_by : {N : Type 0} → Cell N → Look
priority_by (Variable v) = Waits v
priority_by (Integer i) = priority_in (whole_of i)
priority_by (Atom a) = Wrong
priority_by (Structure s) = Wrong

-- the look at an allowance, by what stands at its top
abbrev pub allowance_by : {N : Type 0} → Cell N → Look
allowance_by (Variable v) = Waits v
allowance_by (Integer i) = allowance_in (whole_of i)
allowance_by (Atom a) = Wrong
allowance_by (Structure s) = Wrong

-- the look at what is called in the module of a name, by what stands at its top
abbrev pub callee_in : {N : Type 0} → Cell N → Look
callee_in (Variable v) = Waits v
callee_in (Integer i) = Wrong
callee_in (Atom a) = Right
callee_in (Structure s) = Right

-- the look at what is called in no module, by what stands at its top
abbrev pub callee_outside : {N : Type 0} → Cell N → Look
callee_outside (Variable v) = Waits v
callee_outside (Integer i) = Wrong
callee_outside (Atom a) = Wrong
callee_outside (Structure s) = Wrong

-- the look at a module's name and what is called in it, by what stands at their tops
abbrev pub callee_by : {N : Type 0} → Cell N → Cell N → Look
callee_by (Variable v) b = Waits v
callee_by (Integer i) b = callee_outside b
callee_by (Atom a) b = callee_in b
callee_by (Structure s) b = callee_outside b

-- the number that is there, or 0
abbrev pub number_in : Option ℕ → ℕ
number_in (Some n) = n
number_in None = 0

-- the number that a term is, by what stands at its top
abbrev pub number_by : {N : Type 0} → Cell N → ℕ
number_by (Variable v) = 0
number_by (Integer i) = number_in (whole_of i)
number_by (Atom a) = 0
number_by (Structure s) = 0
