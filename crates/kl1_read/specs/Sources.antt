-- What is read of a text, and what a fault says of it.
use Rattle.std.specs.Prelude.{◌≡◌, ℕ, List, map}
use Rattle.kl1_model.specs.Term.{terms_of}
use Rattle.kl1_model.specs.Module.{BodyGoal, Clause, Module, Reading, bad}
use Rattle.kl1_read.specs.declared.clause_parts.ClauseParts.{ClauseParts}
use Rattle.kl1_read.specs.declared.clause_parts.GoalParts.{GoalParts}
use Rattle.kl1_read.specs.declared.source.Source.{Source}
use Rattle.kl1_read.specs.declared.read_fault.ReadFault.{ReadFault}
use Rattle.kl1_read.specs.declared.read_fault.ReadFault.TheVariants.{Bad, Memory}

-- the goal that parts are
abbrev pub goal_of_parts : GoalParts → BodyGoal
goal_of_parts p = record { goal = p.goal; priority = p.priority }

-- the clause that parts are
abbrev pub clause_of_parts : ClauseParts → Clause
clause_of_parts p = record { name = p.name; patterns = terms_of p.patterns.items; tests = p.tests.items; section = p.section; body = map goal_of_parts p.body.items }

-- the module that parts are, of this source
abbrev pub module_of_parts : List ℕ → Source → Module
module_of_parts source p = record { name = p.name; source = source; clauses = map clause_of_parts p.clauses.items }

-- a bad item is on the line that the definitions say; want of memory says nothing of the text
abbrev pub IsFaultOf : {A : Type 0} → Reading A → ReadFault → Type 0
IsFaultOf reading (Bad line) = reading ≡ bad line
IsFaultOf reading Memory = Unit {0}
