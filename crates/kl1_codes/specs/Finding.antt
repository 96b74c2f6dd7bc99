-- What is found by a module's name, a predicate's name and its number of arguments.
use Rattle.std.specs.Prelude.{◌≡◌, ℕ, ◌==◌, Bool, List, map, filter, Option, is_some}
use Rattle.std.specs.List.{list_any}
use Rattle.kl1_model.specs.Term.{count_of}
use Rattle.kl1_model.specs.Module.{Module, is_of}
use Rattle.kl1_model.specs.Match.{Call, module_of, clauses_of}
use Rattle.kl1_text.specs.Reading.{Reads}
use Rattle.kl1_text.specs.declared.cell_name.CellName.{CellName}
use Rattle.kl1_clause.specs.declared.predicate.Predicate.{Predicate}
use Rattle.kl1_clause.specs.Predicates.{FoundAs}
use Rattle.kl1_codes.specs.Numbered.{Numbered, IsRead, AreRead, built, number_of}

-- however names are read, the clauses of a predicate of a module are found
abbrev pub FindsIn : Numbered → CellName → ℕ → Option (Predicate CellName) → Type 0
FindsIn l name count found = (f : CellName → List ℕ) → Reads built f → IsRead f l → FoundAs f (filter (is_of (f name) count) l.content.clauses) found

-- modules with the numbers of their names, as the modules that they are
abbrev pub contents : List Numbered → List Module
contents ls = map (λ l. l.content) ls

-- a call in the module named `module_name`, of the predicate with name `name` and `count` arguments
pub record Asks (f : CellName → List ℕ) (module_name name : CellName) (count : ℕ) (call : Call) : Type 0 where
  pub module_is : call.module_name ≡ f module_name
  pub name_is : call.name ≡ f name
  pub counted : count_of call.arguments ≡ count

-- however names are read, the clauses of each call of a predicate are found
abbrev pub Finds : List Numbered → CellName → CellName → ℕ → Option (Predicate CellName) → Type 0
Finds ls module_name name count found =
    (f : CellName → List ℕ) → Reads built f → AreRead f ls → (call : Call) → Asks f module_name name count call → FoundAs f (clauses_of (contents ls) call) found

-- whether one of modules has a number for its name
abbrev pub is_numbered : List Numbered → CellName → Bool
is_numbered ls name = list_any (λ l. (number_of l).number == name.number) ls

-- however names are read, this tells whether a module of a name is there
abbrev pub TellsModule : List Numbered → CellName → Bool → Type 0
TellsModule ls name given = (f : CellName → List ℕ) → Reads built f → AreRead f ls → given ≡ is_some (module_of (contents ls) (f name))
