-- The fields of a code as a module.
use Rattle.std.specs.Prelude.{◌≡◌, [], map}
use Rattle.kl1_model.specs.Module.{Module}
use Rattle.kl1_model.specs.State.{names_of_module}
use Rattle.kl1_clause.specs.declared.code.Code.TheInside.{Inside}
use Rattle.kl1_clause.specs.NameList.{with_texts}
use Rattle.kl1_clause.specs.Clauses.{clause_in, AreCompiled}
use Rattle.kl1_clause.specs.Modules.{IsMeant}

-- the module that a code means
abbrev pub module_in : Inside → Module
module_in c = record { name = c.name; source = c.source.items; clauses = map (clause_in c.names) c.clauses.items }

-- a code is what its source means
pub record IsSound (c : Inside) : Type 0 where
  pub names_are : c.names ≡ with_texts [] (names_of_module (module_in c))
  pub compiled : AreCompiled c.names c.clauses.items (module_in c).clauses
  pub meant : IsMeant c.source.items (module_in c)
