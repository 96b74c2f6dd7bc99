-- What a code means, and what it is made of.
use Rattle.std.specs.Prelude.{◌≡◌, ℕ, List}
use Rattle.kl1_model.specs.Module.{Module, Reading, read_module, good, bad}
use Rattle.kl1_clause.specs.declared.code_fault.CodeFault.{CodeFault}
use Rattle.kl1_clause.specs.declared.code_fault.CodeFault.TheVariants.{Bad, Memory}

-- a source means a module
pub record IsMeant (source : List ℕ) (m : Module) : Type 0 where
  pub reads : read_module source ≡ good m

-- a bad item is on the line that the definitions say; want of memory says nothing of the source
abbrev pub IsFaultOf : {A : Type 0} → Reading A → CodeFault → Type 0
IsFaultOf reading (Bad line) = reading ≡ bad line
IsFaultOf reading Memory = Unit {0}
