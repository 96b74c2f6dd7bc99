-- What contracts see of a file with the journal that was read from it.
use Rattle.std.specs.Prelude.{ℕ, Bool, Option}
use Rattle.kl1_model.specs.declared.rules.Rules.{Rules}
use Rattle.kl1_log.specs.Files.{Known}
use Rattle.kl1_journal_entries.specs.Lined.{Rows}

-- what was known of the file when it was read; to which rules the account keeps, and whether a fault was to be repaired; the journal with which
-- the account begins; and the line of the fault that was repaired
pub record OpenedValue : Type 0 where
  pub found : Known
  pub rules : Rules
  pub repair : Bool
  pub journal : Rows
  pub repaired : Option ℕ
