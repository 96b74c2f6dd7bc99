use Rattle.std.proofs.Common.{◌≡◌, ◌≤◌, ◌++◌, length}
use Rattle.kl1_model.specs.declared.limits.TheConstants.{MOST_NAME_BYTES}
use Rattle.kl1_model_server.specs.JournalText.{unquoted}
use Rattle.kl1_journal_entries.proofs.name.unquoted.Given as goal

-- the bytes put so far, with those that are left without their quotes, are all without their quotes
abbrev pub invariant-loop-rest : goal.invariant-loop-rest
invariant-loop-rest l = (l.out ++ unquoted l.rest ≡ unquoted l.bytes) × (length l.out ≤ MOST_NAME_BYTES)

abbrev pub decreases-loop-rest : goal.decreases-loop-rest
decreases-loop-rest l = length l.rest
