use Rattle.std.proofs.Common.{◌≡◌, ◌++◌, length}
use Rattle.kl1_model_server.specs.JournalText.{hex_text}
use Rattle.kl1_journal_entries.proofs.lines.put_hex.Given as goal

-- the bytes put so far, with the digits of those that are left, are the bytes before and the digits of all
abbrev pub invariant-loop-rest : goal.invariant-loop-rest
invariant-loop-rest l = l.out.items ++ hex_text l.rest ≡ l.fn.out.items ++ hex_text l.fn.bytes

abbrev pub decreases-loop-rest : goal.decreases-loop-rest
decreases-loop-rest l = length l.rest
