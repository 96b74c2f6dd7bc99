use Rattle.std.proofs.Common.{◌≡◌, ◌++◌, length}
use Rattle.std.specs.Prelude.{IsTrue}
use Rattle.std.specs.List.{list_all}
use Rattle.kl1_model_server.specs.JournalText.{is_hex_digit, hex_bytes}
use Rattle.kl1_journal_entries.proofs.loose.hex_bytes.Given as goal

-- the bytes put so far, with those of the digits that are left, are those of all digits; and what is left are digits
abbrev pub invariant-loop-rest : goal.invariant-loop-rest
invariant-loop-rest l = (l.out.items ++ hex_bytes l.rest ≡ hex_bytes l.digits) × IsTrue (list_all is_hex_digit l.rest)

abbrev pub decreases-loop-rest : goal.decreases-loop-rest
decreases-loop-rest l = length l.rest
