-- What is known of a file with what waits for it.
use Rattle.std.specs.Prelude.{⊤, ℕ, List, Option, Some, None}
use Rattle.kl1_model_server.specs.Journal.{Journal}
use Rattle.kl1_log.specs.Waits.{IsUpTo}
use Rattle.kl1_log.specs.declared.log_error.LogError.TheVariants.{Stopped, NotNext, Memory as NoRoom, Failed}
use Rattle.kl1_log.specs.declared.waiting.Waiting.{Waiting}
use Rattle.kl1_host_journals.specs.declared.linking.LinkFault.{LinkFault}
use Rattle.kl1_host_journals.specs.declared.linking.LinkFault.TheVariants.{Unread, Unwritten, Memory}

-- if the text of a file is known, what waits for it makes it one of this journal
abbrev pub IsUpToIf : Waiting → Option (List ℕ) → Journal → Type 0
IsUpToIf w None j = ⊤
IsUpToIf w (Some text) j = IsUpTo w text j

-- a file isn't linked since a call of it failed, or memory was refused; what is written to it is always its next change
abbrev pub IsOfFile : LinkFault → Type 0
IsOfFile (Unread error) = ⊤
IsOfFile (Unwritten Stopped) = ⊥
IsOfFile (Unwritten NotNext) = ⊥
IsOfFile (Unwritten NoRoom) = ⊤
IsOfFile (Unwritten (Failed error)) = ⊤
IsOfFile Memory = ⊤
