-- What a run reads and writes.
use Rattle.std.specs.Prelude.{◌≡◌, ℕ, ◌+◌, ◌<◌, List, length, Ok, Err}
use Rattle.std.specs.declared.option.Option.{Option}
use Rattle.std.specs.declared.result.Result.{Result}
use Rattle.std.specs.Io.KnownBytes.{Appends, Consumes}
use Rattle.kl1_model.specs.declared.limits.TheConstants.{MOST_SCRIPT_BYTES}
use Rattle.kl1_lines.specs.Devices.{IsLeft, IsWhole, AppendsFront}
use Rattle.kl1_lines.specs.Replies.{StopsAfter}
use Rattle.kl1_lines.specs.declared.script_fault.ScriptFault.{ScriptFault}
use Rattle.kl1_lines.specs.declared.script_fault.ScriptFault.TheVariants as faults

-- the two streams of a run: the bytes to be read and those that were written, if they are known, and how many calls of each failed
pub record Streams : Type 0 where
  pub remaining : Option (List ℕ)
  pub failed_reads : ℕ
  pub contents : Option (List ℕ)
  pub failed_writes : ℕ

-- the streams that a source and a sink are
abbrev pub streams : {R W : Type 0} → (R → Option (List ℕ)) → (R → ℕ) → (W → Option (List ℕ)) → (W → ℕ) → R → W → Streams
streams remaining failed_reads contents failed_writes source sink = record { remaining = remaining source; failed_reads = failed_reads source; contents = contents sink; failed_writes = failed_writes sink }

-- a text was read to its end, and its output was written, and nothing else
pub record Answered (output : List ℕ → List ℕ) (old new : Streams) : Type 0 where
  pub text : List ℕ
  pub whole : IsWhole old.remaining new.remaining text
  pub written : Appends old.contents new.contents (output text)

-- of a text that was to be read, the first replies were written, fewer than all, and nothing else
pub record StopsBefore (replies : List ℕ → List (List ℕ)) (old new : Streams) : Type 0 where
  pub text : List ℕ
  pub left : IsLeft old.remaining text
  pub stops : StopsAfter old.contents new.contents (replies text)

-- of a text that was to be read, the output was written up to some place
pub record BreaksOff (output : List ℕ → List ℕ) (old new : Streams) : Type 0 where
  pub text : List ℕ
  pub left : IsLeft old.remaining text
  pub written : AppendsFront old.contents new.contents (output text)

-- one byte more was read than a text may have
abbrev pub ReadsMany : Streams → Streams → Type 0
ReadsMany old new = (bytes : List ℕ) × (length bytes ≡ MOST_SCRIPT_BYTES + 1) × Consumes old.remaining new.remaining bytes

-- no read failed
abbrev pub NoReadFailed : Streams → Streams → Type 0
NoReadFailed old new = new.failed_reads ≡ old.failed_reads

-- no write failed
abbrev pub NoWriteFailed : Streams → Streams → Type 0
NoWriteFailed old new = new.failed_writes ≡ old.failed_writes

-- how a run ends that reads a text and writes its output, which begins with these replies: the output was written; or memory was
-- refused, and fewer replies than all were written; or a write failed, and the output was written up to some place; or a read failed, or
-- the text is too long, and nothing was written. A failure is told just if it happened
abbrev pub Runs : {T : Type 0} → (List ℕ → List ℕ) → (List ℕ → List (List ℕ)) → Streams → Streams → Result T ScriptFault → Type 0
Runs output replies old new (Ok x) = Answered output old new × NoReadFailed old new × NoWriteFailed old new
Runs output replies old new (Err faults.Memory) = StopsBefore replies old new × NoReadFailed old new × NoWriteFailed old new
Runs output replies old new (Err faults.Write) = BreaksOff output old new × NoReadFailed old new × (old.failed_writes < new.failed_writes)
Runs output replies old new (Err faults.Read) = (new.contents ≡ old.contents) × (old.failed_reads < new.failed_reads) × NoWriteFailed old new
Runs output replies old new (Err faults.TooLong) = (new.contents ≡ old.contents) × ReadsMany old new × NoReadFailed old new × NoWriteFailed old new
