-- What a run is, by what it read and how its records were answered.
use Rattle.std.proofs.Common.{◌≡◌, ℕ, ◌+◌, ◌<◌, List, length, refl, arith}
use Rattle.std.specs.Prelude.{Ok, Err, IsErrOf}
use Rattle.std.specs.declared.result.Result.{Result}
use Rattle.std.specs.Io.KnownBytes.{Consumes}
use Rattle.kl1_model.specs.declared.limits.TheConstants.{MOST_SCRIPT_BYTES}
use Rattle.kl1_lines.specs.Devices.{IsWhole}
use Rattle.kl1_lines.specs.Replies.{Ends}
use Rattle.kl1_lines.specs.Runs.{Runs, Streams}
use Rattle.kl1_lines.specs.declared.script_fault.ScriptFault.{ScriptFault}
use Rattle.kl1_lines.specs.declared.script_fault.ScriptFault.TheVariants as faults
use Rattle.kl1_lines.proofs.DeviceLaws.{appends_none, some_left, whole_is_left}

-- a text was read to its end, and its records were answered
pub runs_whole : {T : Type 0} (r : Result T ScriptFault) (output : List ℕ → List ℕ) (replies : List ℕ → List (List ℕ)) (text : List ℕ) (old new : Streams) → IsWhole old.remaining new.remaining text → new.failed_reads ≡ old.failed_reads → Ends old.contents new.contents old.failed_writes new.failed_writes (output text) (replies text) r → Runs output replies old new r
runs_whole (Ok x) output replies text old new whole kept e = (record { text = text; whole = whole; written = e.0 }, kept, e.1)
runs_whole (Err faults.Memory) output replies text old new whole kept e = (record { text = text; left = whole_is_left old.remaining new.remaining text whole; stops = e.0 }, kept, e.1)
runs_whole (Err faults.Write) output replies text old new whole kept e = (record { text = text; left = whole_is_left old.remaining new.remaining text whole; written = e.0 }, kept, e.1)
runs_whole (Err faults.Read) output replies text old new whole kept e = absurd e
runs_whole (Err faults.TooLong) output replies text old new whole kept e = absurd e

-- the text was not read to its end, and nothing was written
pub runs_unread : (T S : Type 0) (fault : ScriptFault) (output : List ℕ → List ℕ) (replies : List ℕ → List (List ℕ)) (old new : Streams) → new.contents ≡ old.contents → new.failed_writes ≡ old.failed_writes → (IsErrOf {T = S} (Err fault) faults.Read → old.failed_reads < new.failed_reads) → ((IsErrOf {T = S} (Err fault) faults.Read → ⊥) → new.failed_reads ≡ old.failed_reads) →
    (IsErrOf {T = S} (Err fault) faults.TooLong → (bytes : List ℕ) × (length bytes ≡ MOST_SCRIPT_BYTES + 1) × Consumes old.remaining new.remaining bytes) → (IsErrOf {T = S} (Err fault) faults.Write → ⊥) → Runs {T = T} output replies old new (Err fault)
runs_unread T S faults.Memory output replies old new same kept read not_read long not_write =
    let left = some_left old.remaining in
    (record { text = left.0; left = left.1; stops = record { count = 0; fewer = omega arith; written = rw same (appends_none old.contents) } }, not_read (λ e. cc), kept)
runs_unread T S faults.Write output replies old new same kept read not_read long not_write = absurd (not_write refl)
runs_unread T S faults.Read output replies old new same kept read not_read long not_write = (same, read refl, kept)
runs_unread T S faults.TooLong output replies old new same kept read not_read long not_write = (same, long refl, not_read (λ e. cc), kept)
