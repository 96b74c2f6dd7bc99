-- What is written for records that are done one after another.
use Rattle.std.specs.Prelude.{◌≡◌, ℕ, ◌+◌, ◌-◌, ◌<◌, ◌≤◌, List, ◌∷◌, ◌++◌, length, take, Ok, Err}
use Rattle.std.specs.List.{concat}
use Rattle.std.specs.declared.option.Option.{Option}
use Rattle.std.specs.declared.result.Result.{Result}
use Rattle.std.specs.Io.KnownBytes.{Appends}
use Rattle.kl1_lines.specs.Devices.{AppendsFront}
use Rattle.kl1_lines.specs.declared.replies.NextReply.{NextReply}
use Rattle.kl1_lines.specs.declared.replies.NextReply.TheVariants as next
use Rattle.kl1_lines.specs.declared.script_fault.ScriptFault.{ScriptFault}
use Rattle.kl1_lines.specs.declared.script_fault.ScriptFault.TheVariants as faults

-- what is written for records: the reply to each of them, and what ends it
pub record Written : Type 0 where
  pub each : List (List ℕ)
  pub last : List ℕ

-- all that is written for records
abbrev pub all_of : Written → List ℕ
all_of w = concat w.each ++ w.last

-- the first n replies
abbrev pub front_of : ℕ → List (List ℕ) → List ℕ
front_of n each = concat (take n each)

-- of what is written for records, the first reply was put after the bytes, and the others are left
pub record PutsFirst (left : Written → Type 0) (w : Written) (old new : List ℕ) : Type 0 where
  pub reply : List ℕ
  pub others : List (List ℕ)
  pub each : w.each ≡ reply ∷ others
  pub put : new ≡ old ++ reply
  pub rest : left (record { each = others; last = w.last })

-- the first reply was put after the bytes, or these last bytes are all that is written
abbrev pub Puts : (Written → Type 0) → (Written → Type 0) → List ℕ → List ℕ → NextReply → Type 0
Puts before after old new next.Put = (w : Written) → before w → PutsFirst after w old new
Puts before after old new (next.Last bytes) = (new ≡ old) × ((w : Written) → before w → all_of w ≡ bytes)

-- one record fewer is left, or as many
abbrev pub LeavesOne : ℕ → ℕ → NextReply → Type 0
LeavesOne old new next.Put = old ≡ new + 1
LeavesOne old new (next.Last bytes) = new ≡ old

-- memory was refused after some replies, fewer than all, or none if there are none: just these are written
pub record StopsAfter (old new : Option (List ℕ)) (each : List (List ℕ)) : Type 0 where
  pub count : ℕ
  pub fewer : count ≤ length each - 1
  pub written : Appends old new (front_of count each)

-- how records are answered, if `all` is written for them, and to each of them a reply: all is written, and no call failed; or memory was
-- refused; or a write failed, and what is written is `all` up to some place
abbrev pub Ends : {T : Type 0} → Option (List ℕ) → Option (List ℕ) → ℕ → ℕ → List ℕ → List (List ℕ) → Result T ScriptFault → Type 0
Ends old new f g all each (Ok x) = Appends old new all × (g ≡ f)
Ends old new f g all each (Err faults.Memory) = StopsAfter old new each × (g ≡ f)
Ends old new f g all each (Err faults.Write) = AppendsFront old new all × (f < g)
Ends old new f g all each (Err faults.Read) = ⊥
Ends old new f g all each (Err faults.TooLong) = ⊥

-- how the last bytes are written: all of them, and no call failed; or a write failed
abbrev pub Finishes : {T : Type 0} → Option (List ℕ) → Option (List ℕ) → ℕ → ℕ → List ℕ → Result T ScriptFault → Type 0
Finishes old new f g bytes (Ok x) = Appends old new bytes × (g ≡ f)
Finishes old new f g bytes (Err faults.Memory) = ⊥
Finishes old new f g bytes (Err faults.Write) = AppendsFront old new bytes × (f < g)
Finishes old new f g bytes (Err faults.Read) = ⊥
Finishes old new f g bytes (Err faults.TooLong) = ⊥

-- how it ends after memory was refused: these bytes were written, or a write failed
abbrev pub Stops : Option (List ℕ) → Option (List ℕ) → ℕ → ℕ → List ℕ → ScriptFault → Type 0
Stops old new f g bytes faults.Memory = Appends old new bytes × (g ≡ f)
Stops old new f g bytes faults.Write = AppendsFront old new bytes × (f < g)
Stops old new f g bytes faults.Read = ⊥
Stops old new f g bytes faults.TooLong = ⊥
