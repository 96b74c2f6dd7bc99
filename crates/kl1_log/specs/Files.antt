-- What is known of a journal's file: what was written, what is surely on the disk, and what a crash may leave.
use Rattle.std.specs.Prelude.{⊤, ◌≡◌, ◌⊎◌, ℕ, Bool, true, false, ◌&&◌, List, [], ◌∷◌, ◌++◌, take, drop, Option, Some, None, is_none}

-- the bytes of a file: those that are surely on the disk, and those that were written after them, of which a crash may leave any front
pub record Bytes : Type 0 where
  pub synced : List ℕ
  pub pending : List ℕ

-- the bytes that a read gives
abbrev pub content : Bytes → List ℕ
content b = b.synced ++ b.pending

-- these bytes, all of them on the disk
abbrev pub settled : List ℕ → Bytes
settled bytes = record { synced = bytes; pending = [] }

-- a file by its name: the bytes that stand under it; those that a crash may bring back in their place, since the folder isn't synced
-- after a renaming; and those of the new file beside it
pub record FileState : Type 0 where
  pub now : Bytes
  pub before : Option Bytes
  pub next : Option Bytes

-- what a crash may leave of bytes
abbrev pub IsLeftOf : Bytes → List ℕ → Type 0
IsLeftOf b c = (n : ℕ) × (c ≡ b.synced ++ take n b.pending)

-- what a crash may bring back
abbrev pub IsBroughtBack : Option Bytes → List ℕ → Type 0
IsBroughtBack None c = ⊥
IsBroughtBack (Some b) c = IsLeftOf b c

-- what a crash may leave under the name
abbrev pub MayLeave : FileState → List ℕ → Type 0
MayLeave s c = IsLeftOf s.now c ⊎ IsBroughtBack s.before c

-- ---- what each call does

-- bytes are written after the others
abbrev pub Appended : List ℕ → FileState → FileState → Type 0
Appended bytes s t = t ≡ record s { now = record { synced = s.now.synced; pending = s.now.pending ++ bytes } }

-- a front of them is written
abbrev pub AppendedInPart : List ℕ → FileState → FileState → Type 0
AppendedInPart bytes s t = (n : ℕ) × Appended (take n bytes) s t

-- what was written is on the disk
abbrev pub Synced : FileState → FileState → Type 0
Synced s t = t ≡ record s { now = settled (content s.now) }

-- a new file stands beside the file
abbrev pub NextWritten : List ℕ → FileState → FileState → Type 0
NextWritten bytes s t = t ≡ record s { next = Some (record { synced = []; pending = bytes }) }

-- the new file is changed, and nothing else
abbrev pub NextTouched : FileState → FileState → Type 0
NextTouched s t = (next : Option Bytes) × (t ≡ record s { next = next })

-- the new file is on the disk
abbrev pub NextSynced : FileState → FileState → Type 0
NextSynced s t = (b : Bytes) × (s.next ≡ Some b) × (t ≡ record s { next = Some (settled (content b)) })

-- the new file has the name, which a crash may undo
abbrev pub Renamed : FileState → FileState → Type 0
Renamed s t = (b : Bytes) × (s.next ≡ Some b) × (t ≡ record { now = b; before = Some s.now; next = None })

-- the folder is on the disk, and so is the renaming
abbrev pub FolderSynced : FileState → FileState → Type 0
FolderSynced s t = t ≡ record s { before = None }

-- of the bytes on the disk only the first `n` are sure
abbrev pub loosened : ℕ → Bytes → Bytes
loosened n b = record { synced = take n b.synced; pending = drop n b.synced ++ b.pending }

-- the file is being cut: a crash may leave any length between
abbrev pub Loosened : ℕ → FileState → FileState → Type 0
Loosened n s t = t ≡ record s { now = loosened n s.now }

-- the file is its first `n` bytes, which are on the disk
abbrev pub CutTo : ℕ → FileState → FileState → Type 0
CutTo n s t = t ≡ record s { now = settled (take n (content s.now)) }

-- a new file stands beside the file
abbrev pub HasNext : FileState → Type 0
HasNext s = (b : Bytes) × (s.next ≡ Some b)

-- ---- what was so far

-- the state of a file, and the states before it, the last first
pub record Course : Type 0 where
  pub now : FileState
  pub past : List FileState

-- the states of a course, the last first
abbrev pub states : Course → List FileState
states c = c.now ∷ c.past

-- Of a file in memory all is known, and of a file of the system nothing: no contract can say what that holds.
abbrev pub Known : Type 0
Known = Option Course

-- a call has done this
abbrev pub Does : (FileState → FileState → Type 0) → Known → Known → Type 0
Does step None known = known ≡ None
Does step (Some c) None = ⊥
Does step (Some c) (Some d) = step c.now d.now × (d.past ≡ c.now ∷ c.past)

-- a call has done this, or nothing
abbrev pub MayDo : (FileState → FileState → Type 0) → Known → Known → Type 0
MayDo step old new = Does step old new ⊎ (new ≡ old)

-- a file was being cut, and then is
abbrev pub Cuts : ℕ → Known → Known → Type 0
Cuts n None known = known ≡ None
Cuts n (Some c) None = ⊥
Cuts n (Some c) (Some d) = (s : FileState) × Loosened n c.now s × CutTo n s d.now × (d.past ≡ s ∷ c.now ∷ c.past)

-- if something is known of the file, its state has this property
abbrev pub IfKnown : Known → (FileState → Type 0) → Type 0
IfKnown None P = ⊤
IfKnown (Some c) P = P c.now

-- each crash leaves a file with this property
abbrev pub Leaves : (List ℕ → Type 0) → FileState → Type 0
Leaves P s = (c : List ℕ) → MayLeave s c → P c

-- so it is in each of these states
abbrev pub LeavesIn : (List ℕ → Type 0) → List FileState → Type 0
LeavesIn P [] = ⊤
LeavesIn P (s ∷ ss) = Leaves P s × LeavesIn P ss

-- A crash at any moment after the state `old` leaves a file with this property: these are the states since.
pub record LeavesSince (old new : Course) (P : List ℕ → Type 0) : Type 0 where
  pub since : List FileState
  pub are : states new ≡ since ++ states old
  pub each : LeavesIn P since

-- the same of what is known
abbrev pub AtAnyMoment : Known → Known → (List ℕ → Type 0) → Type 0
AtAnyMoment None known P = known ≡ None
AtAnyMoment (Some c) None P = ⊥
AtAnyMoment (Some c) (Some d) P = LeavesSince c d P

-- whether no bytes are left of others
abbrev pub is_nil : List ℕ → Bool
is_nil [] = true
is_nil (b ∷ bs) = false

-- whether all that was written is on the disk, if something is known of the file: its bytes, and its name
abbrev pub is_at_rest : Known → Bool
is_at_rest None = true
is_at_rest (Some c) = is_nil c.now.now.pending && is_none c.now.before
