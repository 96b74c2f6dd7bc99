-- The places of the built-in names, and the names of places.
use Rattle.std.specs.Prelude.{ℕ, List, Option, slice_get, bytes_eq, find}
use Rattle.kl1_model.specs.declared.built_in.BuiltIn.{BuiltIn}
use Rattle.kl1_model.specs.declared.built_in.BuiltIn.TheVariants.{EmptyList, ListCell, Colon, Equal, NotEqual, Assign, Less, Greater, AtMost, AtLeast, SameNumber, OtherNumber, Plus, Minus, Times, Divide, Modulo, True, Otherwise, Wait, Integer, Atom, ListTest, AtomFrom, Shoen, Execute, Module, Priority, Started, Stopped, Resumed, Exhausted, Exception, Terminated, Aborted, Failure, Overflow, IllegalInput, Exhaustion, Stop, Start, Abort, Allow}
use Rattle.kl1_model.specs.Text.{text_of, built_ins}

-- the place of a built-in name, from 0
abbrev pub place_of : BuiltIn → ℕ
place_of EmptyList = 0
place_of ListCell = 1
place_of Colon = 2
place_of Equal = 3
place_of NotEqual = 4
place_of Assign = 5
place_of Less = 6
place_of Greater = 7
place_of AtMost = 8
place_of AtLeast = 9
place_of SameNumber = 10
place_of OtherNumber = 11
place_of Plus = 12
place_of Minus = 13
place_of Times = 14
place_of Divide = 15
place_of Modulo = 16
place_of True = 17
place_of Otherwise = 18
place_of Wait = 19
place_of Integer = 20
place_of Atom = 21
place_of ListTest = 22
place_of AtomFrom = 23
place_of Shoen = 24
place_of Execute = 25
place_of Module = 26
place_of Priority = 27
place_of Started = 28
place_of Stopped = 29
place_of Resumed = 30
place_of Exhausted = 31
place_of Exception = 32
place_of Terminated = 33
place_of Aborted = 34
place_of Failure = 35
place_of Overflow = 36
place_of IllegalInput = 37
place_of Exhaustion = 38
place_of Stop = 39
place_of Start = 40
place_of Abort = 41
place_of Allow = 42

-- the built-in name at a place
abbrev pub built_in_at : ℕ → Option BuiltIn
built_in_at place = slice_get built_ins place

-- the built-in name of a text
abbrev pub built_in_of : List ℕ → Option BuiltIn
built_in_of text = find (λ b. bytes_eq (text_of b) text) built_ins
