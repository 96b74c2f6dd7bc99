-- Built-in names are names, and are found by their places and by their texts.
use Rattle.std.proofs.Common.{◌≡◌, ℕ, ◌<◌, ◌==◌, Bool, true, false, List, [], ◌∷◌, Option, Some, None, find, slice_get, bytes_eq, lit<, refl, inl, inr, IsTrue}
use Rattle.std.proofs.lemmas.Bool.{cases_Bool, eqb-true, agree_below_at}
use Rattle.std.proofs.lemmas.Option.{slice_get_within}
use Rattle.std.proofs.lemmas.Slice.Eq.{bytes_eq-Decides}
use Rattle.kl1_model.specs.declared.built_in.BuiltIn.{BuiltIn}
use Rattle.kl1_model.specs.declared.built_in.BuiltIn.TheVariants.{EmptyList, ListCell, Colon, Equal, NotEqual, Assign, Less, Greater, AtMost, AtLeast, SameNumber, OtherNumber, Plus, Minus, Times, Divide, Modulo, True, Otherwise, Wait, Integer, Atom, ListTest, AtomFrom, Shoen, Execute, Module, Priority, Started, Stopped, Resumed, Exhausted, Exception, Terminated, Aborted, Failure, Overflow, IllegalInput, Exhaustion, Stop, Start, Abort, Allow}
use Rattle.kl1_model.specs.Text.{text_of, is_text, built_ins}
use Rattle.kl1_text.specs.BuiltIns.{place_of, built_in_at, built_in_of}

-- the name at a name's place is that name
pub at_place : (b : BuiltIn) → built_in_at (place_of b) ≡ Some b
at_place EmptyList = refl
at_place ListCell = refl
at_place Colon = refl
at_place Equal = refl
at_place NotEqual = refl
at_place Assign = refl
at_place Less = refl
at_place Greater = refl
at_place AtMost = refl
at_place AtLeast = refl
at_place SameNumber = refl
at_place OtherNumber = refl
at_place Plus = refl
at_place Minus = refl
at_place Times = refl
at_place Divide = refl
at_place Modulo = refl
at_place True = refl
at_place Otherwise = refl
at_place Wait = refl
at_place Integer = refl
at_place Atom = refl
at_place ListTest = refl
at_place AtomFrom = refl
at_place Shoen = refl
at_place Execute = refl
at_place Module = refl
at_place Priority = refl
at_place Started = refl
at_place Stopped = refl
at_place Resumed = refl
at_place Exhausted = refl
at_place Exception = refl
at_place Terminated = refl
at_place Aborted = refl
at_place Failure = refl
at_place Overflow = refl
at_place IllegalInput = refl
at_place Exhaustion = refl
at_place Stop = refl
at_place Start = refl
at_place Abort = refl
at_place Allow = refl

-- the name of a name's text is that name
pub of_text : (b : BuiltIn) → built_in_of (text_of b) ≡ Some b
of_text EmptyList = refl
of_text ListCell = refl
of_text Colon = refl
of_text Equal = refl
of_text NotEqual = refl
of_text Assign = refl
of_text Less = refl
of_text Greater = refl
of_text AtMost = refl
of_text AtLeast = refl
of_text SameNumber = refl
of_text OtherNumber = refl
of_text Plus = refl
of_text Minus = refl
of_text Times = refl
of_text Divide = refl
of_text Modulo = refl
of_text True = refl
of_text Otherwise = refl
of_text Wait = refl
of_text Integer = refl
of_text Atom = refl
of_text ListTest = refl
of_text AtomFrom = refl
of_text Shoen = refl
of_text Execute = refl
of_text Module = refl
of_text Priority = refl
of_text Started = refl
of_text Stopped = refl
of_text Resumed = refl
of_text Exhausted = refl
of_text Exception = refl
of_text Terminated = refl
of_text Aborted = refl
of_text Failure = refl
of_text Overflow = refl
of_text IllegalInput = refl
of_text Exhaustion = refl
of_text Stop = refl
of_text Start = refl
of_text Abort = refl
of_text Allow = refl

-- each built-in name is a name
pub built_ins_are_texts : (b : BuiltIn) → IsTrue (is_text (text_of b))
built_ins_are_texts EmptyList = refl
built_ins_are_texts ListCell = refl
built_ins_are_texts Colon = refl
built_ins_are_texts Equal = refl
built_ins_are_texts NotEqual = refl
built_ins_are_texts Assign = refl
built_ins_are_texts Less = refl
built_ins_are_texts Greater = refl
built_ins_are_texts AtMost = refl
built_ins_are_texts AtLeast = refl
built_ins_are_texts SameNumber = refl
built_ins_are_texts OtherNumber = refl
built_ins_are_texts Plus = refl
built_ins_are_texts Minus = refl
built_ins_are_texts Times = refl
built_ins_are_texts Divide = refl
built_ins_are_texts Modulo = refl
built_ins_are_texts True = refl
built_ins_are_texts Otherwise = refl
built_ins_are_texts Wait = refl
built_ins_are_texts Integer = refl
built_ins_are_texts Atom = refl
built_ins_are_texts ListTest = refl
built_ins_are_texts AtomFrom = refl
built_ins_are_texts Shoen = refl
built_ins_are_texts Execute = refl
built_ins_are_texts Module = refl
built_ins_are_texts Priority = refl
built_ins_are_texts Started = refl
built_ins_are_texts Stopped = refl
built_ins_are_texts Resumed = refl
built_ins_are_texts Exhausted = refl
built_ins_are_texts Exception = refl
built_ins_are_texts Terminated = refl
built_ins_are_texts Aborted = refl
built_ins_are_texts Failure = refl
built_ins_are_texts Overflow = refl
built_ins_are_texts IllegalInput = refl
built_ins_are_texts Exhaustion = refl
built_ins_are_texts Stop = refl
built_ins_are_texts Start = refl
built_ins_are_texts Abort = refl
built_ins_are_texts Allow = refl

-- each place is below 64
pub place-below : (b : BuiltIn) → place_of b < 64
place-below EmptyList = lit< tt
place-below ListCell = lit< tt
place-below Colon = lit< tt
place-below Equal = lit< tt
place-below NotEqual = lit< tt
place-below Assign = lit< tt
place-below Less = lit< tt
place-below Greater = lit< tt
place-below AtMost = lit< tt
place-below AtLeast = lit< tt
place-below SameNumber = lit< tt
place-below OtherNumber = lit< tt
place-below Plus = lit< tt
place-below Minus = lit< tt
place-below Times = lit< tt
place-below Divide = lit< tt
place-below Modulo = lit< tt
place-below True = lit< tt
place-below Otherwise = lit< tt
place-below Wait = lit< tt
place-below Integer = lit< tt
place-below Atom = lit< tt
place-below ListTest = lit< tt
place-below AtomFrom = lit< tt
place-below Shoen = lit< tt
place-below Execute = lit< tt
place-below Module = lit< tt
place-below Priority = lit< tt
place-below Started = lit< tt
place-below Stopped = lit< tt
place-below Resumed = lit< tt
place-below Exhausted = lit< tt
place-below Exception = lit< tt
place-below Terminated = lit< tt
place-below Aborted = lit< tt
place-below Failure = lit< tt
place-below Overflow = lit< tt
place-below IllegalInput = lit< tt
place-below Exhaustion = lit< tt
place-below Stop = lit< tt
place-below Start = lit< tt
place-below Abort = lit< tt
place-below Allow = lit< tt

-- what an option holds
some_is : (b c : BuiltIn) → Some b ≡ Some c → b ≡ c
some_is b c e = cc

-- what a search for a text among names finds has that text
found_text : (bs : List BuiltIn) (t : List ℕ) (b : BuiltIn) → find (λ c. bytes_eq (text_of c) t) bs ≡ Some b → text_of b ≡ t
found_text [] t b e = cc
found_text (c ∷ bs) t b e = elim (cases_Bool (bytes_eq (text_of c) t)) [
  | inl same ↦ let is : c ≡ b = some_is c b (rw same at e) in rw (← is) ((bytes_eq-Decides (text_of c) t).0 same)
  | inr other ↦ found_text bs t b (rw other at e)
]

-- the built-in name of a text has that text
pub text_found : (t : List ℕ) (b : BuiltIn) → built_in_of t ≡ Some b → text_of b ≡ t
text_found t b e = found_text built_ins t b e

-- whether a name stands at its own place
in_place : Option BuiltIn → ℕ → Bool
in_place None n = false
in_place (Some b) n = place_of b == n

-- the built-in name at a place has that place
pub place_found : (n : ℕ) (b : BuiltIn) → built_in_at n ≡ Some b → place_of b ≡ n
unfolding in_place
place_found n b e =
    let within : n < 43 = slice_get_within built_ins n b e in
    let all : in_place (slice_get built_ins n) n ≡ true = agree_below_at (λ k. in_place (slice_get built_ins k) k) (λ _. true) 43 n refl within in
    eqb-true (place_of b) n (rw e at all)
