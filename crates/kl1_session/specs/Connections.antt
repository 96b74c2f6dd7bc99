-- What is read from a connection, and what is written to it.
use Rattle.std.specs.Prelude.{◌≡◌, ◌<◌, ℕ, Bool, true, false, List, [], ◌++◌, Some, None, Ok, Err}
use Rattle.std.specs.declared.option.Option.{Option}
use Rattle.std.specs.declared.result.Result.{Result}
use Rattle.std.specs.Io.KnownBytes.{Consumes, Appends, IsAtEnd}
use Rattle.kl1_lines.specs.Devices.{AppendsFront, ConsumesIfKnown, PassesOn}
use Rattle.kl1_model.specs.declared.rules.Rules.{Rules}
use Rattle.kl1_model_server.specs.Inputs.{Input, inputs, rest}
use Rattle.kl1_session.specs.Doors.{Opens, Action}
use Rattle.kl1_session.specs.Conversations.{Done, Turn, Answers, Converses, Closes}
use Rattle.kl1_session.specs.declared.connection.Disconnect.{Disconnect}
use Rattle.kl1_session.specs.declared.connection.Disconnect.TheVariants as disconnect
use Rattle.kl1_session.specs.declared.connection.Answered.{Answered}
use Rattle.kl1_session.specs.declared.connection.Answered.TheVariants as answered
use Rattle.kl1_session.specs.declared.connection.ConnectionState.{ConnectionState}

-- where a conversation is: what its sink holds, what was done, to which account the visitor is logged in, and the replies that
-- aren't written yet
pub record Standing : Type 0 where
  pub sink : Option (List ℕ)
  pub done : List Done
  pub visitor : Option ℕ
  pub waiting : List ℕ

-- nobody is logged in, and no reply waits
abbrev pub fresh : Option (List ℕ) → List Done → Standing
fresh sink done = record { sink = sink; done = done; visitor = None; waiting = [] }

abbrev pub standing : Option (List ℕ) → List Done → ConnectionState → Standing
standing sink done s = record { sink = sink; done = done; visitor = s.account; waiting = s.replies.items }

-- ---- a whole connection

-- how far a connection came that ended so: after a logout, or at the end of what came in, all is written that is told, and at the end
-- no input is left; after a failed call, or if memory was refused, a front of it is
abbrev pub Ends : ℕ → Disconnect → Option (List ℕ) → Option (List ℕ) → Standing → Standing → List ℕ → List Input → Turn → Type 0
Ends room disconnect.Bye read left a b bytes others turn = Consumes read left bytes × (turn.is_last ≡ true) × Appends a.sink b.sink turn.told
Ends room disconnect.Ended read left a b bytes others turn = Consumes read left bytes × (0 < room → IsAtEnd left) × (others ≡ []) × (turn.is_last ≡ false) × Appends a.sink b.sink turn.told
Ends room disconnect.Fault read left a b bytes others turn = ConsumesIfKnown read left bytes × AppendsFront a.sink b.sink turn.told

-- a connection to accounts of these rules ended so: of the inputs of the bytes that were kept and then read, the first came to this turn, by buffers of `room` bytes
pub record Connects (rules : Rules) (opens : Opens) (room : ℕ) (end : Disconnect) (kept : List ℕ) (read left : Option (List ℕ)) (a b : Standing) : Type 0 where
  pub bytes : List ℕ
  pub answered : List Input
  pub others : List Input
  pub turn : Turn
  pub inputs : inputs rules (kept ++ bytes) ≡ answered ++ others
  pub converses : Converses opens a.visitor answered turn
  pub done : b.done ≡ a.done ++ turn.done
  pub visitor : b.visitor ≡ turn.visitor
  pub ends : Ends room end read left a b bytes others turn

-- a connection of one who isn't logged in ended so, and a session that was open at its end was closed
pub record Serves (rules : Rules) (opens : Opens) (room : ℕ) (end : Disconnect) (read left old new : Option (List ℕ)) (before after : List Done) : Type 0 where
  pub last : Standing
  pub sink : last.sink ≡ new
  pub talk : Connects rules opens room end [] read left (fresh old before) last
  pub closes : Closes last.visitor last.done after

-- ---- the steps of a connection

-- a connection goes on: all inputs of the bytes that were kept and then read are answered, all replies are written, and the rest is kept
pub record GoesOn (rules : Rules) (opens : Opens) (kept after : List ℕ) (read left : Option (List ℕ)) (a b : Standing) : Type 0 where
  pub bytes : List ℕ
  pub turn : Turn
  pub reads : Consumes read left bytes
  pub rest : after ≡ rest (kept ++ bytes)
  pub converses : Converses opens a.visitor (inputs rules (kept ++ bytes)) turn
  pub going : turn.is_last ≡ false
  pub done : b.done ≡ a.done ++ turn.done
  pub visitor : b.visitor ≡ turn.visitor
  pub written : Appends a.sink b.sink turn.told
  pub empty : b.waiting ≡ []

-- a connection goes on, or ended
abbrev pub GoesOrEnds : Rules → Opens → ℕ → Option Disconnect → List ℕ → List ℕ → Option (List ℕ) → Option (List ℕ) → Standing → Standing → Type 0
GoesOrEnds rules opens room None kept after read left a b = GoesOn rules opens kept after read left a b
GoesOrEnds rules opens room (Some end) kept after read left a b = Connects rules opens room end kept read left a b

-- ---- the inputs of a piece

-- inputs are answered, and their replies are written up to those that wait
pub record TalksOn (opens : Opens) (inputs : List Input) (is_last : Bool) (a b : Standing) : Type 0 where
  pub turn : Turn
  pub converses : Converses opens a.visitor inputs turn
  pub last : turn.is_last ≡ is_last
  pub done : b.done ≡ a.done ++ turn.done
  pub visitor : b.visitor ≡ turn.visitor
  pub written : PassesOn a.sink b.sink (a.waiting ++ turn.told) b.waiting

-- inputs are answered, the last by a logout, and the others are left
pub record TalksToBye (opens : Opens) (inputs : List Input) (a b : Standing) : Type 0 where
  pub answered : List Input
  pub others : List Input
  pub all : inputs ≡ answered ++ others
  pub talk : TalksOn opens answered true a b

-- inputs are answered up to a fault, and a front of the replies is written
pub record TalksToFault (opens : Opens) (inputs : List Input) (a b : Standing) : Type 0 where
  pub answered : List Input
  pub others : List Input
  pub turn : Turn
  pub all : inputs ≡ answered ++ others
  pub converses : Converses opens a.visitor answered turn
  pub done : b.done ≡ a.done ++ turn.done
  pub visitor : b.visitor ≡ turn.visitor
  pub written : AppendsFront a.sink b.sink (a.waiting ++ turn.told)

-- inputs are answered so far
abbrev pub Talks : Opens → List Input → Answered → Standing → Standing → Type 0
Talks opens inputs answered.All a b = TalksOn opens inputs false a b
Talks opens inputs answered.Bye a b = TalksToBye opens inputs a b
Talks opens inputs answered.Fault a b = TalksToFault opens inputs a b

-- inputs are answered so far, and no reply waits
abbrev pub Tells : Opens → List Input → Answered → Standing → Standing → Type 0
Tells opens inputs answered.All a b = TalksOn opens inputs false a b × (b.waiting ≡ [])
Tells opens inputs answered.Bye a b = TalksToBye opens inputs a b × (b.waiting ≡ [])
Tells opens inputs answered.Fault a b = TalksToFault opens inputs a b

-- ---- one input

-- the text of a turn was put after the replies that wait, and it is told whether it is the last; or memory was refused for that text
abbrev pub Puts : {E : Type 0} → Result Bool E → List ℕ → List ℕ → Turn → Type 0
Puts (Ok is_last) old new turn = (new ≡ old ++ turn.told) × (turn.is_last ≡ is_last)
Puts (Err e) old new turn = new ≡ old

-- an action was answered
pub record Takes {E : Type 0} (action : Action) (result : Result Bool E) (before after : List Done) (s t : ConnectionState) : Type 0 where
  pub turn : Turn
  pub answers : Answers s.account action turn
  pub done : after ≡ before ++ turn.done
  pub visitor : t.account ≡ turn.visitor
  pub puts : Puts result s.replies.items t.replies.items turn
