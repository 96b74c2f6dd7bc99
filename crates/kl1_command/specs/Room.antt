-- What commands do to an account whose book can tell only so many entries more.
use Rattle.std.specs.Prelude.{◌≡◌, ℕ, zero, suc, ◌-◌, ◌≤◌, min, if◌then◌else◌, Option, Some, None}
use Rattle.kl1_model.specs.Event as model
use Rattle.kl1_model.specs.Choice.{Chosen, first}
use Rattle.kl1_model_server.specs.Journal.{is_entry, Kept, Done, done}
use Rattle.kl1_model_server.specs.Command.{Command, does, run, shows, said, act}
use Rattle.kl1_user_events.specs.Views.{reply_of}
use Rattle.kl1_command.specs.declared.performed.Performed.{Performed}
use Rattle.kl1_command.specs.declared.performed.Performed.TheVariants as performed
use Rattle.kl1_command.specs.Performing.{Performs}

-- a book with this room can tell n entries more; without a book there is always room
abbrev pub HasRoomFor : ℕ → Option ℕ → Type 0
HasRoomFor n None = Unit {0}
HasRoomFor n (Some room) = n ≤ room

-- the room that is left after n entries
abbrev pub less : Option ℕ → ℕ → Option ℕ
less None n = None
less (Some room) n = Some (room - n)

-- what an event does if the book has no room: what would be an entry is refused, as by a full journal
abbrev pub done_in_vain : Kept → model.Event → Done
done_in_vain s e = if is_entry e then said s (model.refused model.journal_full) else done s e

-- what an event does if the book has this room
abbrev pub done_within : Option ℕ → Kept → model.Event → Done
done_within None s e = done s e
done_within (Some zero) s e = done_in_vain s e
done_within (Some (suc n)) s e = done s e

-- a command whose run is of no more steps than there is room for
abbrev pub held_to : ℕ → Command → Command
held_to room (does e) = does e
held_to room (run k) = run (min k room)
held_to room (shows from count) = shows from count

-- a run for whose steps there is no room: it is refused, as by a full journal, unless no goal can step
abbrev pub run_in_vain : Kept → Option Chosen → Done
run_in_vain s None = said s (model.ran 0)
run_in_vain s (Some c) = said s (model.refused model.journal_full)

-- what a command does if the book has no room
abbrev pub act_in_vain : Kept → Command → Done
act_in_vain s (does e) = done_in_vain s e
act_in_vain s (run zero) = said s (model.ran 0)
act_in_vain s (run (suc k)) = run_in_vain s (first s.state)
act_in_vain s (shows from count) = act s (shows from count)

-- a command was done if the book has no room, with its reply; or memory was refused
abbrev pub PerformsInVain : Kept → Command → Performed → Kept → Type 0
PerformsInVain s c (performed.Whole reply) after = act_in_vain s c ≡ record { kept = after; reply = reply_of reply }
PerformsInVain s c (performed.Short n) after = ⊥
PerformsInVain s c performed.Memory after = after ≡ s

-- a command was done if the book has this room, with its reply; or a run's first steps were; or nothing was
abbrev pub PerformsWithin : Option ℕ → Kept → Command → Performed → Kept → Type 0
PerformsWithin None s c p after = Performs s c p after
PerformsWithin (Some zero) s c p after = PerformsInVain s c p after
PerformsWithin (Some (suc n)) s c p after = Performs s (held_to (suc n) c) p after
