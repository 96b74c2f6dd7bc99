-- What a book tells of a journal and of those before it, and how much more it can tell.
use Rattle.std.specs.Prelude.{◌≡◌, ℕ, suc, ◌+◌, ◌-◌, ◌<◌, ◌≤◌, ◌^◌, Bool, true, false, List, [], ◌∷◌}
use Rattle.kl1_model.specs.Event as model
use Rattle.kl1_model_server.specs.Journal.{is_entry, Entry, loads, starts, sends, steps, answers, forgets, runs, Journal}
use Rattle.kl1_tally.specs.Seats.{Book}
use Rattle.kl1_command.specs.Told.{ends_journal}
use Rattle.kl1_pool.specs.declared.totals_before_reset.TotalsBeforeReset.{TotalsBeforeReset}

-- how many events some entries are: one each, but a run is one for each of its reductions
abbrev pub events_in : List Entry → ℕ
events_in [] = 0
events_in (loads text ∷ es) = suc (events_in es)
events_in (starts allowance low high t ∷ es) = suc (events_in es)
events_in (sends n m ∷ es) = suc (events_in es)
events_in (answers n report t ∷ es) = suc (events_in es)
events_in (forgets n count ∷ es) = suc (events_in es)
events_in (steps goal clause ∷ es) = suc (events_in es)
events_in (runs n ∷ es) = n + events_in es

-- how many reductions some entries are
abbrev pub reduces_in : List Entry → ℕ
reduces_in [] = 0
reduces_in (loads text ∷ es) = reduces_in es
reduces_in (starts allowance low high t ∷ es) = reduces_in es
reduces_in (sends n m ∷ es) = reduces_in es
reduces_in (answers n report t ∷ es) = reduces_in es
reduces_in (forgets n count ∷ es) = reduces_in es
reduces_in (steps goal clause ∷ es) = suc (reduces_in es)
reduces_in (runs n ∷ es) = n + reduces_in es

-- no journal was ended yet
abbrev pub no_past : TotalsBeforeReset
no_past = record { events = 0; steps = 0 }

-- a past to which a journal is added
abbrev pub with_journal : TotalsBeforeReset → Journal → TotalsBeforeReset
with_journal p j = record { events = p.events + events_in j.entries; steps = p.steps + reduces_in j.entries }

-- a book tells the events and steps of a past and of a journal, and no more events than can be told
pub record IsCounted (p : TotalsBeforeReset) (j : Journal) (b : Book) : Type 0 where
  pub events : b.events ≡ p.events + events_in j.entries
  pub steps : b.steps ≡ p.steps + reduces_in j.entries
  pub few : b.events ≤ 2 ^ 63

-- a book with more events and steps
abbrev pub with_more : Book → ℕ → ℕ → Book
with_more b e s = record { tally = b.tally; account = b.account; events = b.events + e; steps = b.steps + s }

-- the past after a journal was ended, which adds that journal, or wasn't
abbrev pub past_after : Bool → TotalsBeforeReset → Journal → TotalsBeforeReset
past_after true p j = with_journal p j
past_after false p j = p

-- the past after a reply
abbrev pub past_by : TotalsBeforeReset → Journal → model.Reply → TotalsBeforeReset
past_by p j reply = past_after (ends_journal reply) p j

-- whether a reply tells the steps of a run
abbrev pub is_run : model.Reply → Bool
is_run (model.ran n) = true
is_run _ = false

-- the past after a reply, by what a book tells
abbrev pub ended : TotalsBeforeReset → Book → model.Reply → TotalsBeforeReset
ended p b model.was_reset = record { events = b.events; steps = b.steps }
ended p b _ = p

-- how many events more a book can tell
abbrev pub room_in : Book → ℕ
room_in b = 2 ^ 63 - b.events

-- a book has room for an event, if that is an entry
abbrev pub HasRoom : Book → model.Event → Type 0
HasRoom b e = is_entry e ≡ true → b.events < 2 ^ 63
