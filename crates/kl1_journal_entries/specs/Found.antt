-- What was read so far of the text of a journal.
use Rattle.std.specs.Prelude.{Option, Some}
use Rattle.kl1_model_server.specs.Journal.{Entry, runs, Journal}
use Rattle.kl1_user_events.specs.Views.{event_of}
use Rattle.kl1_journal_entries.specs.declared.deed.Deed.{Deed}
use Rattle.kl1_journal_entries.specs.declared.deed.Deed.TheVariants as deed
use Rattle.kl1_journal_entries.specs.Lined.{entry_of}
use Rattle.kl1_journal_entries.specs.declared.reader.Found.{Found}
use Rattle.kl1_journal_entries.specs.declared.reader.Begun.{Begun}
use Rattle.kl1_journal_entries.specs.Reading.{read_text}

-- the entry that asks for this, if there is one
abbrev pub deed_in : Deed → Option Entry
deed_in (deed.Event e) = entry_of (event_of e)
deed_in (deed.Run n) = Some (runs n)

-- the entry that asks for what was found, if there is one
abbrev pub found_deed : Found → Option Entry
found_deed f = deed_in f.deed

-- the entry that was found
abbrev pub found_entry : Found → Option Entry
found_entry f = f.prepared.entry

-- the journal that a text is of which the heading and the names were read, if it is one
abbrev pub begun_at : Begun → Option Journal
begun_at b = read_text b.journal.journal b.rest.now
