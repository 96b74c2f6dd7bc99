-- Of what editions are made.
use Rattle.std.specs.Prelude.{ℕ, List}
use Rattle.kl1_log.specs.Batches.{text_after}
use Rattle.kl1_journal_entries.specs.Lined.{Rows}
use Rattle.kl1_host_journals.specs.declared.edition.Edition.{Edition}
use Rattle.kl1_host_journals.specs.declared.drafts.FirstDraft.{FirstDraft}
use Rattle.kl1_host_journals.specs.declared.drafts.Draft.{Draft}
use Rattle.kl1_host_journals.specs.declared.notes.Notes.{Notes}
use Rattle.kl1_host_journals.specs.Notes.{generation_of, number_of, change_of}
use Rattle.kl1_host_journals.specs.Editions.{last_of}

-- what a file of this text is to hold that gets what waits
abbrev pub edition_over : List ℕ → Notes → Rows → Edition
edition_over text n j = record { number = number_of n; generation = generation_of n; journal = j; text = text_after text (change_of n) }

abbrev pub first_edition : FirstDraft → Edition
first_edition d = edition_over d.bytes.value.items d.notes.value d.journal.value

abbrev pub next_edition : Draft → Edition
next_edition d = edition_over (last_of d.taken.log).text d.notes.value d.journal.value
