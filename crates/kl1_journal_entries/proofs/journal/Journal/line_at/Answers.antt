use Rattle.std.proofs.Common.{◌≡◌, ℕ, ◌-◌, ◌++◌, List, length, ap, sym, ◌∙◌, arith}
use Rattle.std.specs.Prelude.{slice_get, Some}
use Rattle.std.proofs.lemmas.List.{length-map}
use Rattle.kl1_model_server.specs.JournalText.{name_line, entry_line}
use Rattle.kl1_journal_entries.specs.declared.long_entry.LongEntry.{LongEntry}
use Rattle.kl1_journal_entries.specs.Lined.{Rows}
use Rattle.kl1_journal_entries.specs.Slots.{entry_at}
use Rattle.kl1_journal_entries.specs.Shown.{entry_shown}
use Rattle.kl1_journal_entries.proofs.Rows.{printed_all}
use Rattle.kl1_journal_entries.proofs.Pages.{name_place, entry_place, get_entry, get_is, lines_count}
use Rattle.kl1_journal_entries.proofs.journal.Journal.line_at.Goals as goal

pub returns-then-place-len : goal.returns-then-place-len
returns-then-place-len c =
    let names = c.self.inside.names.items in
    let k = c.args.place - 1 in
    let found : slice_get names k ≡ Some c.index.result.now = get_is names k _ (omega (arith, c.self.inside.names.ok)) c.index.ensures in
    let text : c.put_name.new.out.items ≡ name_line c.index.result.now = c.in_ok-put_name.ensures ∙ ap (λ bs. bs ++ name_line c.index.result.now) c.new-line.ensures.items in
    name_place c.args.self.now.journal c.args.place k c.index.result.now (omega arith) (ap (λ (r : Rows). slice_get r.journal.names k) (sym c.self.view_is) ∙ found)
    ∙ ap (λ (t : List ℕ). Some t) (sym text)

-- the goals of what is kept whole are prints
pub shown_at-requires-clause-printed : goal.shown_at-requires-clause-printed
shown_at-requires-clause-printed c = rw c.as_slice.ensures.value (printed_all c.self.inside.rules c.self.inside.wholes.items c.self.invariant.sound)

pub returns : goal.returns
returns c =
    let ss = c.self.inside.slots.items in
    let ws = c.self.inside.wholes.items in
    let k = c.args.place - 1 in
    let n = k - c.len-3.result in
    let slot = c.index-slot.result.now in
    let count = ap (λ (r : Rows). length r.journal.names) c.self.view_is in
    let entries = sym (length-map ss (entry_at ws)) ∙ ap (λ (r : Rows). length r.journal.entries) c.self.view_is in
    let found : slice_get ss n ≡ Some slot = get_is ss n slot (omega (arith, c.self.inside.slots.ok, c.self.inside.names.ok, count, entries, lines_count c.args.self.now.journal, c.requires)) c.index-slot.ensures in
    let entry : entry_shown c.shown_at.result ≡ entry_at ws slot = c.shown_at.ensures.entry ∙ ap (λ (us : List LongEntry). entry_at us slot) c.as_slice.ensures.value in
    let text : c.put_entry.new.out.items ≡ entry_line (entry_at ws slot) = c.in_ok-put_entry.ensures ∙ ap (λ bs. bs ++ entry_line (entry_shown c.shown_at.result)) c.new-line.ensures.items ∙ ap entry_line entry in
    entry_place c.args.self.now.journal c.args.place k n (entry_at ws slot) (omega arith) (omega (arith, count, c.self.inside.names.ok)) (ap (λ (r : Rows). slice_get r.journal.entries n) (sym c.self.view_is) ∙ get_entry (entry_at ws) ss n slot found)
    ∙ ap (λ (t : List ℕ). Some t) (sym text)
