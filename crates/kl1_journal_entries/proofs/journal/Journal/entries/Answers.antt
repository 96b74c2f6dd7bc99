use Rattle.kl1_journal_entries.proofs.Rows.{printed_all}
use Rattle.kl1_journal_entries.proofs.journal.Journal.entries.Goals as goal

pub invariant_of-result : goal.invariant_of-result
invariant_of-result c =
    let slots = c.as_slice.ensures.value in
    let wholes = c.as_slice-2.ensures.value in
    (rw (slots, wholes) c.self.invariant.places, rw wholes (printed_all c.self.inside.rules c.self.inside.wholes.items c.self.invariant.sound))
