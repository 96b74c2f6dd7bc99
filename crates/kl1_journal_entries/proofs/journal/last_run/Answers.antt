use Rattle.std.proofs.Common.{length}
use Rattle.kl1_journal_entries.specs.Slots.{IsPlace}
use Rattle.kl1_journal_entries.proofs.Rows.{none_last, some_last, last_place}
use Rattle.kl1_journal_entries.proofs.journal.last_run.Goals as goal

pub returns-in-None-clause-run : goal.returns-in-None-clause-run
returns-in-None-clause-run c = λ rules wholes places sound. none_last wholes c.args.slots.now c.in-None.ensures.value

pub returns-in-Some-clause-run : goal.returns-in-Some-clause-run
returns-in-Some-clause-run c = λ rules wholes places sound.
    let at = c.in-Some.ensures.value in
    some_last wholes c.args.slots.now c.in-Some.slot.now c.run_of.result at (c.run_of.ensures.run rules wholes (last_place (IsPlace (length wholes)) c.args.slots.now c.in-Some.slot.now at places) sound)
