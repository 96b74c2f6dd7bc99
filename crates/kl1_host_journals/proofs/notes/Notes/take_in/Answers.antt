use Rattle.std.proofs.Common.{refl}
use Rattle.kl1_host_journals.proofs.Noting.{taken_in_grown, taken_in_anew}
use Rattle.kl1_host_journals.proofs.notes.Notes.take_in.Goals as goal

pub returns-then-generation-self-clause-ok : goal.returns-then-generation-self-clause-ok
returns-then-generation-self-clause-ok c =
    let old = c.args.self.now in
    taken_in_grown old (record { waiting = c.note.new.self; generation = old.generation }) c.args.journal.now.journal c.args.generation c.in_ok-note.ensures.ok c.in_ok-note.ensures.count c.in_ok-note.ensures.longer c.if-generation-self.true refl

pub returns-clause-ok : goal.returns-clause-ok
returns-clause-ok c =
    taken_in_anew c.args.self.now (record { waiting = c.note_reset.new.self; generation = c.args.generation }) c.args.journal.now.journal c.args.generation c.in_ok-note_reset.ensures.ok c.in_ok-note_reset.ensures.count c.in_ok-note_reset.ensures.one c.if-generation-self.false refl
