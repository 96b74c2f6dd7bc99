use Rattle.kl1_log.proofs.Waits.{anew_file, anew_fits}
use Rattle.kl1_log.proofs.waiting.Waiting.note_reset.Goals as goal

pub returns-clause-ok : goal.returns-clause-ok
returns-clause-ok c = λ text.
    let bytes = c.in_ok-bytes.field-0.bytes.items in
    let j = c.args.journal.now.journal in
    record {
      file = anew_file bytes j c.in_ok-bytes.ensures.file;
      fits = anew_fits bytes j c.in_ok-bytes.ensures.file;
      mark = c.in_ok-bytes.ensures.mark;
    }
