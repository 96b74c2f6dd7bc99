use Rattle.std.proofs.Common.{ℕ, List, ◌++◌, ap, ◌∙◌, sym, subst}
use Rattle.kl1_model_server.specs.JournalText.{lines_of}
use Rattle.kl1_sums.specs.Sums.{plain_text}
use Rattle.kl1_log.specs.Deeds.{IsPlainFile}
use Rattle.kl1_log.specs.Batches.{text_after}
use Rattle.kl1_log.proofs.Waits.{grown_file_waits, grown_fits}
use Rattle.kl1_log.proofs.LinesWhole.{extended_whole, extended_longer}
use Rattle.kl1_log.proofs.waiting.Waiting.note.Goals as goal

pub returns-clause-ok : goal.returns-clause-ok
returns-clause-ok c = λ text old up later.
    let front = plain_text (text_after text c.args.self.now.change) in
    let j = c.args.journal.now.journal in
    let bytes = c.deref.result.now in
    let more : IsPlainFile (front ++ bytes) j = subst (λ (x : List ℕ). IsPlainFile (front ++ x) j) (sym c.deref.ensures.value) (c.in_ok-bytes.ensures.file old front up.mark later up.file.plain) in
    record {
      file = grown_file_waits text bytes j c.args.self.now.change c.extend.new.self up.fits c.in_ok-extend.ensures.ok more;
      fits = grown_fits text bytes old j c.args.self.now.change c.extend.new.self up.fits c.in_ok-extend.ensures.ok up.file more;
      mark = c.in_ok-bytes.ensures.mark old up.mark later;
    }

pub returns-clause-longer : goal.returns-clause-longer
returns-clause-longer c = λ text. extended_longer text c.deref.result.now c.args.self.now.change c.extend.new.self c.args.self.now.whole c.in_ok-extend.ensures.ok

pub invariant_of-self-2 : goal.invariant_of-self-2
invariant_of-self-2 c =
    let more = ap (λ (x : List ℕ). (lines_of x).rest) c.deref.ensures.value ∙ c.in_ok-bytes.ensures.whole in
    record { whole = extended_whole c.deref.result.now c.args.self.now.change c.extend.new.self c.args.self.now.whole more c.in_ok-extend.ensures.ok }
