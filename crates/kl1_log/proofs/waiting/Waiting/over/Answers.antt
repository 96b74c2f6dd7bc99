use Rattle.std.proofs.Common.{◌≡◌, ℕ, List, [], sym, ap, ◌∙◌}
use Rattle.kl1_sums.specs.Sums.{summed_text}
use Rattle.kl1_log.specs.Deeds.{IsFile}
use Rattle.kl1_log.proofs.Waits.{own_file, taken_file, taken_fits, anew_file, anew_fits}
use Rattle.kl1_log.proofs.waiting.Waiting.over.Goals as goal

pub returns-then-eq-clause-file : goal.returns-then-eq-clause-file
returns-then-eq-clause-file c =
    let own = c.in_ok-bytes.field-0.bytes.items in
    let written = c.as_slice.result.now in
    let text = c.args.text.now in
    let j = c.args.journal.now.journal in
    let is : written ≡ summed_text [] own =
    c.as_slice.ensures.value ∙ c.in_ok-with_sums.ensures.bytes ∙ ap (λ (d : List ℕ). summed_text d c.deref.result.now) c.none.ensures ∙ ap (summed_text []) c.deref.ensures.value in
    let file : IsFile text j = own_file text own written j (sym c.eq.ensures ∙ c.if-eq.true) is c.in_ok-bytes.ensures.file in
    record {
      file = taken_file text j c.new.result c.new.ensures.items file;
      fits = taken_fits text j c.new.result c.new.ensures.items file;
      mark = c.in_ok-bytes.ensures.mark;
    }

pub returns-clause-file : goal.returns-clause-file
returns-clause-file c =
    let own = c.in_ok-bytes.field-0.bytes.items in
    let j = c.args.journal.now.journal in
    record {
      file = anew_file own j c.in_ok-bytes.ensures.file;
      fits = anew_fits own j c.in_ok-bytes.ensures.file;
      mark = c.in_ok-bytes.ensures.mark;
    }
