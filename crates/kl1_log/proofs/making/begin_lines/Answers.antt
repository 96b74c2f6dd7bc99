use Rattle.std.proofs.Common.{◌≡◌, ℕ, List, ap, ◌∙◌}
use Rattle.kl1_model_server.specs.JournalText.{lines_of}
use Rattle.kl1_sums.specs.Sums.{summed_text, sum_after}
use Rattle.kl1_sums.specs.SumValues.{digits_of}
use Rattle.kl1_log.specs.Batches.{text_of}
use Rattle.kl1_log.proofs.LastSums.{begin_last}
use Rattle.kl1_log.proofs.making.begin_lines.Goals as goal

pub returns-clause-last : goal.returns-clause-last
returns-clause-last g c =
    let digits = digits_of c.none.result in
    let bytes = c.deref-2.result.now in
    let lines = c.args.lines.now.items in
    let so : bytes ≡ summed_text digits lines = c.deref-2.ensures.value ∙ c.in-Ok.ensures.bytes ∙ ap (summed_text digits) c.deref.ensures.value in
    let ends : digits_of c.in-Ok.put.last ≡ sum_after digits (lines_of lines).whole = c.in-Ok.ensures.last ∙ ap (λ (x : List ℕ). sum_after digits (lines_of x).whole) c.deref.ensures.value in
    begin_last (text_of (g.D.Disk.known c.args.disk.now)) (text_of (g.D.Disk.known c.begin.new.disk)) digits bytes lines c.in-Ok.put.last c.none.ensures so c.in_default-begin.ensures.text ends
