use Rattle.std.proofs.Common.{◌≡◌, ℕ, true, List, ◌++◌, refl, sym, ap, ◌∙◌, subst}
use Rattle.std.specs.Prelude.{Option, option_map}
use Rattle.kl1_model_server.specs.JournalText.{lines_of}
use Rattle.kl1_sums.specs.declared.sum.Sum.{Sum}
use Rattle.kl1_sums.specs.Sums.{summed_text, sum_after}
use Rattle.kl1_sums.specs.SumValues.{digits_of}
use Rattle.kl1_log.specs.Files.{Known}
use Rattle.kl1_log.specs.Batches.{text_of}
use Rattle.kl1_log.specs.LastSums.{is_last_sum}
use Rattle.kl1_log.proofs.LastSums.{append_so, append_last}
use Rattle.kl1_log.proofs.making.append_lines.Goals as goal
use Rattle.kl1_log.proofs.making.append_lines.Goals.{then-last, else-last}

pub returns-in-Err-append-clause-any_moment : goal.returns-in-Err-append-clause-any_moment
returns-in-Err-append-clause-any_moment g c =
    let digits = digits_of c.in-Ok.last.sum in
    let bytes = c.deref-2.result.now in
    let lines = c.args.lines.now.items in
    let so : bytes ≡ summed_text digits lines = c.deref-2.ensures.value ∙ c.in-Ok-with_sums.ensures.bytes ∙ ap (summed_text digits) c.deref.ensures.value in
    append_so (g.D.Disk.known c.args.disk.now) (g.D.Disk.known c.last_of.new.disk) (g.D.Disk.known c.append.new.disk) digits bytes lines c.in-Ok.last.is_whole c.in-Ok.ensures.known c.in-Ok.ensures.last so c.in-Err-append.ensures.any_moment

pub returns-clause-any_moment : goal.returns-clause-any_moment
returns-clause-any_moment g c =
    let digits = digits_of c.in-Ok.last.sum in
    let bytes = c.deref-2.result.now in
    let lines = c.args.lines.now.items in
    let so : bytes ≡ summed_text digits lines = c.deref-2.ensures.value ∙ c.in-Ok-with_sums.ensures.bytes ∙ ap (summed_text digits) c.deref.ensures.value in
    append_so (g.D.Disk.known c.args.disk.now) (g.D.Disk.known c.last_of.new.disk) (g.D.Disk.known c.append.new.disk) digits bytes lines c.in-Ok.last.is_whole c.in-Ok.ensures.known c.in-Ok.ensures.last so c.in_default-append.ensures.any_moment

pub returns-clause-last : goal.returns-clause-last
returns-clause-last g c =
    let digits = digits_of c.in-Ok.last.sum in
    let bytes = c.deref-2.result.now in
    let lines = c.args.lines.now.items in
    let sum = c.in-Ok-with_sums.put.last in
    let t = text_of (g.D.Disk.known c.args.disk.now) in
    let u = text_of (g.D.Disk.known c.append.new.disk) in
    let so : bytes ≡ summed_text digits lines = c.deref-2.ensures.value ∙ c.in-Ok-with_sums.ensures.bytes ∙ ap (summed_text digits) c.deref.ensures.value in
    let ends : digits_of sum ≡ sum_after digits (lines_of lines).whole = c.in-Ok-with_sums.ensures.last ∙ ap (λ (x : List ℕ). sum_after digits (lines_of x).whole) c.deref.ensures.value in
    let is : u ≡ option_map (λ (text : List ℕ). text ++ bytes) t =
    c.in_default-append.ensures.text ∙ ap (λ (k : Known). option_map (λ (text : List ℕ). text ++ bytes) (text_of k)) c.in-Ok.ensures.known in
    elim c.if-last.branch [
      | then-last w ↦ subst (λ (o : Option Sum). is_last_sum o u ≡ true) (sym w.result-is) (append_last t u digits bytes lines sum c.in-Ok.last.is_whole c.in-Ok.ensures.last w.if-last.true so is ends)
      | else-last w ↦ subst (λ (o : Option Sum). is_last_sum o u ≡ true) (sym w.result-is) refl
    ]
