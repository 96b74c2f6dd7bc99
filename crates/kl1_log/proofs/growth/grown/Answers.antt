use Rattle.std.proofs.Common.{ℕ, List, ◌≡◌, ◌+◌, ◌≤◌, ◌∷◌, length, sym, ap, ◌∙◌, arith}
use Rattle.kl1_model.specs.declared.rules.Rules.{Rules}
use Rattle.kl1_model_server.specs.JournalText.{lines_of}
use Rattle.kl1_log.specs.Later.{run_of_line, run_of_lines}
use Rattle.kl1_log.proofs.LinesPut.{bytes_in, others, texts_split, no_texts, counted, grown_put}
use Rattle.kl1_log.proofs.GrownFiles.{page_all, page_some, grown_file, grown_mark}
use Rattle.kl1_log.proofs.LinesWhole.{grown_whole, none_whole}
use Rattle.kl1_log.proofs.growth.grown.Goals as goal

pub returns-in_default-clause-file : goal.returns-in_default-clause-file
returns-in_default-clause-file c = λ old text mark later file.
    let m = c.args.mark in
    let page = c.in_ok-page.page in
    let sum = counted c.checked_add.result c.in_ok-end.end m.lines c.len.result c.in_ok-end.ensures.ok_part c.checked_add.ensures in
    let fits : m.lines + length page ≤ 18446744073709551615 = omega (arith, sum.0, c.len.ensures) in
    absurd (page_some old c.args.journal.now.journal m mark later (no_texts c.texts.result.now page c.in_default.len_below c.texts.ensures ∙ page_all old c.args.journal.now.journal m page 18446744073709551615 mark c.in_ok-page.ensures fits))

pub returns-in_default-clause-mark : goal.returns-in_default-clause-mark
returns-in_default-clause-mark c = λ old mark later.
    let m = c.args.mark in
    let page = c.in_ok-page.page in
    let sum = counted c.checked_add.result c.in_ok-end.end m.lines c.len.result c.in_ok-end.ensures.ok_part c.checked_add.ensures in
    let fits : m.lines + length page ≤ 18446744073709551615 = omega (arith, sum.0, c.len.ensures) in
    absurd (page_some old c.args.journal.now.journal m mark later (no_texts c.texts.result.now page c.in_default.len_below c.texts.ensures ∙ page_all old c.args.journal.now.journal m page 18446744073709551615 mark c.in_ok-page.ensures fits))

pub overflow_sub-result : goal.overflow_sub-result
overflow_sub-result c =
    let sum = counted c.checked_add.result c.in_ok-end.end c.args.mark.lines c.len.result c.in_ok-end.ensures.ok_part c.checked_add.ensures in
    let page = ap length (texts_split c.texts.result.now c.last-item.result c.in_ok-page.page c.in-len1-up.len_at_least c.last-item.is c.texts.ensures) in
    omega (arith, sum.1, page, c.len.ensures)

pub returns-clause-file : goal.returns-clause-file
returns-clause-file c = λ old text mark later file.
    let j = c.args.journal.now.journal in
    let m = c.args.mark in
    let last = c.last-item.result.items in
    let more = bytes_in (others c.texts.result.now) in
    let page = c.in_ok-page.page in
    let sum = counted c.checked_add.result c.in_ok-end.end m.lines c.len.result c.in_ok-end.ensures.ok_part c.checked_add.ensures in
    let fits : m.lines + length page ≤ 18446744073709551615 = omega (arith, sum.0, c.len.ensures) in
    let split = texts_split c.texts.result.now c.last-item.result page c.in-len1-up.len_at_least c.last-item.is c.texts.ensures in
    let all = page_all old j m page 18446744073709551615 mark c.in_ok-page.ensures fits in
    let put = grown_put c.args.journal.now.journal.rules c.new-bytes.result.items c.put_longer.new.out.items c.put_lines.new.out.items m.run c.in_ok-run_of.field-0 c.deref.result.now last more c.new-bytes.ensures.items c.in_ok-put_longer.ensures c.in_ok-put_lines.ensures (c.in_ok-run_of.ensures ∙ ap (λ (of : Rules). run_of_line of c.deref.result.now) c.rules-rules.ensures) c.deref.ensures.value in
    grown_file old j m text last more c.put_lines.new.out.items c.shows_written.ensures (split ∙ all) put mark later file

pub returns-clause-mark : goal.returns-clause-mark
returns-clause-mark c = λ old mark later.
    let j = c.args.journal.now.journal in
    let m = c.args.mark in
    let last = c.last-item.result.items in
    let more = bytes_in (others c.texts.result.now) in
    let page = c.in_ok-page.page in
    let sum = counted c.checked_add.result c.in_ok-end.end m.lines c.len.result c.in_ok-end.ensures.ok_part c.checked_add.ensures in
    let fits : m.lines + length page ≤ 18446744073709551615 = omega (arith, sum.0, c.len.ensures) in
    let split = texts_split c.texts.result.now c.last-item.result page c.in-len1-up.len_at_least c.last-item.is c.texts.ensures in
    let all = page_all old j m page 18446744073709551615 mark c.in_ok-page.ensures fits in
    let long = ap length split in
    let count : c.in_ok-end.end ≡ m.lines + length (last ∷ more) = omega (arith, sum.1, long, c.len.ensures) in
    grown_mark old j m last more c.in_ok-end.end c.in_ok-run.run' c.shows_written.ensures (split ∙ all) count (c.in_ok-run.ensures ∙ ap (λ (of : Rules). run_of_lines of (bytes_in c.texts-2.result.now)) c.rules-rules.ensures ∙ ap (run_of_lines j.rules) (c.texts-2.ensures ∙ sym split)) mark later

pub returns-in_default-clause-whole : goal.returns-in_default-clause-whole
returns-in_default-clause-whole c = none_whole c.new-bytes.result.items c.new-bytes.ensures.items

pub returns-clause-whole : goal.returns-clause-whole
returns-clause-whole c =
    let m = c.args.mark in
    let last = c.last-item.result.items in
    let more = bytes_in (others c.texts.result.now) in
    let put = grown_put c.args.journal.now.journal.rules c.new-bytes.result.items c.put_longer.new.out.items c.put_lines.new.out.items m.run c.in_ok-run_of.field-0 c.deref.result.now last more c.new-bytes.ensures.items c.in_ok-put_longer.ensures c.in_ok-put_lines.ensures (c.in_ok-run_of.ensures ∙ ap (λ (of : Rules). run_of_line of c.deref.result.now) c.rules-rules.ensures) c.deref.ensures.value in
    ap (λ (x : List ℕ). (lines_of x).rest) put ∙ grown_whole m.run (run_of_line c.args.journal.now.journal.rules last) more
