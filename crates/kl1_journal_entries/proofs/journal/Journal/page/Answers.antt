use Rattle.std.proofs.Common.{◌<◌, ◌^◌, ◌++◌, ◌∷◌, [], List, ℕ, length, min, take, drop, ap, ap₂, sym, ◌∙◌, arith}
use Rattle.kl1_model_server.specs.JournalText.{journal_lines}
use Rattle.kl1_journal_entries.proofs.Pages.{page_next, page_whole}
use Rattle.kl1_journal_entries.proofs.journal.Journal.page.Goals as goal

pub loop-place-preserved : goal.loop-place-preserved
loop-place-preserved c =
    c.in_ok-push.ensures.ok
    ∙ ap (λ (ls : List (List ℕ)). ls ++ c.in_ok-line_at.field-0.items ∷ []) c.loop-place.invariant
    ∙ sym (page_next (journal_lines c.args.self.now.journal) c.saturating_sub-first.result c.loop-place.place c.in_ok-line_at.field-0.items c.loop-place.auto.place c.in_ok-line_at.ensures)

pub returns : goal.returns
returns c =
    let lines = journal_lines c.args.self.now.journal in
    let first = c.saturating_sub-first.result in
    let small : first < 2 ^ 64 = omega (arith, c.saturating_sub-first.type_inv) in
    let few : length lines < 2 ^ 64 = omega (arith, c.count_lines.type_inv, c.count_lines.ensures) in
    c.loop-place.invariant
    ∙ page_whole lines first c.args.count c.loop-place.place c.min-end.result (c.min-end.ensures ∙ ap₂ min c.saturating_add.ensures c.count_lines.ensures) small few c.loop-place.auto.place-end c.loop-place-test.false
    ∙ ap (λ (n : ℕ). take c.args.count (drop n lines)) c.saturating_sub-first.ensures
