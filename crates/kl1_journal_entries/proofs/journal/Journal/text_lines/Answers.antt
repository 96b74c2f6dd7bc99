use Rattle.std.proofs.Common.{◌≡◌, ◌≤◌, List, ℕ, length, subst, arith}
use Rattle.std.specs.Prelude.{IfOk}
use Rattle.kl1_model_server.specs.JournalText.{journal_lines}
use Rattle.kl1_journal_entries.proofs.Pages.{page_all}
use Rattle.kl1_journal_entries.proofs.journal.Journal.text_lines.Goals as goal

pub returns : goal.returns
returns c =
    let count : length (journal_lines c.args.self.now.journal) ≤ c.count_lines.result = omega (arith, c.count_lines.ensures) in
    subst (λ (ls : List (List ℕ)). IfOk c.page.result (λ lines. lines ≡ ls)) (page_all c.args.self.now.journal c.count_lines.result count) c.page.ensures
