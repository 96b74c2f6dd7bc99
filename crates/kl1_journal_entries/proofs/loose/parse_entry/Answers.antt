use Rattle.std.proofs.Common.{◌≡◌, IfOk, List, ℕ, subst}
use Rattle.std.specs.Prelude.{option_and_then}
use Rattle.kl1_model.specs.Line.{behind_space}
use Rattle.kl1_model_server.specs.JournalText.{entry_by}
use Rattle.kl1_journal_entries.specs.Found.{deed_in}
use Rattle.kl1_journal_entries.proofs.loose.parse_entry.Goals as goal

pub returns : goal.returns
returns c =
    let At : List ℕ → List ℕ → Type 0 = λ w r. IfOk c.deed_by.result (λ e. option_and_then deed_in e ≡ entry_by c.args.rules w r) in
    subst (λ (w : List ℕ). At w (behind_space c.args.line.now)) c.split_name.ensures.name (subst (λ (r : List ℕ). At c.split_name.result.0.now r) c.split_name.ensures.behind c.deed_by.ensures)
