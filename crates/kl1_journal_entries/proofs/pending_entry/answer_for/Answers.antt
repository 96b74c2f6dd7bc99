use Rattle.std.proofs.Common.{◌≡◌, Bool, true, Some, sym, ap, ◌∙◌, rules, tests}
use Rattle.kl1_model_server.specs.Journal.{answers}
use Rattle.kl1_journal_entries.specs.Lined.{pending}
use Rattle.kl1_journal_entries.specs.Slots.{answer_in}
use Rattle.kl1_journal_entries.proofs.Sound.{answer_is, answer_sound}
use Rattle.kl1_journal_entries.proofs.pending_entry.answer_for.Goals as goal

pub invariant_of-result : goal.invariant_of-result
invariant_of-result c =
    let read : c.in_ok-is_answer_lined.field-0 ≡ true = search (rules, tests) in
    answer_sound c.args.rules c.args.shoen c.args.report c.args.goal.now c.in_ok-text.text c.has_told.result c.in_ok-text.ensures c.has_told.ensures (sym c.in_ok-is_answer_lined.ensures ∙ read)

pub returns : goal.returns
returns c =
    let read : c.in_ok-is_answer_lined.field-0 ≡ true = search (rules, tests) in
    let text = c.in_ok-text.text.items in
    ap (λ (b : Bool). pending c.args.rules (Some (answers c.args.shoen c.args.report (answer_in b text)))) c.has_told.ensures
    ∙ ap (pending c.args.rules) (answer_is c.args.rules c.args.shoen c.args.report c.args.goal.now text c.in_ok-text.ensures (sym c.in_ok-is_answer_lined.ensures ∙ read))
