use Rattle.std.proofs.Common.{◌≤◌, length, take, ap, sym, ◌∙◌}
use Rattle.std.specs.Prelude.{option_map}
use Rattle.kl1_model_server.specs.JournalText.{journal_of}
use Rattle.kl1_journal_entries.specs.Lined.{Rows}
use Rattle.kl1_log.specs.Cuts.{whole_lines}
use Rattle.kl1_log.proofs.Faults.{all_none, not_both}
use Rattle.kl1_log.proofs.recovery.fault_in.Goals as goal

-- all lines are no journal, so fewer than all are the opening
pub returns-then-opening-all : goal.returns-then-opening-all
returns-then-opening-all c =
    let few : length c.args.text.now ≤ c.in-Some.opening = c.if-opening-all.true in
    absurd (not_both (journal_of (take c.in-Some.opening (whole_lines c.args.text.now))) c.in-Some-2.field-0.journal (ap (option_map (λ (r : Rows). r.journal)) (sym c.in-Some-2.is) ∙ c.in_ok-read.ensures ∙ c.front.ensures) (all_none c.args.text.now c.in-Some.opening few c.requires))
