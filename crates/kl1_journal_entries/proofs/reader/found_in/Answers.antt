use Rattle.std.proofs.Common.{◌≡◌, ap, sym, ◌∙◌}
use Rattle.std.specs.Prelude.{Some, None, option_map, option_and_then}
use Rattle.kl1_model_server.specs.Journal.{Entry}
use Rattle.kl1_model_server.specs.JournalText.{entry_in}
use Rattle.kl1_journal_entries.specs.Lined.{Pending}
use Rattle.kl1_journal_entries.specs.Found.{deed_in}
use Rattle.kl1_journal_entries.proofs.LinesRead.{none_found, found, not_found}
use Rattle.kl1_journal_entries.proofs.reader.found_in.Goals as goal

none_here : (c : goal.In_default) → entry_in c.args.rules c.args.line.now ≡ None
none_here c = none_found c.args.rules c.args.line.now c.if-line-gt-MOST_LINE_BYTES.false (ap (option_and_then deed_in) (sym c.in_default.is) ∙ c.in_ok-deed.ensures)

pub returns-in_default-clause-deed : goal.returns-in_default-clause-deed
returns-in_default-clause-deed c = sym (none_here c)

pub returns-in_default-clause-entry : goal.returns-in_default-clause-entry
returns-in_default-clause-entry c = ap (option_map (λ (e : Entry). Some e)) (sym (none_here c))

pub returns-then-not-branch-clause-deed : goal.returns-then-not-branch-clause-deed
returns-then-not-branch-clause-deed c =
    sym (not_found c.args.rules c.args.line.now (deed_in c.in-Some.deed) c.in_ok-prepared.prepared.entry c.if-line-gt-MOST_LINE_BYTES.false (ap (option_and_then deed_in) (sym c.in-Some.is) ∙ c.in_ok-deed.ensures)
    (ap (λ (p : Pending). p.entry) c.in_ok-prepared.ensures) (sym c.in_ok-is_canonical.ensures ∙ c.if-not-branch.true))

pub returns-then-not-branch-clause-entry : goal.returns-then-not-branch-clause-entry
returns-then-not-branch-clause-entry c =
    ap (option_map (λ (e : Entry). Some e))
    (sym (not_found c.args.rules c.args.line.now (deed_in c.in-Some.deed) c.in_ok-prepared.prepared.entry c.if-line-gt-MOST_LINE_BYTES.false (ap (option_and_then deed_in) (sym c.in-Some.is) ∙ c.in_ok-deed.ensures)
    (ap (λ (p : Pending). p.entry) c.in_ok-prepared.ensures) (sym c.in_ok-is_canonical.ensures ∙ c.if-not-branch.true)))

pub returns-clause-deed : goal.returns-clause-deed
returns-clause-deed c =
    (found c.args.rules c.args.line.now (deed_in c.in-Some.deed) c.in_ok-prepared.prepared.entry c.if-line-gt-MOST_LINE_BYTES.false (ap (option_and_then deed_in) (sym c.in-Some.is) ∙ c.in_ok-deed.ensures)
    (ap (λ (p : Pending). p.entry) c.in_ok-prepared.ensures) (sym c.in_ok-is_canonical.ensures ∙ c.if-not-branch.false)).deed

pub returns-clause-entry : goal.returns-clause-entry
returns-clause-entry c =
    (found c.args.rules c.args.line.now (deed_in c.in-Some.deed) c.in_ok-prepared.prepared.entry c.if-line-gt-MOST_LINE_BYTES.false (ap (option_and_then deed_in) (sym c.in-Some.is) ∙ c.in_ok-deed.ensures)
    (ap (λ (p : Pending). p.entry) c.in_ok-prepared.ensures) (sym c.in_ok-is_canonical.ensures ∙ c.if-not-branch.false)).entry

pub returns-clause-rules : goal.returns-clause-rules
returns-clause-rules c = ap (λ (p : Pending). p.rules) c.in_ok-prepared.ensures
