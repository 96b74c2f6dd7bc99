use Rattle.std.proofs.Common.{◌≡◌, true, sym, ap, ◌∙◌, rules, tests}
use Rattle.kl1_model_server.specs.Journal.{starts}
use Rattle.kl1_journal_entries.specs.Lined.{pending, is_lined}
use Rattle.kl1_journal_entries.proofs.Sound.{if_false, start_is, start_sound}
use Rattle.kl1_journal_entries.proofs.pending_entry.start_for.Goals as goal

pub invariant_of-result : goal.invariant_of-result
invariant_of-result c =
    let read : c.in_ok-is_lined.field-0 ≡ true = search (rules, tests) in
    start_sound c.args.rules c.args.allowance c.args.low c.args.high c.args.goal.now c.in_ok-text.text c.in_ok-text.ensures (sym (c.in_ok-is_lined.ensures c.args.rules) ∙ read)

pub returns : goal.returns
returns c =
    let read : c.in_ok-is_lined.field-0 ≡ true = search (rules, tests) in
    ap (pending c.args.rules) (start_is c.args.rules c.args.allowance c.args.low c.args.high c.args.goal.now c.in_ok-text.text.items c.in_ok-text.ensures (sym (c.in_ok-is_lined.ensures c.args.rules) ∙ read))

pub returns-then-not-branch : goal.returns-then-not-branch
returns-then-not-branch c =
    let e = starts c.args.allowance c.args.low c.args.high c.args.goal.now in
    c.nothing.ensures ∙ ap (pending c.args.rules) (sym (if_false (is_lined c.args.rules e) e (sym (c.in_ok-is_lined.ensures c.args.rules) ∙ c.if-not-branch.true)))
