use Rattle.std.proofs.lemmas.Result.{IfOk-weaker}
use Rattle.kl1_match.specs.Verdicts.{IsVerdict}
use Rattle.kl1_match.proofs.Trying.{keeps_of, GivenKept, kept_anyway}
use Rattle.kl1_match_verdict.proofs.verdicts.judge.Goals as goal

pub judge_plain-requires-clause-plain : goal.judge_plain-requires-clause-plain
judge_plain-requires-clause-plain g c = c.requires.clause.is.plain c.if-clause.true

pub returns-clause-judged : goal.returns-clause-judged
returns-clause-judged g c =
    IfOk-weaker c.judge_whole.result (IsVerdict g.N.NameValue.built c.args.names.now c.args.clause.now c.args.store.now.held c.args.goal c.judge_whole.new.places.items c.args.awaited.now.items c.judge_whole.new.awaited.items)
    (GivenKept g.N.NameValue.built c.args.names.now c.args.clause.now c.args.store.now.held c.args.goal (keeps_of g.row.KEEP) c.judge_whole.new.places.items c.args.awaited.now.items c.judge_whole.new.awaited.items)
    (λ v k. kept_anyway (keeps_of g.row.KEEP) c.judge_whole.new.places.items (λ ps. IsVerdict g.N.NameValue.built c.args.names.now c.args.clause.now c.args.store.now.held c.args.goal ps c.args.awaited.now.items c.judge_whole.new.awaited.items v) k) c.judge_whole.ensures.judged
