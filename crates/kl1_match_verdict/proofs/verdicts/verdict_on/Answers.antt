use Rattle.std.proofs.Common.{true}
use Rattle.std.proofs.lemmas.Result.{IfOk-weaker}
use Rattle.kl1_match.specs.Verdicts.{IsVerdict}
use Rattle.kl1_match.proofs.Trying.{GivenKept, of_places}
use Rattle.kl1_match_verdict.proofs.verdicts.verdict_on.Goals as goal

pub returns : goal.returns
returns g c =
    IfOk-weaker c.judge.result (GivenKept g.N.NameValue.built c.args.names.now c.args.clause.now c.args.store.now.held c.args.goal true c.judge.new.places.items c.args.awaited.now.items c.judge.new.awaited.items)
    (IsVerdict g.N.NameValue.built c.args.names.now c.args.clause.now c.args.store.now.held c.args.goal c.judge.new.places.items c.args.awaited.now.items c.judge.new.awaited.items)
    (λ v k. of_places c.judge.new.places.items (λ ps. IsVerdict g.N.NameValue.built c.args.names.now c.args.clause.now c.args.store.now.held c.args.goal ps c.args.awaited.now.items c.judge.new.awaited.items v) k) c.judge.ensures.judged
