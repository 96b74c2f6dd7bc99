use Rattle.std.proofs.lemmas.Result.{IfOk-weaker}
use Rattle.kl1_store.specs.Sameness.{AlikeAs}
use Rattle.kl1_match_verdict.specs.Outcomes.{TwoCome}
use Rattle.kl1_match_verdict.proofs.EachAlike.{others_agree, two_compared}
use Rattle.kl1_match_verdict.proofs.alike.compare_two.Goals as goal

pub returns-then-left-right-clause-come : goal.returns-then-left-right-clause-come
returns-then-left-right-clause-come g c = others_agree g.N.NameValue.built c.args.store.now.held c.args.left c.args.right c.args.awaited.now.items c.if-left-right.true

pub returns-clause-come : goal.returns-clause-come
returns-clause-come g c =
    IfOk-weaker c.may_be_same.result (AlikeAs g.N.NameValue.built c.args.store.now.held c.args.left.cell c.args.right.cell c.args.awaited.now.items c.may_be_same.new.waits.items)
    (TwoCome g.N.NameValue.built c.args.store.now.held c.args.left c.args.right c.args.awaited.now.items c.may_be_same.new.waits.items)
    (λ b a. two_compared g.N.NameValue.built c.args.store.now.held c.args.left c.args.right c.args.awaited.now.items c.may_be_same.new.waits.items b c.if-left-right.false a) c.may_be_same.ensures.alike
