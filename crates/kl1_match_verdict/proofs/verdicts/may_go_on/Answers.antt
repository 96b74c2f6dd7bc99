use Rattle.std.proofs.lemmas.Result.{IfOk-weaker}
use Rattle.kl1_match.specs.TestTerms.{tests_with}
use Rattle.kl1_match.specs.Testing.{TestsCome}
use Rattle.kl1_match_verdict.specs.Outcomes.{RestComes}
use Rattle.kl1_match_verdict.proofs.Judging.{rest_comes}
use Rattle.kl1_match_verdict.proofs.Rising.{rising_come}
use Rattle.kl1_match_verdict.proofs.verdicts.may_go_on.Goals as goal

pub returns-in-Some-clause-come : goal.returns-in-Some-clause-come
returns-in-Some-clause-come g c =
    let t = tests_with c.args.store.now.held c.args.names.now c.args.row.now c.args.places.now in
    let before = c.args.awaited.now.items in
    rest_comes g.N.NameValue.built t before before before c.in-Some.holds (rising_come g.N.NameValue.built t.held t.places before (c.are_rising.ensures c.if-not-are_rising.false)) (c.in-Some.ensures c.args.names.now before)

pub returns-clause-come : goal.returns-clause-come
returns-clause-come g c =
    let t = tests_with c.args.store.now.held c.args.names.now c.args.row.now c.args.places.now in
    let before = c.args.awaited.now.items in
    let after = c.run_row.new.awaited.items in
    IfOk-weaker c.run_row.result (TestsCome g.N.NameValue.built t 0 before after) (RestComes g.N.NameValue.built t before after)
    (λ b k. rest_comes g.N.NameValue.built t before before after b (rising_come g.N.NameValue.built t.held t.places before (c.are_rising.ensures c.if-not-are_rising.false)) k) c.run_row.ensures.come
