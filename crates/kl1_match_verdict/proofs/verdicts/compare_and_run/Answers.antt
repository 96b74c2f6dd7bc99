use Rattle.std.proofs.Common.{Bool, subst}
use Rattle.std.proofs.lemmas.Result.{IfOk-weaker}
use Rattle.kl1_match.specs.TestTerms.{tests_with}
use Rattle.kl1_match.specs.Testing.{TestsCome}
use Rattle.kl1_match_verdict.specs.Outcomes.{EachComes, RestComes}
use Rattle.kl1_match_verdict.proofs.Judging.{rest_clashes, rest_comes}
use Rattle.kl1_match_verdict.proofs.verdicts.compare_and_run.Goals as goal

pub returns-then-not-branch-clause-come : goal.returns-then-not-branch-clause-come
returns-then-not-branch-clause-come g c =
    let t = tests_with c.args.store.now.held c.args.names.now c.args.row.now c.args.places.now in
    let P : Bool → Type 0 = λ b. EachComes g.N.NameValue.built t.held t.places c.args.awaited.now.items c.compare_each.new.awaited.items b in
    rest_clashes g.N.NameValue.built t c.args.awaited.now.items c.compare_each.new.awaited.items (subst P c.if-not-branch.true c.in_ok-compare_each.ensures.comes)

pub returns-clause-come : goal.returns-clause-come
returns-clause-come g c =
    let t = tests_with c.args.store.now.held c.args.names.now c.args.row.now c.args.places.now in
    let before = c.args.awaited.now.items in
    let mid = c.compare_each.new.awaited.items in
    let after = c.run_row.new.awaited.items in
    let P : Bool → Type 0 = λ b. EachComes g.N.NameValue.built t.held t.places before mid b in
    IfOk-weaker c.run_row.result (TestsCome g.N.NameValue.built t 0 mid after) (RestComes g.N.NameValue.built t before after)
    (λ b k. rest_comes g.N.NameValue.built t before mid after b (subst P c.if-not-branch.false c.in_ok-compare_each.ensures.comes) k) c.run_row.ensures.come
