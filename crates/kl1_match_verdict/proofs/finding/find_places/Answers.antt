use Rattle.std.proofs.Common.{[], subst, sym}
use Rattle.kl1_clause.specs.declared.compiled_clause.CompiledClause.{CompiledClause}
use Rattle.kl1_match.specs.declared.verdict.Verdict.TheVariants.{Accepts}
use Rattle.kl1_match.specs.Instances.{IsClause}
use Rattle.kl1_match.specs.Kept.{kept_places}
use Rattle.kl1_match.specs.Verdicts.{IsTried}
use Rattle.kl1_match_verdict.proofs.Choosing.{clause_in}
use Rattle.kl1_match_verdict.proofs.Least.{takes_least}
use Rattle.kl1_match_verdict.proofs.finding.find_places.Goals as goal

pub agrees_with_in_order-requires-clause-clause : goal.agrees_with_in_order-requires-clause-clause
agrees_with_in_order-requires-clause-clause g c =
    let P : CompiledClause → Type 0 = λ k. IsClause c.args.names.now k in
    subst P (sym c.nth.ensures) (clause_in c.args.names.now c.args.clauses.now c.args.place c.nth.result.now c.requires.clauses c.requires.place)

pub returns-then-branch-clause-taken : goal.returns-then-branch-clause-taken
returns-then-branch-clause-taken g c =
    let h = c.args.store.now.held in
    let places = kept_places c.agrees_with_in_order.new.scratch in
    let P : CompiledClause → Type 0 = λ k. IsTried g.N.NameValue.built c.args.names.now k h c.args.goal places [] [] Accepts in
    takes_least g.N.NameValue.built c.args.names.now c.args.clauses.now h c.args.goal c.args.place c.nth.result.now places [] [] Accepts c.requires.place
    (subst P c.nth.ensures (c.in_ok-agrees_with_in_order.ensures c.if-branch.true))
