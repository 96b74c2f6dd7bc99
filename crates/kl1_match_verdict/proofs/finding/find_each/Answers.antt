use Rattle.std.proofs.Common.{subst, sym}
use Rattle.kl1_clause.specs.declared.compiled_clause.CompiledClause.{CompiledClause}
use Rattle.kl1_match.specs.Instances.{IsClause}
use Rattle.kl1_match.specs.Verdicts.{IsTried}
use Rattle.kl1_match.proofs.Trying.{of_places}
use Rattle.kl1_match_verdict.proofs.Choosing.{clause_in}
use Rattle.kl1_match_verdict.proofs.Least.{takes_least}
use Rattle.kl1_match_verdict.proofs.finding.find_each.Goals as goal

pub find_match-requires-clause-clause : goal.find_match-requires-clause-clause
find_match-requires-clause-clause g c =
    let P : CompiledClause → Type 0 = λ k. IsClause c.args.names.now k in
    subst P (sym c.nth-clause.ensures) (clause_in c.args.names.now c.args.clauses.now c.args.place c.nth-clause.result.now c.requires.clauses c.requires.place)

pub returns-clause-taken : goal.returns-clause-taken
returns-clause-taken g c =
    let h = c.args.store.now.held in
    let places = c.find_match.new.places.items in
    let before = c.args.awaited.now.items in
    let after = c.find_match.new.awaited.items in
    let given = c.in_ok-find_match.field-0 in
    let x = c.nth-clause.result.now in
    let P : CompiledClause → Type 0 = λ k. IsTried g.N.NameValue.built c.args.names.now k h c.args.goal places before after given in
    takes_least g.N.NameValue.built c.args.names.now c.args.clauses.now h c.args.goal c.args.place x places before after given c.requires.place
    (subst P c.nth-clause.ensures (of_places places (λ ps. IsTried g.N.NameValue.built c.args.names.now x h c.args.goal ps before after given) c.in_ok-find_match.ensures))
