use Rattle.std.proofs.Common.{◌<◌, length, sym, ◌∙◌, arith, subst}
use Rattle.kl1_clause.specs.declared.compiled_clause.CompiledClause.{CompiledClause}
use Rattle.kl1_match.specs.Instances.{IsClause}
use Rattle.kl1_match.specs.Verdicts.{IsVerdict}
use Rattle.kl1_match_verdict.proofs.Choosing.{clause_in}
use Rattle.kl1_match_verdict.proofs.Candidates.{none_reject, one_rejects, one_does_not}
use Rattle.kl1_match_verdict.proofs.taking.reject.Goals as goal

pub loop-tried-init : goal.loop-tried-init
loop-tried-init g c = record { remembers = c.requires.remembers; below = omega arith; rejected = none_reject g.N.NameValue.built c.args.names.now c.args.clauses.now c.args.store.now.held c.args.goal }

pub judge-requires-clause-clause : goal.judge-requires-clause-clause
judge-requires-clause-clause g c =
    let lt : c.loop-tried.tried < length c.args.clauses.now = omega (arith, c.loop-tried-test.true, c.requires.count) in
    let P : CompiledClause → Type 0 = λ k. IsClause c.args.names.now k in
    subst P (sym c.nth-clause.ensures) (clause_in c.args.names.now c.args.clauses.now c.loop-tried.tried c.nth-clause.result.now c.requires.clauses lt)

pub returns-then-not-is_rejection-clause-rejects : goal.returns-then-not-is_rejection-clause-rejects
returns-then-not-is_rejection-clause-rejects g c =
    let lt : c.loop-tried.tried < length c.args.clauses.now = omega (arith, c.loop-tried-test.true, c.requires.count) in
    let P : CompiledClause → Type 0 = λ k. IsVerdict g.N.NameValue.built c.args.names.now k c.args.store.now.held c.args.goal c.in_ok-verdict.ensures.judged.taken c.loop-tried.awaited.items c.judge.new.awaited.items c.in_ok-verdict.verdict in
    one_does_not g.N.NameValue.built c.args.names.now c.args.clauses.now c.args.store.now.held c.args.goal c.loop-tried.tried c.args.count c.nth-clause.result.now c.in_ok-verdict.ensures.judged.taken c.loop-tried.awaited.items c.judge.new.awaited.items c.in_ok-verdict.verdict
    c.loop-tried-test.true lt (sym c.is_rejection.ensures ∙ c.if-not-is_rejection.true) (subst P c.nth-clause.ensures c.in_ok-verdict.ensures.judged.holds) c.loop-tried.invariant.rejected

pub loop-tried-preserved : goal.loop-tried-preserved
loop-tried-preserved g c =
    let lt : c.loop-tried.tried < length c.args.clauses.now = omega (arith, c.loop-tried-test.true, c.requires.count) in
    let P : CompiledClause → Type 0 = λ k. IsVerdict g.N.NameValue.built c.args.names.now k c.args.store.now.held c.args.goal c.in_ok-verdict.ensures.judged.taken c.loop-tried.awaited.items c.judge.new.awaited.items c.in_ok-verdict.verdict in
    record {
      remembers = c.in_ok-verdict.ensures.remembers;
      below = omega (arith, c.loop-tried-test.true);
      rejected = one_rejects g.N.NameValue.built c.args.names.now c.args.clauses.now c.args.store.now.held c.args.goal c.loop-tried.tried c.nth-clause.result.now c.in_ok-verdict.ensures.judged.taken c.loop-tried.awaited.items c.judge.new.awaited.items c.in_ok-verdict.verdict
          lt (sym c.is_rejection.ensures ∙ c.if-not-is_rejection.false) (subst P c.nth-clause.ensures c.in_ok-verdict.ensures.judged.holds) c.loop-tried.invariant.rejected;
    }
