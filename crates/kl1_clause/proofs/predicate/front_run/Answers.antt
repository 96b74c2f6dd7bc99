use Rattle.std.proofs.Common.{subst, sym}
use Rattle.kl1_clause.specs.declared.compiled_clause.CompiledClause.{CompiledClause}
use Rattle.kl1_clause.specs.Clauses.{clause_in, IsCompiled}
use Rattle.kl1_clause.proofs.Predicates.{whole_at, whole_front}
use Rattle.kl1_clause.proofs.predicate.front_run.Goals as goal

pub is_of-requires : goal.is_of-requires
is_of-requires c =
    subst (λ (d : CompiledClause). IsCompiled c.args.texts.now d (clause_in c.args.texts.now d)) (sym c.index-clauses-place.is)
    (whole_at c.args.texts.now c.args.clauses.now c.loop-place.place c.index-clauses-place.result c.loop-place-test.true c.requires)

pub returns-clause-whole : goal.returns-clause-whole
returns-clause-whole c = whole_front c.args.texts.now c.args.clauses.now _ c.requires
