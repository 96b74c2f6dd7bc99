use Rattle.std.proofs.Common.{ap, ◌∙◌}
use Rattle.kl1_clause.specs.declared.compiled_clause.CompiledClause.{CompiledClause}
use Rattle.kl1_match_verdict.proofs.Candidates.{section_is}
use Rattle.kl1_match_verdict.proofs.taking.section_of.Goals as goal

pub returns : goal.returns
returns c = ap (λ (k : CompiledClause). k.section) c.nth.ensures ∙ section_is c.args.clauses.now c.args.place c.nth.result.now c.requires
