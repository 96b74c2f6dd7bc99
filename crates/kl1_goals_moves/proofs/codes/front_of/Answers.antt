use Rattle.kl1_store.specs.Meaning.{term_of}
use Rattle.kl1_goals_moves.proofs.CodeLists.{cell_front}
use Rattle.kl1_goals_moves.proofs.codes.front_of.Goals as goal

pub returns-else-not-is_built_in-clause-front : goal.returns-else-not-is_built_in-clause-front
returns-else-not-is_built_in-clause-front g c = λ f r.
    cell_front f c.args.store.now.held c.args.left (term_of f c.args.store.now.held c.args.codes) c.in-Two.name c.in-Two.element c.in-Two.rest c.top_of.result c.code_by.result c.front_by.result (c.in-Two.ensures.shape f) c.if-left-eq0.false
    (c.if-not-is_built_in.ensures f r) (c.top_of.ensures.top f) c.code_by.ensures c.front_by.ensures
