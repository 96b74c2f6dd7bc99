use Rattle.kl1_ready.proofs.Words.{◌++◌, ◌∷◌, [], option_map}
use Rattle.kl1_ready.proofs.Ready.{call_has}
use Rattle.kl1_ready.proofs.beside.predicate_beside.Goals as goal

pub returns-in-Calls-clause-has : goal.returns-in-Calls-clause-has
returns-in-Calls-clause-has g c =
    call_has (c.args.modules.now.loaded ++ c.args.loaded.now ∷ []) c.args.kind c.in-Calls.call (option_map (λ l. l.predicate) c.find_beside.result) c.located_or_none.result.predicate c.in-Calls.is c.find_beside.ensures.finds c.located_or_none.ensures.clauses
