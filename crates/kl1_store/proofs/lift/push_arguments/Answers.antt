use Rattle.std.proofs.Common.{◌++◌, [], ◌∷◌, ap, ◌∙◌, sym, append_assoc}
use Rattle.kl1_store.specs.Held.{arguments_of}
use Rattle.kl1_store.proofs.Lifting.{tasks_taken}
use Rattle.kl1_store.proofs.lift.push_arguments.Goals as goal

pub loop-index-preserved : goal.loop-index-preserved
loop-index-preserved g c =
    let i = c.loop-index.invariant in
    record {
      items =
          c.in_ok-push.ensures.items ∙ ap (λ l. l ++ record { cell = c.argument-cell.result; level = c.args.level } ∷ []) i.items
          ∙ append_assoc c.args.tasks.now.items _ _
          ∙ ap (λ l. c.args.tasks.now.items ++ l) (sym (tasks_taken c.args.level (arguments_of c.args.cells.now.held c.args.structure) c.loop-index.index c.argument-cell.result c.argument-cell.ensures.is));
      count = i.count;
    }
