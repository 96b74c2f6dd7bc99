use Rattle.kl1_ready.proofs.Words.{IfOk-weaker}
use Rattle.kl1_ready.proofs.Ready.{ready_goal}
use Rattle.kl1_ready.proofs.clauses.standing_of_goal.Goals as goal

pub returns-clause-ready : goal.returns-clause-ready
returns-clause-ready g c =
    let ms = c.args.calls.now.modules.now in
    let kind = c.kind_of_qualified-kind in
    let found = c.predicate_of-located in
    IfOk-weaker c.ready_or_suspend.result _ _
    (λ s ready shoens shoen. ready_goal ms shoens c.args.store.now.held c.ready_or_suspend.new.store.hooks c.args.number shoen c.args.cell kind.result found.result.predicate s (record { is = kind.ensures.kind; has = found.ensures.has }) ready)
    (rw c.rules.ensures at c.ready_or_suspend.ensures.ready)
