use Rattle.kl1_ready.proofs.Words.{IfOk-weaker, with_last}
use Rattle.kl1_ready.proofs.Ready.{ready_goal}
use Rattle.kl1_ready.proofs.beside.standing_beside.Goals as goal

pub returns-clause-ready : goal.returns-clause-ready
returns-clause-ready g c =
    let ms = with_last c.args.modules.now c.args.loaded.now in
    let kind = c.kind_of_qualified-kind in
    let found = c.predicate_beside-located in
    IfOk-weaker c.ready_or_suspend.result _ _
    (λ s ready shoens shoen. ready_goal ms shoens c.args.store.now.held c.ready_or_suspend.new.store.hooks c.args.number shoen c.args.cell kind.result found.result.predicate s (record { is = kind.ensures.kind; has = found.ensures.has }) ready)
    (rw c.rules.ensures at c.ready_or_suspend.ensures.ready)
