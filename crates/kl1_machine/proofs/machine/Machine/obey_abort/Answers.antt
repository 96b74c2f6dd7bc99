use Rattle.kl1_machine.proofs.Words.{on_ok_weaker}
use Rattle.kl1_machine.proofs.Hearing.{elsewhere_after, aborts_after, aborted}
use Rattle.kl1_machine.proofs.machine.Machine.obey_abort.Goals as goal

pub abort_below-requires-clause-gone : goal.abort_below-requires-clause-gone
abort_below-requires-clause-gone c =
    elsewhere_after c.args.self.now c.remove_of_each.new.self c.args.number c.as_slice.result.now c.requires.machine (rw c.as_slice.ensures.value c.in_ok-below.ensures) c.in_ok-remove_of_each.ensures.ok

pub returns-clause-ok : goal.returns-clause-ok
returns-clause-ok c =
    on_ok_weaker c.close.result
    (aborted c.args.self.now c.abort_below.new.self c.report_name.new.self c.close.new.self c.args.number
    (aborts_after c.args.self.now c.remove_of_each.new.self c.abort_below.new.self c.args.number c.as_slice.result.now c.requires.machine (rw c.as_slice.ensures.value c.in_ok-below.ensures) c.in_ok-remove_of_each.ensures.ok c.in_ok-abort_below.ensures.ok)
    c.in_ok-report_name.ensures.ok)
    c.close.ensures.ok
