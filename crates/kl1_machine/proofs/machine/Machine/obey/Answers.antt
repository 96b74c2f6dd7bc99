use Rattle.kl1_machine.proofs.Words.{on_ok_weaker}
use Rattle.kl1_machine.proofs.Hearing.{allowed}
use Rattle.kl1_machine.proofs.machine.Machine.obey.Goals as goal

pub returns-in-Stop-clause-ok : goal.returns-in-Stop-clause-ok
returns-in-Stop-clause-ok c = rw c.in-Stop.is c.obey_stop.ensures.ok

pub returns-in-Start-clause-ok : goal.returns-in-Start-clause-ok
returns-in-Start-clause-ok c = rw c.in-Start.is c.obey_start.ensures.ok

pub returns-in-Abort-clause-ok : goal.returns-in-Abort-clause-ok
returns-in-Abort-clause-ok c = rw c.in-Abort.is c.obey_abort.ensures.ok

pub returns-in-Allow-clause-ok : goal.returns-in-Allow-clause-ok
returns-in-Allow-clause-ok c = rw c.in-Allow.is (on_ok_weaker c.allow.result (allowed c.args.self.now c.allow.new.self c.args.number c.in-Allow.extra c.requires.machine) c.allow.ensures.ok)
