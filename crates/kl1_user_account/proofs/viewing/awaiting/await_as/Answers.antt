use Rattle.kl1_user_account.proofs.Words.{on_ok_weaker}
use Rattle.kl1_user_account.proofs.viewing.awaiting.await_as.Goals as goal

pub returns-in-Monitor : goal.returns-in-Monitor
returns-in-Monitor g c = rw c.in-Monitor.is (on_ok_weaker c.await_as_monitor.result (λ awaits. awaits c.args.modules.now) c.await_as_monitor.ensures)

pub returns-in-Reduces : goal.returns-in-Reduces
returns-in-Reduces g c = rw c.in-Reduces.is (on_ok_weaker c.await_as_goal.result (λ awaits. awaits c.args.shoens.now.shoens c.args.goal.now.shoen) c.await_as_goal.ensures)

pub returns-in-Substitutes : goal.returns-in-Substitutes
returns-in-Substitutes g c = rw c.in-Substitutes.is (on_ok_weaker c.await_as_substitute.result (λ awaits. awaits c.args.modules.now c.args.shoens.now.shoens c.args.goal.now.shoen) c.await_as_substitute.ensures)
