use Rattle.kl1_user_account.proofs.Words.{sym, ap, Option, option_map, on_ok_weaker, CellName, Shoen, control_in}
use Rattle.kl1_user_account.proofs.Awaiting.{nobody_awaits, monitor_awaits}
use Rattle.kl1_user_account.proofs.viewing.awaiting.await_as_monitor.Goals as goal

pub await_message-requires : goal.await_message-requires
await_message-requires c =
    control_in c.args.store.now.held c.args.shoens.now.shoens c.args.shoen c.in-Some.found.now.control c.requires (sym (ap (λ (o : Option (Shoen CellName)). option_map (λ k. k.control) o) c.in-Some.ensures.value))

pub returns-in-None : goal.returns-in-None
returns-in-None c = λ program. nobody_awaits program c.args.shoens.now.shoens c.args.store.now.held c.args.shoen c.clear.new.self.items c.in-None.ensures.value c.clear.ensures.items

pub returns-in-Some : goal.returns-in-Some
returns-in-Some c =
    on_ok_weaker c.await_message.result
    (λ awaits program. monitor_awaits program c.args.shoens.now.shoens c.args.store.now.held c.args.shoen c.in-Some.found.now c.await_message.new.awaited.items c.in-Some.ensures.value awaits) c.await_message.ensures
