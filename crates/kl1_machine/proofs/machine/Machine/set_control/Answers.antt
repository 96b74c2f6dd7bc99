use Rattle.kl1_machine.proofs.Words.{on_ok_weaker, CellName, Shoen, changed, shoens_changed, changed_count}
use Rattle.kl1_machine.proofs.Shoens.{becomes_so, since_either, since_told}
use Rattle.kl1_machine.proofs.machine.Machine.set_control.Goals as goal

pub returns-clause-ok : goal.returns-clause-ok
returns-clause-ok c =
    let m = c.args.self.now in
    let f : Shoen CellName → Shoen CellName = λ h. record h { control = c.args.control } in
    becomes_so c.set_control.result m c.set_control.new.self (changed c.args.number f m.shoens.shoens) m.shifts c.push.new.self
    (shoens_changed m.store.held c.args.number f (λ s i. record { control = c.requires.inside; tail = i.tail; origin = i.origin; low = i.low; high = i.high }) m.shoens.shoens c.requires.machine.inside.shoens) (changed_count c.args.number f m.shoens.shoens) c.requires.machine c.set_control.ensures.ok

pub returns-clause-told : goal.returns-clause-told
returns-clause-told c = on_ok_weaker c.set_control.result (λ e. c.in_ok-push.ensures.items) c.set_control.ensures.ok

pub returns-clause-since : goal.returns-clause-since
returns-clause-since c b =
    let m = c.args.self.now in
    let e = c.len-numbered.ensures in
    let f : Shoen CellName → Shoen CellName = λ h. record h { control = c.args.control } in
    since_either c.set_control.result b m c.set_control.new.self (changed c.args.number f m.shoens.shoens) m.shifts c.push.new.self c.set_control.ensures.ok c.set_control.ensures.err
    (since_told b m c.push.new.self c.args.monitor c.args.number c.args.control (record { numbered = e.numbered; lower = e.lower; worked = e.worked }) c.requires.machine c.requires.monitor c.in_ok-push.ensures.items)
