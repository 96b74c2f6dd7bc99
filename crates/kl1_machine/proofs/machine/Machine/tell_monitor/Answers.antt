use Rattle.kl1_machine.proofs.Words.{append-nil, sym, ap, ◌∙◌, None, Some}
use Rattle.std.specs.Prelude.{option_to_list}
use Rattle.kl1_machine.proofs.Emptying.{tells_one}
use Rattle.kl1_machine.proofs.machine.Machine.tell_monitor.Goals as goal

pub returns-in-None-clause-told : goal.returns-in-None-clause-told
returns-in-None-clause-told c =
    let m = c.args.self.now in
    tells_one c.args.shoen None m m.told (c.monitor.ensures ∙ ap option_to_list c.in-None.is) (sym (append-nil m.told.items))

pub returns-in_ok-push-in-Some-clause-told : goal.returns-in_ok-push-in-Some-clause-told
returns-in_ok-push-in-Some-clause-told c =
    let m = c.args.self.now in
    tells_one c.args.shoen (Some c.in-Some.monitor) m c.push.new.self (c.monitor.ensures ∙ ap option_to_list c.in-Some.is) c.in_ok-push-in-Some.ensures.items
