use Rattle.kl1_machine.proofs.Words.{◌≡◌, length, ap, ◌∙◌, arith, list_any, is_monitor_of, on_ok_weaker, Machine}
use Rattle.kl1_machine.proofs.Opening.{one_more, no_monitor, joined}
use Rattle.kl1_machine.proofs.PlainStays.{joined_plain}
use Rattle.kl1_machine.proofs.machine.Machine.join.Goals as goal

pub put-requires-clause-shoen : goal.put-requires-clause-shoen
put-requires-clause-shoen c =
    let number = c.requires.number in
    let count = one_more c.args.shoen _ c.args.self.now c.open.new.self c.in_ok-open.ensures.ok in
    record { low = omega (arith, number); high = omega (arith, number, count) }

pub put-requires-clause-monitor : goal.put-requires-clause-monitor
put-requires-clause-monitor c = λ e.
    let n = c.args.shoen.number in
    let m = c.args.self.now in
    let number = c.requires.number in
    ap (λ (y : Machine). list_any (is_monitor_of n) y.goals.goals) c.in_ok-open.ensures.ok.is ∙ no_monitor (length m.shoens.shoens) n m.goals.goals (omega (arith, number)) c.requires.machine.inside.owned

pub put-requires-2-clause-task : goal.put-requires-2-clause-task
put-requires-2-clause-task c = rw (c.in_ok-put.ensures.ok.is, c.in_ok-open.ensures.ok.is) c.requires.goal

pub put-requires-2-clause-shoen : goal.put-requires-2-clause-shoen
put-requires-2-clause-shoen c =
    let number = c.requires.number in
    let count = one_more c.args.shoen _ c.args.self.now c.open.new.self c.in_ok-open.ensures.ok in
    let same : length c.put.new.self.shoens.shoens ≡ length c.open.new.self.shoens.shoens = ap (λ (y : Machine). length y.shoens.shoens) c.in_ok-put.ensures.ok.is in
    record { low = omega (arith, number); high = omega (arith, number, count, same) }

pub put-requires-2-clause-monitor : goal.put-requires-2-clause-monitor
put-requires-2-clause-monitor c = λ e. absurd (cc)

pub returns-clause-ok : goal.returns-clause-ok
returns-clause-ok c =
    on_ok_weaker c.put-2.result
    (λ put. joined c.args.shoen c.args.goal _ c.args.self.now c.open.new.self c.put.new.self c.put-2.new.self (record { number = c.requires.number; taken = c.in_ok-open.ensures.ok; monitor = c.in_ok-put.ensures.ok; goal = put }))
    c.put-2.ensures.ok

pub returns-clause-plain : goal.returns-clause-plain
returns-clause-plain c f g shoen cell p =
    on_ok_weaker c.put-2.result
    (λ put. joined_plain f g c.args.shoen c.args.goal _ c.args.self.now c.open.new.self c.put.new.self c.put-2.new.self (record { number = c.requires.number; taken = c.in_ok-open.ensures.ok; monitor = c.in_ok-put.ensures.ok; goal = put }) (shoen, cell) p)
    c.put-2.ensures.ok
