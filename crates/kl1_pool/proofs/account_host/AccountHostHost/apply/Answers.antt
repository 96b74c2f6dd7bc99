use Rattle.std.proofs.Common.{◌≡◌, ◌-◌, ◌<◌, ◌≤◌, ◌^◌, ap, arith}
use Rattle.kl1_user_events.specs.Views.{event_of, reply_of}
use Rattle.kl1_journal.specs.Keeping.{kept_of}
use Rattle.kl1_command.proofs.Rooms.{done_by_room}
use Rattle.kl1_pool.specs.Counted.{room_in}
use Rattle.kl1_pool.specs.PoolAccounts.{PoolAccountValue}
use Rattle.kl1_pool.proofs.account_host.AccountHostHost.apply.Goals as goal

pub returns-in-Ok-clause-step : goal.returns-in-Ok-clause-step
returns-in-Ok-clause-step g c = λ f fits.
    let b = c.args.self.now.account.now.book in
    done_by_room (room_in b) (kept_of f c.args.self.now.account.now.held) (kept_of f c.apply.new.self.held) (event_of c.args.event.now) (reply_of c.in-Ok.reply)
    (λ none entry.
    let left : 2 ^ 63 - b.events ≡ 0 = none in
    let full : 2 ^ 63 ≤ b.events = omega (arith, left) in
    let h = c.in-Ok.ensures.full entry full in
    (h.1, ap (λ (x : PoolAccountValue). kept_of f x.held) h.2))
    (λ room. c.in-Ok.ensures.step (λ entry. let some : 0 < 2 ^ 63 - b.events = room entry in let few : b.events < 2 ^ 63 = omega (arith, some) in few) f fits)
