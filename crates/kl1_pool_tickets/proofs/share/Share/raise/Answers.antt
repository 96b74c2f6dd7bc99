use Rattle.std.proofs.Common.{cond, length, sym, subst, ◌<◌, arith}
use Rattle.kl1_tally.specs.Seats.{Share}
use Rattle.kl1_pool_tickets.specs.Counts.{Counts, Moved}
use Rattle.kl1_pool_tickets.proofs.Counting.{raised_more, same_more}
use Rattle.kl1_pool_tickets.proofs.share.Share.raise.Goals as goal

pub returns-clause-share : goal.returns-clause-share
returns-clause-share g c =
    let i = c.self.inside in
    let k = c.args.book.now.account in
    let e : k < length i.seat.events = (let r = c.requires.within in let h = c.has_places.ensures.events in omega (arith, r, h)) in
    let s : k < length i.seat.steps = (let r = c.requires.within in let h = c.has_places.ensures.steps in omega (arith, r, h)) in
    let of : Share → Counts = λ x. record { events = x.events; steps = x.steps; puts = i.puts; takes = i.takes } in
    subst (λ was. Moved k 1 (cond c.args.step 1 0) 0 0 was (of c.raise.new.share)) c.self.view_is
    (subst (λ x. Moved k 1 (cond c.args.step 1 0) 0 0 (of i.seat) (of x)) (sym c.raise.ensures.share)
    (record { events = raised_more i.seat.events k 1 e; steps = raised_more i.seat.steps k (cond c.args.step 1 0) s; puts = same_more i.puts k; takes = same_more i.takes k }))
