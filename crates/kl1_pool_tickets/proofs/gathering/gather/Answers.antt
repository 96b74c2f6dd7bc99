use Rattle.std.proofs.Common.{arith}
use Rattle.kl1_pool_tickets.proofs.gathering.gather.Goals as goal

pub drain-left-requires-clause-few : goal.drain-left-requires-clause-few
drain-left-requires-clause-few g c k b =
    let t = c.take_in.ensures.took in
    let p = t.put k b in
    let f = t.few_puts k b in
    let n = t.count in
    let s = c.args.shares.small in
    let o = c.args.shares.ok in
    omega (arith, p, f, n, s, o)

pub returns : goal.returns
returns g c =
    let t = c.take_in.ensures.took in
    let s = c.settle.ensures in
    record {
      events = λ k b. let e = t.events k in let f = s.events k b in omega (arith, e, f);
      steps = λ k b. let e = t.steps k in let f = s.steps k b in omega (arith, e, f);
      puts = λ k b. let e = t.puts_are k b in omega (arith, e);
      takes = λ k b. let e = t.takes_are k b in omega (arith, e);
      left = λ k b. let p = t.put k b in let q = t.taken k b in let d = c.drain-left.ensures k b in omega (arith, p, q, d);
    }
