use Rattle.std.proofs.Common.{◌≡◌, ◌<◌, [], ◌∷◌, length, sym, ap, ◌∙◌, subst, rules, arith, length-append}
use Rattle.std.specs.Prelude.{All, IfSome}
use Rattle.std.proofs.lemmas.List.Elements.{All-push, All-pop}
use Rattle.crossbeam_queue.specs.Passes.{view}
use Rattle.kl1_pool_tickets.specs.Counts.{new_counts}
use Rattle.kl1_tally.specs.Seats.{Share, new_share}
use Rattle.kl1_pool_tickets.proofs.Moves.{forks}
use Rattle.kl1_pool_tickets.proofs.parts.shares_of.Goals as goal

pub another-pass-requires-clause-rule : goal.another-pass-requires-clause-rule
another-pass-requires-clause-rule g c =
    let more : 1 < (view c.loop-seat.rest).parts = (let p = c.loop-seat.invariant.parts in let n = c.loop-seat.invariant.count in let s = c.args.seats.small in let o = c.args.seats.ok in omega (arith, p, n, s, o)) in
    forks c.loop-seat.rest.id (view c.loop-seat.rest) more

pub share_of-requires-clause-seat : goal.share_of-requires-clause-seat
share_of-requires-clause-seat g c =
    let new = λ (seat : Share). seat ≡ new_share g.K.TicketIds.tally in
    subst (λ r. IfSome r new) c.in-Some.is (All-pop new c.loop-seat.seats.items c.pop.new.self.items c.pop.result c.pop.ensures.items c.loop-seat.invariant.at_zero).1

pub loop-seat-preserved : goal.loop-seat-preserved
loop-seat-preserved g c =
    let more : 1 < (view c.loop-seat.rest).parts = (let p = c.loop-seat.invariant.parts in let n = c.loop-seat.invariant.count in let s = c.args.seats.small in let o = c.args.seats.ok in omega (arith, p, n, s, o)) in
    let is = c.another-pass.ensures.rule.0 in
    record {
      of = search rules;
      free = search rules;
      parts =
          (let p = c.loop-seat.invariant.parts in
          let q = ap (λ (v : _). v.parts) is in
          let n = ap length c.push_reserved.ensures.items in
          let m = length-append c.loop-seat.shares.items (c.share_of.result ∷ []) in
          omega (arith, p, q, n, m, more));
      put = ap (λ (v : _). v.put) is ∙ c.loop-seat.invariant.put;
      taken = ap (λ (v : _). v.taken) is ∙ c.loop-seat.invariant.taken;
      at_zero = (All-pop (λ (seat : Share). seat ≡ new_share g.K.TicketIds.tally) c.loop-seat.seats.items c.pop.new.self.items c.pop.result c.pop.ensures.items c.loop-seat.invariant.at_zero).0;
      made = subst (All (λ share. share ≡ new_counts)) (sym c.push_reserved.ensures.items) (All-push (λ share. share ≡ new_counts) c.loop-seat.shares.items c.share_of.result c.loop-seat.invariant.made c.share_of.ensures);
      count = search rules;
      room = search rules;
    }
