use Rattle.std.proofs.Common.{◌≡◌, List, length, arith, [], ◌∷◌, ◌++◌, refl, sym, ap, ◌∙◌, subst, rules}
use Rattle.std.specs.Prelude.{All}
use Rattle.std.proofs.lemmas.List.Elements.{All-push}
use Rattle.crossbeam_queue.specs.Passes.{view}
use Rattle.kl1_pool_tickets.specs.Counts.{Counts}
use Rattle.kl1_pool_tickets.specs.Totals.{TookIn}
use Rattle.kl1_pool_tickets.proofs.Moves.{merges}
use Rattle.kl1_pool_tickets.proofs.Apart.{took_share}
use Rattle.kl1_pool_tickets.proofs.Zeros.{took_none}
use Rattle.kl1_pool_tickets.proofs.gathering.take_in.Goals as goal

pub loop-share-init : goal.loop-share-init
loop-share-init g c = record {
  of = c.requires.of.0;
  free = c.requires.of.1;
  seats_of = subst (All (λ seat. seat.tally ≡ g.K.TicketIds.tally)) (sym c.requires.none) (search rules);
  room = (let n = ap (λ (ss : List _). length ss) c.requires.none in let r = c.requires.room in let o = c.args.shares.ok in omega (arith, n, r, o));
  some = c.requires.rest.0;
  took = took_none c.args.shares.items c.args.seats.now.items (view c.args.joint.now) c.requires.none c.requires.rest.1 c.requires.rest.2;
}

pub absorb-requires-clause-rule : goal.absorb-requires-clause-rule
absorb-requires-clause-rule g c = merges c.loop-share.joint.id (view c.loop-share.joint) c.share.inside.pass.id (view c.share.inside.pass) c.loop-share.invariant.some

pub loop-share-preserved : goal.loop-share-preserved
loop-share-preserved g c =
    let i = c.share.inside in
    let counts : Counts = record { events = i.seat.events; steps = i.seat.steps; puts = i.puts; takes = i.takes } in
    let left = c.pop.new.self.items in
    record {
      of = search rules;
      free = search rules;
      seats_of = subst (All (λ seat. seat.tally ≡ g.K.TicketIds.tally)) (sym c.push_reserved.ensures.items) (All-push (λ seat. seat.tally ≡ g.K.TicketIds.tally) c.loop-share.seats.items i.seat c.loop-share.invariant.seats_of c.share.invariant.0);
      room = search rules;
      some = search rules;
      took = subst (λ l. TookIn c.args.shares.items left l (view c.args.joint.now) (view c.absorb.new.pass) c.add.new.sums c.add-in-Some.new.sums) (sym c.push_reserved.ensures.items)
          (took_share c.args.shares.items left c.loop-share.seats.items (view c.args.joint.now) (view c.loop-share.joint) (view i.pass) (view c.absorb.new.pass) c.loop-share.sums.puts c.loop-share.sums.takes
          c.add.new.sums c.add-in-Some.new.sums counts i.seat
          (subst (λ l. TookIn c.args.shares.items l c.loop-share.seats.items (view c.args.joint.now) (view c.loop-share.joint) c.loop-share.sums.puts c.loop-share.sums.takes)
          (c.in-Some.ensures.items ∙ ap (λ b. left ++ b ∷ []) (sym c.share.view_is)) c.loop-share.invariant.took)
          c.share.invariant.4 c.share.invariant.3 c.absorb.ensures.rule c.add.ensures c.add-in-Some.ensures refl refl);
    }
