use Rattle.std.proofs.Common.{◌≡◌, [], ◌∷◌, ◌++◌, sym, ap, ◌∙◌, subst}
use Rattle.std.specs.Prelude.{All}
use Rattle.kl1_tally.specs.Seats.{Share}
use Rattle.kl1_tally.specs.Views.{joint_view}
use Rattle.kl1_tally.specs.Totals.{TookShares}
use Rattle.kl1_tally.specs.Keeping.{view_in}
use Rattle.kl1_tally.proofs.Adding.{took_share, took_none, all_front}
use Rattle.kl1_tally.proofs.tally.Tally.take_shares.Goals as goal

pub loop-share-init : goal.loop-share-init
loop-share-init c = record {
  of = c.requires.of;
  free = ap (λ m. m.1) c.requires.empty;
  shares_of = c.requires.shares_of;
  took = subst (TookShares c.args.shares.items c.args.shares.items) (sym (ap (λ m. m.0) c.requires.empty)) (took_none c.args.shares.items);
}

pub loop-share-preserved : goal.loop-share-preserved
loop-share-preserved c =
    let share : Share = record { tally = c.share.inside.badge.table_id; events = c.share.inside.amounts.events; steps = c.share.inside.amounts.steps } in
    let left = c.pop.new.self.items in
    let v = c.loop-share.joint.me.0 in
    let joint = ap (λ m. m.0) c.join.ensures.both ∙ ap (joint_view v) (sym (ap view_in c.into_seat.ensures.2)) in
    record {
      of = c.join.ensures.of;
      free = ap (λ m. m.1) c.join.ensures.both ∙ c.loop-share.invariant.free;
      shares_of = all_front (λ s. s.tally ≡ c.args.self.now.id) left (c.in-Some.share ∷ []) (subst (All (λ s. s.tally ≡ c.args.self.now.id)) c.in-Some.ensures.items c.loop-share.invariant.shares_of);
      took = took_share c.args.shares.items c.loop-share.shares.items left share v c.join.new.seat.me.0 c.share.inside.badge.views c.loop-share.invariant.took
          (c.in-Some.ensures.items ∙ ap (λ s. left ++ s ∷ []) (sym c.share.view_is)) c.share.invariant.2 c.share.invariant.0 c.share.invariant.1 joint;
    }
