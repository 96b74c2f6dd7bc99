use Rattle.std.proofs.Common.{◌≡◌, ◌+◌, ◌<◌, refl, sym, ap, ◌∙◌, arith}
use Rattle.crossbeam_queue.specs.Passes.{view}
use Rattle.kl1_pool_tickets.proofs.Moves.{takes, learns}
use Rattle.kl1_tally.specs.declared.amounts.TheConstants.{MOST_ACCOUNTS}
use Rattle.kl1_tally.specs.Numbers.{times}
use Rattle.kl1_pool_tickets.proofs.Apart.{has_room}
use Rattle.kl1_pool_tickets.proofs.Zeros.{zeros_at}
use Rattle.kl1_pool_tickets.proofs.gathering.drain.Goals as goal

pub loop-init : goal.loop-init
loop-init g c = record {
  of = c.requires.of.0;
  free = c.requires.of.1;
  all = c.requires.all;
  put = refl;
  size = refl;
  counted = λ k below.
      let taken = times k (view c.args.joint.now).taken in
      let none : taken ≡ taken + 0 = omega arith in
      none ∙ ap (λ x. taken + x) (sym (zeros_at MOST_ACCOUNTS k));
}

pub pop_as-requires-clause-rule : goal.pop_as-requires-clause-rule
pop_as-requires-clause-rule g c =
    let all = c.loop.invariant.all in
    let some : 0 < (view c.loop.joint).parts = omega (arith, all) in
    (takes c.loop.joint.id (view c.loop.joint) some, learns c.loop.joint.id (view c.loop.joint))

pub overflow_add-left : goal.overflow_add-left
overflow_add-left g c =
    let told = c.in-Some-pop_as.ensures.rule in
    let h = has_room (view c.loop.joint) (view c.pop_as.new.pass) (view c.args.joint.now) c.in-Some-pop_as.account _ told.0 c.loop.invariant.all told.2 c.loop.invariant.put (c.requires.few _ told.1) (c.loop.invariant.counted _ told.1) in
    omega (arith, h)
