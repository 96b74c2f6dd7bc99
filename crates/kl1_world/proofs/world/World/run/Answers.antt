use Rattle.std.proofs.Common.{◌∙◌, ap, ◌+◌}
use Rattle.kl1_user_events.specs.Views.{event_of}
use Rattle.kl1_world.proofs.Runs.{run_next, as_many_after, one_reply_more}
use Rattle.kl1_world.proofs.world.World.run.Goals as goal

pub loop-done-preserved : goal.loop-done-preserved
loop-done-preserved g c =
    let x = c.index-events-done.result in
    record {
      run = run_next c.args.self.now.0 c.loop-done.self.0 c.answer.new.self.0 c.args.events.now c.loop-done.done x c.loop-done.replies.items c.answer.new.replies.items c.loop-done-test.true c.index-events-done.is c.loop-done.invariant.run c.loop-done.invariant.many c.loop-done.invariant.count c.in-Ok.ensures.ok;
      many = as_many_after c.loop-done.self.0 c.answer.new.self.0 x.0 (event_of x.1) c.loop-done.replies.items c.answer.new.replies.items c.in-Ok.ensures.ok ∙ c.loop-done.invariant.many;
      count = one_reply_more c.loop-done.self.0 c.answer.new.self.0 x.0 (event_of x.1) c.loop-done.replies.items c.answer.new.replies.items c.in-Ok.ensures.ok ∙ ap (λ n. n + 1) c.loop-done.invariant.count;
    }
