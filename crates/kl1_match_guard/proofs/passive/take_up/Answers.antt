use Rattle.std.proofs.Common.{arith}
use Rattle.std.proofs.lemmas.List.Elements.{All-push, All-same}
use Rattle.kl1_match_guard.specs.Alike.{IsFrameOf}
use Rattle.kl1_match_guard.proofs.Sides.{put_off, opened, opened_less, some_size}
use Rattle.kl1_match_guard.proofs.passive.take_up.Goals as goal

pub returns-then-is_shared-2-clause-value : goal.returns-then-is_shared-2-clause-value
returns-then-is_shared-2-clause-value g c = λ f reads.
    let view = c.args.view.now in
    put_off (g.T.View.number view) (g.T.View.arguments f view) (g.T.View.term f view) c.args.pair c.args.frames.now.items c.args.waits.now.items c.args.rest.now.items c.push.new.self.items c.in_ok-push.ensures.items

pub returns-in_ok-push-in-Open-clause-value : goal.returns-in_ok-push-in-Open-clause-value
returns-in_ok-push-in-Open-clause-value g c = λ f reads.
    let view = c.args.view.now in
    let pair = c.args.pair in
    let met = c.in-Open.ensures.means f (g.T.View.term f view pair.left) (g.T.View.term f view pair.right) reads (c.form_of-left.ensures.means f) (c.form_of-right.ensures.means f) in
    opened (g.T.View.number view) (g.T.View.arguments f view) (g.T.View.term f view) pair c.in-Open.left c.in-Open.right c.in-Open.count c.args.frames.now.items c.push-in-Open.new.self.items c.args.waits.now.items c.args.rest.now.items
    c.in_ok-push-in-Open.ensures.items met.0 met.1

pub returns-in_ok-push-in-Open-clause-frames : goal.returns-in_ok-push-in-Open-clause-frames
returns-in_ok-push-in-Open-clause-frames g c =
    let view = c.args.view.now in
    let inside = c.in-Open.ensures.inside in
    let IsFrame = IsFrameOf (g.T.View.IsThere view) (g.T.View.count view) (λ f s. g.T.View.arguments f view s) in
    All-same IsFrame c.push-in-Open.new.self.items _ c.in_ok-push-in-Open.ensures.items
    (All-push IsFrame c.args.frames.now.items (record { left = c.in-Open.left; right = c.in-Open.right; next = 0; count = c.in-Open.count }) c.requires.frames (record {
      left = inside.0;
      right = inside.1;
      left_count = inside.2;
      right_count = inside.3;
      counted = λ f. (c.in-Open.ensures.opens f (g.T.View.term f view c.args.pair.left) (c.form_of-left.ensures.means f)).0;
    }))

pub returns-in_ok-push-in-Open-clause-less : goal.returns-in_ok-push-in-Open-clause-less
returns-in_ok-push-in-Open-clause-less g c = λ f.
    let view = c.args.view.now in
    opened_less (g.T.View.arguments f view) (g.T.View.term f view c.args.pair.left) c.in-Open.left c.in-Open.right c.in-Open.count c.args.frames.now.items c.push-in-Open.new.self.items
    c.in_ok-push-in-Open.ensures.items (c.in-Open.ensures.opens f (g.T.View.term f view c.args.pair.left) (c.form_of-left.ensures.means f)).1

pub returns-then-is_shared-2-clause-less : goal.returns-then-is_shared-2-clause-less
returns-then-is_shared-2-clause-less g c = λ f. omega (arith, some_size (g.T.View.term f c.args.view.now c.args.pair.left))
