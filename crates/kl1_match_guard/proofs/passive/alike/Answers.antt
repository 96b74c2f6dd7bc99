use Rattle.std.proofs.Common.{[]}
use Rattle.std.specs.Prelude.{Some}
use Rattle.std.proofs.lemmas.List.Elements.{All-pop, All-push, All-same}
use Rattle.kl1_match_guard.specs.Alike.{IsFrameOf}
use Rattle.kl1_match_guard.proofs.Sides.{begun, gone_on, clashed, ended, work_ended, work_less, refused, accepted, frame_onward, pushed_onward}
use Rattle.kl1_match_guard.proofs.passive.alike.Goals as goal

pub loop-frame-init : goal.loop-frame-init
loop-frame-init g c =
    let view = c.args.view.now in
    record {
      frames = c.in_ok-take_up.ensures.frames;
      waits = c.in_ok-take_up.ensures.waits;
      rest = c.in_ok-take_up.ensures.rest;
      value = λ f reads.
          begun (g.T.View.number view) (g.T.View.arguments f view) (g.T.View.term f view) (record { left = c.args.left; right = c.args.right }) c.clear.new.self.items c.take_up.new.frames.items c.clear-2.new.self.items c.take_up.new.waits.items c.clear-3.new.self.items c.take_up.new.rest.items
          c.clear.ensures.items c.clear-2.ensures.items c.clear-3.ensures.items
          (accepted g.N.NameValue.built (g.T.View.number view) (λ f s. g.T.View.arguments f view s) (λ f x. g.T.View.term f view x) (record { left = c.args.left; right = c.args.right }) c.clear.new.self.items c.clear-2.new.self.items c.clear-3.new.self.items c.take_up.new.frames.items c.take_up.new.waits.items c.take_up.new.rest.items
          c.in_ok-take_up.field-0 c.if-not-branch.false c.in_ok-take_up.ensures.value f reads);
    }

pub loop-frame-smaller-then-frame : goal.loop-frame-smaller-then-frame
loop-frame-smaller-then-frame g c = work_ended (g.T.View.arguments (λ n. []) c.args.view.now) c.loop-frame.frames.items c.pop.new.self.items c.in-Some.frame c.in-Some.ensures.items

pub loop-frame-preserved-then-frame : goal.loop-frame-preserved-then-frame
loop-frame-preserved-then-frame g c =
    let view = c.args.view.now in
    let i = c.loop-frame.invariant in
    let popped = All-pop (IsFrameOf (g.T.View.IsThere view) (g.T.View.count view) (λ f s. g.T.View.arguments f view s)) c.loop-frame.frames.items c.pop.new.self.items (Some c.in-Some.frame) c.in-Some.ensures.items i.frames in
    record {
      frames = popped.0;
      waits = i.waits;
      rest = i.rest;
      value = λ f reads.
          ended (g.T.View.number view) (g.T.View.arguments f view) (g.T.View.term f view) (g.T.View.term f view c.args.left) (g.T.View.term f view c.args.right) c.in-Some.frame c.loop-frame.frames.items c.pop.new.self.items c.loop-frame.waits.items c.loop-frame.rest.items
          c.in-Some.ensures.items (popped.1.counted f) c.if-frame.true (i.value f reads);
    }

pub take_up-requires-in-Some-clause-frames : goal.take_up-requires-in-Some-clause-frames
take_up-requires-in-Some-clause-frames g c =
    let view = c.args.view.now in
    let IsThere = g.T.View.IsThere view in
    let count = g.T.View.count view in
    let IsFrame = IsFrameOf IsThere count (λ f s. g.T.View.arguments f view s) in
    let popped = All-pop IsFrame c.loop-frame.frames.items c.pop.new.self.items (Some c.in-Some.frame) c.in-Some.ensures.items c.loop-frame.invariant.frames in
    All-same IsFrame c.push_reserved.new.self.items _ c.push_reserved.ensures.items (All-push IsFrame c.pop.new.self.items c.onward.result popped.0 (frame_onward IsThere count (λ f s. g.T.View.arguments f view s) c.in-Some.frame c.onward.result c.onward.ensures popped.1))

pub returns-then-not-branch-2-clause-value : goal.returns-then-not-branch-2-clause-value
returns-then-not-branch-2-clause-value g c = λ f reads.
    let view = c.args.view.now in
    clashed (g.T.View.number view) (g.T.View.arguments f view) (g.T.View.term f view) (g.T.View.term f view c.args.left) (g.T.View.term f view c.args.right) c.in-Some.frame (record { left = c.argument.result; right = c.argument-in-Some.result }) c.loop-frame.frames.items c.pop.new.self.items c.push_reserved.new.self.items c.loop-frame.waits.items c.loop-frame.rest.items
    c.in-Some.ensures.items (pushed_onward c.pop.new.self.items c.push_reserved.new.self.items c.in-Some.frame c.onward.result c.push_reserved.ensures.items c.onward.ensures) (c.argument.ensures.means f) (c.argument-in-Some.ensures.means f) (c.loop-frame.invariant.value f reads)
    (refused g.N.NameValue.built (g.T.View.number view) (λ f s. g.T.View.arguments f view s) (λ f x. g.T.View.term f view x) (record { left = c.argument.result; right = c.argument-in-Some.result }) c.push_reserved.new.self.items c.loop-frame.waits.items c.loop-frame.rest.items c.take_up-in-Some.new.frames.items c.take_up-in-Some.new.waits.items c.take_up-in-Some.new.rest.items
    c.in_ok-take_up-2.field-0 c.if-not-branch-2.true c.in_ok-take_up-2.ensures.value f reads)

pub loop-frame-smaller : goal.loop-frame-smaller
loop-frame-smaller g c =
    let view = c.args.view.now in
    work_less (g.T.View.arguments (λ n. []) view) c.loop-frame.frames.items c.pop.new.self.items c.push_reserved.new.self.items c.take_up-in-Some.new.frames.items c.in-Some.frame (g.T.View.term (λ n. []) view c.argument.result) (g.T.View.term (λ n. []) view c.argument-in-Some.result)
    c.in-Some.ensures.items (pushed_onward c.pop.new.self.items c.push_reserved.new.self.items c.in-Some.frame c.onward.result c.push_reserved.ensures.items c.onward.ensures) (c.argument.ensures.means (λ n. [])) (c.argument-in-Some.ensures.means (λ n. [])) (c.in_ok-take_up-2.ensures.less (λ n. []))

pub loop-frame-preserved : goal.loop-frame-preserved
loop-frame-preserved g c =
    let view = c.args.view.now in
    record {
      frames = c.in_ok-take_up-2.ensures.frames;
      waits = c.in_ok-take_up-2.ensures.waits;
      rest = c.in_ok-take_up-2.ensures.rest;
      value = λ f reads.
          gone_on (g.T.View.number view) (g.T.View.arguments f view) (g.T.View.term f view) (g.T.View.term f view c.args.left) (g.T.View.term f view c.args.right) c.in-Some.frame (record { left = c.argument.result; right = c.argument-in-Some.result }) c.loop-frame.frames.items c.pop.new.self.items c.push_reserved.new.self.items c.take_up-in-Some.new.frames.items c.loop-frame.waits.items c.take_up-in-Some.new.waits.items c.loop-frame.rest.items c.take_up-in-Some.new.rest.items
          c.in-Some.ensures.items (pushed_onward c.pop.new.self.items c.push_reserved.new.self.items c.in-Some.frame c.onward.result c.push_reserved.ensures.items c.onward.ensures) (c.argument.ensures.means f) (c.argument-in-Some.ensures.means f) (c.loop-frame.invariant.value f reads)
          (accepted g.N.NameValue.built (g.T.View.number view) (λ f s. g.T.View.arguments f view s) (λ f x. g.T.View.term f view x) (record { left = c.argument.result; right = c.argument-in-Some.result }) c.push_reserved.new.self.items c.loop-frame.waits.items c.loop-frame.rest.items c.take_up-in-Some.new.frames.items c.take_up-in-Some.new.waits.items c.take_up-in-Some.new.rest.items
          c.in_ok-take_up-2.field-0 c.if-not-branch-2.false c.in_ok-take_up-2.ensures.value f reads);
    }
