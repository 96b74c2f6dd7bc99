use Rattle.std.proofs.Common.{◌≡◌, ◌+◌, ◌∙◌, refl, sym, arith, length, ap}
use Rattle.kl1_lines.specs.Replies.{PutsFirst, Written, all_of}
use Rattle.kl1_lines.proofs.Underway.{starts, one_put, one_passed, breaks, stops, stops_there, ends_here, never_refused}
use Rattle.kl1_lines.proofs.answering.answer_all.Goals as goal

pub records-init : goal.records-init
records-init g c = record {
  underway = λ w is. starts (g.T.Replies.writes c.args.replies.now) (g.W.Sink.contents c.args.sink.now) w c.new-out.result.items (g.T.Replies.left c.args.replies.now) c.new-out.ensures.items is;
  can = c.requires;
  few = omega (arith, ap length c.new-out.ensures.items);
  kept = refl;
  left = omega arith;
}

pub records-preserved : goal.records-preserved
records-preserved g c =
    let puts : (w : Written) → g.T.Replies.writes c.records.replies w → PutsFirst (g.T.Replies.writes c.put_next.new.self) w c.records.out.items c.put_next.new.out.items = rw c.in-Ok-Put.field-0-is at c.in-Ok-Put.ensures.puts in
    let one : g.T.Replies.left c.records.replies ≡ g.T.Replies.left c.put_next.new.self + 1 = rw c.in-Ok-Put.field-0-is at c.in-Ok-Put.ensures.one in
    let left = g.T.Replies.left c.args.replies.now in
    record {
      underway = λ w is.
          let put = one_put (g.T.Replies.writes c.records.replies) (g.T.Replies.writes c.put_next.new.self) (g.W.Sink.contents c.args.sink.now) (g.W.Sink.contents c.records.sink) w c.records.out.items c.put_next.new.out.items left (g.T.Replies.left c.records.replies) (g.T.Replies.left c.put_next.new.self) (c.records.invariant.underway w is) puts one in
          one_passed (g.T.Replies.writes c.put_next.new.self) (g.W.Sink.contents c.args.sink.now) (g.W.Sink.contents c.records.sink) (g.W.Sink.contents c.pass_on.new.sink) w c.put_next.new.out.items c.pass_on.new.bytes.items left (g.T.Replies.left c.put_next.new.self) put c.in-Ok.ensures.ok;
      can = c.in-Ok-Put.ensures.still;
      few = c.in-Ok.ensures.few;
      kept = c.in-Ok.ensures.kept ∙ c.records.invariant.kept;
      left = omega (arith, one, c.records.invariant.left);
    }

pub returns-in-Err-pass_on-clause-ends : goal.returns-in-Err-pass_on-clause-ends
returns-in-Err-pass_on-clause-ends g c = λ w is.
    let puts : (v : Written) → g.T.Replies.writes c.records.replies v → PutsFirst (g.T.Replies.writes c.put_next.new.self) v c.records.out.items c.put_next.new.out.items = rw c.in-Ok-Put.field-0-is at c.in-Ok-Put.ensures.puts in
    let one : g.T.Replies.left c.records.replies ≡ g.T.Replies.left c.put_next.new.self + 1 = rw c.in-Ok-Put.field-0-is at c.in-Ok-Put.ensures.one in
    let left = g.T.Replies.left c.args.replies.now in
    let put = one_put (g.T.Replies.writes c.records.replies) (g.T.Replies.writes c.put_next.new.self) (g.W.Sink.contents c.args.sink.now) (g.W.Sink.contents c.records.sink) w c.records.out.items c.put_next.new.out.items left (g.T.Replies.left c.records.replies) (g.T.Replies.left c.put_next.new.self) (c.records.invariant.underway w is) puts one in
    breaks (Unit {0}) (g.T.Replies.writes c.put_next.new.self) (g.W.Sink.contents c.args.sink.now) (g.W.Sink.contents c.records.sink) (g.W.Sink.contents c.pass_on.new.sink) (g.W.Sink.failures c.args.sink.now) (g.W.Sink.failures c.records.sink) (g.W.Sink.failures c.pass_on.new.sink) w c.put_next.new.out.items left (g.T.Replies.left c.put_next.new.self) put c.records.invariant.kept c.in-Err-pass_on.ensures.front c.in-Err-pass_on.ensures.failed

pub returns-in-Ok-Last-clause-ends : goal.returns-in-Ok-Last-clause-ends
returns-in-Ok-Last-clause-ends g c = λ w is.
    let puts : (c.put_next.new.out.items ≡ c.records.out.items) × ((v : Written) → g.T.Replies.writes c.records.replies v → all_of v ≡ c.in-Ok-Last.last) = rw c.in-Ok-Last.field-0-is at c.in-Ok-Last.ensures.puts in
    ends_here c.finish_with.result (g.T.Replies.writes c.records.replies) (g.W.Sink.contents c.args.sink.now) (g.W.Sink.contents c.records.sink) (g.W.Sink.contents c.finish_with.new.sink) (g.W.Sink.failures c.args.sink.now) (g.W.Sink.failures c.records.sink) (g.W.Sink.failures c.finish_with.new.sink) w c.records.out.items c.as_slice.result.now c.as_slice-in-Ok-Last.result.now (g.T.Replies.left c.args.replies.now) (g.T.Replies.left c.records.replies) (c.records.invariant.underway w is) c.records.invariant.kept (c.as_slice.ensures.value ∙ puts.0) (λ v h. puts.1 v h ∙ sym c.as_slice-in-Ok-Last.ensures) c.finish_with.ensures

pub returns-in-Ok-Last-clause-memory : goal.returns-in-Ok-Last-clause-memory
returns-in-Ok-Last-clause-memory g c = λ e.
    never_refused c.finish_with.result _ (g.W.Sink.contents c.records.sink) (g.W.Sink.contents c.finish_with.new.sink) (g.W.Sink.failures c.records.sink) (g.W.Sink.failures c.finish_with.new.sink) _ c.finish_with.ensures e

pub returns-in-Err-clause-ends : goal.returns-in-Err-clause-ends
returns-in-Err-clause-ends g c = λ w is.
    stops (Unit {0}) (g.T.Replies.writes c.records.replies) (g.W.Sink.contents c.args.sink.now) (g.W.Sink.contents c.records.sink) (g.W.Sink.contents c.stop.new.sink) (g.W.Sink.failures c.args.sink.now) (g.W.Sink.failures c.records.sink) (g.W.Sink.failures c.stop.new.sink) w c.records.out.items c.as_slice-in-Err.result.now (g.T.Replies.left c.args.replies.now) (g.T.Replies.left c.records.replies) c.stop.result (c.records.invariant.underway w is) c.records.invariant.kept (c.as_slice-in-Err.ensures.value ∙ c.in-Err.ensures.err) c.in-Err.ensures.some c.stop.ensures

pub returns-in-Err-clause-memory : goal.returns-in-Err-clause-memory
returns-in-Err-clause-memory g c = λ e w is.
    stops_there (Unit {0}) (g.T.Replies.writes c.records.replies) (g.W.Sink.contents c.args.sink.now) (g.W.Sink.contents c.records.sink) (g.W.Sink.contents c.stop.new.sink) (g.W.Sink.failures c.records.sink) (g.W.Sink.failures c.stop.new.sink) w c.records.out.items c.as_slice-in-Err.result.now (g.T.Replies.left c.args.replies.now) (g.T.Replies.left c.records.replies) (g.T.Replies.left c.put_next.new.self) c.stop.result (c.records.invariant.underway w is) (c.as_slice-in-Err.ensures.value ∙ c.in-Err.ensures.err) c.in-Err.ensures.none c.stop.ensures e
