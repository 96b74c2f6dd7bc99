use Rattle.std.proofs.Common.{◌≡◌, ◌<◌, ◌≤◌, length}
use Rattle.kl1_model.specs.declared.limits.TheConstants.{MOST_WAITING_BYTES}
use Rattle.kl1_lines.specs.Replies.{Written}
use Rattle.kl1_lines.proofs.Underway.{Underway}
use Rattle.kl1_lines.proofs.answering.answer_all.Given as goal

-- some records are done, no write failed, and not too many bytes wait
abbrev pub invariant-records : goal.invariant-records
invariant-records g l = record {
  underway : (w : Written) → g.T.Replies.writes l.fn.replies w → Underway (g.T.Replies.writes l.replies) (g.W.Sink.contents l.fn.sink) (g.W.Sink.contents l.sink) w l.out.items (g.T.Replies.left l.fn.replies) (g.T.Replies.left l.replies);
  can : g.T.Replies.can_put l.replies;
  few : length l.out.items < MOST_WAITING_BYTES;
  kept : g.W.Sink.failures l.sink ≡ g.W.Sink.failures l.fn.sink;
  left : g.T.Replies.left l.replies ≤ g.T.Replies.left l.fn.replies;
}

abbrev pub decreases-records : goal.decreases-records
decreases-records g l = g.T.Replies.left l.replies
