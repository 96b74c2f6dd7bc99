use Rattle.std.proofs.Common.{[]}
use Rattle.std.specs.List.{All}
use Rattle.kl1_match_guard.specs.Alike.{work_left, IsFrameOf, IsPairOf, SidesLeftAs}
use Rattle.kl1_match_guard.proofs.passive.alike.Given as goal

-- what is on the way, what was found and what is kept as a whole is what is left of the two terms
abbrev pub invariant-loop-frame : goal.invariant-loop-frame
invariant-loop-frame g l = record {
  frames : All (IsFrameOf (g.T.View.IsThere l.view) (g.T.View.count l.view) (λ f s. g.T.View.arguments f l.view s)) l.frames.items;
  waits : All (g.T.View.IsFree l.view) l.waits.items;
  rest : All (IsPairOf (g.T.View.IsAt l.view) (g.T.View.IsShared l.view)) l.rest.items;
  value : SidesLeftAs g.N.NameValue.built (g.T.View.number l.view) (λ f s. g.T.View.arguments f l.view s) (λ f x. g.T.View.term f l.view x) l.fn.left l.fn.right l.frames.items l.waits.items l.rest.items;
}

abbrev pub decreases-loop-frame : goal.decreases-loop-frame
decreases-loop-frame g l = work_left (λ s. g.T.View.arguments (λ n. []) l.view s) l.frames.items
