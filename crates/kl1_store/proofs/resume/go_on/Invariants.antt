use Rattle.std.proofs.Common.{◌++◌, []}
use Rattle.kl1_store.specs.Waiting.{waiting}
use Rattle.kl1_store.specs.Resting.{turns_of}
use Rattle.kl1_store.proofs.Advancing.{work}
use Rattle.kl1_store.proofs.Resuming.{IsUnderWay}
use Rattle.kl1_store.proofs.resume.go_on.Given as goal

-- what is left and what waits stand for what was left and what waited
abbrev pub invariant-loop-frame : goal.invariant-loop-frame
invariant-loop-frame g l = IsUnderWay g.N.NameValue.built l.cells.held (λ f. turns_of f l.cells.held l.fn.course.pairs.items ++ waiting f l.cells.held [] l.fn.frames.items) l.course.pairs.items l.frames.items l.waits.items

abbrev pub decreases-loop-frame : goal.decreases-loop-frame
decreases-loop-frame g l = work l.cells.held l.frames.items
