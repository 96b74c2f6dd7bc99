use Rattle.std.proofs.Common.{length}
use Rattle.kl1_store.specs.Resting.{turns_of}
use Rattle.kl1_store.proofs.Resuming.{IsGoingOn}
use Rattle.kl1_store.proofs.resume.compare_left.Given as goal

-- what was found open and what is left to look at stand for what was left
abbrev pub invariant-loop-rest : goal.invariant-loop-rest
invariant-loop-rest g l = IsGoingOn g.N.NameValue.built l.cells.held (λ f. turns_of f l.cells.held l.fn.left) l.course.pairs.items l.rest l.waits.items

abbrev pub decreases-loop-rest : goal.decreases-loop-rest
decreases-loop-rest g l = length l.rest
