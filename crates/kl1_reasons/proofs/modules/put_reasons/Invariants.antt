use Rattle.kl1_reasons.proofs.Explaining.{AreSoFar}
use Rattle.kl1_reasons.proofs.modules.put_reasons.Given as goal

-- the reasons so far are those of the whole together with those for what is left
abbrev pub invariant-loop-left : goal.invariant-loop-left
invariant-loop-left l = AreSoFar l.most l.text l.left l.front l.reasons.items

abbrev pub decreases-loop-left : goal.decreases-loop-left
decreases-loop-left l = l.left
