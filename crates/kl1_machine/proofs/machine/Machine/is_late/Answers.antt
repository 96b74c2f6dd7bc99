use Rattle.kl1_machine.proofs.Words.{refl}
use Rattle.kl1_machine.proofs.machine.Machine.is_late.Goals as goal

pub returns-in-None : goal.returns-in-None
returns-in-None c = λ f. rw c.in-None.is refl

pub returns-in-Some : goal.returns-in-Some
returns-in-Some c = λ f. rw c.in-Some.is (c.is_tail.ensures f)
