-- the monitors of the shoens so far were told
use Rattle.kl1_machine.proofs.Emptying.{HasTold}
use Rattle.kl1_machine.proofs.machine.Machine.tell_monitors.Given as goal

abbrev pub invariant-loop-shoen : goal.invariant-loop-shoen
invariant-loop-shoen l = HasTold l.shoens l.shoen-index l.initial.self l.self
