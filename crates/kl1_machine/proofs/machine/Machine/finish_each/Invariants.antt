-- the terminations so far are done
use Rattle.kl1_machine.proofs.Words.{take, finished_each_late, Machine, Since, LateAs}
use Rattle.kl1_machine.proofs.machine.Machine.finish_each.Given as goal

abbrev pub invariant-loop-number : goal.invariant-loop-number
invariant-loop-number l = record {
  late : LateAs l.late (λ f. finished_each_late l.late (take l.number-index l.numbers)) l.initial.self l.self;
  since : (b : Machine) → Since b l.initial.self → Since b l.self;
}
