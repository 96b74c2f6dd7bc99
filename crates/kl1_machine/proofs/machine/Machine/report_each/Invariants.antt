-- the shoens so far have reported
use Rattle.kl1_machine.proofs.Words.{take, atom, text_of, report_each_late, Machine, Since, LateAs}
use Rattle.kl1_machine.proofs.machine.Machine.report_each.Given as goal

abbrev pub invariant-loop-number : goal.invariant-loop-number
invariant-loop-number l = record {
  late : LateAs l.late (λ f. report_each_late l.late (take l.number-index l.numbers) (atom (text_of l.name))) l.initial.self l.self;
  since : (b : Machine) → Since b l.initial.self → Since b l.self;
}
