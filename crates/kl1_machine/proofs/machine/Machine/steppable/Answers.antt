use Rattle.kl1_machine.proofs.Words.{false, sym, ◌∙◌, not-true}
use Rattle.kl1_machine.proofs.Planned.{state_in, steps_syntax, steps_nowhere, steps_by}
use Rattle.kl1_machine.proofs.machine.Machine.steppable.Goals as goal

pub returns-then-not-are_numbers-clause-refused : goal.returns-then-not-are_numbers-clause-refused
returns-then-not-are_numbers-clause-refused c program full all f fits s is room = steps_syntax (state_in f s c.args.self.now) c.args.number c.args.clause (sym c.are_numbers.ensures ∙ c.if-not-are_numbers.true)

pub returns-in_default-clause-refused : goal.returns-in_default-clause-refused
returns-in_default-clause-refused c program full all f fits s is room =
    steps_nowhere f s c.args.self.now c.args.number c.args.clause (sym c.are_numbers.ensures ∙ c.if-not-are_numbers.false) (sym c.get.ensures.goal ∙ c.in_default.is)

pub returns-then-not-goal-clause-refused : goal.returns-then-not-goal-clause-refused
returns-then-not-goal-clause-refused c program full all f fits s is room =
    steps_by f s c.args.self.now c.args.number c.args.clause c.in-Some.goal false (sym c.are_numbers.ensures ∙ c.if-not-are_numbers.false) (sym c.get.ensures.goal ∙ c.in-Some.is) (not-true c.in-Some.goal.is_enabled c.if-not-goal.true) all
