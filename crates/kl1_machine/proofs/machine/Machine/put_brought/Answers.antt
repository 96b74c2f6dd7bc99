use Rattle.kl1_machine.proofs.machine.Machine.put_brought.Goals as goal

pub start-requires-clause-can : goal.start-requires-clause-can
start-requires-clause-can c = rw c.in-Starts.is at c.requires.can

pub put_goal-requires-clause-can : goal.put_goal-requires-clause-can
put_goal-requires-clause-can c = rw c.in-Answers.is at c.requires.can

pub returns-in-Starts-clause-ok : goal.returns-in-Starts-clause-ok
returns-in-Starts-clause-ok c = rw c.in-Starts.is c.start.ensures.ok

pub returns-in-Answers-clause-ok : goal.returns-in-Answers-clause-ok
returns-in-Answers-clause-ok c = rw c.in-Answers.is c.put_goal.ensures.ok
