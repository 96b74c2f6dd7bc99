use Rattle.kl1_machine.proofs.Words.{nobody_lets}
use Rattle.kl1_machine.proofs.machine.Machine.reschedule_anew.Goals as goal

pub reschedule-requires-clause-lets : goal.reschedule-requires-clause-lets
reschedule-requires-clause-lets g c e = nobody_lets c.args.self.now.shoens.shoens c.args.self.now.shoens.work
