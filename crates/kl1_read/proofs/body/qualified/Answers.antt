use Rattle.std.proofs.Common.{codes}
use Rattle.kl1_model.specs.Term.{atom}
use Rattle.kl1_model.specs.Meaning.{pair}
use Rattle.kl1_read.proofs.body.qualified.Goals as goal

pub returns : goal.returns
returns c = c.of_nodes.ensures (pair (codes ":") (atom c.args.module_name) c.args.goal.now) c.in_ok-put_behind.ensures
