use Rattle.std.proofs.Common.{◌/◌, ◌*◌, ap, ◌∙◌, arith}
use Rattle.kl1_atoms.specs.Way.{mixed, start}
use Rattle.kl1_atoms.proofs.Buckets.{below_part}
use Rattle.kl1_atoms.proofs.atom_table.AtomTable.first_bucket.Goals as goal

pub returns-clause-value : goal.returns-clause-value
unfolding start
returns-clause-value c = ap (λ m. m / 4294967296 * (2 * c.args.self.now.entries) / 4294967296) (c.mixed.ensures.value ∙ ap (mixed 0) c.words.ensures.value)

pub returns-clause-within : goal.returns-clause-within
returns-clause-within c =
    below_part (c.mixed.result / 4294967296) (2 * c.args.self.now.entries) (let f = c.mixed.ensures.below in omega arith) (let s = c.args.self.now.some in omega arith)
