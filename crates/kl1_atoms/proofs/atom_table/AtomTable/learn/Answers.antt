use Rattle.std.proofs.Common.{◌<◌, sym, subst, arith}
use mathlib.Core.Option.{none}
use Rattle.atomic_table.specs.Table.{step, Allows}
use Rattle.kl1_atoms.specs.Rule.{Kept}
use Rattle.kl1_atoms.specs.Plays.{LearnsAt}
use Rattle.kl1_atoms.proofs.Playing.{allows_learn}
use Rattle.kl1_atoms.proofs.atom_table.AtomTable.learn.Goals as goal

pub load-requires : goal.load-requires
load-requires c =
    let place : c.args.bucket < c.args.self.now.table.shared.table_id.words = (let s = c.args.self.now.size in omega arith) in
    let z = c.args.self.now.table.shared.table_id.slots in
    let me = c.args.seat.now.me in (
      c.requires.of,
      place,
      subst (λ k. Allows (Kept k) z c.args.seat.now.id me c.args.bucket (λ m. m) (LearnsAt (step z c.args.bucket 0 0 none) me)) (sym c.args.self.now.key)
          (allows_learn c.args.self.now.entries z c.args.seat.now.id c.args.bucket me.0 me.1 c.requires.seen.0 c.requires.first c.requires.seen.1 c.requires.seen.2),
    )
