use Rattle.std.proofs.Common.{ℕ, ◌<◌, sym, subst, arith}
use mathlib.Core.Option.{none}
use Rattle.atomic_table.specs.Table.{step, Allows}
use Rattle.kl1_atoms.specs.Rule.{Kept, word_place}
use Rattle.kl1_atoms.specs.Plays.{ReadsAt}
use Rattle.kl1_atoms.proofs.Playing.{allows_read}
use Rattle.kl1_atoms.proofs.atom_table.AtomTable.read.Goals as goal

pub load-requires : goal.load-requires
load-requires c =
    let i : ℕ = word_place c.args.self.now.entries c.args.entry c.args.word in
    let place : i < c.args.self.now.table.shared.table_id.words = (let s = c.args.self.now.size in omega arith) in
    let z = c.args.self.now.table.shared.table_id.slots in
    let me = c.args.seat.now.me in (
      c.requires.of,
      place,
      subst (λ k. Allows (Kept k) z c.args.seat.now.id me i (λ m. m) (ReadsAt (step z i 0 0 none) me)) (sym c.args.self.now.key)
          (allows_read c.args.self.now.entries z c.args.seat.now.id i me.0 me.1 c.requires.first),
    )
