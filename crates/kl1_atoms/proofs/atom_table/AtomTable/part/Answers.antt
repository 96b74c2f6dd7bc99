use Rattle.std.proofs.Common.{◌<◌, arith}
use Rattle.kl1_atoms.proofs.Seating.{splits}
use Rattle.kl1_atoms.proofs.atom_table.AtomTable.part.Goals as goal

pub split_seat-requires : goal.split_seat-requires
split_seat-requires c =
    let words : 0 < c.args.self.now.table.shared.table_id.words = (let s = c.args.self.now.size in let z = c.args.self.now.some in omega arith) in
    (c.requires.of, words, splits c.args.self.now.table.shared.key.entries c.args.seat.now.id c.args.seat.now.me.0)
