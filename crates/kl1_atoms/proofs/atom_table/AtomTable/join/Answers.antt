use Rattle.std.proofs.Common.{◌<◌, arith}
use Rattle.kl1_atoms.proofs.Joining.{joins}
use Rattle.kl1_atoms.proofs.atom_table.AtomTable.join.Goals as goal

pub join_seat-requires : goal.join_seat-requires
join_seat-requires c =
    let words : 0 < c.args.self.now.table.shared.table_id.words = (let s = c.args.self.now.size in let z = c.args.self.now.some in omega arith) in
    (c.requires.of, c.requires.other, c.requires.free, words, joins c.args.self.now.table.shared.key.entries c.args.seat.now.id c.args.other.id c.args.seat.now.me.0 c.args.other.me.0)
