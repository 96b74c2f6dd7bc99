use Rattle.std.proofs.Common.{refl}
use Rattle.kl1_atoms.proofs.Seating.{part_from}
use Rattle.kl1_atoms.proofs.atom_table.AtomTable.next_seat.Goals as goal

pub resting_seat-requires : goal.resting_seat-requires
resting_seat-requires c = (
  c.args.self.now.entries,
  c.args.self.now.room,
  c.requires.range,
  rw (c.replace-own.ensures.value, c.part-others.ensures.own, c.requires.left, (part_from c.args.self.now.entries c.args.self.now.room c.args.from c.args.self.now.accounts c.args.account c.requires.within).0) refl,
)

pub returns-clause-left : goal.returns-clause-left
returns-clause-left c =
    rw (c.replace-own.ensures.after, c.part-others.ensures.other, c.requires.left, (part_from c.args.self.now.entries c.args.self.now.room c.args.from c.args.self.now.accounts c.args.account c.requires.within).1) refl
