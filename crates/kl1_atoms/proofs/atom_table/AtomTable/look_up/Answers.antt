use Rattle.kl1_atoms.proofs.Glancing.{found_ends}
use Rattle.kl1_atoms.proofs.atom_table.AtomTable.look_up.Goals as goal

pub returns-in-Found-clause-ends : goal.returns-in-Found-clause-ends
returns-in-Found-clause-ends c =
    found_ends c.args.seat.now.me c.seek.new.seat.me c.learn.new.seat.me c.args.text.now c.in-Found.bucket c.in-Found.found c.ended.result.number.number c.ended.result.more (rw c.in-Found.is at c.seek.ensures.tells) c.learn.ensures.tells
    c.requires.starts c.ended.ensures.number c.ended.ensures.more
