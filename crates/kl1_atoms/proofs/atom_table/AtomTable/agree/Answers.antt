use Rattle.std.proofs.Common.{ap}
use Rattle.kl1_atoms.specs.Seats.{face_in}
use Rattle.kl1_atoms.proofs.Meeting.{one_number_by, joint_agreed}
use Rattle.kl1_atoms.proofs.atom_table.AtomTable.agree.Goals as goal

pub returns-in-Found-clause-one : goal.returns-in-Found-clause-one
returns-in-Found-clause-one c =
    one_number_by (face_in c.args.a.now.badge.views).knows (face_in c.args.b.now.badge.views).knows c.args.text
    (joint_agreed c.args.a.now.badge.views c.replace.result.views c.args.b.now.badge.views c.replace-2.result.views c.into_seat-joint.result.me.0 c.into_seat-other.result.me.0 c.join.new.seat.me.0
    (ap (λ b. b.views) c.replace.ensures.value) c.into_seat-joint.ensures.2 c.args.a.now.rests
    (ap (λ b. b.views) c.replace-2.ensures.value) c.into_seat-other.ensures.2 c.args.b.now.rests
    (ap (λ m. m.0) c.join.ensures.both) (rw c.in-Found.is at c.seek-sought.ensures.others))
