use Rattle.std.proofs.Common.{◌≤◌, sym, subst, ◌∙◌}
use Rattle.std.proofs.lemmas.Bool.{leb-true}
use Rattle.kl1_command.specs.Room.{HasRoomFor}
use Rattle.kl1_pool.proofs.restoring.has_room.Goals as goal

pub returns-in-None : goal.returns-in-None
returns-in-None g c = λ yes. subst (HasRoomFor c.args.n) (sym c.in-None.is ∙ c.room.ensures) tt

pub returns-in-Some : goal.returns-in-Some
returns-in-Some g c = λ yes. subst (HasRoomFor c.args.n) (sym c.in-Some.is ∙ c.room.ensures) (let z : c.args.n ≤ c.in-Some.room = leb-true c.args.n c.in-Some.room yes in z)
