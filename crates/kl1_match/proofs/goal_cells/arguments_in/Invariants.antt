-- the arguments of the instructions so far
use Rattle.std.proofs.Common.{◌≡◌, take}
use Rattle.kl1_match.specs.Rooms.{arguments_in}
use Rattle.kl1_match.proofs.goal_cells.arguments_in.Given as goal

abbrev pub invariant-loop-instruction : goal.invariant-loop-instruction
invariant-loop-instruction l = l.count ≡ arguments_in (take l.instruction-index l.row)
