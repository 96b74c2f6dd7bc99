use Rattle.std.proofs.Common.{arith}
use Rattle.kl1_model.specs.declared.limits.TheConstants.{MOST_NAMES_BEFORE}
use Rattle.kl1_model.specs.declared.rules.Rules.{Rules}
use Rattle.kl1_pool.proofs.Seating.{has_room}
use Rattle.kl1_tests_threads.proofs.server.memory.is_same_in.Goals as goal

pub new-requires-3-clause-room : goal.new-requires-3-clause-room
new-requires-3-clause-room g c = has_room Rules.Three MOST_NAMES_BEFORE c.in_ok-table.seats.items (omega arith) c.in_ok-table.ensures.room
