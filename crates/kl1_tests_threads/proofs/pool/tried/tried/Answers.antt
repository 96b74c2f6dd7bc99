use Rattle.std.proofs.Common.{◌≤◌, sym, subst, arith}
use Rattle.kl1_model.specs.Rules.{limits_of}
use Rattle.kl1_pool.proofs.Seating.{has_room}
use Rattle.kl1_tests_threads.proofs.pool.tried.tried.Goals as goal

pub new-requires-2-clause-room : goal.new-requires-2-clause-room
new-requires-2-clause-room g c =
    let own = (limits_of c.args.setup.rules).names in
    let least : own ≤ own = omega arith in
    has_room c.args.setup.rules c.limits-room.result.names c.in_ok-table.seats.items (subst (λ l. own ≤ l.names) (sym c.limits-room.ensures.value) least) c.in_ok-table.ensures.room
