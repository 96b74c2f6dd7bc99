use Rattle.std.proofs.Common.{◌≤◌, sym, subst, arith}
use Rattle.kl1_model.specs.declared.rules.Rules.{Rules}
use Rattle.kl1_model.specs.Rules.{limits_of}
use Rattle.kl1_pool.proofs.Seating.{has_room}
use Rattle.kl1_host_work.proofs.starting.run_host.Goals as goal

pub new-requires-2-clause-room : goal.new-requires-2-clause-room
new-requires-2-clause-room g c =
    let own = (limits_of Rules.Five).names in
    let least : own ≤ own = omega arith in
    has_room Rules.Five c.limits-room.result.names c.in_ok-table.seats.items (subst (λ l. own ≤ l.names) (sym c.limits-room.ensures.value) least) c.in_ok-table.ensures.room
