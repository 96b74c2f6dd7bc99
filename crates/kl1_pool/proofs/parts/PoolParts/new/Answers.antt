use Rattle.kl1_pool.proofs.Seating.{fresh_seats}
use Rattle.std.proofs.Common.{rules}
use Rattle.kl1_pool.proofs.parts.PoolParts.new.Goals as goal

pub invariant_of-result : goal.invariant_of-result
invariant_of-result c = (
  fresh_seats c.args.table.now.table.shared.table_id c.args.table.now.accounts c.args.rules c.args.seats.items c.requires.seats c.requires.room,
  search rules,
  search rules,
  search rules,
  search rules,
)
