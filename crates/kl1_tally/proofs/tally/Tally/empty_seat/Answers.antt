use Rattle.std.proofs.Common.{◌<◌, arith}
use Rattle.kl1_tally.proofs.Steps.{enters}
use Rattle.kl1_tally.proofs.tally.Tally.empty_seat.Goals as goal

pub load_new_seat-seat-requires : goal.load_new_seat-seat-requires
load_new_seat-seat-requires c =
    let id = c.self.inside.table.shared.table_id in
    let key = c.self.inside.table.shared.key in
    let words : 0 < id.words = (let s = c.self.invariant.0 in omega arith) in
    (words, enters key.accounts key.shares id.slots)
