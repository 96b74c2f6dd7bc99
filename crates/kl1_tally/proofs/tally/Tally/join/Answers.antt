use Rattle.std.proofs.Common.{◌<◌, sym, ap, ◌∙◌, arith}
use Rattle.kl1_tally.proofs.Steps.{joins}
use Rattle.kl1_tally.proofs.tally.Tally.join.Goals as goal

pub join_seat-requires : goal.join_seat-requires
join_seat-requires c =
    let id = c.self.inside.table.shared.table_id in
    let key = c.self.inside.table.shared.key in
    let words : 0 < id.words = (let s = c.self.invariant.0 in omega arith) in
    let is = ap (λ p. p.id) (sym c.self.view_is) in
    (c.requires.of ∙ is, c.requires.other ∙ is, c.requires.free, words, joins key.accounts key.shares c.args.seat.now.id c.args.other.id c.args.seat.now.me.0 c.args.other.me.0)
