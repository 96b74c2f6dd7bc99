use Rattle.std.proofs.Common.{◌<◌, sym, ap, ◌∙◌, arith}
use Rattle.kl1_tally.proofs.Steps.{splits}
use Rattle.kl1_tally.proofs.tally.Tally.part.Goals as goal

pub split_seat-requires : goal.split_seat-requires
split_seat-requires c =
    let id = c.self.inside.table.shared.table_id in
    let key = c.self.inside.table.shared.key in
    let words : 0 < id.words = (let s = c.self.invariant.0 in omega arith) in
    let is = ap (λ p. p.id) (sym c.self.view_is) in
    (c.requires.of ∙ is, words, splits key.accounts key.shares c.args.seat.now.id c.args.seat.now.me.0 c.requires.can)
