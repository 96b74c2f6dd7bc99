use Rattle.std.proofs.Common.{◌<◌, sym, ap, ◌∙◌, true, false, arith}
use Rattle.kl1_tally.proofs.Steps.{raises}
use Rattle.kl1_tally.proofs.tally.Tally.count.Goals as goal

pub load-requires : goal.load-requires
load-requires c =
    let id = c.self.inside.table.shared.table_id in
    let key = c.self.inside.table.shared.key in
    let words : 0 < id.words = (let s = c.self.invariant.0 in omega arith) in
    let is = ap (λ p. p.id) (sym c.self.view_is) in
    (c.requires.of ∙ is, words, raises key.accounts key.shares id.slots c.args.seat.now.id true c.args.seat.now.me.0 c.args.seat.now.me.1 c.requires.can)

pub load-requires-else-step : goal.load-requires-else-step
load-requires-else-step c =
    let id = c.self.inside.table.shared.table_id in
    let key = c.self.inside.table.shared.key in
    let words : 0 < id.words = (let s = c.self.invariant.0 in omega arith) in
    let is = ap (λ p. p.id) (sym c.self.view_is) in
    (c.requires.of ∙ is, words, raises key.accounts key.shares id.slots c.args.seat.now.id false c.args.seat.now.me.0 c.args.seat.now.me.1 c.requires.can)
