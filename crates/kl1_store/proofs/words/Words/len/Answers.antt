use Rattle.std.proofs.Common.{ap, arith}
use Rattle.kl1_store.specs.Words.{Listed}
use Rattle.kl1_store.proofs.words.Words.len.Goals as goal

pub returns-clause-few : goal.returns-clause-few
returns-clause-few g c =
    let s = c.self.inside in
    let room = ap (λ (v : Listed g.row.N.Denot). v.room) c.self.view_is in
    omega (arith, room, c.len.ensures, s.words.ok.0, c.self.invariant.held, c.self.invariant.few)
