use Rattle.std.proofs.Common.{rules, arith}
use Rattle.kl1_queue.proofs.Words.{low_of}
use Rattle.kl1_queue.proofs.Levels.{empty, word_within, top_some, top_less}
use Rattle.kl1_queue.proofs.bit_set.BitSet.first.Goals as goal

pub returns-then-self-eq0 : goal.returns-then-self-eq0
returns-then-self-eq0 c =
    let s = c.self.inside in
    rw (← c.self.view_is) (empty s.low.items s.middle.items s.high.items s.top c.self.invariant c.if-self-eq0.true)

pub lowest-high-requires-clause-at : goal.lowest-high-requires-clause-at
lowest-high-requires-clause-at c =
    let s = c.self.inside in
    let low = low_of s.top (omega (arith, c.if-self-eq0.false)) (search rules) in
    word_within s.high.items _ (top_some s.high.items s.top _ c.self.invariant.high_sums low)

pub lowest-high-requires-clause-some : goal.lowest-high-requires-clause-some
lowest-high-requires-clause-some c =
    let s = c.self.inside in
    let low = low_of s.top (omega (arith, c.if-self-eq0.false)) (search rules) in
    top_some s.high.items s.top _ c.self.invariant.high_sums low

pub lowest-high-requires-clause-least : goal.lowest-high-requires-clause-least
lowest-high-requires-clause-least c = λ j h.
    let s = c.self.inside in
    let low = low_of s.top (omega (arith, c.if-self-eq0.false)) (search rules) in
    top_less s.high.items s.top _ j c.self.invariant.high_sums low h
