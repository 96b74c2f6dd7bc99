use Rattle.std.proofs.Common.{length}
use Rattle.kl1_store.specs.Remembers.{Remembers}
use Rattle.kl1_match_verdict.proofs.EachAlike.{EachLeft}
use Rattle.kl1_match_verdict.proofs.alike.compare_each.Given as goal

-- what is left, with what was named, comes to the whole, and what is remembered is so
abbrev pub invariant-loop-rest : goal.invariant-loop-rest
invariant-loop-rest g l = Remembers g.N.NameValue.built l.store.held l.same × EachLeft g.N.NameValue.built l.store.held l.fn.places l.rest l.fn.awaited.items l.awaited.items

abbrev pub decreases-loop-rest : goal.decreases-loop-rest
decreases-loop-rest g l = length l.rest
