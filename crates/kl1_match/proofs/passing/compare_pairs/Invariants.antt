use Rattle.std.proofs.Common.{length}
use Rattle.kl1_store.specs.Remembers.{Remembers}
use Rattle.kl1_match.specs.TestTerms.{tests_of}
use Rattle.kl1_match.proofs.TermPairs.{PairsLeft}
use Rattle.kl1_match.proofs.passing.compare_pairs.Given as goal

-- what is left, with what was named, comes to the whole, and what is remembered is so
abbrev pub invariant-loop-rest : goal.invariant-loop-rest
invariant-loop-rest g l = Remembers g.N.NameValue.built (tests_of l.view).held l.same × PairsLeft g.N.NameValue.built (tests_of l.view) l.fn.pairs l.rest l.fn.awaited.items l.awaited.items

abbrev pub decreases-loop-rest : goal.decreases-loop-rest
decreases-loop-rest g l = length l.rest
