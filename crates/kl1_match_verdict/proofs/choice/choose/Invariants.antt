use Rattle.std.proofs.Common.{◌-◌, length}
use Rattle.kl1_store.specs.Remembers.{Remembers}
use Rattle.kl1_match_verdict.proofs.Choosing.{ChoosesFrom}
use Rattle.kl1_match_verdict.proofs.choice.choose.Given as goal

-- the clauses that are left give the answer of all, and what is remembered is so
abbrev pub invariant-loop-tried : goal.invariant-loop-tried
invariant-loop-tried g l = Remembers g.N.NameValue.built l.store.held l.same × ChoosesFrom g.N.NameValue.built l.names l.clauses l.store.held l.fn.goal l.fn.awaited.items l.awaited.items l.tried l.waiting

abbrev pub decreases-loop-tried : goal.decreases-loop-tried
decreases-loop-tried g l = length l.clauses - l.tried
