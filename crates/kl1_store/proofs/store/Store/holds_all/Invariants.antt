use Rattle.std.proofs.Common.{◌↔◌, length}
use Rattle.kl1_store.specs.Held.{AreIn}
use Rattle.kl1_store.proofs.store.Store.holds_all.Given as goal

-- what is left is of this store if all of it is, and only then
abbrev pub invariant-loop-rest : goal.invariant-loop-rest
invariant-loop-rest g l = AreIn l.self.held l.rest ↔ AreIn l.self.held l.fn.terms

abbrev pub decreases-loop-rest : goal.decreases-loop-rest
decreases-loop-rest g l = length l.rest
