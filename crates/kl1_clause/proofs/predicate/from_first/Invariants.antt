-- the first clause of the predicate is among those left
use Rattle.std.proofs.Common.{◌≡◌, length}
use Rattle.kl1_model.specs.Module.{is_of}
use Rattle.kl1_clause.specs.Predicates.{clauses_in, AreWhole, from_first}
use Rattle.kl1_clause.proofs.predicate.from_first.Given as goal

abbrev pub invariant-loop-left : goal.invariant-loop-left
invariant-loop-left l = record {
  whole : AreWhole l.texts l.left;
  same : from_first (is_of l.name l.count) (clauses_in l.texts l.left) ≡ from_first (is_of l.name l.count) (clauses_in l.texts l.clauses);
}

abbrev pub decreases-loop-left : goal.decreases-loop-left
decreases-loop-left l = length l.left
