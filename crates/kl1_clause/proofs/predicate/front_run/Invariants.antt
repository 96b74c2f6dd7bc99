-- the clauses so far are of the predicate
use Rattle.std.proofs.Common.{◌≡◌, ◌≤◌, ◌-◌, ◌++◌, length, take, drop}
use Rattle.kl1_model.specs.Module.{is_of}
use Rattle.kl1_clause.specs.Predicates.{clauses_in, front_run}
use Rattle.kl1_clause.proofs.predicate.front_run.Given as goal

abbrev pub invariant-loop-place : goal.invariant-loop-place
invariant-loop-place l = record {
  within : l.place ≤ length l.clauses;
  run : front_run (is_of l.name l.count) (clauses_in l.texts l.clauses) ≡ clauses_in l.texts (take l.place l.clauses) ++ front_run (is_of l.name l.count) (clauses_in l.texts (drop l.place l.clauses));
}

abbrev pub decreases-loop-place : goal.decreases-loop-place
decreases-loop-place l = length l.clauses - l.place
