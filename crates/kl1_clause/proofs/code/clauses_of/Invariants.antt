-- the clauses so far are compiled
use Rattle.std.proofs.Common.{map, take}
use Rattle.kl1_read.specs.Sources.{clause_of_parts}
use Rattle.kl1_clause.proofs.CodeFacts.{AreMade}
use Rattle.kl1_clause.proofs.code.clauses_of.Given as goal

abbrev pub invariant-loop-part : goal.invariant-loop-part
invariant-loop-part l = AreMade l.initial.names l.names l.clauses.items (map clause_of_parts (take l.part-index l.parts))
