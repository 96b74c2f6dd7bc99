-- what was found so far, and what is found of the numbers that are left, is found of all; the term alone lies above 0
use Rattle.std.proofs.Common.{◌≡◌, ℕ, Bool, List, ◌++◌, map, length}
use Rattle.kl1_model.specs.Term.{occurs}
use Rattle.kl1_store.specs.Levels.{AreLevels, SeesTerm}
use Rattle.kl1_store.specs.Meaning.{term_of}
use Rattle.kl1_store.proofs.occurring.note_occurring.Given as goal

abbrev pub invariant-loop-rest : goal.invariant-loop-rest
invariant-loop-rest g l = record {
  found : (f : g.row.N.Denot → List ℕ) →
      let in_term : ℕ → Bool = λ n. occurs n (term_of f l.cells.held l.cell) in
      l.found.items ++ map in_term l.rest ≡ l.fn.found.items ++ map in_term l.numbers;
  levels : AreLevels l.cells.held l.levels;
  sees : SeesTerm l.cells.held l.levels l.cell;
}

abbrev pub decreases-loop-rest : goal.decreases-loop-rest
decreases-loop-rest g l = length l.rest
