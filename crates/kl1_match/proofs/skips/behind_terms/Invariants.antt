use Rattle.std.proofs.Common.{◌≡◌, ℕ, ◌≤◌, ◌-◌, List, length, map, drop}
use Rattle.kl1_model.specs.Term.{Terms, count_of}
use Rattle.kl1_model.specs.code.TermCode.{nodes_of_all}
use Rattle.kl1_model.specs.code.TermCode as code
use Rattle.kl1_clause.specs.declared.name.Name.{Name}
use Rattle.kl1_clause.specs.Instructions.{code_in}
use Rattle.kl1_match.specs.Matching.{joined}
use Rattle.kl1_match.specs.TestTerms.{terms_from}
use Rattle.kl1_match.proofs.Skipping.{AreAhead}
use Rattle.kl1_match.proofs.skips.behind_terms.Given as goal

-- as many terms stand in front of the others as are left to skip
abbrev pub invariant-loop-left : goal.invariant-loop-left
invariant-loop-left l = record {
  end_is : l.end ≡ length l.row;
  above : l.fn.from ≤ l.at;
  below : l.at ≤ length l.row;
  behind : (names : List (List ℕ)) (qs ps : Terms) → count_of qs ≡ l.terms → map (code_in names) (drop l.fn.from l.row) ≡ nodes_of_all (joined qs ps) → AreAhead names (drop l.at l.row) l.left ps;
  read : (named : Name → List ℕ) → code.behind l.left (terms_from named (drop l.at l.row)) ≡ code.behind l.terms (terms_from named (drop l.fn.from l.row));
}

abbrev pub decreases-loop-left : goal.decreases-loop-left
decreases-loop-left l = length l.row - l.at
