-- What holds of the nodes of a term that is being read.
use Rattle.std.specs.Prelude.{◌≡◌, ℕ, ◌≤◌, List, IsTrue}
use Rattle.kl1_model.specs.Meaning.{depths, is_writable}
use Rattle.kl1_model.specs.declared.limits.TheConstants.{MOST_DEPTH}
use Rattle.kl1_term.specs.declared.node.Node.{Node}
use Rattle.kl1_term.specs.Nodes.{term_in, IsTerm}

-- nodes of one term that a text can write, with its depths
pub record IsPiece (nodes : List Node) (whole rest : ℕ) : Type 0 where
  pub one : IsTerm nodes
  pub depth : depths (term_in nodes) ≡ record { whole = whole; rest = rest }
  pub fits : IsTrue (is_writable (term_in nodes))
  pub low : whole ≤ MOST_DEPTH
  pub rest_low : rest ≤ whole
