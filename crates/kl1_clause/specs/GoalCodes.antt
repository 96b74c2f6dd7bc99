-- The fields of a goal's code as the goal.
use Rattle.std.specs.Prelude.{◌≡◌, [], map}
use Rattle.kl1_model.specs.Term.{Term}
use Rattle.kl1_model.specs.code.TermCode.{nodes_of, term_from}
use Rattle.kl1_model.specs.Nodes.{goal_nodes}
use Rattle.kl1_model.specs.State.{names_of}
use Rattle.kl1_clause.specs.declared.goal_code.GoalCode.TheInside.{Inside}
use Rattle.kl1_clause.specs.NameList.{with_texts}
use Rattle.kl1_clause.specs.Instructions.{code_in, IsRowOf}

-- the goal that a code means
abbrev pub goal_in : Inside → Term
goal_in c = term_from (map (code_in c.names) c.row.items)

-- a code is that of the goal that it means
pub record IsGoalCode (c : Inside) : Type 0 where
  pub names_are : c.names ≡ with_texts [] (names_of (goal_in c))
  pub row_is : IsRowOf c.names c.row.items (nodes_of (goal_in c))
  pub nodes_are : c.nodes ≡ goal_nodes (goal_in c)
