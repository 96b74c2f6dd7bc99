-- Codes mean the goals that they are made of.
use Rattle.std.proofs.Common.{◌≡◌, ℕ, List, [], sym, ap, subst, ◌∙◌}
use Rattle.kl1_model.specs.Term.{Term}
use Rattle.kl1_model.specs.code.TermCode.{nodes_of, term_from, term_from-nodes_of}
use Rattle.kl1_model.specs.Nodes.{goal_nodes}
use Rattle.kl1_model.specs.State.{names_of, with_names}
use Rattle.kl1_clause.specs.declared.goal_code.GoalCode.TheInside.{Inside}
use Rattle.kl1_clause.specs.declared.instruction.Instruction.{Instruction}
use Rattle.kl1_clause.specs.NameList.{with_texts}
use Rattle.kl1_clause.specs.Instructions.{IsRowOf}
use Rattle.kl1_clause.specs.Putting.{Puts}
use Rattle.kl1_clause.specs.GoalCodes.{goal_in, IsGoalCode}
use Rattle.kl1_clause.proofs.Growth.{names_of_one}

-- what the nodes of a goal were put to means the goal
pub goal_is : (c : Inside) (t : Term) → Puts [] c.names [] c.row.items (nodes_of t) → goal_in c ≡ t
goal_is c t p = ap term_from p.row_is ∙ term_from-nodes_of t

-- and it is that goal's code
pub is_code : (c : Inside) (t : Term) → Puts [] c.names [] c.row.items (nodes_of t) → c.nodes ≡ goal_nodes t → IsGoalCode c
is_code c t p n =
    let same : t ≡ goal_in c = sym (goal_is c t p) in
    record {
      names_are = p.names_are ∙ (ap (with_texts []) (names_of_one t) ∙ ap (λ (u : Term). with_texts [] (names_of u)) same);
      row_is = subst (λ (u : Term). IsRowOf c.names c.row.items (nodes_of u)) same (record { named = p.named; nodes_are = p.row_is });
      nodes_are = n ∙ ap goal_nodes same;
    }

-- the names of a code are those of its goal
pub names_as : (c : Inside) (t : Term) → IsGoalCode c → goal_in c ≡ t → c.names ≡ with_names [] (names_of t)
unfolding with_texts
names_as c t s e = s.names_are ∙ ap (λ (u : Term). with_texts [] (names_of u)) e

-- and its row is that of its goal
pub row_as : (c : Inside) (t : Term) (row : List Instruction) → IsGoalCode c → goal_in c ≡ t → row ≡ c.row.items → IsRowOf (with_names [] (names_of t)) row (nodes_of t)
row_as c t row s e i =
    let of_names : IsRowOf (with_names [] (names_of t)) c.row.items (nodes_of (goal_in c)) = subst (λ (ns : List (List ℕ)). IsRowOf ns c.row.items (nodes_of (goal_in c))) (names_as c t s e) s.row_is in
    let of_goal : IsRowOf (with_names [] (names_of t)) c.row.items (nodes_of t) = subst (λ (u : Term). IsRowOf (with_names [] (names_of t)) c.row.items (nodes_of u)) e of_names in
    subst (λ (is : List Instruction). IsRowOf (with_names [] (names_of t)) is (nodes_of t)) (sym i) of_goal

-- and its count is that of its goal
pub nodes_as : (c : Inside) (t : Term) → IsGoalCode c → goal_in c ≡ t → c.nodes ≡ goal_nodes t
nodes_as c t s e = s.nodes_are ∙ ap goal_nodes e
