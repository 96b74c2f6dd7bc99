-- What a goal that commits to a clause becomes.
use Rattle.std.specs.Prelude.{◌≡◌, ℕ, ◌+◌, ◌-◌, List, length}
use Rattle.kl1_model.specs.Match.{Candidate}
use Rattle.kl1_model.specs.Nodes.{goals_nodes}
use Rattle.kl1_model.specs.Module.{Clause, goals_of}
use Rattle.kl1_model.specs.Instance.{body_instance, fresh_variables}
use Rattle.kl1_store.specs.declared.qualified.Qualified.{Qualified}
use Rattle.kl1_store.specs.Held.{Held}
use Rattle.kl1_store.specs.InModules.{qualified_list}
use Rattle.kl1_match.specs.Instances.{AreKept}
use Rattle.kl1_goals_moves.specs.declared.needs.Needs.{Needs}

-- these are the goals of a candidate's body, and each cell that was there means what it meant
pub record IsBody {N : Type 0} (f : N → List ℕ) (k : Candidate) (old new : Held N) (goals : List (Qualified N)) : Type 0 where
  pub terms : qualified_list f new goals ≡ body_instance k.clause k.places (old.variables - 1)
  pub variables : new.variables ≡ old.variables + fresh_variables k.clause
  pub kept : AreKept f old new

-- the goals, variables and structures that a commit to a clause adds
pub record AreNeeds (c : Clause) (n : Needs) : Type 0 where
  pub goals : n.goals ≡ length c.body
  pub variables : n.variables ≡ fresh_variables c
  pub nodes : n.nodes ≡ goals_nodes (goals_of c.body)
