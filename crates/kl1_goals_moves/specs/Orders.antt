-- Orders for new shoens.
use Rattle.std.specs.Prelude.{◌≡◌, ℕ, List, Some, slice_get}
use Rattle.kl1_model.specs.Look as model
use Rattle.kl1_store.specs.Held.{Held, IsIn, arguments_of}
use Rattle.kl1_store.specs.Meaning.{term_of}
use Rattle.kl1_goals_moves.specs.declared.order.ExecuteArguments.{ExecuteArguments}

-- an order as in the definitions
abbrev pub order_at : {N : Type 0} → (N → List ℕ) → Held N → ExecuteArguments N → model.ExecuteArguments
order_at f h o = record {
  goal = term_of f h o.goal;
  low = term_of f h o.low;
  high = term_of f h o.high;
  allowance = term_of f h o.allowance;
  control = term_of f h o.control;
  reports = term_of f h o.reports;
}

-- the cells of an order are of the store
pub record IsOrderIn {N : Type 0} (h : Held N) (o : ExecuteArguments N) : Type 0 where
  pub goal_in : IsIn h o.goal
  pub low_in : IsIn h o.low
  pub high_in : IsIn h o.high
  pub allowance_in : IsIn h o.allowance
  pub control_in : IsIn h o.control
  pub reports_in : IsIn h o.reports

-- the arguments of a structure are this order
pub record IsOrder {N : Type 0} (h : Held N) (s : ℕ) (o : ExecuteArguments N) : Type 0 where
  pub goal_is : slice_get (arguments_of h s) 0 ≡ Some o.goal
  pub low_is : slice_get (arguments_of h s) 1 ≡ Some o.low
  pub high_is : slice_get (arguments_of h s) 2 ≡ Some o.high
  pub allowance_is : slice_get (arguments_of h s) 3 ≡ Some o.allowance
  pub control_is : slice_get (arguments_of h s) 4 ≡ Some o.control
  pub reports_is : slice_get (arguments_of h s) 5 ≡ Some o.reports
