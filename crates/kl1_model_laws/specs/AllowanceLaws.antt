-- No reduction is charged past an allowance.
use Rattle.std.specs.Prelude.{◌≡◌, ◌≤◌, ◌<◌, ℕ, true, false, List, Some}
use Rattle.kl1_model.specs.declared.rules.Rules.{Rules}
use Rattle.kl1_model.specs.State.{Goal, Shoen, State, goal_at, shoen_at, is_monitor}
use Rattle.kl1_model.specs.Tree.{is_on_path, charged_of}
use Rattle.kl1_model.specs.Event.{Event, reduce, reduced}
use Rattle.kl1_model.specs.Step.{step}
use Rattle.kl1_model.specs.laws.TreeLaws.{IsTree}
use Rattle.kl1_model_laws.specs.Reached.{reached}

-- a goal is reduced only if each shoen on its path was charged less than its allowance
abbrev pub ReductionsHaveAllowance : Type 0
ReductionsHaveAllowance =
    (s : State) (goal clause : ℕ) (g : Goal) → goal_at goal s.goals ≡ Some g → is_monitor g.task ≡ false → (step s (reduce goal clause)).reply ≡ reduced →
    (a : ℕ) (h : Shoen) → is_on_path s.shoens a g.shoen ≡ true → shoen_at a s.shoens ≡ Some h → charged_of s a < h.allowance

-- so it charges none of them more than that; shoens are a tree in each account that events make of a fresh one
abbrev pub ReductionsStayWithin : Type 0
ReductionsStayWithin =
    (s : State) (goal clause : ℕ) (g : Goal) → IsTree s → goal_at goal s.goals ≡ Some g → is_monitor g.task ≡ false → (step s (reduce goal clause)).reply ≡ reduced →
    (a : ℕ) (h : Shoen) → is_on_path s.shoens a g.shoen ≡ true → shoen_at a s.shoens ≡ Some h → charged_of (step s (reduce goal clause)).state a ≤ h.allowance

-- and no shoen of an account was charged more than its allowance, whatever was done to the account since it was fresh
abbrev pub NoneIsChargedMore : Type 0
NoneIsChargedMore = (rules : Rules) (name : List ℕ) (es : List Event) (n : ℕ) (h : Shoen) → shoen_at n (reached rules name es).shoens ≡ Some h → charged_of (reached rules name es) n ≤ h.allowance
