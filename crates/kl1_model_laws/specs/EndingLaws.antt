-- Which shoens terminate: those that are due, and each of them.
use Rattle.std.specs.Prelude.{⊤, ◌≡◌, ℕ, ◌||◌, true, false, List, [], ◌∷◌}
use Rattle.std.specs.List.{AllByRecursion}
use Rattle.kl1_model.specs.declared.rules.Rules.{Rules}
use Rattle.kl1_model.specs.State.{State}
use Rattle.kl1_model.specs.Tree.{path, is_on_path}
use Rattle.kl1_model.specs.Event.{Event}
use Rattle.kl1_model.specs.Ending.{has_goal, has_living_child, lives, ends_now, ended_at, ending_of, settle, after_reduction}
use Rattle.kl1_model.specs.laws.TreeLaws.{IsTree}
use Rattle.kl1_model_laws.specs.Reached.{reached}

-- shoens that end in order: each lives, and has no goal and no living child when those before it have ended
abbrev pub AreDue : List ℕ → State → Type 0
AreDue [] s = ⊤
AreDue (n ∷ ns) s = (lives n s ≡ true) × (has_goal n s ≡ false) × (has_living_child n s ≡ false) × AreDue ns (ended_at n s)

-- those that terminate are due: each lives, and has no goal and no living child when those before it have ended
abbrev pub EndingAreDue : Type 0
EndingAreDue = (ns : List ℕ) (s : State) → AreDue (ending_of ns s) s

-- a shoen of the path that lives, and has no goal and no living child, terminates after a reduction, if shoens are a tree, as they
-- are in each account that events make of a fresh one
abbrev pub DueTerminate : Type 0
DueTerminate = (n m : ℕ) (s : State) → IsTree s → is_on_path s.shoens m n ≡ true → ends_now m s ≡ true → lives m (after_reduction n s) ≡ false

-- so does one after what a monitor reads
abbrev pub DueTerminateAlone : Type 0
DueTerminateAlone = (n m : ℕ) (s : State) → IsTree s → is_on_path s.shoens m n ≡ true → ends_now m s ≡ true → lives m (settle n s) ≡ false

-- when terminations are done after a reduction, no shoen of the path is left that lives and has no goal and no living child
abbrev pub NoneIsLeftDue : Type 0
NoneIsLeftDue = (n : ℕ) (s : State) → IsTree s → AllByRecursion (λ m. ends_now m (after_reduction n s) ≡ false) (path s.shoens n)

-- and none is left after what a monitor reads
abbrev pub NoneIsLeftDueAlone : Type 0
NoneIsLeftDueAlone = (n : ℕ) (s : State) → IsTree s → AllByRecursion (λ m. ends_now m (settle n s) ≡ false) (path s.shoens n)

-- each living shoen of each account has a goal or a living child, whatever was done to the account since it was fresh
abbrev pub LivingHaveGoals : Type 0
LivingHaveGoals = (rules : Rules) (name : List ℕ) (es : List Event) (n : ℕ) → lives n (reached rules name es) ≡ true → has_goal n (reached rules name es) || has_living_child n (reached rules name es) ≡ true
