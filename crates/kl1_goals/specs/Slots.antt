-- The places of a table.
use Rattle.std.specs.Prelude.{◌≡◌, ℕ, zero, suc, ◌+◌, ◌-◌, ◌<◌, ◌≤◌, ◌&&◌, nat_lt, if◌then◌else◌, Bool, true, false, cond, List, [], ◌∷◌, map, take, length, get_or, Option, Some, None}
use Rattle.kl1_model.specs.declared.limits.TheConstants.{MONITOR_PRIORITY}
use Rattle.kl1_queue.specs.Ranks.{rank_of}
use Rattle.kl1_goals.specs.declared.standing.Standing.{Standing}
use Rattle.kl1_goals.specs.declared.goal.Goal.{Goal}
use Rattle.kl1_goals.specs.declared.slot.Slot.{Slot}
use Rattle.std.specs.List.{filter}
use Rattle.kl1_goals.specs.Lists.{is_other, enabled_in}
use Rattle.kl1_goals.specs.Readies.{stands}
use Rattle.kl1_goals.specs.Tables.{Ascend}

-- the goals that are there
abbrev pub goals_in : {N : Type 0} → List (Slot N) → List (Goal N)
goals_in [] = []
goals_in (s ∷ ss) = cond s.is_held (s.goal ∷ goals_in ss) (goals_in ss)

-- the first of goals
abbrev pub first_of : {N : Type 0} → List (Goal N) → Option (Goal N)
first_of [] = None
first_of (g ∷ gs) = Some g

-- the number of a place
abbrev pub number_in : {N : Type 0} → Slot N → ℕ
number_in s = s.goal.number

-- the numbers of places, of empty ones too
abbrev pub numbers_of : {N : Type 0} → List (Slot N) → List ℕ
numbers_of ss = map number_in ss

-- whether a place has a goal
abbrev pub held_in : {N : Type 0} → Slot N → Bool
held_in s = s.is_held

-- the priority of a place's goal, of an empty one too
abbrev pub level_in : {N : Type 0} → Slot N → ℕ
level_in s = s.goal.priority

-- the priority of a goal that is there and can step
abbrev pub priority_in : {N : Type 0} → Slot N → Option ℕ
priority_in s = cond (s.is_held && stands s.goal) (Some s.goal.priority) None

-- the rank of a place in the queue
abbrev pub rank_in : {N : Type 0} → Slot N → ℕ
rank_in s = rank_of (priority_in s)

-- the rank of a place in the queue, 0 if its priority is above a monitor's
abbrev pub capped_in : {N : Type 0} → Slot N → ℕ
capped_in s = if nat_lt MONITOR_PRIORITY s.goal.priority then 0 else rank_in s

-- a place whose goal may step from now on, or may not, if it is of a shoen and not its monitor
abbrev pub let_in : {N : Type 0} → ℕ → Bool → Slot N → Slot N
let_in n b s = record s { goal = enabled_in n b s.goal }

-- a place without its goal
abbrev pub emptied : {N : Type 0} → Slot N → Slot N
emptied s = record s { is_held = false }

-- a place whose goal stands so and may step, or may not, from now on
abbrev pub looked_in : {N : Type 0} → Standing → Bool → Slot N → Slot N
looked_in standing b s = record s { goal = record s.goal { standing = standing; is_enabled = b } }

-- places of which one is changed
abbrev pub changed_at : {N : Type 0} → (Slot N → Slot N) → ℕ → List (Slot N) → List (Slot N)
changed_at f k [] = []
changed_at f zero (s ∷ ss) = f s ∷ ss
changed_at f (suc k) (s ∷ ss) = s ∷ changed_at f k ss

-- priorities of at most a monitor's
abbrev pub AreLow : List ℕ → Type 0
AreLow [] = Unit {0}
AreLow (p ∷ ps) = (p ≤ MONITOR_PRIORITY) × AreLow ps

-- numbers below this one
abbrev pub AreBelow : ℕ → List ℕ → Type 0
AreBelow n [] = Unit {0}
AreBelow n (m ∷ ms) = (m < n) × AreBelow n ms

-- how many of the numbers are at most this one
pub record IsCut (ns : List ℕ) (n count : ℕ) : Type 0 where
  pub within : count ≤ length ns
  pub low : (j : ℕ) → j < count → get_or ns j 0 ≤ n
  pub high : (j : ℕ) → count ≤ j → j < length ns → n < get_or ns j 0

-- the place `k` of number `n`
pub record IsPlace (ns : List ℕ) (n k : ℕ) : Type 0 where
  pub within : k < length ns
  pub is : get_or ns k 0 ≡ n

-- a number without a place
abbrev pub IsAbsent : List ℕ → ℕ → Type 0
IsAbsent ns n = (j : ℕ) → j < length ns → get_or ns j 0 ≡ n → ⊥

-- the place of a goal that is there
pub record IsHeldAt {N : Type 0} (ss : List (Slot N)) (n k : ℕ) (s : Slot N) : Type 0 where
  pub within : k < length ss
  pub at : get_or ss k s ≡ s
  pub number : s.goal.number ≡ n
  pub held : s.is_held ≡ true

-- places of which the last is empty
pub record IsEmptyEnd {N : Type 0} (ss : List (Slot N)) : Type 0 where
  pub some : 0 < length ss
  pub goals : goals_in (take (length ss - 1) ss) ≡ goals_in ss

-- places in order of number with their ranks, of which `empty` are empty
pub record AreSlots {N : Type 0} (ss : List (Slot N)) (empty : ℕ) (ranks : List ℕ) : Type 0 where
  pub ascend : Ascend 0 (numbers_of ss)
  pub low : AreLow (map level_in ss)
  pub ranked : ranks ≡ map rank_in ss
  pub counted : empty + length (goals_in ss) ≡ length ss

-- the goals without one
pub record IsWithout {N : Type 0} (g : Goal N) (old new : List (Goal N)) : Type 0 where
  pub goals : new ≡ filter (is_other g.number) old
  pub passes : (p : Goal N → Bool) → p g ≡ true → length (filter p old) ≡ length (filter p new) + 1
  pub fails : (p : Goal N → Bool) → p g ≡ false → filter p new ≡ filter p old
