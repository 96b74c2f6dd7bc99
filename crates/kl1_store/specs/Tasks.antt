-- The cells that are still to be lifted to a level.
use Rattle.std.specs.Prelude.{◌≡◌, ℕ, suc, ◌+◌, ◌≤◌, ◌<◌, ◌⊎◌, Bool, true, false, ◌||◌, List, [], ◌∷◌, length, Some, slice_get}
use Rattle.kl1_model.specs.Term.{Term, variable, integer, atom, structure, Terms, none, more, occurs}
use Rattle.kl1_store.specs.declared.cell.Cell.{Cell}
use Rattle.kl1_store.specs.declared.cell.Cell.TheVariants.{Variable, Integer, Atom, Structure}
use Rattle.kl1_store.specs.declared.task.Task.{Task}
use Rattle.kl1_store.specs.declared.levels.Levels.{Levels}
use Rattle.kl1_store.specs.Held.{Held, is_bound, found, IsIn, arguments_of}
use Rattle.kl1_store.specs.Meaning.{term_of, unread}
use Rattle.kl1_store.specs.Levels.{level_at, LiesAt}

-- cells of this store that wait
abbrev pub AreTasks : {N : Type 0} → Held N → List (Task N) → Type 0
AreTasks h [] = Unit {0}
AreTasks h (t ∷ ts) = IsIn h t.cell × AreTasks h ts

-- a cell that waits to be lifted to a level or above it
abbrev pub Awaits : {N : Type 0} → ℕ → Cell N → List (Task N) → Type 0
Awaits n x [] = ⊥
Awaits n x (t ∷ ts) = ((t.cell ≡ x) × (n ≤ t.level)) ⊎ Awaits n x ts

-- a cell that lies at a level, or waits for it
abbrev pub Fits : {N : Type 0} → (ℕ → ℕ) → (ℕ → ℕ) → List (Task N) → ℕ → Cell N → Type 0
Fits vs ss ts n x = LiesAt vs ss n x ⊎ Awaits n x ts

-- cells that wait for one level
abbrev pub tasks_of : {N : Type 0} → ℕ → List (Cell N) → List (Task N)
tasks_of l [] = []
tasks_of l (x ∷ xs) = record { cell = x; level = l } ∷ tasks_of l xs

-- whether a variable is in what waits
abbrev pub is_in_tasks : {N : Type 0} → (N → List ℕ) → Held N → ℕ → List (Task N) → Bool
is_in_tasks f h v [] = false
is_in_tasks f h v (t ∷ ts) = occurs v (term_of f h t.cell) || is_in_tasks f h v ts

-- how far a walk can still go
abbrev pub reach : {N : Type 0} → Cell N → ℕ
reach (Variable v) = suc v
reach (Integer i) = 0
reach (Atom a) = 0
reach (Structure s) = 0

-- how large a term is, each argument counted with what walks to it can take
abbrev mutual
  pub heft : ℕ → Term → ℕ
  heft k (variable n) = 0
  heft k (integer i) = 0
  heft k (atom a) = 0
  heft k (structure f ts) = suc (hefts k ts)

  pub hefts : ℕ → Terms → ℕ
  hefts k none = 0
  hefts k (more t ts) = k + (heft k t + hefts k ts)

-- how much a cell adds to what waits
abbrev pub heft_of : {N : Type 0} → Held N → Cell N → ℕ
heft_of h x = suc (heft (suc h.variables) (term_of unread h x) + reach x)

-- how much waits
abbrev pub load : {N : Type 0} → Held N → List (Task N) → ℕ
load h [] = 0
load h (t ∷ ts) = heft_of h t.cell + load h ts

-- a cell was taken from the list and lifted: what waits instead, and which levels changed
pub record Lifts {N : Type 0} (h : Held N) (x : Cell N) (l : ℕ) (old new : Levels) (before now : List (Task N)) : Type 0 where
  pub tasks : AreTasks h now
  pub here : Fits (level_at new.variables.items) (level_at new.structures.items) now l x
  pub keeps : (n : ℕ) (y : Cell N) → Fits (level_at old.variables.items) (level_at old.structures.items) before n y → Fits (level_at new.variables.items) (level_at new.structures.items) now n y
  pub arguments : (s i : ℕ) (y : Cell N) → slice_get (arguments_of h s) i ≡ Some y →
      (level_at new.structures.items s ≡ level_at old.structures.items s) ⊎ Fits (level_at new.variables.items) (level_at new.structures.items) now (level_at new.structures.items s) y
  pub values : (v : ℕ) →
      (level_at new.variables.items v ≡ level_at old.variables.items v) ⊎ Fits (level_at new.variables.items) (level_at new.structures.items) now (level_at new.variables.items v) (found v h.bindings)
  pub reached : (f : N → List ℕ) (v : ℕ) → is_in_tasks f h v now ≡ true → (occurs v (term_of f h x) || is_in_tasks f h v before) ≡ true
  pub seen : (v : ℕ) → is_bound v h.bindings ≡ false → (level_at new.variables.items v ≡ level_at old.variables.items v) ⊎ ((f : N → List ℕ) → occurs v (term_of f h x) ≡ true)
  pub less : load h now < heft_of h x + load h before
  pub fit : length old.structures.items ≤ length h.structures → length new.structures.items ≤ length h.structures

-- a cell was lifted, with all that is in its term
pub record Lifted {N : Type 0} (h : Held N) (x : Cell N) (l : ℕ) (old new : Levels) : Type 0 where
  pub here : LiesAt (level_at new.variables.items) (level_at new.structures.items) l x
  pub seen : (v : ℕ) → is_bound v h.bindings ≡ false → (level_at new.variables.items v ≡ level_at old.variables.items v) ⊎ ((f : N → List ℕ) → occurs v (term_of f h x) ≡ true)
