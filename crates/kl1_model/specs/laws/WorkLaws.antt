-- The order in which reductions were done that are charged makes no difference.
use Rattle.std.specs.Prelude.{◌≡◌, ℕ, ◌==◌, List, count_by}
use Rattle.kl1_model.specs.State.{State}
use Rattle.kl1_model.specs.Event.{Event}
use Rattle.kl1_model.specs.Choice.{first, quiet}
use Rattle.kl1_model.specs.Step.{step}

-- an account with this work
abbrev pub with_work : List ℕ → State → State
with_work w s = record s { work = w }

-- two lists of work have as many reductions of each shoen
abbrev pub SameCounts : List ℕ → List ℕ → Type 0
SameCounts v w = (n : ℕ) → count_by (λ m. m == n) v ≡ count_by (λ m. m == n) w

-- an event does to an account what it does to one with as many reductions of each shoen, and the reply is the same
abbrev pub OrderOfWorkIsNothing : Type 0
OrderOfWorkIsNothing =
    (s : State) (w : List ℕ) (e : Event) → SameCounts s.work w →
    (v : List ℕ) × (SameCounts (step s e).state.work v × (step (with_work w s) e ≡ record { state = with_work v (step s e).state; reply = (step s e).reply }))

-- and the same reduction comes first, and none can be done exactly if none could
abbrev pub OrderOfWorkIsNotSeen : Type 0
OrderOfWorkIsNotSeen = (s : State) (w : List ℕ) → SameCounts s.work w → (first (with_work w s) ≡ first s) × (quiet (with_work w s) ≡ quiet s)
