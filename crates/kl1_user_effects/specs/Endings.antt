-- Lives of shoens that end, before reports and closings.
use Rattle.std.specs.Prelude.{ℕ, List, [], ◌∷◌}
use Rattle.kl1_model.specs.declared.life.Life.TheVariants.{Terminated}
use Rattle.kl1_model.specs.State.{State, change_shoen}
use Rattle.kl1_model.specs.Ending.{control_left}

-- the life of shoen `n` ended as terminated; its control stream is as it was
abbrev pub life_at : ℕ → State → State
life_at n s = change_shoen n (λ h. record h { life = Terminated }) s

-- what is left of the control stream of shoen `n`, whose life has ended
abbrev pub left_at : ℕ → State → State
left_at n s = change_shoen n (λ h. record h { control = control_left s.rules h.origin h.control }) s

-- the lives of these shoens ended so, in order
abbrev pub ended_each : List ℕ → State → State
ended_each [] s = s
ended_each (n ∷ ns) s = ended_each ns (life_at n s)
