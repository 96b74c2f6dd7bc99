-- Shoens whose goals may be let step, or held back, otherwise than when the event began.
use Rattle.std.specs.Prelude.{◌≡◌, ◌≤◌, ◌<◌, ◌⊎◌, ℕ, nat_le, true, Some, List, map, length, slice_get, option_map, unwrap_or, All, Contains}
use Rattle.kl1_model.specs.State.{is_living}
use Rattle.kl1_shoen_paths.specs.declared.shoen.Shoen.{Shoen}
use Rattle.kl1_shoen_paths.specs.declared.tracked.Was.{Was}
use Rattle.kl1_shoen.specs.declared.shift.Shift.{Shift}
use Rattle.kl1_shoen.specs.Shoens.{Tree, shoen_in, is_exhausted_in, is_enabled_at, is_on_path_in}

-- the numbers of the shoens that are told of
abbrev pub shoens_of : List Shift → List ℕ
shoens_of shifts = map (λ s. s.shoen) shifts

-- each of these tells rightly whether the shoen's goals are enabled
abbrev pub AreRight : {N : Type 0} → Tree N → List Shift → Type 0
AreRight t shifts = All (λ s. s.is_enabled ≡ is_enabled_at t.shoens t.work s.shoen) shifts

-- each of these tells rightly whether the shoen's goals are enabled; and if a shoen that was there when the event began isn't among them, its
-- goals are enabled just if they were so then
pub record AreShifts {N : Type 0} (t : Tree N) (shifts : List Shift) : Type 0 where
  pub right : AreRight t shifts
  pub whole : (n : ℕ) → 0 < n → n ≤ length t.kept → (Contains (shoens_of shifts) n → ⊥) → is_enabled_at t.shoens t.work n ≡ is_enabled_at t.kept t.kept_work n

-- more of these stay right, and none is lost
pub record Adds {N : Type 0} (t : Tree N) (before after : List Shift) : Type 0 where
  pub right : AreRight t before → AreRight t after
  pub keeps : (n : ℕ) → Contains (shoens_of before) n → Contains (shoens_of after) n

-- the number of the parent of shoen `n`
abbrev pub parent_in : {N : Type 0} → List (Shoen N) → ℕ → ℕ
parent_in shoens n = unwrap_or (option_map (λ h. h.parent) (shoen_in n shoens)) 0

-- it is told of shoen `number` and all below it, unless goals of its parent are held back
abbrev pub Covers : {N : Type 0} → Tree N → ℕ → List Shift → Type 0
Covers t number shifts =
    is_enabled_at t.shoens t.work (parent_in t.shoens number) ≡ true → (n : ℕ) → 0 < n → n ≤ length t.shoens → is_on_path_in t.shoens number n ≡ true → Contains (shoens_of shifts) n

-- two shoens hold back goals alike if they were charged alike
pub record HoldAlike {N : Type 0} (a b : Shoen N) : Type 0 where
  pub stopped : a.is_stopped ≡ b.is_stopped
  pub living : is_living a.life ≡ is_living b.life
  pub allowance : a.allowance ≡ b.allowance

-- a shoen was changed so that it holds back goals as before, or it is told of it and of all below it
abbrev pub CoversChange : {N : Type 0} → Tree N → List Shift → Was (Shoen N) → Type 0
CoversChange t shifts w = (h : Shoen _) → slice_get t.shoens w.place ≡ Some h → HoldAlike w.value h ⊎ Covers t h.number shifts

-- a shoen was charged so that it is exhausted or not as before, or it is told of it and of all below it
abbrev pub CoversCharge : {N : Type 0} → Tree N → List Shift → Was ℕ → Type 0
CoversCharge t shifts w = (h : Shoen _) → slice_get t.shoens w.place ≡ Some h → (nat_le h.allowance w.value ≡ is_exhausted_in t.shoens t.work h) ⊎ Covers t h.number shifts
