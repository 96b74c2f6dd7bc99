-- What a table keeps, as a whole, and what it was when an event began.
use Rattle.std.specs.Prelude.{◌≡◌, ℕ, suc, ◌≤◌, not, List, length, map, take}
use Rattle.std.specs.List.{filter}
use Rattle.kl1_shoen_paths.specs.Tracked.{put_back}
use Rattle.kl1_goals.specs.declared.slot.Slot.{Slot}
use Rattle.kl1_goals.specs.declared.tally.Tally.{Tally}
use Rattle.kl1_goals.specs.declared.begun.Begun.{Begun}
use Rattle.kl1_goals.specs.Lists.{is_monitor}
use Rattle.kl1_goals.specs.Slots.{goals_in, numbers_of, rank_in, AreBelow, AreSlots}
use Rattle.kl1_goals.specs.Tallies.{tally_at, IsTally}
use Rattle.kl1_goals.specs.Chains.{AreChained}

-- what a table keeps: its places with their ranks, of which `empty` are empty, its shoens, how many goals it has other than monitors, and the
-- greatest number of a goal that was put
pub record Parts (N : Type 0) : Type 0 where
  pub slots : List (Slot N)
  pub empty : ℕ
  pub ranks : List ℕ
  pub tallies : List Tally
  pub alive : ℕ
  pub last : ℕ

abbrev pub parts : {N : Type 0} → List (Slot N) → ℕ → List ℕ → List Tally → ℕ → ℕ → Parts N
parts ss empty ranks ts alive last = record { slots = ss; empty = empty; ranks = ranks; tallies = ts; alive = alive; last = last }

-- what a table keeps fits together: no place has a number above the last
pub record IsTable {N : Type 0} (p : Parts N) : Type 0 where
  pub slots : AreSlots p.slots p.empty p.ranks
  pub tallied : (n : ℕ) → IsTally n (goals_in p.slots) (tally_at p.tallies n)
  pub chained : AreChained p.slots p.tallies
  pub alive : p.alive ≡ length (filter (λ g. not (is_monitor g)) (goals_in p.slots))
  pub below : AreBelow (suc p.last) (numbers_of p.slots)

-- the places as they were when the event began, by what they are
abbrev pub places_then : {N : Type 0} → Begun N → List (Slot N) → List (Slot N)
places_then b ss = put_back b.slots.items (take b.places ss)

-- what was kept of each shoen when the event began, by what is kept
abbrev pub kept_then : {N : Type 0} → Begun N → List Tally → List Tally
kept_then b ts = put_back b.tallies.items (take b.shoens ts)

-- what a table kept when the event began
abbrev pub parts_then : {N : Type 0} → Parts N → Begun N → Parts N
parts_then p b = parts (places_then b p.slots) b.empty (map rank_in (places_then b p.slots)) (kept_then b p.tallies) b.alive b.last

-- a table as it is and as it was when the event began
pub record AreTables {N : Type 0} (p : Parts N) (b : Begun N) : Type 0 where
  pub now : IsTable p
  pub was : IsTable (parts_then p b)
  pub places : b.places ≤ length p.slots
  pub shoens : b.shoens ≤ length p.tallies
