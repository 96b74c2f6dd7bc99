-- Lists that can be put back to what they were.
use Rattle.std.specs.Prelude.{◌≡◌, ◌<◌, ◌≤◌, ◌⊎◌, ℕ, List, [], ◌∷◌, length, get_or, set, Contains}
use Rattle.kl1_shoen_paths.specs.declared.tracked.Was.{Was}

-- a list, what it was when it was last marked, and how many more items and changes it takes without asking for memory
pub record Tracked (A : Type 0) : Type 0 where
  pub now : List A
  pub kept : List A
  pub room : ℕ
  pub changes : ℕ

-- a list after what stood at these places is put back, the last first
abbrev pub put_back : {A : Type 0} → List (Was A) → List A → List A
put_back [] xs = xs
put_back (w ∷ ws) xs = set (put_back ws xs) w.place w.value

-- what a list was is known from what it is and from a trail: it was no longer, and each item was as it is, or the trail has it
pub record IsTrail {A : Type 0} (now kept : List A) (trail : List (Was A)) : Type 0 where
  pub few : length kept ≤ length now
  pub was : (place : ℕ) (a : A) → place < length kept → (get_or kept place a ≡ get_or now place a) ⊎ Contains trail (record { place = place; value = get_or kept place a })
