-- Variables by the numbers that an answer tells.
use Rattle.std.specs.Prelude.{◌≡◌, ℕ, true, List, drop}
use Rattle.std.specs.HashMap.{HashMap}
use Rattle.kl1_model.specs.Token.{number_of}
use Rattle.kl1_model.specs.Telling.{is_told, told_number, others_after}
use Rattle.kl1_read.specs.Spellings.{Finds}

-- a variable tells this number
pub record Tells (v : List ℕ) (n : ℕ) : Type 0 where
  pub told : is_told v ≡ true
  pub value : n ≡ number_of (drop 1 v)

-- a spelling has its number as it is told, and the numbers of those seen now are found
pub record IsTold {S : Type 0} (numbers : HashMap (List ℕ) ℕ S) (before now : List (List ℕ)) (v : List ℕ) (n : ℕ) : Type 0 where
  pub finds : Finds numbers now
  pub value : n ≡ told_number before v
  pub seen : now ≡ others_after before v
