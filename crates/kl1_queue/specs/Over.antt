-- Ranks over which a set of places lies, all of one rank.
use Rattle.std.specs.Prelude.{◌≡◌, ℕ, suc, ◌*◌, ◌+◌, ◌<◌, ◌≤◌, ◌==◌, if◌then◌else◌, List, [], ◌∷◌, length, get_or}
use Rattle.kl1_queue.specs.Bits.{bit_of}

-- ranks from place k on, with one rank at each place of the set
abbrev pub overlay : ℕ → List ℕ → ℕ → List ℕ → List ℕ
overlay rank ws k [] = []
overlay rank ws k (r ∷ rs) = (if bit_of ws k == 1 then rank else r) ∷ overlay rank ws (suc k) rs

-- the places of the set have no other rank
pub record IsOver (rank : ℕ) (ws rs : List ℕ) : Type 0 where
  pub beside : (k : ℕ) → bit_of ws k ≡ 1 → get_or rs k 0 ≡ 0
  pub within : (k : ℕ) → bit_of ws k ≡ 1 → k < length rs
  pub some : (k : ℕ) → bit_of ws k ≡ 1 → 0 < rank

-- the places of the set have no other rank, and there is a bit for each place and for all room
pub record IsWide (rank : ℕ) (ws rs : List ℕ) (room : ℕ) : Type 0 where
  pub over : IsOver rank ws rs
  pub wide : length rs + room ≤ 64 * length ws
