-- Where a look-up of a name starts.
use Rattle.std.specs.Prelude.{ℕ, ◌+◌, ◌*◌, ◌/◌, ◌%◌, List, [], ◌∷◌}
use Rattle.kl1_text.specs.Words.{words_to_end}

-- words mixed into one of 64 bits, one after another: each is added, and the sum multiplied by 2 ^ 64 over the golden ratio
abbrev pub mixed : ℕ → List ℕ → ℕ
mixed a [] = a
mixed a (w ∷ ws) = mixed ((a + w) % 18446744073709551616 * 11400714819323198485 % 18446744073709551616) ws

-- the bucket where a look-up of a text starts, by its words up to the one in which it ends, among two for each of n entries: as far along
-- them as the mix's upper half is along its 2 ^ 32 values
unfoldable pub start : ℕ → List ℕ → ℕ
start n t = mixed 0 (words_to_end t) / 4294967296 * (2 * n) / 4294967296

-- the bucket that many further on, round the end
abbrev pub further : ℕ → List ℕ → ℕ → ℕ
further n t d = (start n t + d) % (2 * n)
