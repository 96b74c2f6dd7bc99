-- How a name lies in words: eight bytes a word, the first in the lowest place, and zeros after the last.
use Rattle.std.specs.Prelude.{◌≡◌, ℕ, zero, suc, ◌+◌, ◌*◌, ◌/◌, ◌%◌, ◌==◌, if◌then◌else◌, List, [], ◌∷◌, ◌++◌, length, drop, IsTrue}
use Rattle.kl1_model.specs.Text.{is_text}
use Rattle.kl1_text.specs.declared.packing.TheConstants.{WORDS}

-- how many words hold a name: so many that a zero byte is left after the longest
abbrev pub name_words : ℕ
name_words = WORDS

-- at most `n` bytes as a number, the first in the lowest place
unfoldable pub number_of : ℕ → List ℕ → ℕ
number_of zero bs = 0
number_of (suc n) [] = 0
number_of (suc n) (b ∷ bs) = b + 256 * number_of n bs

-- the bytes of `w`, the lowest first: `n`, or up to the first zero
unfoldable pub bytes_in : ℕ → ℕ → List ℕ
bytes_in zero w = []
bytes_in (suc n) w = if w % 256 == 0 then [] else w % 256 ∷ bytes_in n (w / 256)

-- `n` words, which hold bytes
unfoldable pub words_of : ℕ → List ℕ → List ℕ
words_of zero bs = []
words_of (suc n) bs = number_of 8 bs ∷ words_of n (drop 8 bs)

-- the bytes that words hold
unfoldable pub bytes_of : List ℕ → List ℕ
bytes_of [] = []
bytes_of (w ∷ ws) = bytes_in 8 w ++ bytes_of ws

-- word `k` of bytes, from 0
abbrev pub word_at : List ℕ → ℕ → ℕ
word_at bs k = number_of 8 (drop (8 * k) bs)

-- how many words a name takes: those that it fills, and the one in which it ends, whose highest byte is zero
abbrev pub word_count : List ℕ → ℕ
word_count t = length t / 8 + 1

-- the words of a name, up to the one in which it ends
abbrev pub words_to_end : List ℕ → List ℕ
words_to_end t = words_of (word_count t) t

-- a word holds a name of at most eight bytes
pub record HoldsName (w : ℕ) : Type 0 where
  pub same : w ≡ number_of 8 (bytes_in 8 w)
  pub name : IsTrue (is_text (bytes_in 8 w))
