use Rattle.std.proofs.Common.{◌≡◌, ◌≤◌, ℕ, vec_capacity, vec_len}
use Rattle.kl1_queue.specs.Bits.{word_of}
use Rattle.kl1_queue.proofs.word.pad.Given as goal

-- what was appended is 0, and there is room for the rest
abbrev pub invariant-loop-at : goal.invariant-loop-at
invariant-loop-at l = (vec_len l.words ≡ l.at) × (l.count ≤ vec_capacity l.words) × ((m : ℕ) → word_of l.words.items m ≡ word_of l.fn.words.items m)
