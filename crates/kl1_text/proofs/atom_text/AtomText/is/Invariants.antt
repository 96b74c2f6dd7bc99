use Rattle.std.proofs.Common.{◌≡◌, ℕ, ◌<◌, slice_index}
use Rattle.kl1_text.proofs.atom_text.AtomText.is.Given as goal

-- the words so far are the same
abbrev pub invariant-loop-word : goal.invariant-loop-word
invariant-loop-word l = (k : ℕ) → k < l.word → slice_index l.mine k ≡ slice_index l.others k
