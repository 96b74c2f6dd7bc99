use Rattle.std.proofs.Common.{◌-◌, ◌*◌, ◌≤◌, length}
use Rattle.kl1_text.specs.Words.{bytes_of}
use Rattle.kl1_text.proofs.atom_text.AtomText.words.Given as goal

-- each word before the next is full
abbrev pub invariant-loop-count : goal.invariant-loop-count
invariant-loop-count l = 8 * (l.count - 1) ≤ length (bytes_of l.words)
