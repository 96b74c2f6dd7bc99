use Rattle.std.proofs.Common.{◌≡◌, ◌*◌, ◌≤◌, ◌++◌, length, drop}
use Rattle.kl1_text.specs.Words.{bytes_of}
use Rattle.kl1_text.proofs.atom_text.AtomText.unpack.Given as goal

-- the bytes so far and those of the words that are left are all bytes
abbrev pub invariant-loop-word : goal.invariant-loop-word
invariant-loop-word l = record {
  whole : l.out ++ bytes_of (drop l.word-index l.word-items) ≡ bytes_of l.word-items;
  short : length l.out ≤ 8 * l.word-index;
}
