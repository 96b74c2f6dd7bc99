use Rattle.std.proofs.Common.{◌≡◌, drop}
use Rattle.kl1_atoms.specs.Way.{mixed}
use Rattle.kl1_atoms.proofs.walking.mixed.Given as goal

-- what is left gives the word of all
abbrev pub invariant-loop-word : goal.invariant-loop-word
invariant-loop-word l = mixed l.number (drop l.word-index l.words) ≡ mixed 0 l.words
