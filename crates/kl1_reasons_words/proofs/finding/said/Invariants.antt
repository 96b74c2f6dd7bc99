use Rattle.std.proofs.Common.{◌≡◌, ◌++◌, length}
use Rattle.kl1_reasons_words.specs.Said.{said_of}
use Rattle.kl1_reasons_words.proofs.finding.said.Given as goal

-- what is said so far, and what the parts that are left say, is all
abbrev pub invariant-loop-rest : goal.invariant-loop-rest
invariant-loop-rest l = l.line.items ++ said_of l.rest ≡ said_of l.parts

abbrev pub decreases-loop-rest : goal.decreases-loop-rest
decreases-loop-rest l = length l.rest
