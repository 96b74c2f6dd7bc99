use Rattle.std.proofs.Common.{◌≡◌, drop}
use Rattle.kl1_atoms.specs.Names.{text_in}
use Rattle.kl1_atoms.proofs.plain_table.text_in.Given as goal

-- what is left gives the answer of all
abbrev pub invariant-loop-one : goal.invariant-loop-one
invariant-loop-one l = text_in (drop l.one-index l.known) l.number.number ≡ text_in l.known l.number.number
