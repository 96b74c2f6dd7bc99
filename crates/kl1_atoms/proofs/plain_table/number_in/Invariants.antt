use Rattle.std.proofs.Common.{◌≡◌, drop}
use Rattle.kl1_atoms.specs.Names.{number_in}
use Rattle.kl1_atoms.proofs.plain_table.number_in.Given as goal

-- what is left gives the answer of all
abbrev pub invariant-loop-one : goal.invariant-loop-one
invariant-loop-one l = number_in (drop l.one-index l.known) l.text ≡ number_in l.known l.text
