-- Rows whose variables rise.
use Rattle.std.proofs.Common.{◌≡◌, ℕ, true, List, [], ◌∷◌}
use Rattle.std.specs.Prelude.{nat_lt}
use Rattle.std.proofs.lemmas.Bool.{and_parts, ltb-true}
use Rattle.kl1_clause.specs.declared.instruction.Instruction.{Instruction}
use Rattle.kl1_clause.specs.declared.instruction.Instruction.TheVariants.{Variable, Integer, Atom, Structure}
use Rattle.kl1_clause.specs.Plain.{AreRising, is_rising}

pub rising : (n : ℕ) (row : List Instruction) → is_rising n row ≡ true → AreRising n row
rising n [] e = tt
rising n (Variable v ∷ is) e = let k = and_parts (nat_lt n v) (is_rising v is) e in (ltb-true n v k.0, rising v is k.1)
rising n (Integer i ∷ is) e = rising n is e
rising n (Atom a ∷ is) e = rising n is e
rising n (Structure a count ∷ is) e = rising n is e
