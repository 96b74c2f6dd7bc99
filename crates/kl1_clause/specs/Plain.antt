-- Clauses of which the match alone decides.
use Rattle.std.specs.Prelude.{◌≡◌, ℕ, ◌<◌, nat_lt, ◌&&◌, Bool, true, List, [], ◌∷◌}
use Rattle.kl1_model.specs.declared.built_in.BuiltIn.TheVariants.{True}
use Rattle.kl1_clause.specs.declared.name.Name.TheVariants.{Language}
use Rattle.kl1_clause.specs.declared.instruction.Instruction.{Instruction}
use Rattle.kl1_clause.specs.declared.instruction.Instruction.TheVariants.{Variable, Integer, Atom, Structure}

-- each variable of a row is greater than those before it and than this one, so that none stands there twice
abbrev pub AreRising : ℕ → List Instruction → Type 0
AreRising n [] = Unit {0}
AreRising n (Variable v ∷ is) = (n < v) × AreRising v is
AreRising n (Integer i ∷ is) = AreRising n is
AreRising n (Atom a ∷ is) = AreRising n is
AreRising n (Structure a count ∷ is) = AreRising n is

-- whether that is so
abbrev pub is_rising : ℕ → List Instruction → Bool
is_rising n [] = true
is_rising n (Variable v ∷ is) = nat_lt n v && is_rising v is
is_rising n (Integer i ∷ is) = is_rising n is
is_rising n (Atom a ∷ is) = is_rising n is
is_rising n (Structure a count ∷ is) = is_rising n is

-- each test of a row is `true`
abbrev pub AreTrue : List Instruction → Type 0
AreTrue [] = Unit {0}
AreTrue (i ∷ is) = (i ≡ Atom (Language True)) × AreTrue is

-- a clause of these rows has no tests but `true`, and its head repeats no variable
pub record IsPlain (patterns tests : List Instruction) : Type 0 where
  pub tests_are : AreTrue tests
  pub rising : AreRising 0 patterns
