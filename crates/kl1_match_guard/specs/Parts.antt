-- What a term is as a part of an expression.
use Rattle.std.specs.Prelude.{◌≡◌, ℕ, zero, suc}
use Rattle.kl1_model.specs.Term.{Term}
use Rattle.kl1_model.specs.Arithmetic.{number, with_left, scan, Scanned}
use Rattle.kl1_match_guard.specs.declared.part.Part.{Part}
use Rattle.kl1_match_guard.specs.declared.part.Part.TheVariants.{Variable, Integer, Operation, Other}
use Rattle.kl1_model.specs.Found.{Found, found, awaits, wrong}

-- what is found in a part, if there may be this many operators, variables have these numbers, and these terms stand there
abbrev pub part_scan : {V A : Type 0} → (V → ℕ) → (A → Term) → ℕ → Part V A → Found Scanned
part_scan number_of term n (Variable v) = awaits (number_of v)
part_scan number_of term n (Integer i) = found (record { expression = number i; operators_left = n })
part_scan number_of term zero (Operation o a b) = wrong
part_scan number_of term (suc n) (Operation o a b) = with_left o (scan n (term a)) (λ left. scan left (term b))
part_scan number_of term n Other = wrong

-- a term in which a scan finds what it finds in such a part
abbrev pub ScansAs : {V A : Type 0} → (V → ℕ) → (A → Term) → Term → Part V A → Type 0
ScansAs number_of term t part = (n : ℕ) → scan n t ≡ part_scan number_of term n part

-- a part whose variable is unbound, and at whose places terms stand
abbrev pub IsPartIn : {V A : Type 0} → (V → Type 0) → (A → Type 0) → Part V A → Type 0
IsPartIn IsFree IsAt (Variable v) = IsFree v
IsPartIn IsFree IsAt (Integer i) = Unit {0}
IsPartIn IsFree IsAt (Operation o a b) = IsAt a × IsAt b
IsPartIn IsFree IsAt Other = Unit {0}
