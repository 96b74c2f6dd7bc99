-- What operations that wait for an operand make of it.
use Rattle.std.specs.Prelude.{◌≡◌, ℕ, List, [], ◌∷◌, ◌++◌}
use Rattle.kl1_model.specs.declared.built_in.BuiltIn.{BuiltIn}
use Rattle.kl1_model.specs.declared.number.Number.{Number}
use Rattle.kl1_model.specs.declared.number.Number.TheVariants.{Value}
use Rattle.kl1_model.specs.declared.operator.Operator.{Operator}
use Rattle.kl1_model.specs.Term.{Term}
use Rattle.kl1_model.specs.Arithmetic.{scan, applied, compute, evaluated, Scanned}
use Rattle.kl1_text.specs.Reading.{Reads}
use Rattle.kl1_match_guard.specs.declared.pending.Pending.{Pending}
use Rattle.kl1_match_guard.specs.declared.pending.Pending.TheVariants.{Right, With, Apply}
use Rattle.kl1_match_guard.specs.declared.carrying.Carried.{Carried}
use Rattle.kl1_match_guard.specs.declared.carrying.Carried.TheVariants.{To, Whole}
use Rattle.kl1_model.specs.Found.{Found, found, awaits, wrong}

-- what a scan comes to, if what it finds goes further on as a number, with the operators that there might still have been
abbrev pub going_on : Found Scanned → (Number → ℕ → Found Number) → Found Number
going_on (found a) next = next (compute a.expression) a.operators_left
going_on (awaits v) next = awaits v
going_on wrong next = wrong

-- what a number comes to after an operation that waits for it
abbrev pub after_one : {A : Type 0} → (A → Term) → Pending A → (Number → ℕ → Found Number) → Number → ℕ → Found Number
after_one term (Right o b) next = λ x left. going_on (scan left (term b)) (λ y more. next (applied o x y) more)
after_one term (With o i) next = λ x left. next (applied o x (Value i)) left
after_one term (Apply o x) next = λ y left. next (applied o x y) left

-- what a number comes to after operations, the last of them first
abbrev pub after_from : {A : Type 0} → (A → Term) → (Number → ℕ → Found Number) → List (Pending A) → Number → ℕ → Found Number
after_from term next [] = next
after_from term next (p ∷ ps) = after_from term (after_one term p next) ps

-- what a number comes to after all operations that wait
abbrev pub after : {A : Type 0} → (A → Term) → List (Pending A) → Number → ℕ → Found Number
after term ps = after_from term (λ x left. found x) ps

-- the right operands that weren't looked at yet
abbrev pub rights_of : {A : Type 0} → List (Pending A) → List A
rights_of [] = []
rights_of (Right o b ∷ ps) = b ∷ rights_of ps
rights_of (With o i ∷ ps) = rights_of ps
rights_of (Apply o x ∷ ps) = rights_of ps

-- this waits for the left operand of an operation whose right operand stands there
abbrev pub IsPending : {A : Type 0} → (A → Term) → Operator → A → Pending A → Type 0
IsPending term o b p = (next : Number → ℕ → Found Number) → after_one term p next ≡ after_one term (Right o b) next

-- what the whole comes to is what comes of the operand to which a number leads, or the number
abbrev pub CarriesAs : {A : Type 0} → (A → Term) → ℕ → Found Number → Carried A → List (Pending A) → Type 0
CarriesAs term left e (To b) ps = e ≡ going_on (scan left (term b)) (after term ps)
CarriesAs term left e (Whole x) ps = e ≡ found x

-- an operand to which a number leads is the last of those that weren't looked at yet
abbrev pub TakesRight : {A : Type 0} → List A → List A → Carried A → Type 0
TakesRight before now (To b) = before ≡ now ++ b ∷ []
TakesRight before now (Whole x) = Unit {0}

-- a number after some operations comes to what another one comes to after others
abbrev pub ComesToSame : {A : Type 0} → List (Pending A) → Number → List (Pending A) → Number → Type 0
ComesToSame {A = A} ps x qs y = (term : A → Term) (left : ℕ) → after term ps x left ≡ after term qs y left

-- what comes of a term after operations is what a whole term comes to, however names are read
abbrev pub IsRestOf : {N A : Type 0} → (BuiltIn → N) → ((N → List ℕ) → A → Term) → A → A → ℕ → List (Pending A) → Type 0
IsRestOf {N = N} built term whole at left ps = (f : N → List ℕ) → Reads built f → going_on (scan left (term f at)) (after (term f) ps) ≡ evaluated (term f whole)
