-- What lists of codes spell, told of cells.
use Rattle.std.specs.Prelude.{◌≡◌, ℕ, ◌-◌, ◌<◌, IsTrue, if◌then◌else◌, List, [], ◌∷◌, ◌++◌, Option, Some, None}
use Rattle.kl1_model.specs.Text.{is_name_byte, is_text}
use Rattle.kl1_model.specs.Look.{spelling}
use Rattle.kl1_model.specs.Term.{Term}
use Rattle.kl1_store.specs.declared.cell.Cell.{Cell}
use Rattle.kl1_store.specs.declared.cell.Cell.TheVariants.{Variable, Integer, Atom, Structure}
use Rattle.kl1_store.specs.Held.{Held, IsIn}
use Rattle.kl1_store.specs.Meaning.{term_of}
use Rattle.kl1_match.specs.Waiting.{IsUnbound}
use Rattle.kl1_goals_moves.specs.Looks.{whole_of}
use Rattle.kl1_goals_moves.specs.declared.spelling.Spelling.{Spelling}
use Rattle.kl1_goals_moves.specs.declared.spelling.Spelling.TheVariants.{Spelled, Waits, Misspelled}
use Rattle.kl1_goals_moves.specs.declared.codes.Code.{Code}
use Rattle.kl1_goals_moves.specs.declared.codes.Code.TheVariants as code
use Rattle.kl1_goals_moves.specs.declared.codes.Front.{Front}
use Rattle.kl1_goals_moves.specs.declared.codes.Front.TheVariants as front
use Rattle.kl1_model.specs.Found.{Found, found, awaits, wrong, found_map}

-- a spelling as in the definitions, if this is the text that is spelled
abbrev pub spelling_of : Spelling → List ℕ → Found (List ℕ)
spelling_of Spelled text = found text
spelling_of (Waits v) text = awaits v
spelling_of Misspelled text = wrong

-- what is spelled is a name, and the variable that is waited for is unbound
abbrev pub SpellingIn : {N : Type 0} → Held N → List ℕ → Spelling → Type 0
SpellingIn h text Spelled = IsTrue (is_text text)
SpellingIn h text (Waits v) = IsUnbound h v
SpellingIn h text Misspelled = Unit {0}

-- a text in front of what is spelled after it
abbrev pub spelled_after : List ℕ → Found (List ℕ) → Found (List ℕ)
spelled_after text (found more) = found (text ++ more)
spelled_after text (awaits v) = awaits v
spelled_after text wrong = wrong

-- the byte of a name that a number is
abbrev pub code_in : Option ℕ → Code
code_in (Some n) = if is_name_byte n then code.Byte n else code.Wrong
code_in None = code.Wrong

-- an element of a list of codes, by what stands at its top
abbrev pub code_by : {N : Type 0} → Cell N → Code
code_by (Variable v) = code.Waits v
code_by (Integer i) = code_in (whole_of i)
code_by (Atom a) = code.Wrong
code_by (Structure s) = code.Wrong

-- an element in front of the rest of a list
abbrev pub front_by : {N : Type 0} → Code → Cell N → Front N
front_by (code.Byte n) rest = front.Code n rest
front_by (code.Waits v) rest = front.Waits v
front_by code.Wrong rest = front.Wrong

-- what a list of codes comes to that may have `left` cells more, by its front
abbrev pub HasFront : {N : Type 0} → (N → List ℕ) → Held N → ℕ → Term → Front N → Type 0
HasFront f h left t front.Ends = spelling left t ≡ found []
HasFront f h left t (front.Waits v) = spelling left t ≡ awaits v
HasFront f h left t front.Wrong = spelling left t ≡ wrong
HasFront f h left t (front.Code n rest) = spelling left t ≡ found_map (λ text. n ∷ text) (spelling (left - 1) (term_of f h rest))

-- a byte is one of a name, before which there was room for one; the rest is of the store, and a variable is unbound
abbrev pub FrontIn : {N : Type 0} → Held N → ℕ → Front N → Type 0
FrontIn h left front.Ends = Unit {0}
FrontIn h left (front.Waits v) = IsUnbound h v
FrontIn h left front.Wrong = Unit {0}
FrontIn h left (front.Code n rest) = (0 < left) × (IsTrue (is_name_byte n) × IsIn h rest)
