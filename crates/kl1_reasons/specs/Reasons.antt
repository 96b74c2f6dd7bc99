-- What reasons say of a text, in the words of the reader's definitions.
use Rattle.std.specs.Prelude.{◌≡◌, ℕ, zero, suc, ◌==◌, ◌≤◌, nat_le, Bool, true, false, IsTrue, List, [], ◌∷◌, ◌++◌, length, take, drop, filter, All, codes, Option, Some, None}
use Rattle.kl1_model.specs.declared.limits.TheConstants.{MOST_SOURCE_BYTES}
use Rattle.kl1_model.specs.Module.{Reading, good, bad, read_module, read_goal}
use Rattle.kl1_reasons.specs.declared.reason.Reason.{Reason}
use Rattle.kl1_reasons_items.specs.declared.within.Within.TheVariants.{Plain}
use Rattle.kl1_reasons_items.specs.Places.{first_place, place_of}
use Rattle.kl1_reasons_items.specs.Items.{behind_item, front_behind}

-- whether a text is what it is read as
abbrev pub is_good : {A : Type 0} → Reading A → Bool
is_good (good x) = true
is_good (bad line) = false

-- the line feeds among bytes
abbrev pub line_feeds : List ℕ → List ℕ
line_feeds bs = filter (λ b. b == 10) bs

-- a text whose front is given up, if any is: what is left of it is judged as a module of its own, on the lines on which it stands
abbrev pub text_from : List ℕ → Option ℕ → List ℕ
text_from text None = text
text_from text (Some front) = codes ":- module m." ++ line_feeds (take front text) ++ drop front text

-- a reason tells of an item that begins on its line, and what it tells of stands in that item or at its end
pub record IsInItem (text : List ℕ) (r : Reason) : Type 0 where
  pub begins : (place_of text r.start).line ≡ r.line
  pub ends : drop r.end text ≡ behind_item Plain (drop r.start text)
  pub after_start : r.start ≤ r.at
  pub before_end : r.at ≤ r.end
  pub within : r.end ≤ length text
  pub place : r.place ≡ place_of text r.at

-- the next reason for a text whose front is given up: none exactly if what is left is a module, or else one for its first bad item
abbrev pub IsNext : List ℕ → Option ℕ → Option Reason → Type 0
IsNext text front None = IsTrue (is_good (read_module (text_from text front)))
IsNext text front (Some r) = (read_module (text_from text front) ≡ bad r.line) × IsInItem text r

-- reasons for a text whose front is given up: the next one, and then those for what is after its item; none is missing unless there are `most`
abbrev pub Explain : ℕ → List ℕ → Option ℕ → List Reason → Type 0
Explain zero text front rs = rs ≡ []
Explain (suc most) text front [] = IsNext text front None
Explain (suc most) text front (r ∷ rs) = IsNext text front (Some r) × Explain most text (Some (front_behind text r.end)) rs

-- one reason, which tells of the text's first byte
abbrev pub IsAtFront : List Reason → Type 0
IsAtFront rs = (length rs ≡ 1) × All (λ r. r.place ≡ first_place) rs

-- the reasons why a source is refused: one if it has too many bytes, or else those for its bad items
abbrev pub Explains : ℕ → List ℕ → List Reason → Type 0
Explains most text rs = elim (nat_le (length text) MOST_SOURCE_BYTES) [ true ↦ Explain most text None rs | false ↦ IsAtFront rs ]

-- there is a reason why a text is no goal exactly if it is none, on the line that the reader names, and it tells of a place in the text
abbrev pub ExplainsGoal : List ℕ → Option Reason → Type 0
ExplainsGoal text None = IsTrue (is_good (read_goal text))
ExplainsGoal text (Some r) = (read_goal text ≡ bad r.line) × (r.at ≤ length text) × (r.place ≡ place_of text r.at)

-- what is told of a text has a place in it
pub record IsPlaced (text : List ℕ) (r : Reason) : Type 0 where
  pub within : r.at ≤ length text
  pub place : r.place ≡ place_of text r.at
