-- The lines in which reasons are told.
use Rattle.std.specs.Prelude.{◌≡◌, List, [], ◌∷◌, ◌++◌, ℕ, codes, decimal, Vec}
use Rattle.std.specs.declared.alloc.Global.{Global}
use Rattle.kl1_reasons.specs.declared.modules.TheConstants.{MOST_REASONS}
use Rattle.kl1_reasons.specs.declared.reason.Reason.{Reason}
use Rattle.kl1_reasons.specs.Reasons.{Explains}

-- a line for each hint
abbrev pub hint_lines : List (Vec ℕ Global) → List ℕ
hint_lines [] = []
hint_lines (h ∷ hs) = codes "    hint: " ++ h.items ++ 10 ∷ hint_lines hs

-- the lines of a reason: where it stands in the file of a name, of what severity it is, and why; then its hints
abbrev pub lines_of : List ℕ → List ℕ → Reason → List ℕ
lines_of name severity r =
    name ++ codes ":" ++ decimal r.place.line ++ codes ":" ++ decimal r.place.column ++ codes ": " ++ severity ++ codes ": " ++ r.words.why.items ++ 10 ∷ hint_lines r.words.hints.items

-- the lines of reasons, one after another
abbrev pub lines_of_each : List ℕ → List ℕ → List Reason → List ℕ
lines_of_each name severity [] = []
lines_of_each name severity (r ∷ rs) = lines_of name severity r ++ lines_of_each name severity rs

-- what is told of a source in the file of a name: why it is refused, and nothing if it isn't
pub record TellsReasons (name text told : List ℕ) : Type 0 where
  pub reasons : List Reason
  pub explains : Explains MOST_REASONS text reasons
  pub lines : told ≡ lines_of_each name (codes "error") reasons

-- what is told of a source was put after bytes
abbrev pub PutsReasons : List ℕ → List ℕ → List ℕ → List ℕ → Type 0
PutsReasons name text old new = (told : List ℕ) × TellsReasons name text told × (new ≡ old ++ told)
