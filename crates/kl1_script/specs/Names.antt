-- How the lines of names are read.
use Rattle.std.specs.Prelude.{◌≡◌, ◌+◌, ◌≤◌, ℕ, List, [], length}
use Rattle.kl1_model.specs.declared.rules.Rules.{Rules}
use Rattle.kl1_model_server.specs.JournalText.{Lines, lines_of}
use Rattle.kl1_model_server.specs.Replay.{written_names, written_fault}
use Rattle.kl1_user.specs.Accounts.{IsNameList}
use Rattle.kl1_script.specs.Replays.{name_replies}
use Rattle.kl1_script.specs.declared.names.Named.{Named}
use Rattle.kl1_script.specs.declared.names.Named.TheVariants as named

-- after names, `count` lines of names from line k on go on as `more` lines of names from line j on after others
pub record GoesOn (count k : ℕ) (names : List (List ℕ)) (ls : Lines) (more j : ℕ) (others : List (List ℕ)) (rest : Lines) : Type 0 where
  pub written : (rules : Rules) (sessions : ℕ) → written_names count k rules sessions names ls.whole ls.rest ≡ written_names more j rules sessions others rest.whole rest.rest
  pub replies : (rules : Rules) (sessions : ℕ) → name_replies count rules sessions names ls.whole ≡ name_replies more rules sessions others rest.whole

-- `count` lines of names end in the fault of a line
abbrev pub EndsAt : ℕ → Lines → ℕ → Type 0
EndsAt count ls line = (rules : Rules) (sessions : ℕ) → written_names count 2 rules sessions [] ls.whole ls.rest ≡ written_fault line

-- these are the names that may be used, and the entries follow
pub record AreRead (count : ℕ) (text : List ℕ) (names : List (List ℕ)) (rest : List ℕ) : Type 0 where
  pub on : GoesOn count 2 [] (lines_of text) 0 (2 + count) names (lines_of rest)
  pub counts : length names ≡ count
  pub list : IsNameList names
  pub within : length rest ≤ length text

-- `count` lines of names are these names, or the line of this number is a fault
abbrev pub IsNamed : ℕ → List ℕ → Named → Type 0
IsNamed count text (named.All names rest) = AreRead count text names.items rest.now
IsNamed count text (named.Fault line) = EndsAt count (lines_of text) line
