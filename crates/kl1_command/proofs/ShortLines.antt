-- A line that isn't too long is the command of its first word.
use Rattle.std.proofs.Common.{◌≡◌, ℕ, ◌≤◌, Bool, if◌then◌else◌, List, length, Option, None, ap, sym, ◌∙◌}
use Rattle.std.proofs.lemmas.Bool.{le-leb}
use Rattle.kl1_model.specs.declared.limits.TheConstants.{MOST_COMMAND_BYTES}
use Rattle.kl1_model.specs.declared.rules.Rules.{Rules}
use Rattle.kl1_model.specs.Line.{word_in, behind_word_in}
use Rattle.kl1_model_server.specs.Command.{Command, parse, command_by}

-- a command, if a test holds
if_short : Bool → Option Command → Option Command
if_short b o = if◌then◌else◌ {A = Option Command} b o None

pub short_line : (rules : Rules) (line word behind : List ℕ) → length line ≤ MOST_COMMAND_BYTES → word ≡ word_in line → behind ≡ behind_word_in line → command_by rules word behind ≡ parse rules line
unfolding if_short
short_line rules line word behind few w b =
    ap (λ (x : List ℕ). command_by rules x behind) w
    ∙ (ap (λ (x : List ℕ). command_by rules (word_in line) x) b ∙ sym (ap (λ (x : Bool). if_short x (command_by rules (word_in line) (behind_word_in line))) (le-leb (length line) MOST_COMMAND_BYTES few)))
