-- What is written for the bytes that are replayed: the text of a journal, or a host's file, in which each line has a sum.
use Rattle.std.specs.Prelude.{◌≡◌, ℕ, List, ◌∷◌, Some}
use Rattle.kl1_model_server.specs.JournalText.{Heading, lines_of, heading_in}
use Rattle.kl1_model_server.specs.Replay.{replay_output}
use Rattle.kl1_sums.specs.Sums.{plain_text}
use Rattle.kl1_script.specs.Replays.{replay_replies}

-- what is written for these bytes
abbrev pub file_output : List ℕ → List ℕ
file_output text = replay_output (plain_text text)

-- the reply to each entry of the journal that they have
abbrev pub file_replies : List ℕ → List (List ℕ)
file_replies text = replay_replies (plain_text text)

-- a text that begins with the first line of a journal has no sums: it is replayed as it stands
abbrev pub TextsStay : Type 0
TextsStay = (text line : List ℕ) (lines : List (List ℕ)) (h : Heading) → (lines_of text).whole ≡ line ∷ lines → heading_in line ≡ Some h → (file_output text ≡ replay_output text) × (file_replies text ≡ replay_replies text)
