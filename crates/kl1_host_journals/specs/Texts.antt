-- What a file holds.
use Rattle.std.specs.Prelude.{◌≡◌, ℕ, List, option_map}
use Rattle.kl1_log.specs.Files.{Known}
use Rattle.kl1_log.specs.Batches.{text_of}

-- this is the text of a file of which something is known
abbrev pub IsTextOf : Known → List ℕ → Type 0
IsTextOf known text = text_of known ≡ option_map (λ _. text) known
