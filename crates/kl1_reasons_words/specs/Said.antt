-- What lines of words say.
use Rattle.std.specs.Prelude.{◌≡◌, ℕ, List, [], ◌∷◌, ◌++◌, decimal}
use Rattle.kl1_reasons_words.specs.declared.finding.Say.{Say}
use Rattle.kl1_reasons_words.specs.declared.finding.Say.TheVariants.{Text, Number}
use Rattle.kl1_reasons_words.specs.declared.finding.Finding.{Finding}

-- the bytes of a part
abbrev pub part_said : Say → List ℕ
part_said (Text bytes) = bytes.now
part_said (Number n) = decimal n

-- the bytes of parts, one after another
abbrev pub said_of : List Say → List ℕ
said_of [] = []
said_of (p ∷ ps) = part_said p ++ said_of ps

-- a finding at a place says these words
pub record Finds (at : ℕ) (why : List ℕ) (f : Finding) : Type 0 where
  pub place : f.at ≡ at
  pub words : f.words.why.items ≡ why
