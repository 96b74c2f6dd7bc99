-- Terms that a text can write.
use Rattle.std.specs.Prelude.{if◌then◌else◌, Option, Some, None}
use Rattle.kl1_model.specs.Term.{Term}
use Rattle.kl1_model.specs.Meaning.{is_writable}

-- a term if a text can write it
abbrev pub writable : Term → Option Term
writable t = if is_writable t then Some t else None
