-- The strict form, by the lemmas on goals that were read.
use Rattle.kl1_model_server.proofs.ReadStrict.{goals_read_are_printable, strict_texts_are_prints}
use Rattle.kl1_model_laws.proofs.reading.strict_texts_are_prints.Goals as goal

pub returns-clause-read : goal.returns-clause-read
returns-clause-read c = goals_read_are_printable

pub returns-clause-strict : goal.returns-clause-strict
returns-clause-strict c = strict_texts_are_prints
