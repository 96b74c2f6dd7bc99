-- Printed terms, by the lemmas on their tokens and trees.
use Rattle.kl1_model_server.proofs.ReadBack.{prints_are_tokens, prints_are_terms, printed_goals_read_back, printing_is_one_to_one}
use Rattle.kl1_model_server.proofs.ReadPlain.{prints_are_plain}
use Rattle.kl1_model_laws.proofs.reading.printed_goal_reads_back.Goals as goal

pub returns-clause-plain : goal.returns-clause-plain
returns-clause-plain c = prints_are_plain

pub returns-clause-tokens : goal.returns-clause-tokens
returns-clause-tokens c = prints_are_tokens

pub returns-clause-terms : goal.returns-clause-terms
returns-clause-terms c = prints_are_terms

pub returns-clause-goals : goal.returns-clause-goals
returns-clause-goals c = printed_goals_read_back

pub returns-clause-one_to_one : goal.returns-clause-one_to_one
returns-clause-one_to_one c = printing_is_one_to_one
