use Rattle.kl1_model_server.proofs.TextEntries.{entries_read_back, strict_lines_are_entries}
use Rattle.kl1_model_server.proofs.TextNames.{names_read_back, strict_lines_are_names, headings_read_back, strict_lines_are_headings}
use Rattle.kl1_model_server.proofs.TextLines.{lines_of_lines, texts_are_lines}
use Rattle.kl1_model_server.proofs.TextJournals.{journals_read_back, strict_texts_are_journals}
use Rattle.kl1_model_server.proofs.journal_texts_read_back.Goals as goal

pub returns-clause-entries : goal.returns-clause-entries
returns-clause-entries c = entries_read_back

pub returns-clause-strict_entries : goal.returns-clause-strict_entries
returns-clause-strict_entries c = strict_lines_are_entries

pub returns-clause-names : goal.returns-clause-names
returns-clause-names c = names_read_back

pub returns-clause-strict_names : goal.returns-clause-strict_names
returns-clause-strict_names c = strict_lines_are_names

pub returns-clause-headings : goal.returns-clause-headings
returns-clause-headings c = headings_read_back

pub returns-clause-strict_headings : goal.returns-clause-strict_headings
returns-clause-strict_headings c = strict_lines_are_headings

pub returns-clause-lines : goal.returns-clause-lines
returns-clause-lines c = lines_of_lines

pub returns-clause-texts : goal.returns-clause-texts
returns-clause-texts c = texts_are_lines

pub returns-clause-journals : goal.returns-clause-journals
returns-clause-journals c = journals_read_back

pub returns-clause-strict_journals : goal.returns-clause-strict_journals
returns-clause-strict_journals c = strict_texts_are_journals
