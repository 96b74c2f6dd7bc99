use Rattle.kl1_sums.proofs.SumsOff.{sums_come_off, fronts_are_fronts, lines_stay}
use Rattle.kl1_sums.proofs.SumTexts.{texts_go_on, journals_stay}
use Rattle.kl1_sums.proofs.sums_come_off.Goals as goal

pub returns-clause-off : goal.returns-clause-off
returns-clause-off c = sums_come_off

pub returns-clause-fronts : goal.returns-clause-fronts
returns-clause-fronts c = fronts_are_fronts

pub returns-clause-lines : goal.returns-clause-lines
returns-clause-lines c = lines_stay

pub returns-clause-more : goal.returns-clause-more
returns-clause-more c = texts_go_on

pub returns-clause-journals : goal.returns-clause-journals
returns-clause-journals c = journals_stay
