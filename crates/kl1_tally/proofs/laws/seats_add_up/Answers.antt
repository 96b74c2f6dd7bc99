use Rattle.std.proofs.Common.{true, false, refl, sym, subst}
use Rattle.kl1_tally.specs.Laws.{CountsOne}
use Rattle.kl1_tally.proofs.AddingUp.{adds_up, counts_one, cut_keeps, join_keeps}
use Rattle.kl1_tally.proofs.laws.seats_add_up.Goals as goal

pub returns-clause-rule : goal.returns-clause-rule
returns-clause-rule c sizes s kept = adds_up sizes.accounts sizes.shares s kept

pub returns-clause-event : goal.returns-clause-event
returns-clause-event c step before after found is = subst (λ me. CountsOne false before.0 me.0) (sym is.0) (counts_one false before.0)

pub returns-clause-step : goal.returns-clause-step
returns-clause-step c step before after found is = subst (λ me. CountsOne true before.0 me.0) (sym is.0) (counts_one true before.0)

pub returns-clause-cut : goal.returns-clause-cut
returns-clause-cut c v = cut_keeps v

pub returns-clause-join : goal.returns-clause-join
returns-clause-join c = (join_keeps, refl, refl, refl, refl)
