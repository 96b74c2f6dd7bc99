use Rattle.kl1_ready.proofs.Words.{subst, IfOk-weaker, taken_places, IsTaskIn}
use Rattle.kl1_ready.proofs.planning.plan_of.Goals as goal

pub returns-in-Monitor : goal.returns-in-Monitor
returns-in-Monitor g c w rules shoens = c.plan_reading.ensures c.args.modules.now w (taken_places c.args.trial.now) c.args.trial.now.text shoens

pub plan_move-requires-clause-cell : goal.plan_move-requires-clause-cell
plan_move-requires-clause-cell g c = subst (λ t. IsTaskIn c.args.store.now.held t) c.in-Reduces.is c.requires.task

pub returns-in-Reduces : goal.returns-in-Reduces
returns-in-Reduces g c = IfOk-weaker c.plan_move.result _ _ (λ o all w rules shoens. all w rules) c.plan_move.ensures

pub plan_substitute-requires-clause-cell : goal.plan_substitute-requires-clause-cell
plan_substitute-requires-clause-cell g c = subst (λ t. IsTaskIn c.args.store.now.held t) c.in-Substitutes.is c.requires.task

pub returns-in-Substitutes : goal.returns-in-Substitutes
returns-in-Substitutes g c w rules shoens = c.plan_substitute.ensures c.args.modules.now w (taken_places c.args.trial.now) c.args.trial.now.text
