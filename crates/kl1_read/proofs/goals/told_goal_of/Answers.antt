use Rattle.std.proofs.Common.{◌≡◌, [], map, ap, subst, IfOk, IfErr, ◌∙◌}
use Rattle.kl1_model.specs.Telling.{told_from}
use Rattle.kl1_model.specs.Module.{good}
use Rattle.kl1_read.specs.Views.{kept_token, numbered_token}
use Rattle.kl1_read.specs.Sources.{IsFaultOf}
use Rattle.kl1_read.proofs.Startables.{told_started_is}
use Rattle.kl1_read.proofs.goals.told_goal_of.Goals as goal

pub returns-clause-goal : goal.returns-clause-goal
returns-clause-goal c =
    subst (λ r. IfOk c.start_of.result (λ g. r ≡ good g))
    (told_started_is c.args.line (map kept_token c.args.tokens.items) (map numbered_token c.as_slice-2.result.now)
    (ap (map numbered_token) c.as_slice-2.ensures.value ∙ c.in_ok-told.ensures ∙ ap (λ ts. told_from [] (map kept_token ts)) c.as_slice.ensures.value))
    c.start_of.ensures.goal

pub returns-clause-fault : goal.returns-clause-fault
returns-clause-fault c =
    subst (λ r. IfErr c.start_of.result (IsFaultOf r))
    (told_started_is c.args.line (map kept_token c.args.tokens.items) (map numbered_token c.as_slice-2.result.now)
    (ap (map numbered_token) c.as_slice-2.ensures.value ∙ c.in_ok-told.ensures ∙ ap (λ ts. told_from [] (map kept_token ts)) c.as_slice.ensures.value))
    c.start_of.ensures.fault
