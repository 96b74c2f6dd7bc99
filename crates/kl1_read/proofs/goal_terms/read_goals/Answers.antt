use Rattle.std.proofs.Common.{◌≡◌, map, IfOk, ap, sym, ◌∙◌, subst}
use Rattle.kl1_read.specs.Series.{series_view}
use Rattle.kl1_read.specs.Views.{numbered_token}
use Rattle.kl1_read.specs.BodyGoals.{goal_of_term, goals_view}
use Rattle.kl1_read.proofs.BodyGoals.{goals_none, goals_some}
use Rattle.kl1_read.proofs.goal_terms.read_goals.Goals as goal

pub returns-in-None : goal.returns-in-None
returns-in-None c = goals_none (map numbered_token c.args.tokens.now) (sym (ap series_view c.in-None.is) ∙ c.in_ok-read_series.ensures)

pub returns-in-Some : goal.returns-in-Some
returns-in-Some c =
    subst (λ x. IfOk c.read_on.result (λ r. goals_view r (map goal_of_term c.read_on.new.goals.items) ≡ x))
    (goals_some (map numbered_token c.args.tokens.now) (map numbered_token c.in-Some.rest.now) c.in-Some.terms.items (sym (ap series_view c.in-Some.is) ∙ c.in_ok-read_series.ensures))
    c.read_on.ensures
