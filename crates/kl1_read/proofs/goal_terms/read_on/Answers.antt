use Rattle.std.proofs.Common.{map, ap, sym, ◌∙◌, subst, arith, length}
use Rattle.std.proofs.lemmas.List.{length-map}
use Rattle.kl1_read.specs.Series.{series_view}
use Rattle.kl1_read.specs.Views.{numbered_token}
use Rattle.kl1_read.specs.BodyGoals.{goal_of_term, with_front, following_view, FollowsLess}
use Rattle.kl1_read.proofs.BodyGoals.{goals_none, goals_some, series_few}
use Rattle.kl1_read.proofs.goal_terms.read_on.Goals as goal

pub returns-in-None : goal.returns-in-None
returns-in-None c =
    ap (with_front (map goal_of_term c.put_terms.new.goals.items)) (goals_none (map numbered_token c.in-More.behind.now) (sym (ap series_view c.in-None.is) ∙ c.in_ok-read_series-in-More.ensures))
    ∙ sym (ap (λ f. following_view f (map goal_of_term c.put_terms.new.goals.items)) c.in-More.is)
    ∙ c.in_ok-put_terms.ensures.value
    ∙ c.goals.invariant

pub goals-smaller : goal.goals-smaller
goals-smaller c =
    omega (
      arith,
      subst (FollowsLess (length c.goals.rest.now)) c.in-More.is c.in_ok-put_terms.ensures.less,
      series_few (map numbered_token c.in-More.behind.now) (map numbered_token c.in-Some.left.now) c.in-Some.read.items (sym (ap series_view c.in-Some.is) ∙ c.in_ok-read_series-in-More.ensures),
      length-map c.in-More.behind.now numbered_token,
      length-map c.in-Some.left.now numbered_token,
    )

pub goals-preserved : goal.goals-preserved
goals-preserved c =
    ap (with_front (map goal_of_term c.put_terms.new.goals.items)) (goals_some (map numbered_token c.in-More.behind.now) (map numbered_token c.in-Some.left.now) c.in-Some.read.items (sym (ap series_view c.in-Some.is) ∙ c.in_ok-read_series-in-More.ensures))
    ∙ sym (ap (λ f. following_view f (map goal_of_term c.put_terms.new.goals.items)) c.in-More.is)
    ∙ c.in_ok-put_terms.ensures.value
    ∙ c.goals.invariant
