use Rattle.kl1_user_account.proofs.Words.{refl, sym, ap, ◌∙◌, ◌&&◌, ◌==◌, false, eq-eqb, ne_eqb, Some, None}
use Rattle.kl1_user_account.proofs.Choosing.{not_in_run, in_run_as}
use Rattle.kl1_user_account.proofs.account.Account.is_in_run.Goals as goal

pub returns-then-not-has_runs : goal.returns-then-not-has_runs
returns-then-not-has_runs g c = not_in_run c.args.number c.args.clause c.self.view_is (sym c.has_runs.ensures ∙ c.if-not-has_runs.true)

pub returns-in-None : goal.returns-in-None
returns-in-None g c = in_run_as c.args.number c.args.clause false None c.self.view_is c.self.invariant.0 (sym c.has_runs.ensures ∙ c.if-not-has_runs.false) c.in-None.ensures refl

pub returns-then-first-number : goal.returns-then-first-number
returns-then-first-number g c =
    let s = c.in-Some in
    in_run_as c.args.number c.args.clause (s.by == c.args.clause) (Some (s.first, s.by)) c.self.view_is c.self.invariant.0 (sym c.has_runs.ensures ∙ c.if-not-has_runs.false) s.ensures
    (sym (ap (λ b. b && s.by == c.args.clause) (eq-eqb s.first c.args.number c.if-first-number.true)))

pub returns-else-first-number : goal.returns-else-first-number
returns-else-first-number g c =
    let s = c.in-Some in
    let other = ne_eqb s.first c.args.number c.if-first-number.false in
    in_run_as c.args.number c.args.clause (s.first == c.args.number) (Some (s.first, s.by)) c.self.view_is c.self.invariant.0 (sym c.has_runs.ensures ∙ c.if-not-has_runs.false) s.ensures
    (other ∙ sym (ap (λ b. b && s.by == c.args.clause) other))
