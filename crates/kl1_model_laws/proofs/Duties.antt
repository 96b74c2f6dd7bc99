-- What holds of an account's goals, if it holds of fewer of them.
use Rattle.std.proofs.Common.{◌≡◌, ℕ, suc, ◌==◌, ◌&&◌, not, Bool, true, false, if◌then◌else◌, List, [], ◌∷◌, ◌++◌, refl, sym, ap, subst}
use Rattle.std.specs.Prelude.{filter}
use Rattle.kl1_model.specs.declared.rules.Rules.{Rules}
use Rattle.kl1_model.specs.declared.message.Message.{Message}
use Rattle.kl1_model.specs.declared.message.Message.TheVariants.{Stop, Start, Abort, Allow}
use Rattle.kl1_model.specs.Control.{Control, awaits_message, tells, tells_other, ends, breaks_off}
use Rattle.kl1_model.specs.State.{Goal, State, limits_of, shoen_at, without_goal}
use Rattle.kl1_model.specs.Tree.{path, is_on_path}
use Rattle.kl1_model.specs.Report.{report_each, exception, illegal_input, exhausted_report, terminated_report, aborted_report}
use Rattle.kl1_model.specs.Ending.{ended_at, ending_of, without_monitor, terminate, terminate_each, settle, newly_exhausted, after_reduction, ended_below, abort}
use Rattle.kl1_model.specs.Reduction.{obeyed, with_control, heard}
use Rattle.kl1_model_laws.proofs.Alike.{Duty, duty_of, duties_of, next_duty, Alike, Placed, alike_report, alike_report_each, alike_closing, alike_stopped, alike_resumed}

-- the most goals of an account
abbrev pub most_of : State → ℕ
most_of s = (limits_of s.rules).goals

-- a fact of an account that speaks of the most goals that it may have, of the duties of its goals and of the last number of a goal alone
abbrev pub Of : (ℕ → List Duty → ℕ → Type 0) → State → Type 0
Of D s = D (most_of s) (duties_of s.goals) s.last_goal

-- the same rules allow as many goals
most_same : (s t : State) → t.rules ≡ s.rules → most_of s ≡ most_of t
most_same s t e = ap (λ (r : Rules). (limits_of r).goals) (sym e)

pub of_alike : (D : ℕ → List Duty → ℕ → Type 0) (s t : State) → Alike s t → Of D s → Of D t
of_alike D s t k a =
    subst (λ most. D most (duties_of t.goals) t.last_goal) (most_same s t k.rules)
    (subst (λ ds. D (most_of s) ds t.last_goal) (sym k.duties) (subst (D (most_of s) (duties_of s.goals)) (sym k.last) a))

-- with one goal more
pub of_placed : (D : ℕ → List Duty → ℕ → Type 0) (n : ℕ) (s t : State) → Placed n s t → D (most_of s) (duties_of s.goals ++ next_duty s.last_goal n ∷ []) (suc s.last_goal) → Of D t
of_placed D n s t k a =
    subst (λ most. D most (duties_of t.goals) t.last_goal) (most_same s t k.rules)
    (subst (λ ds. D (most_of s) ds t.last_goal) (sym k.duties) (subst (D (most_of s) (duties_of s.goals ++ next_duty s.last_goal n ∷ [])) (sym k.last) a))

filter_case : (c : Bool) (g : Goal) (gs : List Goal) (ds : List Duty) → duties_of gs ≡ ds → duties_of (if c then g ∷ gs else gs) ≡ (if c then duty_of g ∷ ds else ds)
filter_case true g gs ds e = ap (λ (more : List Duty). duty_of g ∷ more) e
filter_case false g gs ds e = e

pub filtered : (p : Duty → Bool) (gs : List Goal) → duties_of (filter (λ g. p (duty_of g)) gs) ≡ filter p (duties_of gs)
filtered p [] = refl
filtered p (g ∷ gs) = filter_case (p (duty_of g)) g (filter (λ g. p (duty_of g)) gs) (filter p (duties_of gs)) (filtered p gs)

module _ (D : ℕ → List Duty → ℕ → Type 0) (fewer : (p : Duty → Bool) (most : ℕ) (ds : List Duty) (last : ℕ) → D most ds last → D most (filter p ds) last) where
  of_fewer : (p : Duty → Bool) (most : ℕ) (gs : List Goal) (last : ℕ) → D most (duties_of gs) last → D most (duties_of (filter (λ g. p (duty_of g)) gs)) last
  of_fewer p most gs last a = subst (λ ds. D most ds last) (sym (filtered p gs)) (fewer p most (duties_of gs) last a)

  of_monitor : (k : ℕ) (s : State) → Of D s → Of D (without_monitor k s)
  of_monitor k s a = of_fewer (λ d. not (d.shoen == k && d.is_monitor)) (most_of s) s.goals s.last_goal a

  pub of_gone : (n : ℕ) (s : State) → Of D s → Of D (without_goal n s)
  of_gone n s a = of_fewer (λ d. not (d.number == n)) (most_of s) s.goals s.last_goal a

  of_terminate : (k : ℕ) (s : State) → Of D s → Of D (terminate k s)
  of_terminate k s a = of_alike D (without_monitor k (ended_at k s)) (terminate k s) (alike_closing k terminated_report (without_monitor k (ended_at k s))) (of_monitor k s a)

  of_each : (ks : List ℕ) (s : State) → Of D s → Of D (terminate_each ks s)
  of_each [] s a = a
  of_each (k ∷ ks) s a = of_each ks (terminate k s) (of_terminate k s a)

  pub of_settle : (k : ℕ) (s : State) → Of D s → Of D (settle k s)
  of_settle k s a = of_each (ending_of (path s.shoens k) s) s a

  pub of_settle_charged : (k : ℕ) (s : State) → Of D s → Of D (after_reduction k s)
  of_settle_charged k s a =
      let ks = path s.shoens k in
      let ending = ending_of ks s in
      let told = newly_exhausted s ending ks in
      of_each ending (report_each told exhausted_report s) (of_alike D s (report_each told exhausted_report s) (alike_report_each told exhausted_report s) a)

  of_abort : (k : ℕ) (s : State) → Of D s → Of D (abort k s)
  of_abort k s a = of_alike D (ended_below k s) (abort k s) (alike_closing k aborted_report (ended_below k s)) (of_fewer (λ d. not (is_on_path s.shoens k d.shoen)) (most_of s) s.goals s.last_goal a)

  of_obeyed : (k : ℕ) (m : Message) (s : State) → Of D s → Of D (obeyed k m s)
  of_obeyed k Stop s a = of_alike D s (obeyed k Stop s) (alike_stopped (shoen_at k s.shoens) k s) a
  of_obeyed k Start s a = of_alike D s (obeyed k Start s) (alike_resumed (shoen_at k s.shoens) k s) a
  of_obeyed k Abort s a = of_abort k s a
  of_obeyed k (Allow extra) s a = a

  pub of_heard : (k : ℕ) (c : Control) (s : State) → Of D s → Of D (heard k c s)
  of_heard k (awaits_message v) s a = a
  of_heard k (tells m rest) s a = of_obeyed k m (with_control k rest s) a
  of_heard k (tells_other m rest) s a = of_alike D (with_control k rest s) (heard k (tells_other m rest) s) (alike_report k (exception illegal_input m) (with_control k rest s)) a
  of_heard k ends s a = of_monitor k s a
  of_heard k (breaks_off t) s a = of_alike D (without_monitor k s) (heard k (breaks_off t) s) (alike_report k (exception illegal_input t) (without_monitor k s)) (of_monitor k s a)
