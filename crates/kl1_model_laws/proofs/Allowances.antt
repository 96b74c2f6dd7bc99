-- No reduction is charged past an allowance.
use Rattle.std.proofs.Common.{◌≡◌, ◌<◌, ℕ, ◌+◌, ◌==◌, ◌&&◌, ◌||◌, not, Bool, true, false, if◌then◌else◌, List, [], ◌∷◌, Option, Some, None, refl, sym, ap, ◌∙◌, subst, arith}
use Rattle.std.specs.Prelude.{find, option_map, unwrap_or}
use Rattle.std.proofs.lemmas.Bool.{false≢true, eqb-true, leb-false}
use Rattle.std.proofs.lemmas.Option.{none-some, same_Some}
use Rattle.kl1_model.specs.State.{Goal, Shoen, State, goal_at, shoen_at, is_monitor, is_living}
use Rattle.kl1_model.specs.Tree.{is_on_path, charged_of, is_enabled, is_enabled_in, is_blocking, is_blocking_at, is_exhausted}
use Rattle.kl1_model.specs.Event.{reduce, reduced, Transition, refuse, syntax, is_number, is_refused}
use Rattle.kl1_model.specs.Reduction.{task_action, reduce_goal}
use Rattle.kl1_model.specs.code.Steps.{reduced_by}
use Rattle.kl1_model.specs.Step.{step}
use Rattle.kl1_model.specs.Choice.{is_in_run}
use Rattle.kl1_model.proofs.TreeGrows.{held_back_below}
use Rattle.kl1_model.proofs.TreeSteps.{reductions_charge}
use Rattle.kl1_model_laws.specs.AllowanceLaws.{ReductionsHaveAllowance, ReductionsStayWithin}

-- a shoen that is found has the number
pub found_number : (n : ℕ) (hs : List Shoen) (h : Shoen) → shoen_at n hs ≡ Some h → h.number ≡ n
found_number n [] h e = absurd (none-some h e)
found_number n (k ∷ hs) h e = by_first (k.number == n) refl e (found_number n hs h)
  where
    by_first : (b : Bool) → k.number == n ≡ b → (if b then Some k else find (λ (x : Shoen). x.number == n) hs) ≡ Some h → (shoen_at n hs ≡ Some h → h.number ≡ n) → h.number ≡ n
    by_first true same e go = ap (λ (x : Shoen). x.number) (sym (same_Some k h e)) ∙ eqb-true k.number n same
    by_first false same e go = go e

-- a goal that isn't enabled isn't reduced
not_reduced : (s : State) (r : Bool) (g : Goal) (clause : ℕ) (b : Bool) → (reduced_by s r g (if b then task_action s g.shoen g.task clause else None)).reply ≡ reduced → b ≡ true
not_reduced s r g clause true e = refl
not_reduced s r g clause false e = absurd (false≢true (sym (ap is_refused e)))

asked : (c : Bool) (x : Transition) (s : State) → (if c then x else refuse s syntax).reply ≡ reduced → x.reply ≡ reduced
asked true x s e = e
asked false x s e = absurd (false≢true (sym (ap is_refused e)))

enabled_where_reduced : (s : State) (goal clause : ℕ) (g : Goal) → goal_at goal s.goals ≡ Some g → (step s (reduce goal clause)).reply ≡ reduced → is_enabled s g ≡ true
enabled_where_reduced s goal clause g there e =
    let r = is_in_run s goal clause in
    not_reduced s r g clause (is_enabled s g)
    (subst (λ (o : Option Goal). (reduce_goal s r clause o).reply ≡ reduced) there (asked (is_number goal && is_number clause) (reduce_goal s r clause (goal_at goal s.goals)) s e))

or_right : (a b : Bool) → a ≡ false → a || b ≡ true → b ≡ true
or_right true b h e = absurd (false≢true (sym h))
or_right false b h e = e

-- if goals of a shoen are enabled, no shoen on its path holds them back
not_blocking : (s : State) (n a : ℕ) → is_enabled_in s n ≡ true → is_on_path s.shoens a n ≡ true → is_blocking_at s a ≡ false
not_blocking s n a enabled on = by_case (is_blocking_at s a) refl
  where
    by_case : (b : Bool) → is_blocking_at s a ≡ b → b ≡ false
    by_case true blocks = absurd (false≢true (sym (held_back_below s n a on blocks) ∙ enabled))
    by_case false blocks = refl

last_false : (a b c : Bool) → (a || b) || c ≡ false → c ≡ false
last_false true b c e = absurd (false≢true (sym e))
last_false false true c e = absurd (false≢true (sym e))
last_false false false c e = e

-- each shoen on the path of a goal that is enabled was charged less than its allowance
pub enabled_has_allowance : (s : State) (g : Goal) → is_monitor g.task ≡ false → is_enabled s g ≡ true → (a : ℕ) (h : Shoen) → is_on_path s.shoens a g.shoen ≡ true → shoen_at a s.shoens ≡ Some h → charged_of s a < h.allowance
enabled_has_allowance s g goes on_all a h on found =
    let enabled = or_right (is_monitor g.task) (is_enabled_in s g.shoen) goes on_all in
    let free : is_blocking s h ≡ false = sym (ap (λ (o : Option Shoen). unwrap_or (option_map (is_blocking s) o) false) found) ∙ not_blocking s g.shoen a enabled on in
    let less : charged_of s h.number < h.allowance = leb-false h.allowance (charged_of s h.number) (last_false h.is_stopped (not (is_living h.life)) (is_exhausted s h) free) in
    subst (λ (n : ℕ). charged_of s n < h.allowance) (found_number a s.shoens h found) less

pub reductions_have_allowance : ReductionsHaveAllowance
reductions_have_allowance s goal clause g there goes e a h on found = enabled_has_allowance s g goes (enabled_where_reduced s goal clause g there e) a h on found

pub reductions_stay_within : ReductionsStayWithin
reductions_stay_within s goal clause g tree there goes e a h on found =
    let one : charged_of (step s (reduce goal clause)).state a ≡ 1 + charged_of s a = reductions_charge s goal clause g tree there goes e a ∙ ap (λ (b : Bool). (if b then 1 else 0) + charged_of s a) on in
    let less = reductions_have_allowance s goal clause g there goes e a h on found in
    omega (arith, one, less)
