-- What reductions leave of a machine.
use Rattle.kl1_machine.proofs.Words.{◌≡◌, ℕ, ◌+◌, ◌<◌, ◌≤◌, ◌==◌, ◌&&◌, Bool, true, false, if◌then◌else◌, List, [], ◌∷◌, length, refl, sym, ap, ◌∙◌, arith, subst, find, AllByRecursion, eqb-true, eq-eqb, State, settle, reads, heard, CellName, Held, Control, control_as, Monitor, Goal, is_monitor, is_monitor_task, is_monitor_of, AreSingle, Program, Spelled, Reading, worked, Machine, made, IsBegun, TurnsAs, Since, IsOnlyMonitor, IsRested, HoldsSpare, Reschedules, ReadsBy, IsSteppable}
use Rattle.std.proofs.Common.{Option, Some, None}
use Rattle.std.proofs.lemmas.Bool.{both_ways}
use Rattle.kl1_user_effects.proofs.Lists.{all_then}
use Rattle.std.specs.Prelude.{filter}
use Rattle.kl1_goals.specs.Lists.{has_number}
use Rattle.kl1_machine.specs.Reducing.{Reduces}
use Rattle.kl1_machine.proofs.Planned.{found_holds}
use Rattle.kl1_machine.proofs.Resting.{turns_rescheduled}

-- ---- the monitor of a shoen

-- none of goals passes a test if none is left by it
none_pass : (p : Goal CellName → Bool) (gs : List (Goal CellName)) → length (filter p gs) < 1 → AllByRecursion (λ g. p g ≡ false) gs
none_pass p [] lt = tt
none_pass p (g ∷ gs) lt = by_case (p g) refl lt (none_pass p gs)
  where
    by_case : (b : Bool) → p g ≡ b → length (if b then g ∷ filter p gs else filter p gs) < 1 → (length (filter p gs) < 1 → AllByRecursion (λ k. p k ≡ false) gs) → AllByRecursion (λ k. p k ≡ false) (g ∷ gs)
    by_case true q l later = absurd (omega (arith, l))
    by_case false q l later = (q, later l)

-- if one goal at most passes a test, and goal `n` does, only those of this number do
only_one : (p : Goal CellName → Bool) (n : ℕ) (gs : List (Goal CellName)) (g : Goal CellName) → length (filter p gs) ≤ 1 → find (has_number n) gs ≡ Some g → p g ≡ true → AllByRecursion (λ k. p k ≡ true → k.number ≡ n) gs
only_one p n [] g le e is = tt
only_one p n (x ∷ gs) g le e is = by_case (x.number == n) (p x) refl refl le e (λ l f. only_one p n gs g l f is)
  where
    R : Goal CellName → Type 0
    R k = p k ≡ true → k.number ≡ n

    by_case : (b d : Bool) → (x.number == n) ≡ b → p x ≡ d → length (if d then x ∷ filter p gs else filter p gs) ≤ 1 → (if b then Some x else find (has_number n) gs) ≡ Some g → (length (filter p gs) ≤ 1 → find (has_number n) gs ≡ Some g → AllByRecursion R gs) → AllByRecursion R (x ∷ gs)
    by_case true true q r l f later =
        let none = none_pass p gs (omega (arith, l)) in
        ((λ e. eqb-true x.number n q), all_then (λ k. p k ≡ false) R (λ k apart e. absurd (both_ways (p k) apart e)) gs none)
    by_case true false q r l f later = let same : x ≡ g = cc in absurd (both_ways (p x) r (ap p same ∙ is))
    by_case false true q r l f later =
        let none = none_pass p gs (omega (arith, l)) in
        absurd (both_ways (p g) (found_holds (λ k. p k ≡ false) n gs g none f) is)
    by_case false false q r l f later = ((λ e. absurd (both_ways (p x) r e)), later l f)

-- a monitor is the only one of its shoen
pub only_monitor : (n : ℕ) (gs : List (Goal CellName)) (g : Goal CellName) → AreSingle gs → find (has_number n) gs ≡ Some g → g.task ≡ Monitor → IsOnlyMonitor n g.shoen gs
only_monitor n gs g single found task = only_one (is_monitor_of g.shoen) n gs g (single g.shoen) found (ap (λ b. b && is_monitor g) (eq-eqb g.shoen g.shoen refl) ∙ ap is_monitor_task task)

-- ---- what a monitor reads

-- an event has begun with machine `m`, which rests, and goal `n`, which is a monitor and may step, reads this by clause `c`
pub record IsHeard (program : Program) (m : Machine) (n c : ℕ) (g : Goal CellName) (control : Control CellName) : Type 0 where
  pub begun : IsBegun m
  pub rested : IsRested program m
  pub steppable : IsSteppable m.goals.goals n c g
  pub plan : ReadsBy program m.store.held (made m) g c control

-- it comes to machine `u`, and goals are looked at again
pub heard_reduces : (program : Program) (m u v : Machine) (n c : ℕ) (g : Goal CellName) (control : Control CellName) → IsHeard program m n c g control → TurnsAs (λ f s. settle g.shoen (heard g.shoen (control_as f m.store.held control) s)) m u → Reschedules u v → Reduces program n c m v
heard_reduces program m u v n c g control p turns r =
    let change : Reading → State → State = λ f s. settle g.shoen (heard g.shoen (control_as f m.store.held control) s) in
    let spelled : v.spelled ≡ None = ap (λ (x : Machine). x.spelled) r.rest ∙ turns.named.spelled ∙ p.begun.spelled in
    record {
      goal = g;
      steppable = p.steppable;
      action = λ f. reads (control_as f m.store.held control);
      does = p.plan.does;
      acts = λ more k last named patches f fits s.
          let same : last ≡ v.store.held = rw spelled at patches in
          (turns_rescheduled change m u v turns.turns r program.loaded).states f (record { reads = fits.reads; rows = p.rested.rows f (named.fits f fits) }) s
          ∙ ap (λ (h : Held CellName). worked f s h (made v)) (sym same);
      spare_last = subst (λ (o : Option Spelled). HoldsSpare o v.store.held) (sym spelled) tt;
    }

-- one reduction was charged at most, and none by goals that are looked at again
pub charged_by : (m u v : Machine) → Since m u → Reschedules u v → length v.shoens.work ≤ length m.shoens.work + 1
charged_by m u v s r =
    let same : length v.shoens.work ≡ length u.shoens.work = ap (λ (x : Machine). length x.shoens.work) r.rest in
    let le = s.work in
    omega (arith, same, le)
