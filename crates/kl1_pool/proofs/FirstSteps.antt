-- First steps as runs do them and as entries do them, and what is counted of entries.
use Rattle.std.proofs.Common.{◌≡◌, ℕ, zero, suc, ◌+◌, ◌-◌, ◌<◌, ◌==◌, Bool, true, false, if◌then◌else◌, refl, sym, ap, ◌∙◌, subst, arith}
use Rattle.std.specs.Prelude.{Option, Some, None}
use Rattle.kl1_model.specs.State.{State, has_runs}
use Rattle.kl1_model.specs.Event as model
use Rattle.kl1_model.specs.Event.{syntax, reduce, ran, Reply, Transition, refuse, is_refused}
use Rattle.kl1_model.specs.Choice.{Chosen, first}
use Rattle.kl1_model.specs.Step.{step}
use Rattle.kl1_model.proofs.TreeSteps.{refusals_change_nothing}
use Rattle.kl1_model_server.specs.Journal.{runs, Kept, Done, done, chosen_step, first_step, first_steps, entry_step}
use Rattle.kl1_model_server.specs.Command.{said, run_from}
use Rattle.kl1_command.specs.Performing.{stopped_by}

abbrev moved : State → Reply → Transition
moved s r = record { state = s; reply = r }

abbrev one_more : ℕ → Transition → Transition
one_more n x = moved x.state (if is_refused x.reply then x.reply else ran (suc n))

-- steps after a first one
shift : (n : ℕ) (s : State) → (first_steps (suc n) s).state ≡ (first_steps n (first_step s).state).state
shift zero s = refl
shift (suc n) s = ap (λ (t : State). (first_step t).state) (shift n s)

ran_by : (b : Bool) (r : Reply) (n m : ℕ) → is_refused r ≡ b → (if b then r else ran n) ≡ ran n → (if b then r else ran m) ≡ ran m
ran_by true r n m is e = absurd (let z : true ≡ false = sym is ∙ ap is_refused e in cc)
ran_by false r n m is e = refl

-- a first step, and then more
goes_on : (n : ℕ) (s mid after : State) → (first_step s).state ≡ mid → is_refused (first_step s).reply ≡ false → first_steps n mid ≡ moved after (ran n) → first_steps (suc n) s ≡ moved after (ran (suc n))
goes_on zero s mid after here one so =
    let at : (first_step s).state ≡ after = here ∙ ap (λ (x : Transition). x.state) so in
    let reply : (if is_refused (first_step s).reply then (first_step s).reply else ran 1) ≡ ran 1 = ap (λ b. if b then (first_step s).reply else ran 1) one in
    ap (λ (r : Reply). moved (first_step s).state r) reply ∙ ap (λ (t : State). moved t (ran 1)) at
goes_on (suc n) s mid after here one so =
    let same : (first_steps (suc n) s).state ≡ (first_steps n mid).state = shift n s ∙ ap (λ (t : State). (first_steps n t).state) here in
    let x = first_step (first_steps n mid).state in
    let reply : (if is_refused x.reply then x.reply else ran (suc (suc n))) ≡ ran (suc (suc n)) = ran_by (is_refused x.reply) x.reply (suc n) (suc (suc n)) refl (ap (λ (y : Transition). y.reply) so) in
    ap (λ (t : State). one_more (suc n) (first_step t)) same
    ∙ ap (λ (r : Reply). moved x.state r) reply ∙ ap (λ (y : Transition). moved y.state (ran (suc (suc n)))) so

-- the state after steps, and after more of them
state_on : (n m : ℕ) (s mid : State) → (first_steps n s).state ≡ mid → (first_steps (n + m) s).state ≡ (first_steps m mid).state
state_on n zero s mid h =
    let none : n + 0 ≡ n = omega arith in
    ap (λ k. (first_steps k s).state) none ∙ h
state_on n (suc m) s mid h =
    let sum : n + suc m ≡ suc (n + m) = omega arith in
    ap (λ k. (first_steps k s).state) sum ∙ ap (λ (t : State). (first_step t).state) (state_on n m s mid h)

-- steps that are all done, and then more that are
pub steps_on : (n m : ℕ) (s mid after : State) → first_steps n s ≡ moved mid (ran n) → first_steps m mid ≡ moved after (ran m) → first_steps (n + m) s ≡ moved after (ran (n + m))
steps_on n zero s mid after begun on =
    let at : mid ≡ after = ap (λ (x : Transition). x.state) on in
    let none : n + 0 ≡ n = omega arith in
    let P : ℕ → Type 0 = λ k. first_steps k s ≡ moved after (ran k) in
    subst P (sym none) (begun ∙ ap (λ (t : State). moved t (ran n)) at)
steps_on n (suc m) s mid after begun on =
    let x = first_step (first_steps m mid).state in
    let same : (first_steps (n + m) s).state ≡ (first_steps m mid).state = state_on n m s mid (ap (λ (y : Transition). y.state) begun) in
    let at : x.state ≡ after = ap (λ (y : Transition). y.state) on in
    let reply : (if is_refused x.reply then x.reply else ran (suc (n + m))) ≡ ran (suc (n + m)) = ran_by (is_refused x.reply) x.reply (suc m) (suc (n + m)) refl (ap (λ (y : Transition). y.reply) on) in
    let sum : n + suc m ≡ suc (n + m) = omega arith in
    let P : ℕ → Type 0 = λ k. first_steps k s ≡ moved after (ran k) in
    subst P (sym sum)
    (ap (λ (t : State). one_more (n + m) (first_step t)) same ∙ ap (λ (r : Reply). moved x.state r) reply ∙ ap (λ (t : State). moved t (ran (suc (n + m)))) at)

abbrev pub run_by : ℕ → ℕ → Kept → Option Chosen → Done
run_by most n k o = elim o [
  | None ↦ said k (ran n)
  | Some c ↦
      let x = done k (reduce c.goal c.clause) in
      if is_refused x.reply then said k (if n == 0 then x.reply else ran n) else run_from most (suc n) x.kept
]

pub ran_same : (n m : ℕ) → ran n ≡ ran m → n ≡ m
ran_same n m e = cc

pub not_stopped : (b : Bool) (r : Reply) (n m : ℕ) → is_refused r ≡ true → n < m → (if b then r else ran n) ≡ ran m → ⊥
not_stopped true r n m is less e = let z : true ≡ false = sym is ∙ ap is_refused e in cc
not_stopped false r n m is less e = let z : n ≡ m = ran_same n m e in omega (arith, less, z)

-- a run all of whose steps are done, after `k` others, does first steps
pub runs_first : (n k m : ℕ) (s after : Kept) → m ≡ n + k → run_from n k s ≡ record { kept = after; reply = ran m } → first_steps n s.state ≡ moved after.state (ran n)
runs_first zero k m s after sum is = ap (λ (d : Done). moved d.kept.state (ran 0)) is
runs_first (suc n) k m s after sum is = go (λ t more e. runs_first n (suc k) m t after more e) (first s.state) refl is
  where
    Later : Type 0
    Later = (t : Kept) → m ≡ n + suc k → run_from n (suc k) t ≡ record { kept = after; reply = ran m } → first_steps n t.state ≡ moved after.state (ran n)

    step_by : Later → (c : Chosen) (b : Bool) → is_refused (step s.state (reduce c.goal c.clause)).reply ≡ b → first s.state ≡ Some c →
        (if b then said s (if k == 0 then (step s.state (reduce c.goal c.clause)).reply else ran k) else run_from n (suc k) (done s (reduce c.goal c.clause)).kept) ≡ record { kept = after; reply = ran m } → first_steps (suc n) s.state ≡ moved after.state (ran (suc n))
    step_by later c true r found e = absurd (not_stopped (k == 0) (step s.state (reduce c.goal c.clause)).reply k m r (omega (arith, sum)) (ap (λ (d : Done). d.reply) e))
    step_by later c false r found e =
        let one : first_step s.state ≡ step s.state (reduce c.goal c.clause) = ap (chosen_step s.state) found in
        let more : m ≡ n + suc k = omega (arith, sum) in
        goes_on n s.state (step s.state (reduce c.goal c.clause)).state after.state (ap (λ (x : Transition). x.state) one) (ap (λ (x : Transition). is_refused x.reply) one ∙ r)
        (later (done s (reduce c.goal c.clause)).kept more e)

    go : Later → (o : Option Chosen) → first s.state ≡ o → run_by n k s o ≡ record { kept = after; reply = ran m } → first_steps (suc n) s.state ≡ moved after.state (ran (suc n))
    go later None found e =
        let z : k ≡ m = ran_same k m (ap (λ (d : Done). d.reply) e) in
        absurd (omega (arith, sum, z))
    go later (Some c) found e = step_by later c (is_refused (step s.state (reduce c.goal c.clause)).reply) refl found e

-- a first step that is refused leaves the account
chosen_stays : (s : State) (o : Option Chosen) → is_refused (chosen_step s o).reply ≡ true → (chosen_step s o).state ≡ s
chosen_stays s None h = refl
chosen_stays s (Some c) h = refusals_change_nothing s (reduce c.goal c.clause) h

-- after a step that is refused a run does nothing
stays_on : (k n : ℕ) (s : State) → is_refused (first_step (first_steps n s).state).reply ≡ true → (first_steps (k + n) s).state ≡ (first_steps n s).state
stays_on zero n s h =
    let none : zero + n ≡ n = omega arith in
    ap (λ m. (first_steps m s).state) none
stays_on (suc k) n s h =
    let sum : suc k + n ≡ suc (k + n) = omega arith in
    ap (λ m. (first_steps m s).state) sum ∙ ap (λ (t : State). (first_step t).state) (stays_on k n s h) ∙ chosen_stays (first_steps n s).state (first (first_steps n s).state) h

refused_by : (n : ℕ) (x : Transition) → is_refused x.reply ≡ true → is_refused (one_more n x).reply ≡ true
refused_by n x h = go (is_refused x.reply) h h
  where
    go : (b : Bool) → b ≡ true → is_refused x.reply ≡ true → is_refused (if b then x.reply else ran (suc n)) ≡ true
    go true e r = r
    go false e r = cc

refused_on : (k n : ℕ) (s : State) → is_refused (first_step (first_steps n s).state).reply ≡ true → is_refused (first_steps (suc (k + n)) s).reply ≡ true
refused_on k n s h =
    let P : State → Type 0 = λ t. is_refused (one_more (k + n) (first_step t)).reply ≡ true in
    subst P (sym (stays_on k n s h)) (refused_by (k + n) (first_step (first_steps n s).state) h)

-- a run whose next step is refused, after `n` of them
pub run_refused : (all n : ℕ) (s after : State) → n < all → first_steps n s ≡ moved after (ran n) → is_refused (first_step after).reply ≡ true → is_refused (first_steps all s).reply ≡ true
run_refused all n s after few so h =
    let there : is_refused (first_step (first_steps n s).state).reply ≡ true = ap (λ (x : Transition). is_refused (first_step x.state).reply) so ∙ h in
    let sum : suc (all - suc n + n) ≡ all = omega (arith, few) in
    let P : ℕ → Type 0 = λ m. is_refused (first_steps m s).reply ≡ true in
    subst P sum (refused_on (all - suc n) n s there)

-- the next step is refused if no goal can step
pub quiet_refused : (s : State) → first s ≡ None → is_refused (first_step s).reply ≡ true
quiet_refused s e = ap (λ o. is_refused (chosen_step s o).reply) e

-- and if a run says so
pub step_refused : (s : Kept) (r : model.Refusal) → ((left k : ℕ) → run_from (suc left) k s ≡ stopped_by s k r) → is_refused (first_step s.state).reply ≡ true
step_refused s r h = go (first s.state) refl (h 0 0)
  where
    step_by : (c : Chosen) (b : Bool) → is_refused (step s.state (reduce c.goal c.clause)).reply ≡ b → first s.state ≡ Some c →
        (if b then said s (step s.state (reduce c.goal c.clause)).reply else run_from 0 1 (done s (reduce c.goal c.clause)).kept) ≡ said s (model.refused r) → is_refused (first_step s.state).reply ≡ true
    step_by c true is found e = ap (λ o. is_refused (chosen_step s.state o).reply) found ∙ is
    step_by c false is found e = absurd (let z : ran 1 ≡ model.refused r = ap (λ (d : Done). d.reply) e in cc)

    go : (o : Option Chosen) → first s.state ≡ o → run_by 0 0 s o ≡ said s (model.refused r) → is_refused (first_step s.state).reply ≡ true
    go None found e = absurd (let z : ran 0 ≡ model.refused r = ap (λ (d : Done). d.reply) e in cc)
    go (Some c) found e = step_by c (is_refused (step s.state (reduce c.goal c.clause)).reply) refl found e

-- what a run does by rules with runs, and by others
pub run_does : (s : State) (n : ℕ) → has_runs s.rules ≡ true → entry_step s (runs n) ≡ first_steps n s
run_does s n h = ap (λ c. if c then first_steps n s else refuse s syntax) h

pub run_is_refused : (s : State) (n : ℕ) → has_runs s.rules ≡ false → is_refused (entry_step s (runs n)).reply ≡ true
run_is_refused s n h = ap (λ c. is_refused (if c then first_steps n s else refuse s syntax).reply) h
