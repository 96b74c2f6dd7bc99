-- First steps of a replay, and runs of them.
use Rattle.std.proofs.Common.{◌≡◌, ℕ, zero, suc, ◌+◌, ◌-◌, ◌<◌, Bool, true, false, if◌then◌else◌, Option, Some, None, is_some, is_none, not, ap, sym, ◌∙◌, refl, subst, [], arith}
use Rattle.kl1_model.specs.State.{State, has_runs}
use Rattle.kl1_model.specs.Event.{Event, syntax, load, start, control, reduce, read, login, logout, reset, answer, forget, Reply, ran, Transition, refuse, is_refused}
use Rattle.kl1_model.specs.Choice.{Chosen, first}
use Rattle.kl1_model.specs.Step.{step}
use Rattle.kl1_model.proofs.TreeSteps.{refusals_change_nothing}
use Rattle.kl1_model_server.specs.Journal.{Entry, runs, chosen_step, first_step, first_steps, entry_step}
use Rattle.kl1_model_server.specs.Command.{reply_lines, written_lines}
use Rattle.kl1_journal_entries.specs.Lined.{entry_of}
use Rattle.kl1_user_events.specs.Views.{reduced_or}
use Rattle.kl1_user_events.specs.declared.refusal.Refusal as refusal
use Rattle.kl1_script.specs.Replays.{if_accepted}
use Rattle.kl1_script.specs.Steps.{told_of, Went}

-- no goal can step
pub none_steps : (s after : State) (o : Option Chosen) → o ≡ None → o ≡ first s → Went false (if_accepted (first_step s)) after
none_steps s after o none found =
    let P : Option Chosen → Type 0 = λ p. Went false (if_accepted (chosen_step s p)) after in
    subst P (sym none ∙ found) tt

-- what becomes of the reduction of the first goal that can step, by what it answers
went_by : (after : State) (r : Option refusal.Refusal) → Went (is_none r) (if_accepted (record { state = after; reply = reduced_or r })) after
went_by after None = refl
went_by after (Some r) = tt

pub one_steps : (s after : State) (c : Chosen) (r : Option refusal.Refusal) → Some c ≡ first s → step s (reduce c.goal c.clause) ≡ record { state = after; reply = reduced_or r } → Went (is_none r) (if_accepted (first_step s)) after
one_steps s after c r found is =
    let P : Transition → Type 0 = λ x. Went (is_none r) (if_accepted x) after in
    subst P (sym (ap (chosen_step s) (sym found) ∙ is)) (went_by after r)

-- whether there is none, by what is told of it
pub told_none : (r : Option refusal.Refusal) (b : Bool) → is_some r ≡ not b → is_none r ≡ b
told_none None true e = refl
told_none None false e = sym e
told_none (Some r) true e = sym e
told_none (Some r) false e = refl

went_true : (b : Bool) (x : Transition) (after : State) → Went true (if b then None else Some x) after → (b ≡ false) × (after ≡ x.state)
went_true true x after h = absurd h
went_true false x after h = (refl, h)

went_false : (b : Bool) (x : Transition) (after : State) → Went false (if b then None else Some x) after → b ≡ true
went_false true x after h = refl
went_false false x after h = absurd h

-- a first step that is refused leaves the account
chosen_stays : (s : State) (o : Option Chosen) → is_refused (chosen_step s o).reply ≡ true → (chosen_step s o).state ≡ s
chosen_stays s None h = refl
chosen_stays s (Some c) h = refusals_change_nothing s (reduce c.goal c.clause) h

-- how a run of one step more ends, by that step
abbrev moved : State → Reply → Transition
moved s r = record { state = s; reply = r }

abbrev one_more : ℕ → Transition → Transition
one_more n x = moved x.state (if is_refused x.reply then x.reply else ran (suc n))

more_by : (n : ℕ) (x : Transition) (b : Bool) → b ≡ false → moved x.state (if b then x.reply else ran (suc n)) ≡ moved x.state (ran (suc n))
more_by n x true e = cc
more_by n x false e = refl

-- a run goes on with one step
pub steps_on : (n m : ℕ) (s mid after : State) → m ≡ suc n → first_steps n s ≡ record { state = mid; reply = ran n } → Went true (if_accepted (first_step mid)) after → first_steps m s ≡ record { state = after; reply = ran m }
steps_on n m s mid after sum so went =
    let x = first_step mid in
    let one = went_true (is_refused x.reply) x after went in
    let goes : first_steps (suc n) s ≡ moved x.state (ran (suc n)) = ap (λ (y : Transition). one_more n (first_step y.state)) so ∙ more_by n x (is_refused x.reply) one.0 in
    let P : ℕ → Type 0 = λ k. first_steps k s ≡ record { state = after; reply = ran k } in
    subst P (sym sum) (goes ∙ ap (λ (t : State). moved t (ran (suc n))) (sym one.1))

-- after a step that is refused a run does nothing
stays_on : (k n : ℕ) (s : State) → is_refused (first_step (first_steps n s).state).reply ≡ true → (first_steps (k + n) s).state ≡ (first_steps n s).state
stays_on zero n s h =
    let none : zero + n ≡ n = omega arith in
    ap (λ m. (first_steps m s).state) none
stays_on (suc k) n s h =
    let sum : suc k + n ≡ suc (k + n) = omega arith in
    ap (λ m. (first_steps m s).state) sum ∙ ap (λ (t : State). (first_step t).state) (stays_on k n s h) ∙ chosen_stays (first_steps n s).state (first (first_steps n s).state) h

refused_by : (n : ℕ) (x : Transition) → is_refused x.reply ≡ true → is_refused (one_more n x).reply ≡ true
refused_by n x h = go (is_refused x.reply) h h
  where
    go : (b : Bool) → b ≡ true → is_refused x.reply ≡ true → is_refused (if b then x.reply else ran (suc n)) ≡ true
    go true e r = r
    go false e r = cc

-- so it is refused
refused_on : (k n : ℕ) (s : State) → is_refused (first_step (first_steps n s).state).reply ≡ true → is_refused (first_steps (suc (k + n)) s).reply ≡ true
refused_on k n s h =
    let P : State → Type 0 = λ t. is_refused (one_more (k + n) (first_step t)).reply ≡ true in
    subst P (sym (stays_on k n s h)) (refused_by (k + n) (first_step (first_steps n s).state) h)

none_by : (b : Bool) (x : Transition) (after : State) → b ≡ true → Went false (if b then None else Some x) after
none_by true x after e = tt
none_by false x after e = cc

-- a run whose next step is refused
pub run_stops : (all n : ℕ) (s mid after last : State) → n < all → has_runs s.rules ≡ true → first_steps n s ≡ record { state = mid; reply = ran n } → Went false (if_accepted (first_step mid)) after → Went false (if_accepted (entry_step s (runs all))) last
run_stops all n s mid after last few has so went =
    let stopped : is_refused (first_step mid).reply ≡ true = went_false (is_refused (first_step mid).reply) (first_step mid) after went in
    let there : is_refused (first_step (first_steps n s).state).reply ≡ true = ap (λ (x : Transition). is_refused (first_step x.state).reply) so ∙ stopped in
    let sum : suc (all - suc n + n) ≡ all = omega (arith, few) in
    let P : ℕ → Type 0 = λ m. is_refused (first_steps m s).reply ≡ true in
    let Q : Transition → Type 0 = λ x. Went false (if_accepted x) last in
    subst Q (sym (run_of s all has)) (none_by (is_refused (first_steps all s).reply) (first_steps all s) last (subst P sum (refused_on (all - suc n) n s there)))
  where
    run_of : (s : State) (n : ℕ) → has_runs s.rules ≡ true → entry_step s (runs n) ≡ first_steps n s
    run_of s n h = ap (λ c. if c then first_steps n s else refuse s syntax) h

-- a run whose steps are all done
pub run_ends : (all n : ℕ) (s after : State) → n ≡ all → has_runs s.rules ≡ true → first_steps n s ≡ record { state = after; reply = ran n } → Went true (if_accepted (entry_step s (runs all))) after
run_ends all n s after sum has so =
    let Q : Transition → Type 0 = λ x. Went true (if_accepted x) after in
    let P : ℕ → Type 0 = λ m. first_steps m s ≡ record { state = after; reply = ran m } in
    subst Q (sym (ap (λ c. if c then first_steps all s else refuse s syntax) has ∙ subst P sum so)) refl

-- a run by rules without runs
pub run_refused : (all : ℕ) (s last : State) → has_runs s.rules ≡ false → Went false (if_accepted (entry_step s (runs all))) last
run_refused all s last has =
    let Q : Transition → Type 0 = λ x. Went false (if_accepted x) last in
    subst Q (sym (ap (λ c. if c then first_steps all s else refuse s syntax) has)) tt

-- the reply to a run that is accepted is its length
ran_steps : (n : ℕ) (s : State) → is_refused (first_steps n s).reply ≡ false → (first_steps n s).reply ≡ ran n
ran_steps zero s h = refl
ran_steps (suc n) s h = go (first_step (first_steps n s).state) (is_refused (first_step (first_steps n s).state).reply) refl h
  where
    go : (x : Transition) (b : Bool) → is_refused x.reply ≡ b → is_refused (if b then x.reply else ran (suc n)) ≡ false → (if b then x.reply else ran (suc n)) ≡ ran (suc n)
    go x true e r = cc
    go x false e r = refl

ran_by : (b : Bool) (n : ℕ) (s : State) → is_refused (if b then first_steps n s else refuse s syntax).reply ≡ false → (if b then first_steps n s else refuse s syntax).reply ≡ ran n
ran_by true n s h = ran_steps n s h
ran_by false n s h = cc

told_by : (b : Bool) (x : Transition) (r : Reply) → b ≡ false → x.reply ≡ r → told_of (if b then None else Some x) ≡ written_lines (reply_lines r)
told_by true x r e is = cc
told_by false x r e is = ap (λ y. written_lines (reply_lines y)) is

-- what is written for a run that is accepted
pub run_told : (n : ℕ) (s after : State) → Went true (if_accepted (entry_step s (runs n))) after → told_of (if_accepted (entry_step s (runs n))) ≡ written_lines (reply_lines (ran n))
run_told n s after went =
    let x = entry_step s (runs n) in
    let accepted = (went_true (is_refused x.reply) x after went).0 in
    told_by (is_refused x.reply) x (ran n) accepted (ran_by (has_runs s.rules) n s accepted)

-- nothing is written for one that is refused
pub nothing_told : (o : Option Transition) (after : State) → Went false o after → [] ≡ told_of o
nothing_told None after h = refl
nothing_told (Some x) after h = absurd h

same_entry : (x y : Entry) → Some y ≡ Some x → y ≡ x
same_entry x y h = cc

entry_is : {y : Entry} {z : Transition} (x : Entry) (s : State) → Some y ≡ Some x → entry_step s y ≡ z → entry_step s x ≡ z
entry_is {y} {z} x s h does = ap (entry_step s) (sym (same_entry x y h)) ∙ does

-- an entry that is an event does what the event does
pub event_does : (e : Event) (x : Entry) (s : State) → entry_of e ≡ Some x → entry_step s x ≡ step s e
event_does (load text) x s h = entry_is x s h refl
event_does (start allowance low high t) x s h = entry_is x s h refl
event_does (control n m) x s h = entry_is x s h refl
event_does (reduce goal clause) x s h = entry_is x s h refl
event_does (answer n report t) x s h = entry_is x s h refl
event_does (forget n count) x s h = entry_is x s h refl
event_does (read q) x s h = cc
event_does login x s h = cc
event_does logout x s h = cc
event_does reset x s h = cc

-- a run of no step
pub none_ran : (n : ℕ) (s : State) → n ≡ 0 → first_steps n s ≡ record { state = s; reply = ran n }
none_ran zero s e = refl
none_ran (suc n) s e = absurd (omega (arith, e))
