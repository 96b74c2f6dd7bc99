-- What becomes of the first goal that can step.
use Rattle.std.proofs.Common.{◌≡◌, ℕ, suc, ◌==◌, Bool, true, false, if◌then◌else◌, Option, Some, None, ap, sym, ◌∙◌, subst, refl}
use Rattle.kl1_model.specs.State.{State}
use Rattle.kl1_model.specs.Event as model
use Rattle.kl1_model.specs.Event.{reduce, is_refused}
use Rattle.kl1_model.specs.Step.{step}
use Rattle.kl1_model.proofs.TreeSteps.{refusals_change_nothing}
use Rattle.kl1_model_server.specs.Journal.{Journal, with_event, Kept, Done, done}
use Rattle.kl1_model.specs.Choice.{Chosen, first}
use Rattle.kl1_model_server.specs.Command.{said, run_from}
use Rattle.kl1_user_events.specs.Views.{refusal_of, reduced_or}
use Rattle.kl1_user_events.specs.declared.refusal.Refusal as refusal
use Rattle.kl1_command.specs.Performing.{refusal_in, stopped_by}
use Rattle.kl1_command.proofs.Runs.{run_by}

none_is : (X : Type 0) (r : model.Refusal) → None ≡ Some r → X
none_is X r e = cc

-- a reply that tells a refusal is one
is_refusal : (reply : model.Reply) (r : model.Refusal) → refusal_in reply ≡ Some r → is_refused reply ≡ true
is_refusal (model.refused q) r e = refl
is_refusal (model.loaded name) r e = none_is _ r e
is_refusal (model.opened m) r e = none_is _ r e
is_refusal model.sent r e = none_is _ r e
is_refusal model.reduced r e = none_is _ r e
is_refusal (model.ran m) r e = none_is _ r e
is_refusal (model.shown text) r e = none_is _ r e
is_refusal (model.status_is c charged allowance alive) r e = none_is _ r e
is_refusal (model.listed texts) r e = none_is _ r e
is_refusal (model.quiet_is b) r e = none_is _ r e
is_refusal (model.welcome name) r e = none_is _ r e
is_refusal model.bye r e = none_is _ r e
is_refusal model.was_reset r e = none_is _ r e
is_refusal model.forgot r e = none_is _ r e

left_by : (j : Journal) (e : model.Event) (s : State) (c : Bool) → c ≡ true → (if c then j else with_event j e s) ≡ j
left_by j e s true is = refl
left_by j e s false is = cc

-- an event that is refused leaves the account and its journal as they were
pub refused_stays : (k : Kept) (e : model.Event) (r : model.Refusal) → refusal_in (done k e).reply ≡ Some r → (done k e).kept ≡ k
refused_stays k e r is =
    let refused = is_refusal (done k e).reply r is in
    ap (λ (s : State). let z : Kept = record { state = s; journal = (done k e).kept.journal } in z) (refusals_change_nothing k.state e refused)
    ∙ ap (λ (j : Journal). let z : Kept = record { state = k.state; journal = j } in z) (left_by k.journal e (step k.state e).state (is_refused (step k.state e).reply) refused)

-- how a run goes on after the reply to its first step
pub after_by : (most n : ℕ) (s : Kept) → Done → Done
after_by most n s x = if is_refused x.reply then said s (if n == 0 then x.reply else model.ran n) else run_from most (suc n) x.kept

-- the first goal was reduced
done_first : (s after : Kept) (c : Chosen) → Some c ≡ first s.state → done s (reduce c.goal c.clause) ≡ record { kept = after; reply = model.reduced } → (most n : ℕ) → run_from (suc most) n s ≡ run_from most (suc n) after
unfolding after_by
done_first s after c found is most n = ap (run_by most n s) (sym found) ∙ ap (after_by most n s) is

-- so by what a reduction answers
pub done_as : (s after : Kept) (c : Chosen) (o : Option refusal.Refusal) → o ≡ None → Some c ≡ first s.state → done s (reduce c.goal c.clause) ≡ record { kept = after; reply = reduced_or o } → (most n : ℕ) → run_from (suc most) n s ≡ run_from most (suc n) after
done_as s after c o e found is =
    done_first s after c found (subst (λ (x : Option refusal.Refusal). done s (reduce c.goal c.clause) ≡ record { kept = after; reply = reduced_or x }) e is)

-- the reduction of the first goal was refused, for this reason
refused_first : (s after : Kept) (c : Chosen) (r : model.Refusal) → Some c ≡ first s.state → done s (reduce c.goal c.clause) ≡ record { kept = after; reply = model.refused r } → ((left n : ℕ) → run_from (suc left) n s ≡ stopped_by s n r) × (after ≡ s)
unfolding after_by
refused_first s after c r found is =
    (λ most n. ap (run_by most n s) (sym found) ∙ ap (after_by most n s) is, sym (ap (λ (x : Done). x.kept) is) ∙ refused_stays s (reduce c.goal c.clause) r (ap (λ (x : Done). refusal_in x.reply) is))

-- so by what a reduction answers
pub refused_as : (s after : Kept) (c : Chosen) (o : Option refusal.Refusal) (r : refusal.Refusal) → o ≡ Some r → Some c ≡ first s.state → done s (reduce c.goal c.clause) ≡ record { kept = after; reply = reduced_or o } → ((left n : ℕ) → run_from (suc left) n s ≡ stopped_by s n (refusal_of r)) × (after ≡ s)
refused_as s after c o r e found is =
    refused_first s after c (refusal_of r) found (subst (λ (x : Option refusal.Refusal). done s (reduce c.goal c.clause) ≡ record { kept = after; reply = reduced_or x }) e is)
