-- What an event did to an account, said of the same account and event under other names.
use Rattle.std.proofs.Common.{◌≡◌, Option, ap, sym, ◌∙◌, subst}
use Rattle.std.specs.Prelude.{List, IfOk}
use Rattle.std.specs.declared.result.Result.{Result}
use Rattle.kl1_model.specs.Event as model
use Rattle.kl1_model.specs.Step.{step}
use Rattle.kl1_atoms.specs.declared.known.Known.{Known}
use Rattle.kl1_user_events.specs.declared.refusal.Refusal.{Refusal}
use Rattle.kl1_user_events.specs.declared.reply.Reply.{Reply}
use Rattle.kl1_user_effects.specs.Account.{Account, state_of}
use Rattle.kl1_user_effects.specs.Fitting.{Reading, Fits}
use Rattle.kl1_user_events.specs.Views.{reply_of, reduced_or}

-- an event did this to an account, if it was answered
abbrev pub DoesTo : {E : Type 0} → Result Reply E → Account → model.Event → Account → Type 0
DoesTo r old event new = IfOk r (λ reply. (f : Reading) → Fits new.names f → step (state_of f old) event ≡ record { state = state_of f new; reply = reply_of reply })

-- an event did this to an account, said of the account and the event under other names
pub does_same : {E : Type 0} (r : Result Reply E) (old other new : Account) (event by : model.Event) → other ≡ old → event ≡ by → DoesTo r other event new → DoesTo r old by new
does_same r old other new event by was is h = rw (was, is) at h

-- what is answered to a query that changes nothing, said of the same account and query under other names
pub asks_same : {E : Type 0} (r : Result Reply E) (old other : Account) (event by : model.Event) → other ≡ old → event ≡ by → DoesTo r other event other → DoesTo r old by old
asks_same r old other event by was is h = rw (was, is) at h

-- an event that leaves the names did this, said under other names, and told for the readings that fit them before
pub leaves_names : {E : Type 0} (r : Result Reply E) (old other new : Account) (event by : model.Event) → other ≡ old → event ≡ by → new.names ≡ other.names →
    IfOk r (λ reply. (f : Reading) → Fits other.names f → step (state_of f other) event ≡ record { state = state_of f new; reply = reply_of reply }) →
    DoesTo r old by new
leaves_names {E} r old other new event by was is names h =
    let P : List Known → Type 0 = λ ks. IfOk {E = E} r (λ reply. (f : Reading) → Fits ks f → step (state_of f other) event ≡ record { state = state_of f new; reply = reply_of reply }) in
    does_same r old other new event by was is (subst P (sym names) h)

-- a reduction did this to an account, and its reply tells it, said of the same account and event under other names
pub reduces_same : (refused : Option Refusal) (reply : Reply) (old other new : Account) (event by : model.Event) → other ≡ old → event ≡ by → reply_of reply ≡ reduced_or refused →
    ((f : Reading) → Fits new.names f → step (state_of f other) event ≡ record { state = state_of f new; reply = reduced_or refused }) →
    (f : Reading) → Fits new.names f → step (state_of f old) by ≡ record { state = state_of f new; reply = reply_of reply }
reduces_same refused reply old other new event by was is told does = λ f fits.
    let P : Account → Type 0 = λ a. step (state_of f a) event ≡ record { state = state_of f new; reply = reduced_or refused } in
    ap (step (state_of f old)) (sym is) ∙ subst P was (does f fits) ∙ ap (λ r. record { state = state_of f new; reply = r }) (sym told)
