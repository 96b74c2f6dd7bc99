-- The account that replays a journal keeps to its rules, whose names have room in its seat.
use Rattle.std.proofs.Common.{◌≡◌, ℕ, ◌≤◌, sym, ap, ◌∙◌, subst}
use Rattle.std.specs.Prelude.{Ok, Err, IfOk, OnErr}
use Rattle.std.specs.declared.result.Result.{Result}
use Rattle.kl1_model.specs.declared.rules.Rules.{Rules}
use Rattle.kl1_model.specs.Rules.{limits_of}
use Rattle.kl1_model.specs.Event.{Event, Reply, Transition}
use Rattle.kl1_model.specs.Step.{step}
use Rattle.kl1_model_server.proofs.Replays.{rules_stay}
use Rattle.kl1_atoms.specs.Names.{AreNames}
use Rattle.kl1_user.specs.Accounts.{Account, Reading, Fits, state_of}
use Rattle.kl1_user.specs.Readings.{reading_of, reading_fits}

-- an event did this to an account, for each reading of the names that it uses then
abbrev pub Does : Account → Event → Account → Reply → Type 0
Does old e new reply = (f : Reading) → Fits new.names f → step (state_of f old) e ≡ record { state = state_of f new; reply = reply }

rules_same : (old new : Account) (e : Event) (reply : Reply) → AreNames new.names → Does old e new reply → new.rules ≡ old.rules
rules_same old new e reply names does =
    let f = reading_of new.names in
    sym (ap (λ (x : Transition). x.state.rules) (does f (reading_fits new.names names))) ∙ rules_stay (state_of f old) e

-- an event leaves the rules, whether memory was refused or not
pub rules_kept : {T E : Type 0} (old new : Account) (e : Event) (reply : T → Reply) (r : Result T E) → AreNames new.names → IfOk r (λ x. Does old e new (reply x)) → OnErr r (new ≡ old) → new.rules ≡ old.rules
rules_kept old new e reply (Ok x) names does same = rules_same old new e (reply x) names does
rules_kept old new e reply (Err x) names does same = ap (λ (a : Account). a.rules) same

-- the room of a seat that stays is that for the names of the same rules
pub room_kept : {S : Type 0} (place : S → (ℕ × ℕ) × ℕ) (before after : S) (old new : Rules) → new ≡ old → place after ≡ place before → (limits_of old).names ≤ (place before).0.1 → (limits_of new).names ≤ (place after).0.1
room_kept place before after old new same stays room =
    subst (λ (p : (ℕ × ℕ) × ℕ). (limits_of new).names ≤ p.0.1) (sym stays) (subst (λ (r : Rules). (limits_of r).names ≤ (place before).0.1) (sym same) room)
