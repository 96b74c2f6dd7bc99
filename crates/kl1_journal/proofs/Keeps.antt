-- An account with its journal after an event.
use Rattle.std.proofs.Common.{◌≡◌, ℕ, if◌then◌else◌, List, [], refl, sym, ap, ◌∙◌, subst, arith}
use Rattle.std.specs.Prelude.{Option, Some, None, is_some}
use Rattle.kl1_model.specs.declared.rules.Rules.{Rules}
use Rattle.kl1_model.specs.State.{State}
use Rattle.kl1_model.specs.Event as model
use Rattle.kl1_model.specs.Event.{Transition, is_refused}
use Rattle.kl1_model.specs.Step.{step}
use Rattle.kl1_model_server.specs.Journal.{Journal, Kept, stepped, noted, Done, fresh_kept, done}
use Rattle.kl1_model_server.specs.laws.ReplayLaws.{IsReplayable}
use Rattle.kl1_model_server.specs.laws.TextLaws as texts
use Rattle.kl1_model_server.proofs.ReplayReplies.{fresh_is_replayable, replayable_stays}
use Rattle.kl1_model_server.proofs.NewNames.{no_names}
use Rattle.kl1_model_server.proofs.Replays.{rules_stay}
use Rattle.kl1_model_server.proofs.WrittenStays.{step_named}
use Rattle.kl1_atoms.specs.declared.known.Known.{Known}
use Rattle.std.proofs.lemmas.Option.{none-some}
use Rattle.kl1_atoms.specs.Names.{AreNames}
use Rattle.kl1_atoms.specs.Knowing.{are_names}
use Rattle.kl1_user.specs.Accounts.{Reading, Fits}
use Rattle.kl1_user.specs.Accounts.{Account, state_of, texts_of}
use Rattle.kl1_journal_entries.specs.Lined.{with_reduction}
use Rattle.kl1_journal_entries.proofs.Accepted.{accepted_entries}
use Rattle.kl1_user_events.specs.declared.refusal.Refusal.{Refusal}
use Rattle.kl1_user_events.specs.Views.{reduced_or}
use Rattle.kl1_journal.specs.declared.change.Change.{Change}
use Rattle.kl1_journal.specs.Changes.{IsChange, SessionsFit, changed}
use Rattle.kl1_journal.specs.Keeping.{kept_of, kept_since_reset, IsReplayed}
use Rattle.kl1_user.specs.Readings.{reading_of, reading_fits}
use Rattle.kl1_journal.proofs.Changing.{reduction_is, noted_is, sessions_fit}

-- an event did this to an account, for each reading of the names that it uses then
abbrev pub Does : Account → model.Event → Account → model.Reply → Type 0
Does old e new reply = (f : Reading) → Fits new.names f → step (state_of f old) e ≡ record { state = state_of f new; reply = reply }

-- what an event does to an account with its journal, by what it does to the account and what is noted
done_by : (f : Reading) (old new : Account) (j k : Journal) (e : model.Event) (reply : model.Reply) → step (state_of f old) e ≡ record { state = state_of f new; reply = reply } → noted j e (step (state_of f old) e) ≡ k →
    done (kept_of f (old, j)) e ≡ record { kept = kept_of f (new, k); reply = reply }
done_by f old new j k e reply is noted_as =
    ap (λ (i : Journal). let z : Done = record { kept = record { state = (step (state_of f old) e).state; journal = i }; reply = (step (state_of f old) e).reply } in z) noted_as
    ∙ ap (λ (x : Transition). let z : Done = record { kept = record { state = x.state; journal = k }; reply = x.reply } in z) is

-- the change of an event was noted
pub done_change : (f : Reading) (old new : Account) (j k : Journal) (e : model.Event) (reply : model.Reply) (c : Change) → IsReplayable (kept_of f (old, j)) → step (state_of f old) e ≡ record { state = state_of f new; reply = reply } → IsChange (texts_of old.names) j e c →
    k ≡ (if is_refused reply then j else changed j c new.run reply) → done (kept_of f (old, j)) e ≡ record { kept = kept_of f (new, k); reply = reply }
done_change f old new j k e reply c was is h k_is =
    done_by f old new j k e reply is
    (noted_is (state_of f old) (texts_of old.names) j e c new.run h refl was.is.rules was.is.sessions (sym (ap (λ (x : Transition). x.state.run) is)) ∙ ap (λ (x : Transition). if is_refused x.reply then j else changed j c new.run x.reply) is ∙ sym k_is)

-- an account keeps to its rules
pub rules_same : (old new : Account) (e : model.Event) (reply : model.Reply) → AreNames new.names → Does old e new reply → new.rules ≡ old.rules
rules_same old new e reply names does =
    let f = reading_of new.names in
    sym (ap (λ (x : Transition). x.state.rules) (does f (reading_fits new.names names))) ∙ rules_stay (state_of f old) e

-- an account is the replay of its journal after an event
kept_by : (old new : Account) (j k : Journal) (e : model.Event) (reply : model.Reply) → IsReplayed (old, j) → AreNames new.names → Does old e new reply → ((f : Reading) → Fits new.names f → Fits old.names f) →
    ((f : Reading) → Fits new.names f → done (kept_of f (old, j)) e ≡ record { kept = kept_of f (new, k); reply = reply }) → IsReplayed (new, k)
kept_by old new j k e reply was names does before is = record {
  replay = λ f fits. subst IsReplayable (ap (λ (x : Done). x.kept) (is f fits)) (replayable_stays (kept_of f (old, j)) e (was.replay f (before f fits)));
  names =
      let f = reading_of new.names in
      subst (λ (x : Transition). texts.AreNames x.state.rules x.state.names) (does f (reading_fits new.names names)) (step_named (state_of f old) e was.names);
}

-- so by its change
pub kept_change : (old new : Account) (j k : Journal) (e : model.Event) (reply : model.Reply) (c : Change) → IsReplayed (old, j) → AreNames new.names → Does old e new reply → ((f : Reading) → Fits new.names f → Fits old.names f) → IsChange (texts_of old.names) j e c →
    k ≡ (if is_refused reply then j else changed j c new.run reply) → IsReplayed (new, k)
kept_change old new j k e reply c was names does before h k_is =
    kept_by old new j k e reply was names does before (λ f fits. done_change f old new j k e reply c (was.replay f (before f fits)) (does f fits) h k_is)

-- a reply fits how many sessions are open
pub fits_change : (old new : Account) (j : Journal) (e : model.Event) (reply : model.Reply) (c : Change) → IsReplayed (old, j) → AreNames new.names → Does old e new reply → ((f : Reading) → Fits new.names f → Fits old.names f) → IsChange (texts_of old.names) j e c → SessionsFit j c reply
fits_change old new j e reply c was names does before h =
    let f = reading_of new.names in
    let fits = reading_fits new.names names in
    subst (SessionsFit j c) (ap (λ (x : Transition). x.reply) (does f fits)) (sessions_fit (state_of f old) (texts_of old.names) j e c h (was.replay f (before f fits)).is.sessions)

step_noted : (s : State) (j k : Journal) (goal clause run : ℕ) (o : Option Refusal) → (step s (model.reduce goal clause)).reply ≡ reduced_or o → run ≡ (step s (model.reduce goal clause)).state.run → k ≡ (if is_some o then j else with_reduction j goal clause run) → noted j (model.reduce goal clause) (step s (model.reduce goal clause)) ≡ k
step_noted s j k goal clause run None told ran is =
    ap (λ (r : model.Reply). if is_refused r then j else stepped j goal clause (step s (model.reduce goal clause)).state.run) told
    ∙ ap (stepped j goal clause) (sym ran)
    ∙ reduction_is j goal clause run (accepted_entries s (model.reduce goal clause) (ap is_refused told)) ∙ sym is
step_noted s j k goal clause run (Some r) told ran is = ap (λ (x : model.Reply). if is_refused x then j else stepped j goal clause (step s (model.reduce goal clause)).state.run) told ∙ sym is

-- a reduction was noted
pub done_step : (f : Reading) (old new : Account) (j k : Journal) (goal clause : ℕ) (o : Option Refusal) → step (state_of f old) (model.reduce goal clause) ≡ record { state = state_of f new; reply = reduced_or o } →
    k ≡ (if is_some o then j else with_reduction j goal clause new.run) → done (kept_of f (old, j)) (model.reduce goal clause) ≡ record { kept = kept_of f (new, k); reply = reduced_or o }
done_step f old new j k goal clause o is k_is =
    done_by f old new j k (model.reduce goal clause) (reduced_or o) is (step_noted (state_of f old) j k goal clause new.run o (ap (λ (x : Transition). x.reply) is) (sym (ap (λ (x : Transition). x.state.run) is)) k_is)

pub kept_step : (old new : Account) (j k : Journal) (goal clause : ℕ) (o : Option Refusal) → IsReplayed (old, j) → AreNames new.names → Does old (model.reduce goal clause) new (reduced_or o) → ((f : Reading) → Fits new.names f → Fits old.names f) →
    k ≡ (if is_some o then j else with_reduction j goal clause new.run) → IsReplayed (new, k)
kept_step old new j k goal clause o was names does before k_is =
    kept_by old new j k (model.reduce goal clause) (reduced_or o) was names does before (λ f fits. done_step f old new j k goal clause o (does f fits) k_is)

-- a fresh account is the replay of its journal
pub kept_fresh : (a : Account) (j : Journal) (rules : Rules) (name : List ℕ) → a.names ≡ [] → ((f : Reading) → kept_of f (a, j) ≡ fresh_kept rules name) → IsReplayed (a, j)
kept_fresh a j rules name none is = record {
  replay = λ f fits. subst IsReplayable (sym (is f)) (fresh_is_replayable rules name);
  names = subst (λ (ks : List Known). texts.AreNames a.rules (texts_of ks)) (sym none) (no_names a.rules);
}

since_reset_is_replayable : (rules : Rules) (name : List ℕ) (names : List (List ℕ)) → IsReplayable (kept_since_reset rules name names)
since_reset_is_replayable rules name names = record { is = record { is = refl; rules = refl; sessions = refl; run = λ m f. absurd (omega (arith, f)) }; accepted = refl }

-- an account in which nothing has happened since a reset is the replay of its journal
pub kept_named : (a : Account) (j : Journal) (rules : Rules) (name : List ℕ) (names : List (List ℕ)) → texts.AreNames rules names → AreNames a.names → ((f : Reading) → kept_of f (a, j) ≡ kept_since_reset rules name names) → IsReplayed (a, j)
kept_named a j rules name names may known is = record {
  replay = λ f fits. subst IsReplayable (sym (is f)) (since_reset_is_replayable rules name names);
  names = subst (λ (k : Kept). texts.AreNames k.state.rules k.state.names) (sym (is (reading_of a.names))) may;
}

-- no names are one to one
pub fresh_names : (ks : List Known) → ks ≡ [] → AreNames ks
fresh_names ks none =
    subst AreNames (sym none) (are_names (λ n t. ⊥) [] (record { names = λ t n h. absurd h; not_built_in = λ t n h. absurd h; from_64 = λ t n h. absurd h; one_text = λ t u n h k. absurd h; one_number = λ t m n h k. absurd h }) (record { by_text = λ t n e. absurd (none-some n e); by_number = λ t n e. absurd (none-some t e) }))
