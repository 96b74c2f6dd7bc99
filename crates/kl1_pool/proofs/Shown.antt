-- An account's journal comes after each that was shown of it.
use Rattle.std.proofs.Common.{◌≡◌, ℕ, ◌≤◌, ◌⊎◌, inl, inr, sym, ap, subst, arith}
use Rattle.std.specs.Prelude.{Option}
use Rattle.std.proofs.lemmas.Bool.{cases_lt}
use Rattle.kl1_model.specs.Event as model
use Rattle.kl1_model_server.specs.Journal.{Journal, Kept, Done, done}
use Rattle.kl1_model_server.specs.laws.HistoryLaws.{IsReplay}
use Rattle.kl1_model_server.specs.laws.TextLaws.{IsWritten}
use Rattle.kl1_atoms.specs.Names.{AreNames}
use Rattle.kl1_user.specs.Readings.{reading_of, reading_fits}
use Rattle.kl1_journal.specs.Keeping.{Reading, Fits, Held, kept_of, IsKept}
use Rattle.kl1_journal_stamps.specs.Later.{IsLater}
use Rattle.kl1_journal_stamps.specs.Stamps.{ComesAfter, MayFollow}
use Rattle.kl1_journal_stamps.proofs.Growing.{events_grow, growth_begins}
use Rattle.kl1_journal_stamps.proofs.Chains.{may_follow_on}
use Rattle.kl1_command.specs.Told.{ends_journal}
use Rattle.kl1_pool.specs.declared.totals_before_reset.TotalsBeforeReset.{TotalsBeforeReset}
use Rattle.kl1_pool.specs.Counted.{past_by}
use Rattle.kl1_pool.proofs.Ended.{unless_ended, more_by}

grown_unless : (k : Kept) (e : model.Event) → IsReplay k → ((done k e).kept ≡ k) ⊎ (e ≡ model.reset → ⊥) → IsLater k.journal (done k e).kept.journal
grown_unless k e replay (inl stays) = subst (IsLater k.journal) (sym (ap (λ (x : Kept). x.journal) stays)) (growth_begins k.journal)
grown_unless k e replay (inr other) = events_grow k e replay other

-- the journal after an event comes after the one before it, by what is counted of those that resets ended
event_follows : (p : TotalsBeforeReset) (k : Kept) (e : model.Event) → IsReplay k → IsWritten k.journal → ComesAfter p.events k.journal (past_by p k.journal (done k e).reply).events (done k e).kept.journal
event_follows p k e replay written =
    let q = past_by p k.journal (done k e).reply in
    let more : p.events ≤ q.events = more_by (ends_journal (done k e).reply) p k.journal in
    elim (cases_lt p.events q.events) [
      | inl less ↦ inl less
      | inr le ↦
          let same : q.events ≡ p.events = omega (arith, more, le) in
          inr (sym same, grown_unless k e replay (unless_ended p k e replay written same))
    ]

-- so does that of an account which is the replay of its journal
pub held_follows : (last : Option (ℕ × Journal)) (p q : TotalsBeforeReset) (old new : Held) (e : model.Event) (reply : model.Reply) → IsKept old → AreNames new.0.names → ((f : Reading) → Fits new.0.names f → Fits old.0.names f) →
    ((f : Reading) → Fits new.0.names f → done (kept_of f old) e ≡ record { kept = kept_of f new; reply = reply }) → q ≡ past_by p old.1 reply → MayFollow last p.events old.1 → MayFollow last q.events new.1
held_follows last p q old new e reply kept names before is past was =
    let f = reading_of new.0.names in
    let fits = reading_fits new.0.names names in
    let k = kept_of f old in
    let d : Done = record { kept = kept_of f new; reply = reply } in
    let then : ComesAfter p.events old.1 (past_by p old.1 reply).events new.1 = subst (λ (x : Done). ComesAfter p.events old.1 (past_by p old.1 x.reply).events x.kept.journal) (is f fits) (event_follows p k e (kept.replay f (before f fits)).is kept.written) in
    may_follow_on last p.events q.events old.1 new.1 was (subst (λ (n : ℕ). ComesAfter p.events old.1 n new.1) (sym (ap (λ (x : TotalsBeforeReset). x.events) past)) then)
