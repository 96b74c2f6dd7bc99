-- What the answers to a connection wait for.
use Rattle.std.proofs.Common.{◌≡◌, ◌∙◌, ℕ, Bool, true, List, ap, sym, subst}
use Rattle.kl1_model.specs.declared.rules.Rules.{Rules}
use Rattle.kl1_model_server.specs.Journal.{Journal}
use Rattle.kl1_session.specs.Conversations.{Done}
use Rattle.kl1_pool.specs.Names.{called_at}
use Rattle.kl1_pool.specs.Showing.{IsSeenOfSome, IsShownAfter, IsLastOf}
use Rattle.kl1_pool_history.specs.Histories.{HistoryValue}
use Rattle.kl1_journal_stamps.specs.declared.shown_ids.ShownIds as shown_ids
use Rattle.kl1_host_journals.specs.declared.history.Naming as naming
use Rattle.kl1_host_journals.specs.declared.leave.Connecting as connecting
use Rattle.kl1_host_journals.specs.declared.outgoing.Outgoing.{Outgoing}
use Rattle.kl1_host_journals.specs.declared.outgoing.Outgoing.TheVariants.{Free, Waits, Lost}
use Rattle.kl1_host_journals.specs.Outgoings.{IsNotedFor}
use Rattle.kl1_journal_stamps.specs.Stamps.{ShownValue}
use Rattle.kl1_host_work.specs.Noted.{waits, IsHeldFor, IsNoted, IsNotedAfter, IsLastNote}
use Rattle.kl1_host_work.specs.Notices.{IsNoticeOf, IsCared}
use Rattle.kl1_host_work.specs.declared.exchange.Waiting.{Waiting}
use Rattle.kl1_host_work.specs.declared.exchange.Waiting.TheVariants.{Nothing, Noted}

module _ {J C : Type 0} {g : naming.Ghosts J} {shown : shown_ids.Ghosts J} {h : connecting.Ghosts C} where
  -- a leave that is held waits for what was seen
  pub noted_by : (rules : Rules) (named : List ℕ → Type 0) (account : ℕ) (is_held : Bool) (before after : Outgoing J C g shown h) → IsHeldFor account is_held before after → (is_held ≡ true → IsSeenOfSome rules named (λ j ended. IsNotedFor j ended before)) → IsNoted rules named account after
  noted_by rules named account is_held before (Free permit) held seen = absurd held
  noted_by rules named account is_held before (Waits leave) held seen =
      let P : Outgoing J C g shown h → Type 0 = λ (x : Outgoing J C g shown h). IsSeenOfSome rules named (λ (j : Journal) (ended : ℕ). IsNotedFor j ended x) in
      (held.1, subst P held.0 (seen held.2))
  noted_by rules named account is_held before Lost held seen = tt

  -- a leave that is held waits for what was shown of an account just after this answer
  pub noted_after : (rules : Rules) (named : List ℕ → Type 0) (d : Done) (is_held : Bool) (before after : Outgoing J C g shown h) → IsHeldFor d.account is_held before after → (is_held ≡ true → IsShownAfter rules named d.command d.answer (λ j ended. IsNotedFor j ended before)) → IsNotedAfter rules named d after
  noted_after rules named d is_held before (Free permit) held seen = absurd held
  noted_after rules named d is_held before (Waits leave) held seen =
      let P : Outgoing J C g shown h → Type 0 = λ (x : Outgoing J C g shown h). IsShownAfter rules named d.command d.answer (λ (j : Journal) (ended : ℕ). IsNotedFor j ended x) in
      (held.1, subst P held.0 (seen held.2))
  noted_after rules named d is_held before Lost held seen = tt

  -- what was read for the last time was noted, if a leave waits for it
  pub last_noted : (rules : Rules) (named : List ℕ → Type 0) (history : ShownValue) (leave : Outgoing J C g shown h) → waits leave ≡ true → IsSeenOfSome rules named (λ (j : Journal) (ended : ℕ). IsNotedFor j ended leave × IsLastOf history j ended) → IsSeenOfSome rules named (λ (j : Journal) (ended : ℕ). IsLastNote history leave j ended)
  last_noted rules named history leave waiting seen = (seen.0, seen.1, seen.2, (seen.3.1, seen.3.0, waiting))

  -- an answer waits for its account's note, if the leave was held for that when all of this had been done
  pub cared : (rules : Rules) (names : List (List ℕ)) (replies_wait : Bool) (ds : List Done) (d : Done) (v : HistoryValue) (o : Outgoing J C g shown h) (w : Waiting J C shown g h) → IsNoticeOf v o w → IsNotedAfter rules (called_at names d.account) d o → v.done ≡ ds → IsCared rules names replies_wait ds d w
  cared rules names replies_wait ds d v o Nothing notice after is = absurd notice
  cared rules names replies_wait ds d v o (Noted leave history) notice after is =
      let P : Outgoing J C g shown h → Type 0 = λ (x : Outgoing J C g shown h). IsNotedAfter rules (called_at names d.account) d x in
      (ap (λ (x : HistoryValue). x.done) notice.1 ∙ is, subst P (sym notice.0) after)
