-- What is noted of an event is its change.
use Rattle.std.proofs.Common.{◌≡◌, ℕ, suc, ◌-◌, ◌<◌, nat_lt, Bool, true, false, if◌then◌else◌, List, refl, sym, ap, ◌∙◌, subst, inl, inr}
use Rattle.std.specs.Prelude.{◌⊎◌, Some, zero}
use Rattle.std.proofs.lemmas.Bool.{ltb-true}
use Rattle.kl1_model.specs.declared.limits.TheConstants.{MOST_SESSIONS}
use Rattle.kl1_model.specs.declared.rules.Rules.{Rules}
use Rattle.kl1_model.specs.State.{State}
use Rattle.kl1_model.specs.Event as model
use Rattle.kl1_model.specs.Event.{Transition, refuse, sessions_refused, is_refused}
use Rattle.kl1_model.specs.Step.{step}
use Rattle.kl1_model_server.specs.Journal.{Journal, steps, new_journal, with_event, noted, stepped}
use Rattle.kl1_journal_entries.specs.Lined.{Pending, entry_of, if_lined, lined_entry, with_prepared, with_reduction}
use Rattle.kl1_journal_entries.proofs.Accepted.{accepted_entries}
use Rattle.kl1_journal.specs.declared.change.Change.{Change}
use Rattle.kl1_journal.specs.declared.change.Change.TheVariants as change
use Rattle.kl1_journal.specs.Changes.{IsQuery, IsEntered, IsChange, ReplyFits, SessionsFit, sessions_after, changed}

-- an entry that is no reduction
entered_is : (j : Journal) (e : model.Event) (t : State) → IsEntered e → with_event j e t ≡ with_prepared j (entry_of e)
entered_is j (model.load text) t h = refl
entered_is j (model.start allowance low high goal) t h = refl
entered_is j (model.control n m) t h = refl
entered_is j (model.reduce goal clause) t h = absurd h
entered_is j (model.answer n report goal) t h = refl
entered_is j (model.forget n count) t h = refl
entered_is j (model.read q) t h = absurd h
entered_is j model.login t h = absurd h
entered_is j model.logout t h = absurd h
entered_is j model.reset t h = absurd h

-- a query
asked_is : (j : Journal) (e : model.Event) (t : State) → IsQuery e → with_event j e t ≡ j
asked_is j (model.read q) t h = refl
asked_is j (model.load text) t h = absurd h
asked_is j (model.start allowance low high goal) t h = absurd h
asked_is j (model.control n m) t h = absurd h
asked_is j (model.reduce goal clause) t h = absurd h
asked_is j (model.answer n report goal) t h = absurd h
asked_is j (model.forget n count) t h = absurd h
asked_is j model.login t h = absurd h
asked_is j model.logout t h = absurd h
asked_is j model.reset t h = absurd h

-- a reduction whose entry is lined
pub reduction_is : (j : Journal) (goal clause run : ℕ) → if_lined j.rules (steps goal clause) ≡ Some (steps goal clause) → stepped j goal clause run ≡ with_reduction j goal clause run
reduction_is j goal clause zero lined = ap (with_prepared j) (sym lined)
reduction_is j goal clause (suc n) lined = refl

sized : Journal → ℕ → Journal
sized j n = record j { sessions = n }

login_is : (c : Bool) (s : State) (j : Journal) → j.sessions ≡ s.sessions →
    (let x : Transition = if c then record { state = record s { sessions = suc s.sessions }; reply = model.welcome s.own_name } else refuse s sessions_refused in is_refused x.reply ≡ false → record j { sessions = x.state.sessions } ≡ sessions_after j x.reply)
login_is true s j same a = ap (λ (n : ℕ). let z : Journal = record j { sessions = suc n } in z) (sym same)
login_is false s j same a = cc

logout_is : (c : Bool) (s : State) (j : Journal) → j.sessions ≡ s.sessions →
    (let x : Transition = if c then record { state = record s { sessions = s.sessions - 1 }; reply = model.bye } else refuse s sessions_refused in is_refused x.reply ≡ false → record j { sessions = x.state.sessions } ≡ sessions_after j x.reply)
logout_is true s j same a = ap (λ (n : ℕ). let z : Journal = record j { sessions = n - 1 } in z) (sym same)
logout_is false s j same a = cc

-- a session that is opened or closed
session_is : (s : State) (j : Journal) (e : model.Event) → (e ≡ model.login) ⊎ (e ≡ model.logout) → j.sessions ≡ s.sessions → is_refused (step s e).reply ≡ false → with_event j e (step s e).state ≡ sessions_after j (step s e).reply
session_is s j e (inl is) same a =
    subst (λ d. is_refused (step s d).reply ≡ false → with_event j d (step s d).state ≡ sessions_after j (step s d).reply) (sym is) (login_is (nat_lt s.sessions MOST_SESSIONS) s j same) a
session_is s j e (inr is) same a =
    subst (λ d. is_refused (step s d).reply ≡ false → with_event j d (step s d).state ≡ sessions_after j (step s d).reply) (sym is) (logout_is (nat_lt 0 s.sessions) s j same) a

-- an event that is accepted
accepted_is : (s : State) (names : List (List ℕ)) (j : Journal) (e : model.Event) (c : Change) (run : ℕ) → IsChange names j e c → s.names ≡ names → j.rules ≡ s.rules → j.sessions ≡ s.sessions → run ≡ (step s e).state.run → is_refused (step s e).reply ≡ false →
    with_event j e (step s e).state ≡ changed j c run (step s e).reply
accepted_is s names j e change.Nothing run h used ruled same told a = asked_is j e (step s e).state h
accepted_is s names j e (change.Entry entry) run h used ruled same told a =
    entered_is j e (step s e).state h.1 ∙ ap (with_prepared j) (sym (ap (λ (p : Pending). p.entry) h.0 ∙ ap (λ (r : Rules). lined_entry r e) ruled ∙ accepted_entries s e a))
accepted_is s names j e (change.Reduction goal clause) run h used ruled same told a =
    subst (λ d. run ≡ (step s d).state.run → is_refused (step s d).reply ≡ false → with_event j d (step s d).state ≡ with_reduction j goal.0 clause.0 run) (sym h)
    (λ r b. ap (stepped j goal.0 clause.0) (sym r) ∙ reduction_is j goal.0 clause.0 run (accepted_entries s (model.reduce goal.0 clause.0) b)) told a
accepted_is s names j e change.Sessions run h used ruled same told a = session_is s j e h same a
accepted_is s names j e (change.Anew new) run h used ruled same told a =
    subst (λ d. with_event j d (step s d).state ≡ new.journal) (sym h.0) (ap (λ ns. new_journal s.rules ns s.sessions) used ∙ ap (new_journal s.rules names) (sym same) ∙ ap (λ r. new_journal r names j.sessions) (sym ruled) ∙ sym h.1)

noted_by : (c : Bool) (s : State) (names : List (List ℕ)) (j : Journal) (e : model.Event) (d : Change) (run : ℕ) → IsChange names j e d → s.names ≡ names → j.rules ≡ s.rules → j.sessions ≡ s.sessions → run ≡ (step s e).state.run → is_refused (step s e).reply ≡ c →
    (if c then j else with_event j e (step s e).state) ≡ (if c then j else changed j d run (step s e).reply)
noted_by true s names j e d run h used ruled same told a = refl
noted_by false s names j e d run h used ruled same told a = accepted_is s names j e d run h used ruled same told a

-- what is noted of an event
pub noted_is : (s : State) (names : List (List ℕ)) (j : Journal) (e : model.Event) (d : Change) (run : ℕ) → IsChange names j e d → s.names ≡ names → j.rules ≡ s.rules → j.sessions ≡ s.sessions → run ≡ (step s e).state.run →
    noted j e (step s e) ≡ (if is_refused (step s e).reply then j else changed j d run (step s e).reply)
noted_is s names j e d run h used ruled same told = noted_by (is_refused (step s e).reply) s names j e d run h used ruled same told refl

login_fits : (c : Bool) (s : State) (j : Journal) → nat_lt s.sessions MOST_SESSIONS ≡ c → j.sessions ≡ s.sessions → ReplyFits j (if c then record { state = record s { sessions = suc s.sessions }; reply = model.welcome s.own_name } else refuse s sessions_refused).reply
login_fits true s j e same = subst (λ n. n < MOST_SESSIONS) (sym same) (ltb-true s.sessions MOST_SESSIONS e)
login_fits false s j e same = tt

logout_fits : (c : Bool) (s : State) (j : Journal) → nat_lt 0 s.sessions ≡ c → j.sessions ≡ s.sessions → ReplyFits j (if c then record { state = record s { sessions = s.sessions - 1 }; reply = model.bye } else refuse s sessions_refused).reply
logout_fits true s j e same = subst (λ n. 0 < n) (sym same) (ltb-true 0 s.sessions e)
logout_fits false s j e same = tt

session_fits : (s : State) (j : Journal) (e : model.Event) → (e ≡ model.login) ⊎ (e ≡ model.logout) → j.sessions ≡ s.sessions → ReplyFits j (step s e).reply
session_fits s j e (inl is) same = subst (λ d. ReplyFits j (step s d).reply) (sym is) (login_fits (nat_lt s.sessions MOST_SESSIONS) s j refl same)
session_fits s j e (inr is) same = subst (λ d. ReplyFits j (step s d).reply) (sym is) (logout_fits (nat_lt 0 s.sessions) s j refl same)

-- a reply fits the change of its event
pub sessions_fit : (s : State) (names : List (List ℕ)) (j : Journal) (e : model.Event) (d : Change) → IsChange names j e d → j.sessions ≡ s.sessions → SessionsFit j d (step s e).reply
sessions_fit s names j e change.Nothing h same = tt
sessions_fit s names j e (change.Entry entry) h same = tt
sessions_fit s names j e (change.Reduction goal clause) h same = tt
sessions_fit s names j e change.Sessions h same = session_fits s j e h same
sessions_fit s names j e (change.Anew new) h same = tt
