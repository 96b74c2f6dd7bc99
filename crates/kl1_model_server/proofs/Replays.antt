-- An account is the replay of its journal.
use Rattle.std.proofs.Common.{◌≡◌, ℕ, zero, suc, ◌-◌, nat_lt, nat_le, ◌&&◌, Bool, true, false, if◌then◌else◌, List, [], ◌∷◌, ◌++◌, refl, sym, ap, ◌∙◌, subst, arith}
use Rattle.std.specs.Prelude.{fold, Option, Some, None}
use Rattle.kl1_model.specs.declared.limits.TheConstants.{MOST_RUN, MOST_SESSIONS}
use Rattle.kl1_model.specs.State.{State, has_runs, Shoen, Origin, fresh_with, shoen_at}
use Rattle.kl1_model.specs.Event.{Event, load, start, control, reduce, read, login, logout, reset, answer, forget, welcome, bye, sessions_refused, Query, value, status, reports, modules, is_quiet, Refusal, syntax, Transition, refuse, is_number, is_refused}
use Rattle.kl1_model.specs.Asking.{origin_at, kept_at, reports_from}
use Rattle.kl1_model.specs.code.Steps.{value_of, status_of, reports_of}
use Rattle.kl1_model.specs.Choice.{is_in_run}
use Rattle.kl1_model.specs.Step.{step}
use Rattle.kl1_model.proofs.TreeSteps.{refusals_change_nothing}
use Rattle.kl1_model_server.specs.Journal.{Entry, loads, starts, sends, steps, answers, forgets, runs, run_length, last_run_of, run_longer, first_step, first_steps, entry_step, Journal, without_last, entered, stepped, with_event, noted, replay, Kept, Done}
use Rattle.kl1_model_server.specs.laws.HistoryLaws.{beside, EndsInRun, FreshIsReplay, ReplaysStay, NamesStay, RulesStay}
use Rattle.kl1_model_server.proofs.Besides.{stays_beside}
use Rattle.kl1_model_server.proofs.RulesKept.{entry_rules}
use Rattle.kl1_model_server.proofs.RunsKept.{loads_unrun, starts_unrun, sends_unrun, answers_unrun, forgets_unrun, run_with, reduction_run, run_goes_on, run_has_room, run_is_first, run_has_rules}

-- an account with its journal after what became of an event
abbrev pub kept_after : Kept → Event → Transition → Done
kept_after k e x = record { kept = record { state = x.state; journal = noted k.journal e x }; reply = x.reply }

-- if the last entry is no run, nothing is said of it
no_run : (es : List Entry) (n : ℕ) → n ≡ 0 → EndsInRun es n
no_run es n e m f = absurd (omega (arith, e, f))

pub fresh_is_replay : FreshIsReplay
fresh_is_replay rules name = record { is = refl; rules = refl; sessions = refl; run = no_run [] 0 refl }

-- an entry leaves the own name and the sessions
entry_stays : (s : State) (e : Entry) → (entry_step s e).state ≡ beside s.own_name s.sessions (entry_step s e).state
entry_stays s e = ap (λ (x : Transition). x.state) (stays_beside s.own_name s.sessions s e)

-- an account after entries, in order
abbrev pub after_entries : State → List Entry → State
after_entries s es = fold (λ s e. (entry_step s e).state) s es

-- entries after others
pub after_more : (s : State) (es fs : List Entry) → after_entries s (es ++ fs) ≡ after_entries (after_entries s es) fs
after_more s [] fs = refl
after_more s (e ∷ es) fs = after_more (entry_step s e).state es fs

-- entries do the same beside other sessions and another name
pub after_beside : (name : List ℕ) (n : ℕ) (s : State) (es : List Entry) → after_entries (beside name n s) es ≡ beside name n (after_entries s es)
after_beside name n s [] = refl
after_beside name n s (e ∷ es) = ap (λ (x : Transition). after_entries x.state es) (stays_beside name n s e) ∙ after_beside name n (entry_step s e).state es

value_stays : (s : State) (o : Option Origin) → (value_of s o).state ≡ s
value_stays s None = refl
value_stays s (Some o) = refl

status_stays : (s : State) (o : Option Shoen) → (status_of s o).state ≡ s
status_stays s None = refl
status_stays s (Some h) = refl

reports_stay : (s : State) (from : ℕ) (o : Option Origin) → (reports_of s from o).state ≡ s
reports_stay s from None = refl
reports_stay s from (Some o) = refl

stays_or : (c : Bool) (s : State) (x : Transition) (r : Refusal) → x.state ≡ s → (if c then x else refuse s r).state ≡ s
stays_or true s x r e = e
stays_or false s x r e = refl

-- a query leaves the account
pub reading_stays : (s : State) (q : Query) → (step s (read q)).state ≡ s
reading_stays s (value n) = stays_or (is_number n) s (value_of s (origin_at n s.shoens)) syntax (value_stays s (origin_at n s.shoens))
reading_stays s (status n) = stays_or (is_number n) s (status_of s (kept_at n s.shoens)) syntax (status_stays s (kept_at n s.shoens))
reading_stays s (reports n from) = stays_or (is_number n && is_number from && nat_le 1 from) s (reports_of s from (origin_at n s.shoens)) syntax (reports_stay s from (origin_at n s.shoens))
reading_stays s modules = refl
reading_stays s is_quiet = refl

-- no session, and what came of one
named_or : (c : Bool) (s t : State) (r : Refusal) (x : Transition) → x.state.own_name ≡ s.own_name → (if c then x else refuse s r).state.own_name ≡ s.own_name
named_or true s t r x e = e
named_or false s t r x e = refl

entry_named : (s : State) (e : Entry) → (entry_step s e).state.own_name ≡ s.own_name
entry_named s e = ap (λ (z : State). z.own_name) (entry_stays s e)

pub names_stay : NamesStay
names_stay s (load text) = entry_named s (loads text)
names_stay s (start allowance low high t) = entry_named s (starts allowance low high t)
names_stay s (control n m) = entry_named s (sends n m)
names_stay s (reduce goal clause) = entry_named s (steps goal clause)
names_stay s (read q) = ap (λ (z : State). z.own_name) (reading_stays s q)
names_stay s login = named_or (nat_lt s.sessions MOST_SESSIONS) s s sessions_refused (record { state = record s { sessions = suc s.sessions }; reply = welcome s.own_name }) refl
names_stay s logout = named_or (nat_lt 0 s.sessions) s s sessions_refused (record { state = record s { sessions = s.sessions - 1 }; reply = bye }) refl
names_stay s reset = refl
names_stay s (answer n report t) = entry_named s (answers n report t)
names_stay s (forget n count) = entry_named s (forgets n count)

ruled_or : (c : Bool) (s : State) (r : Refusal) (x : Transition) → x.state.rules ≡ s.rules → (if c then x else refuse s r).state.rules ≡ s.rules
ruled_or true s r x e = e
ruled_or false s r x e = refl

pub rules_stay : RulesStay
rules_stay s (load text) = entry_rules s (loads text)
rules_stay s (start allowance low high t) = entry_rules s (starts allowance low high t)
rules_stay s (control n m) = entry_rules s (sends n m)
rules_stay s (reduce goal clause) = entry_rules s (steps goal clause)
rules_stay s (read q) = ap (λ (z : State). z.rules) (reading_stays s q)
rules_stay s login = ruled_or (nat_lt s.sessions MOST_SESSIONS) s sessions_refused (record { state = record s { sessions = suc s.sessions }; reply = welcome s.own_name }) refl
rules_stay s logout = ruled_or (nat_lt 0 s.sessions) s sessions_refused (record { state = record s { sessions = s.sessions - 1 }; reply = bye }) refl
rules_stay s reset = refl
rules_stay s (answer n report t) = entry_rules s (answers n report t)
rules_stay s (forget n count) = entry_rules s (forgets n count)

-- an account by its journal, with the name told apart
record Replays (name : List ℕ) (j : Journal) (s : State) : Type 0 where
  is : replay name j ≡ s
  rules : j.rules ≡ s.rules
  sessions : j.sessions ≡ s.sessions
  run : EndsInRun j.entries s.run

-- an entry more
entry_more : (name : List ℕ) (j : Journal) (s : State) (e : Entry) → EndsInRun (j.entries ++ e ∷ []) (entry_step s e).state.run → Replays name j s → Replays name (entered j e) (entry_step s e).state
entry_more name j s e n r = record {
  is = after_more (fresh_with j.rules name j.names j.sessions) j.entries (e ∷ []) ∙ ap (λ z. (entry_step z e).state) r.is;
  rules = r.rules ∙ sym (entry_rules s e);
  sessions = r.sessions ∙ sym (ap (λ (z : State). z.sessions) (entry_stays s e));
  run = n;
}

-- an entry more that is no run
other_more : (name : List ℕ) (j : Journal) (s : State) (e : Entry) → (entry_step s e).state.run ≡ 0 → Replays name j s → Replays name (entered j e) (entry_step s e).state
other_more name j s e n r = entry_more name j s e (no_run (j.entries ++ e ∷ []) (entry_step s e).state.run n) r

-- of entries and one more the one more is the last
pub last_gone : (es : List Entry) (e : Entry) → without_last (es ++ e ∷ []) ≡ es
last_gone [] e = refl
last_gone (d ∷ []) e = refl
last_gone (d ∷ f ∷ es) e = ap (λ (x : List Entry). d ∷ x) (last_gone (f ∷ es) e)

-- the run that these end with
last_is : (es : List Entry) (n : ℕ) → last_run_of (es ++ runs n ∷ []) ≡ n
last_is [] n = refl
last_is (d ∷ []) n = refl
last_is (d ∷ f ∷ es) n = last_is (f ∷ es) n

ends_here : (es : List Entry) (n : ℕ) → EndsInRun (es ++ runs n ∷ []) n
ends_here es n m f = (last_is es n, ap (λ (x : List Entry). x ++ runs n ∷ []) (last_gone es (runs n)))

-- what a run does by rules with runs
pub run_does : (s : State) (n : ℕ) → has_runs s.rules ≡ true → entry_step s (runs n) ≡ first_steps n s
run_does s n h = ap (λ c. if c then first_steps n s else refuse s syntax) h

-- the rules of an account after entries
pub rules_after : (s : State) (es : List Entry) → (after_entries s es).rules ≡ s.rules
rules_after s [] = refl
rules_after s (e ∷ es) = rules_after (entry_step s e).state es ∙ entry_rules s e

-- a run that is one longer, of an account in which a run as long as this has led to `s`
pub longer_run : (t s : State) (n : ℕ) → has_runs t.rules ≡ true → (entry_step t (runs n)).state ≡ s → (entry_step t (runs (suc n))).state ≡ (first_step s).state
longer_run t s n h e =
    ap (λ (x : Transition). x.state) (run_does t (suc n) h)
    ∙ ap (λ z. (first_step z).state) (ap (λ (x : Transition). x.state) (sym (run_does t n h)) ∙ e)

-- the account before the last run
abbrev pub before_run : List ℕ → Journal → State
before_run name j = after_entries (fresh_with j.rules name j.names j.sessions) (without_last j.entries)

-- the last run leads to the account, by rules with runs
pub last_run : (name : List ℕ) (j : Journal) (s : State) (n : ℕ) → replay name j ≡ s → without_last j.entries ++ runs n ∷ [] ≡ j.entries → (entry_step (before_run name j) (runs n)).state ≡ s
last_run name j s n is ends =
    sym (after_more (fresh_with j.rules name j.names j.sessions) (without_last j.entries) (runs n ∷ []))
    ∙ ap (after_entries (fresh_with j.rules name j.names j.sessions)) ends ∙ is

-- a reduction that makes the last run longer
run_more : (name : List ℕ) (j : Journal) (s : State) (goal clause m : ℕ) → is_in_run s goal clause ≡ true → (step s (reduce goal clause)).state.run ≡ suc (suc m) → without_last j.entries ++ runs (suc m) ∷ [] ≡ j.entries → Replays name j s →
    Replays name (record j { entries = without_last j.entries ++ runs (suc (suc m)) ∷ [] }) (step s (reduce goal clause)).state
run_more name j s goal clause m in_run is ends r =
    let t = before_run name j in
    let z = step s (reduce goal clause) in
    let h : has_runs t.rules ≡ true = ap has_runs (rules_after (fresh_with j.rules name j.names j.sessions) (without_last j.entries) ∙ r.rules) ∙ run_has_rules s goal clause in_run in
    record {
      is =
          after_more (fresh_with j.rules name j.names j.sessions) (without_last j.entries) (runs (suc (suc m)) ∷ [])
          ∙ longer_run t s (suc m) h (last_run name j s (suc m) r.is ends)
          ∙ ap (λ (x : Transition). x.state) (run_is_first s goal clause in_run);
      rules = r.rules ∙ sym (entry_rules s (steps goal clause));
      sessions = r.sessions ∙ sym (ap (λ (z : State). z.sessions) (entry_stays s (steps goal clause)));
      run = subst (λ n. EndsInRun (without_last j.entries ++ runs (suc (suc m)) ∷ []) n) (sym is) (ends_here (without_last j.entries) (suc (suc m)));
    }

-- a reduction that begins a run
run_begins : (name : List ℕ) (j : Journal) (s : State) (goal clause : ℕ) → is_in_run s goal clause ≡ true → (step s (reduce goal clause)).state.run ≡ 1 → Replays name j s → Replays name (entered j (runs 1)) (step s (reduce goal clause)).state
run_begins name j s goal clause in_run is r =
    let e : (entry_step s (runs 1)).state ≡ (step s (reduce goal clause)).state = ap (λ (x : Transition). x.state) (run_does s 1 (run_has_rules s goal clause in_run)) ∙ ap (λ (x : Transition). x.state) (run_is_first s goal clause in_run) in
    subst (Replays name (entered j (runs 1))) e
    (entry_more name j s (runs 1) (subst (λ n. EndsInRun (j.entries ++ runs 1 ∷ []) n) (sym (ap (λ (z : State). z.run) e ∙ is)) (ends_here j.entries 1)) r)

-- a run with room in it is one longer
pub longer_is : (es : List Entry) (l n m : ℕ) → l ≡ n → n ≡ suc m → nat_lt n MOST_RUN ≡ true → run_longer es l ≡ without_last es ++ runs (suc (suc m)) ∷ []
longer_is es l n m e f room =
    ap (run_longer es) (e ∙ f) ∙ ap (λ b. if b then without_last es ++ runs (suc (suc m)) ∷ [] else es ++ runs 1 ∷ []) (ap (λ k. nat_lt k MOST_RUN) (sym f) ∙ room)

-- a reduction by the length of the last run after it
reduced_more : (name : List ℕ) (j : Journal) (s : State) (goal clause n : ℕ) (in_run : Bool) → is_in_run s goal clause ≡ in_run → (step s (reduce goal clause)).state.run ≡ n → n ≡ run_with in_run s → Replays name j s → Replays name (stepped j goal clause n) (step s (reduce goal clause)).state
reduced_more name j s goal clause zero in_run h is by r = other_more name j s (steps goal clause) is r
reduced_more name j s goal clause (suc n) false h is by r = absurd (omega (arith, by))
reduced_more name j s goal clause (suc zero) true h is by r = run_begins name j s goal clause h is r
reduced_more name j s goal clause (suc (suc m)) true h is by r =
    let before : s.run ≡ suc m = run_goes_on s.run m (sym by) in
    let ends = r.run m before in
    subst (λ (es : List Entry). Replays name (record j { entries = es }) (step s (reduce goal clause)).state) (sym (longer_is j.entries (last_run_of j.entries) s.run m ends.0 before (run_has_room s.run m (sym by))))
    (run_more name j s goal clause m h is (subst (λ n. without_last j.entries ++ runs n ∷ [] ≡ j.entries) before ends.1) r)

-- another number of sessions
resized : (name : List ℕ) (j : Journal) (s : State) (n : ℕ) → s.own_name ≡ name → Replays name j s → Replays name (record j { sessions = n }) (record s { sessions = n })
resized name j s n own r = record {
  is = after_beside name n (fresh_with j.rules name j.names j.sessions) j.entries ∙ ap (beside name n) r.is ∙ ap (λ (x : List ℕ). let z : State = record s { own_name = x; sessions = n } in z) (sym own);
  rules = r.rules;
  sessions = refl;
  run = r.run;
}

-- what became of an event that isn't refused
accepted : (name : List ℕ) (j : Journal) (s : State) (e : Event) → s.own_name ≡ name → is_refused (step s e).reply ≡ false → Replays name j s → Replays name (with_event j e (step s e).state) (step s e).state
accepted name j s (load text) own a r = other_more name j s (loads text) (loads_unrun s text a) r
accepted name j s (start allowance low high t) own a r = other_more name j s (starts allowance low high t) (starts_unrun s allowance low high t a) r
accepted name j s (control n m) own a r = other_more name j s (sends n m) (sends_unrun s n m a) r
accepted name j s (reduce goal clause) own a r = reduced_more name j s goal clause (step s (reduce goal clause)).state.run (is_in_run s goal clause) refl refl (reduction_run s goal clause a) r
accepted name j s (read q) own a r = record { is = r.is ∙ sym (reading_stays s q); rules = r.rules ∙ sym (ap (λ (z : State). z.rules) (reading_stays s q)); sessions = r.sessions ∙ sym (ap (λ (z : State). z.sessions) (reading_stays s q)); run = subst (λ n. EndsInRun j.entries n) (sym (ap (λ (z : State). z.run) (reading_stays s q))) r.run }
accepted name j s login own a r = logged (nat_lt s.sessions MOST_SESSIONS) s
  where
    logged : (c : Bool) (t : State) → (let x : Transition = if c then record { state = record s { sessions = suc s.sessions }; reply = welcome s.own_name } else refuse s sessions_refused in Replays name (record j { sessions = x.state.sessions }) x.state)
    logged true t = resized name j s (suc s.sessions) own r
    logged false t = resized name j s s.sessions own r
accepted name j s logout own a r = logged (nat_lt 0 s.sessions) s
  where
    logged : (c : Bool) (t : State) → (let x : Transition = if c then record { state = record s { sessions = s.sessions - 1 }; reply = bye } else refuse s sessions_refused in Replays name (record j { sessions = x.state.sessions }) x.state)
    logged true t = resized name j s (s.sessions - 1) own r
    logged false t = resized name j s s.sessions own r
accepted name j s reset own a r = record { is = ap (λ x. fresh_with s.rules x s.names s.sessions) (sym own); rules = refl; sessions = refl; run = no_run [] 0 refl }
accepted name j s (answer n report t) own a r = other_more name j s (answers n report t) (answers_unrun s n report t a) r
accepted name j s (forget n count) own a r = other_more name j s (forgets n count) (forgets_unrun s n count a) r

by_reply : (name : List ℕ) (j : Journal) (s : State) (e : Event) (c : Bool) → s.own_name ≡ name → is_refused (step s e).reply ≡ c → Replays name j s → Replays name (if c then j else with_event j e (step s e).state) (step s e).state
by_reply name j s e true own a r = subst (λ (z : State). Replays name j z) (sym (refusals_change_nothing s e a)) r
by_reply name j s e false own a r = accepted name j s e own a r

pub replays_stay : ReplaysStay
replays_stay k e r =
    let x = step k.state e in
    let h = by_reply k.state.own_name k.journal k.state e (is_refused x.reply) refl refl (record { is = r.is; rules = r.rules; sessions = r.sessions; run = r.run }) in
    record {
      is = ap (λ n. replay n (noted k.journal e x)) (names_stay k.state e) ∙ h.is;
      rules = h.rules;
      sessions = h.sessions;
      run = h.run;
    }
