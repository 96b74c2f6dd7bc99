-- What is written for the text of a journal that is replayed.
use Rattle.std.specs.Prelude.{◌≡◌, ℕ, zero, suc, ◌+◌, not, ◌&&◌, Bool, true, false, if◌then◌else◌, List, [], ◌∷◌, ◌++◌, length, map, unwrap_or, Option, Some, None, option_map}
use Rattle.std.specs.List.{AllByRecursion}
use Rattle.std.proofs.Common.{refl, sym, ap, ◌∙◌, subst, arith}
use Rattle.std.proofs.lemmas.Bool.{and_parts, and_from, not_from_false, true≢false}
use Rattle.std.proofs.lemmas.List.{append_assoc, append-nil}
use Rattle.kl1_model.specs.Text.{is_text}
use Rattle.kl1_model.specs.declared.rules.Rules.{Rules}
use Rattle.kl1_model.specs.State.{State, has_runs, fresh_with}
use Rattle.kl1_model.specs.Event.{Event, load, start, control, reduce, read, login, logout, reset, answer, forget, ran, Transition, is_refused}
use Rattle.kl1_model.specs.Choice.{is_in_run}
use Rattle.kl1_model.specs.Step.{step}
use Rattle.kl1_model_server.specs.Command.{reply_lines, written_lines}
use Rattle.kl1_model_server.specs.Journal.{Entry, loads, starts, sends, steps, answers, forgets, runs, last_run_of, first_step, first_steps, entry_step, Journal, without_last, entered, stepped, with_event, Kept}
use Rattle.kl1_model_server.specs.JournalText.{entry_line, name_line, is_new_name, Heading, Lines}
use Rattle.kl1_model_server.specs.laws.HistoryLaws.{beside, IsReplay}
use Rattle.kl1_model_server.specs.laws.TextLaws.{HasLine, are_new_names}
use Rattle.kl1_model_server.specs.Replay.{written_fault, written_end, written_entries, replay_name, written_names, written_replay}
use Rattle.kl1_model_server.specs.laws.ReplayLaws.{are_accepted, written_replies, replayed_from, RepliesOfReplays, FreshIsReplayable, ReplayableStays}
use Rattle.kl1_model_server.proofs.Besides.{stays_beside}
use Rattle.kl1_model_server.proofs.RulesKept.{entry_rules}
use Rattle.kl1_model_server.proofs.Replays.{longer_is, after_entries, fresh_is_replay, replays_stay, rules_after, run_does, before_run, last_run}
use Rattle.kl1_model_server.proofs.RunsKept.{run_with, reduction_run, run_goes_on, run_has_room, run_is_first, run_has_rules}
use Rattle.kl1_model_server.proofs.TextEntries.{entries_read_back}
use Rattle.kl1_model_server.proofs.TextNames.{names_read_back, headings_read_back}
use Rattle.kl1_model_server.proofs.TextJournals.{text_lines}

-- what is written for line k by what became of its entry, and how the replay goes on from the account
abbrev pub written_step : (State → List ℕ) → ℕ → Transition → List ℕ
written_step next k x = if is_refused x.reply then written_fault k else written_lines (reply_lines x.reply) ++ next x.state

-- what is written for line k by the entry that it is, if it is one
abbrev pub written_entry : (State → List ℕ) → ℕ → State → Option Entry → List ℕ
written_entry next k s o = elim o [ None ↦ written_fault k | Some e ↦ written_step next k (entry_step s e) ]

-- what is written for line k by the name that it has, if it has one that may follow the names before it
abbrev pub written_name : (List (List ℕ) → List ℕ) → ℕ → List (List ℕ) → Option (List ℕ) → List ℕ
written_name next k names o = elim o [ None ↦ written_fault k | Some t ↦ if is_new_name names t then next (names ++ t ∷ []) else written_fault k ]

-- what is written for lines after the first, by what that says
abbrev written_after : Option Heading → List (List ℕ) → List ℕ → List ℕ
written_after o lines rest = unwrap_or (option_map (λ h. written_names h.names 2 h.rules h.sessions [] lines rest) o) (written_fault 1)

not_true : (x : Bool) → not x ≡ true → x ≡ false
not_true true h = cc
not_true false h = refl

-- an entry that is accepted, and what follows it
step_written : (next : State → List ℕ) (k : ℕ) (x : Transition) (rest : List ℕ) → not (is_refused x.reply) ≡ true → next x.state ≡ rest → written_step next k x ≡ written_lines (reply_lines x.reply) ++ rest
step_written next k x rest a e =
    ap (λ c. if c then written_fault k else written_lines (reply_lines x.reply) ++ next x.state) (not_true (is_refused x.reply) a) ∙ ap (λ y. written_lines (reply_lines x.reply) ++ y) e

entries_written : (es : List Entry) (k n total : ℕ) (s : State) → AllByRecursion (HasLine s.rules) es → are_accepted s es ≡ true → n + length es ≡ total → written_entries k n s (map entry_line es) [] ≡ written_replies s es ++ written_end total
entries_written [] k n total s h a is = let same : n ≡ total = omega arith in ap written_end same
entries_written (e ∷ es) k n total s h a is =
    let x = entry_step s e in
    let both = and_parts (not (is_refused x.reply)) (are_accepted x.state es) a in
    let next : State → List ℕ = λ after. written_entries (suc k) (suc n) after (map entry_line es) [] in
    ap (written_entry next k s) (entries_read_back s.rules e h.0)
    ∙ step_written next k x (written_replies x.state es ++ written_end total) both.0 (entries_written es (suc k) (suc n) total x.state (subst (λ rules. AllByRecursion (HasLine rules) es) (sym (entry_rules s e)) h.1) both.1 (omega arith))
    ∙ sym (append_assoc (written_lines (reply_lines x.reply)) (written_replies x.state es) (written_end total))

-- the lines of names
names_written : (names before : List (List ℕ)) (k : ℕ) (rules : Rules) (sessions : ℕ) (lines : List (List ℕ)) (out : List ℕ) → are_new_names before names ≡ true → ((k : ℕ) → written_entries k 0 (fresh_with rules replay_name (before ++ names) sessions) lines [] ≡ out) →
    written_names (length names) k rules sessions before (map name_line names ++ lines) [] ≡ out
names_written [] before k rules sessions lines out new h = ap (λ names. written_entries k 0 (fresh_with rules replay_name names sessions) lines []) (sym (append-nil before)) ∙ h k
names_written (t ∷ ts) before k rules sessions lines out new h =
    let all = and_parts (is_text t && is_new_name before t) (are_new_names (before ++ t ∷ []) ts) new in
    let both = and_parts (is_text t) (is_new_name before t) all.0 in
    let next : List (List ℕ) → List ℕ = λ more. written_names (length ts) (suc k) rules sessions more (map name_line ts ++ lines) [] in
    ap (written_name next k before) (names_read_back t both.0)
    ∙ ap (λ c. if c then next (before ++ t ∷ []) else written_fault k) both.1
    ∙ names_written ts (before ++ t ∷ []) (suc k) rules sessions lines out all.1
    (λ k. ap (λ names. written_entries k 0 (fresh_with rules replay_name names sessions) lines []) (append_assoc before (t ∷ []) ts) ∙ h k)

pub replies_of_replays : RepliesOfReplays
replies_of_replays j w a =
    let lines = map name_line j.names ++ map entry_line j.entries in
    let out = written_replies (replayed_from j) j.entries ++ written_end (length j.entries) in
    ap (λ (ls : Lines). written_replay ls.whole ls.rest) (text_lines j w)
    ∙ ap (λ h. written_after h lines []) (headings_read_back j.rules j.sessions (length j.names) w.sessions w.names.few)
    ∙ names_written j.names [] 2 j.rules j.sessions (map entry_line j.entries) out w.names.new (λ k. entries_written j.entries k 0 (length j.entries) (replayed_from j) w.entries a (omega arith))

-- ---- journals that can be replayed

-- entries are accepted beside any own name and any number of sessions
accepted_beside : (name : List ℕ) (n : ℕ) (s : State) (es : List Entry) → are_accepted (beside name n s) es ≡ are_accepted s es
accepted_beside name n s [] = refl
accepted_beside name n s (e ∷ es) =
    let x = entry_step s e in
    ap (λ (y : Transition). not (is_refused y.reply) && are_accepted y.state es) (stays_beside name n s e)
    ∙ ap (λ c. not (is_refused x.reply) && c) (accepted_beside name n x.state es)

-- one entry more
accepted_more : (s : State) (es : List Entry) (e : Entry) → are_accepted s es ≡ true → is_refused (entry_step (after_entries s es) e).reply ≡ false → are_accepted s (es ++ e ∷ []) ≡ true
accepted_more s [] e a b = and_from (not (is_refused (entry_step s e).reply)) true (not_from_false (is_refused (entry_step s e).reply) b) refl
accepted_more s (d ∷ ds) e a b =
    let x = entry_step s d in
    let both = and_parts (not (is_refused x.reply)) (are_accepted x.state ds) a in
    and_from (not (is_refused x.reply)) (are_accepted x.state (ds ++ e ∷ [])) both.0 (accepted_more x.state ds e both.1 b)

-- a journal whose entries are all accepted
abbrev IsAccepted : Journal → Type 0
IsAccepted j = are_accepted (replayed_from j) j.entries ≡ true

-- one entry more of an account that is the replay of its journal
entry_accepted : (k : Kept) (e : Entry) → IsReplay k → is_refused (entry_step k.state e).reply ≡ false → IsAccepted k.journal → IsAccepted (entered k.journal e)
entry_accepted k e r b a =
    let j = k.journal in
    let own = k.state.own_name in
    let s = fresh_with j.rules own j.names j.sessions in
    let first : are_accepted s j.entries ≡ true = accepted_beside own j.sessions (replayed_from j) j.entries ∙ a in
    let last : is_refused (entry_step (after_entries s j.entries) e).reply ≡ false = ap (λ z. is_refused (entry_step z e).reply) r.is ∙ b in
    accepted_beside replay_name j.sessions s (j.entries ++ e ∷ []) ∙ accepted_more s j.entries e first last

-- entries without the last are accepted
fewer_accepted : (s : State) (es : List Entry) → are_accepted s es ≡ true → are_accepted s (without_last es) ≡ true
fewer_accepted s [] a = refl
fewer_accepted s (e ∷ []) a = refl
fewer_accepted s (e ∷ f ∷ es) a =
    let x = entry_step s e in
    let both = and_parts (not (is_refused x.reply)) (are_accepted x.state (f ∷ es)) a in
    and_from (not (is_refused x.reply)) (are_accepted x.state (without_last (f ∷ es))) both.0 (fewer_accepted x.state (f ∷ es) both.1)

-- a run is accepted if the account after the steps before the last can do that
run_accepted : (t : State) (n : ℕ) → has_runs t.rules ≡ true → is_refused (first_step (entry_step t (runs n)).state).reply ≡ false → is_refused (entry_step t (runs (suc n))).reply ≡ false
run_accepted t n h a =
    ap (λ (x : Transition). is_refused x.reply) (run_does t (suc n) h)
    ∙ goes (is_refused (first_step (first_steps n t).state).reply) (ap (λ (x : Transition). is_refused (first_step x.state).reply) (sym (run_does t n h)) ∙ a)
  where
    goes : (c : Bool) → c ≡ false → is_refused (if c then (first_step (first_steps n t).state).reply else ran (suc n)) ≡ false
    goes true e = absurd (true≢false e)
    goes false e = refl

-- the account before the last run, replayed beside another name and other sessions
longer_accepted : (k : Kept) (goal clause m : ℕ) → IsReplay k → is_in_run k.state goal clause ≡ true → is_refused (step k.state (reduce goal clause)).reply ≡ false → without_last k.journal.entries ++ runs (suc m) ∷ [] ≡ k.journal.entries →
    IsAccepted k.journal → IsAccepted (record k.journal { entries = without_last k.journal.entries ++ runs (suc (suc m)) ∷ [] })
longer_accepted k goal clause m r in_run b ends a =
    let j = k.journal in
    let own = k.state.own_name in
    let s = fresh_with j.rules own j.names j.sessions in
    let t = before_run own j in
    let h : has_runs t.rules ≡ true = ap has_runs (rules_after s (without_last j.entries) ∙ r.rules) ∙ run_has_rules k.state goal clause in_run in
    let fewer : are_accepted s (without_last j.entries) ≡ true = fewer_accepted s j.entries (accepted_beside own j.sessions (replayed_from j) j.entries ∙ a) in
    let next : is_refused (first_step (entry_step t (runs (suc m))).state).reply ≡ false =
    ap (λ z. is_refused (first_step z).reply) (last_run own j k.state (suc m) r.is ends) ∙ ap (λ (x : Transition). is_refused x.reply) (run_is_first k.state goal clause in_run) ∙ b in
    accepted_beside replay_name j.sessions s (without_last j.entries ++ runs (suc (suc m)) ∷ []) ∙ accepted_more s (without_last j.entries) (runs (suc (suc m))) fewer (run_accepted t (suc m) h next)

begun_accepted : (k : Kept) (goal clause : ℕ) → IsReplay k → is_in_run k.state goal clause ≡ true → is_refused (step k.state (reduce goal clause)).reply ≡ false → IsAccepted k.journal → IsAccepted (entered k.journal (runs 1))
begun_accepted k goal clause r in_run b a =
    let h = run_has_rules k.state goal clause in_run in
    let zero_is : (entry_step k.state (runs 0)).state ≡ k.state = ap (λ (x : Transition). x.state) (run_does k.state 0 h) in
    entry_accepted k (runs 1) r
    (run_accepted k.state 0 h (ap (λ z. is_refused (first_step z).reply) zero_is ∙ ap (λ (x : Transition). is_refused x.reply) (run_is_first k.state goal clause in_run) ∙ b)) a

reduced_accepted : (k : Kept) (goal clause n : ℕ) (in_run : Bool) → IsReplay k → is_in_run k.state goal clause ≡ in_run → n ≡ run_with in_run k.state → is_refused (step k.state (reduce goal clause)).reply ≡ false → IsAccepted k.journal → IsAccepted (stepped k.journal goal clause n)
reduced_accepted k goal clause zero in_run r h by b a = entry_accepted k (steps goal clause) r b a
reduced_accepted k goal clause (suc n) false r h by b a = absurd (omega (arith, by))
reduced_accepted k goal clause (suc zero) true r h by b a = begun_accepted k goal clause r h b a
reduced_accepted k goal clause (suc (suc m)) true r h by b a =
    let before : k.state.run ≡ suc m = run_goes_on k.state.run m (sym by) in
    let ends = r.run m before in
    subst (λ (es : List Entry). IsAccepted (record k.journal { entries = es })) (sym (longer_is k.journal.entries (last_run_of k.journal.entries) k.state.run m ends.0 before (run_has_room k.state.run m (sym by))))
    (longer_accepted k goal clause m r h b (subst (λ n. without_last k.journal.entries ++ runs n ∷ [] ≡ k.journal.entries) before ends.1) a)

event_accepted : (k : Kept) (e : Event) → IsReplay k → is_refused (step k.state e).reply ≡ false → IsAccepted k.journal → IsAccepted (with_event k.journal e (step k.state e).state)
event_accepted k (load text) r b a = entry_accepted k (loads text) r b a
event_accepted k (start allowance low high t) r b a = entry_accepted k (starts allowance low high t) r b a
event_accepted k (control n m) r b a = entry_accepted k (sends n m) r b a
event_accepted k (reduce goal clause) r b a = reduced_accepted k goal clause (step k.state (reduce goal clause)).state.run (is_in_run k.state goal clause) r refl (reduction_run k.state goal clause b) b a
event_accepted k (read q) r b a = a
event_accepted k login r b a = accepted_beside replay_name (step k.state login).state.sessions (replayed_from k.journal) k.journal.entries ∙ a
event_accepted k logout r b a = accepted_beside replay_name (step k.state logout).state.sessions (replayed_from k.journal) k.journal.entries ∙ a
event_accepted k reset r b a = refl
event_accepted k (answer n report t) r b a = entry_accepted k (answers n report t) r b a
event_accepted k (forget n count) r b a = entry_accepted k (forgets n count) r b a

noted_accepted : (c : Bool) (k : Kept) (e : Event) → IsReplay k → is_refused (step k.state e).reply ≡ c → IsAccepted k.journal → IsAccepted (if c then k.journal else with_event k.journal e (step k.state e).state)
noted_accepted true k e r b a = a
noted_accepted false k e r b a = event_accepted k e r b a

pub fresh_is_replayable : FreshIsReplayable
fresh_is_replayable rules name = record { is = fresh_is_replay rules name; accepted = refl }

pub replayable_stays : ReplayableStays
replayable_stays k e r = record {
  is = replays_stay k e r.is;
  accepted = noted_accepted (is_refused (step k.state e).reply) k e r.is refl r.accepted;
}
