-- Terminations come apart: lives end first, and reports and closings come after.
use Rattle.kl1_user_effects.proofs.Words.{◌≡◌, ℕ, suc, ◌==◌, if◌then◌else◌, List, [], ◌∷◌, refl, sym, ap, ◌∙◌, inl, inr, Option, Some, None, option_map, Terminated, Term, variable, nil, cell, State, shoen_at, replace_in_shoen, replace_in_state, change_shoen, path, has_made_last, report_tail, reported_on, reported_at, report, report_each, closed_at, close, exhausted_report, terminated_report, report_of, close_of, without_monitor, ended_at, terminate, terminate_each, ending_of, newly_exhausted, after_reduction, ended_each, left_at, life_at, finished_late, finished_each_late, cases_Bool, map-map}
use Rattle.std.specs.Prelude.{map}
use Rattle.kl1_model.specs.State.{Shoen}
use Rattle.kl1_model.specs.Ending.{ended_as}
use Rattle.kl1_user_effects.proofs.Leaving.{broken_as, left_as}
use Rattle.kl1_user_effects.proofs.Lists.{maps_both, maps_as, find_by}

-- a shoen whose life has ended as terminated
abbrev pub over : Shoen → Shoen
over h = record h { life = Terminated }

-- a shoen, ended if it has this number
abbrev ended_if : ℕ → Shoen → Shoen
ended_if n h = if h.number == n then over h else h

-- ---- changes, after a shoen has ended

-- a change of a shoen that doesn't touch its life and its number
changed_ended : (n m : ℕ) (f : Shoen → Shoen) (s : State) → ((h : Shoen) → f (over h) ≡ over (f h)) → ((h : Shoen) → (f h).number ≡ h.number) → change_shoen m f (life_at n s) ≡ life_at n (change_shoen m f s)
changed_ended n m f s e same = ap (λ (hs : List Shoen). let z : State = record s { shoens = hs } in z) (maps_both change (ended_if n) (ended_if n) change one s.shoens)
  where
    change : Shoen → Shoen
    change h = if h.number == m then f h else h

    one : (h : Shoen) → change (ended_if n h) ≡ ended_if n (change h)
    one h = elim (cases_Bool (h.number == n)) [
      | inl p ↦ elim (cases_Bool (h.number == m)) [ inl q ↦ simp (p, q, ap (λ k. k == n) (same h) ∙ p) (e h) | inr q ↦ simp (p, q) ]
      | inr p ↦ elim (cases_Bool (h.number == m)) [ inl q ↦ simp (p, q, ap (λ k. k == n) (same h) ∙ p) | inr q ↦ simp (p, q) ]
    ]

-- a shoen changes before a variable is replaced, or after that
pub change_replaced : (n v : ℕ) (t : Term) (f g : Shoen → Shoen) (s : State) → ((h : Shoen) → replace_in_shoen v t (f h) ≡ g (replace_in_shoen v t h)) → replace_in_state v t (change_shoen n f s) ≡ change_shoen n g (replace_in_state v t s)
change_replaced n v t f g s e =
    ap (λ (hs : List Shoen). let z : State = record (replace_in_state v t s) { shoens = hs } in z)
    (maps_both (replace_in_shoen v t) (λ h. if h.number == n then f h else h) (λ h. if h.number == n then g h else h) (replace_in_shoen v t) (λ h. elim (cases_Bool (h.number == n)) [ inl p ↦ simp p (e h) | inr p ↦ simp p ]) s.shoens)

pub replace_ended : (n v : ℕ) (t : Term) (s : State) → replace_in_state v t (life_at n s) ≡ life_at n (replace_in_state v t s)
replace_ended n v t s = change_replaced n v t over over s (λ h. refl)

found_ended : (n m : ℕ) (hs : List Shoen) → shoen_at m (map (ended_if n) hs) ≡ option_map (ended_if n) (shoen_at m hs)
found_ended n m hs = find_by (ended_if n) (λ h. h.number == m) (λ h. h.number == m) (λ h. elim (cases_Bool (h.number == n)) [ inl p ↦ simp p | inr p ↦ simp p ]) hs

-- ---- reports and closings, after a shoen has ended

told_ended : (n m : ℕ) (message : Term) (o : Option ℕ) (s : State) → reported_on m message o (life_at n s) ≡ life_at n (reported_on m message o s)
told_ended n m message None s = changed_ended n m (broken_as s.rules) s (λ h. refl) (λ h. refl)
told_ended n m message (Some v) s =
    let next = suc s.last_variable in
    let sent : State → State = λ z. record z { last_variable = next; reports = suc s.reports } in
    let by = cell message (variable next) in
    ap (λ z. change_shoen m (λ h. record h { tail = variable next }) (sent z)) (replace_ended n v by s)
    ∙ changed_ended n m (λ h. record h { tail = variable next }) (sent (replace_in_state v by s)) (λ h. refl) (λ h. refl)

-- what is done by the shoen that is found, if its stream is whole, is done after it has ended too
if_whole : (n : ℕ) (s : State) (act : Term → State → State) → ((t : Term) → act t (life_at n s) ≡ life_at n (act t s)) → (h : Shoen) →
    (if (ended_if n h).is_broken then life_at n s else act (ended_if n h).tail (life_at n s)) ≡ life_at n (if h.is_broken then s else act h.tail s)
if_whole n s act e h = elim (cases_Bool (h.number == n)) [ inl p ↦ simp p by_stream | inr p ↦ simp p by_stream ]
  where
    by_stream : (if h.is_broken then life_at n s else act h.tail (life_at n s)) ≡ life_at n (if h.is_broken then s else act h.tail s)
    by_stream = elim (cases_Bool h.is_broken) [ inl q ↦ rw q | inr q ↦ rw q (e h.tail) ]

report_ended : (n m : ℕ) (message : Term) (s : State) → report m message (life_at n s) ≡ life_at n (report m message s)
report_ended n m message s = ap (λ o. report_of o m message (life_at n s)) (found_ended n m s.shoens) ∙ by_case (shoen_at m s.shoens)
  where
    by_case : (o : Option Shoen) → report_of (option_map (ended_if n) o) m message (life_at n s) ≡ life_at n (report_of o m message s)
    by_case None = refl
    by_case (Some h) = if_whole n s (reported_at m message) (λ t. told_ended n m message (report_tail (has_made_last s) message t) s) h

close_ended : (n m : ℕ) (s : State) → close m (life_at n s) ≡ life_at n (close m s)
close_ended n m s = ap (λ o. close_of o (life_at n s)) (found_ended n m s.shoens) ∙ by_case (shoen_at m s.shoens)
  where
    by_tail : (t : Term) → closed_at t (life_at n s) ≡ life_at n (closed_at t s)
    by_tail (variable v) = replace_ended n v nil s
    by_tail _ = refl

    by_case : (o : Option Shoen) → close_of (option_map (ended_if n) o) (life_at n s) ≡ life_at n (close_of o s)
    by_case None = refl
    by_case (Some h) = if_whole n s closed_at by_tail h

-- ---- all of it

finished_ended : (n m : ℕ) (s : State) → finished_late None m (life_at n s) ≡ life_at n (finished_late None m s)
finished_ended n m s =
    let left = left_at m (without_monitor m s) in
    ap (λ (z : State). close m (report m terminated_report z)) (changed_ended n m (left_as s.rules) (without_monitor m s) (λ h. refl) (λ h. refl))
    ∙ ap (close m) (report_ended n m terminated_report left)
    ∙ close_ended n m (report m terminated_report left)

finished_all : (ns : List ℕ) (m : ℕ) (s : State) → finished_late None m (ended_each ns s) ≡ ended_each ns (finished_late None m s)
finished_all [] m s = refl
finished_all (n ∷ ns) m s = finished_all ns m (life_at n s) ∙ ap (ended_each ns) (finished_ended n m s)

reported_all : (ns ms : List ℕ) (message : Term) (s : State) → report_each ms message (ended_each ns s) ≡ ended_each ns (report_each ms message s)
reported_all [] ms message s = refl
reported_all (n ∷ ns) ms message s = reported_all ns ms message (life_at n s) ∙ ap (ended_each ns) (each_ended ms s)
  where
    each_ended : (ks : List ℕ) (z : State) → report_each ks message (life_at n z) ≡ life_at n (report_each ks message z)
    each_ended [] z = refl
    each_ended (k ∷ ks) z = ap (report_each ks message) (report_ended n k message z) ∙ each_ended ks (report k message z)

-- a shoen's life ends, and then it leaves what is left: that is its end
at_once : (n : ℕ) (s : State) → left_at n (life_at n s) ≡ ended_at n s
at_once n s = ap (λ (hs : List Shoen). let z : State = record s { shoens = hs } in z) (map-map leaves (ended_if n) s.shoens ∙ maps_as (λ h. leaves (ended_if n h)) (λ h. if h.number == n then ended_as s.rules Terminated h else h) one s.shoens)
  where
    leaves : Shoen → Shoen
    leaves h = if h.number == n then left_as s.rules h else h

    one : (h : Shoen) → leaves (ended_if n h) ≡ (if h.number == n then ended_as s.rules Terminated h else h)
    one h = elim (cases_Bool (h.number == n)) [ inl p ↦ simp p | inr p ↦ simp p ]

-- terminations are the ends of lives, and then the rest of each
pub terminates_apart : (ns : List ℕ) (s : State) → terminate_each ns s ≡ finished_each_late None ns (ended_each ns s)
terminates_apart [] s = refl
terminates_apart (n ∷ ns) s =
    terminates_apart ns (terminate n s)
    ∙ ap (finished_each_late None ns) (ap (λ (z : State). ended_each ns (close n (report n terminated_report (without_monitor n z)))) (sym (at_once n s)) ∙ sym (finished_all ns n (life_at n s)))

-- what comes after a reduction comes apart: lives end, reports of exhaustion are made, and then the rest of each termination
pub settles_apart : (n : ℕ) (s : State) →
    after_reduction n s ≡ finished_each_late None (ending_of (path s.shoens n) s) (report_each (newly_exhausted s (ending_of (path s.shoens n) s) (path s.shoens n)) exhausted_report (ended_each (ending_of (path s.shoens n) s) s))
settles_apart n s =
    let ns = path s.shoens n in
    let ending = ending_of ns s in
    let told = newly_exhausted s ending ns in
    terminates_apart ending (report_each told exhausted_report s) ∙ ap (finished_each_late None ending) (sym (reported_all ending told exhausted_report s))
