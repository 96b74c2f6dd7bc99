-- What deeds do, one after another.
use Rattle.std.proofs.Common.{◌≡◌, ℕ, zero, suc, Bool, true, false, if◌then◌else◌, List, [], ◌∷◌, ◌++◌, length, take, drop, refl, sym, ap, ◌∙◌, append_assoc}
use Rattle.std.specs.Prelude.{replicate}
use Rattle.std.proofs.Math.Seq.{take-append_seam}
use Rattle.std.proofs.lemmas.List.{take-append-drop}
use Rattle.kl1_model.specs.State.{State, has_runs, fresh_with}
use Rattle.kl1_model.specs.Event.{Transition, syntax, refuse}
use Rattle.kl1_model_server.specs.Journal.{Entry, loads, starts, sends, steps, answers, forgets, runs, first_step, first_steps, entry_step}
use Rattle.kl1_model_server.proofs.RulesKept.{entry_rules}
use Rattle.kl1_log.specs.Deeds.{deeds_of_entry, deeds_of, after_entries}
use Rattle.kl1_log.specs.laws.LogLaws.{ReplaysOfFronts}

-- deeds after others
pub deeds_more : (es fs : List Entry) → deeds_of (es ++ fs) ≡ deeds_of es ++ deeds_of fs
deeds_more [] fs = refl
deeds_more (e ∷ es) fs = ap (λ (x : List Entry). deeds_of_entry e ++ x) (deeds_more es fs) ∙ sym (append_assoc (deeds_of_entry e) (deeds_of es) (deeds_of fs))

after_more : (s : State) (es fs : List Entry) → after_entries s (es ++ fs) ≡ after_entries (after_entries s es) fs
after_more s [] fs = refl
after_more s (e ∷ es) fs = after_more (entry_step s e).state es fs

repeat_last : (n : ℕ) (e : Entry) → replicate (suc n) e ≡ replicate n e ++ e ∷ []
repeat_last zero e = refl
repeat_last (suc n) e = ap (λ (x : List Entry). e ∷ x) (repeat_last n e)

-- what a run does by the test whether there are runs
run_by : Bool → State → ℕ → Transition
run_by b s n = if b then first_steps n s else refuse s syntax

one_more : (b : Bool) (s t : State) (n : ℕ) → t ≡ (run_by b s n).state → (run_by b t 1).state ≡ (run_by b s (suc n)).state
unfolding run_by
one_more true s t n is = ap (λ (x : State). (first_step x).state) is
one_more false s t n is = is

none_done : (b : Bool) (s : State) → s ≡ (run_by b s 0).state
unfolding run_by
none_done true s = refl
none_done false s = refl

-- a run is as many runs of one reduction
run_done : (s : State) (n : ℕ) → after_entries s (replicate n (runs 1)) ≡ (run_by (has_runs s.rules) s n).state
unfolding run_by
run_done s zero = none_done (has_runs s.rules) s
run_done s (suc n) =
    let t = after_entries s (replicate n (runs 1)) in
    let is = run_done s n in
    let rules : has_runs t.rules ≡ has_runs s.rules = ap (λ (x : State). has_runs x.rules) is ∙ ap has_runs (entry_rules s (runs n)) in
    ap (after_entries s) (repeat_last n (runs 1))
    ∙ after_more s (replicate n (runs 1)) (runs 1 ∷ [])
    ∙ ap (λ (b : Bool). (run_by b t 1).state) rules
    ∙ one_more (has_runs s.rules) s t n is

deed_done : (s : State) (e : Entry) → after_entries s (deeds_of_entry e) ≡ (entry_step s e).state
unfolding run_by
deed_done s (loads text) = refl
deed_done s (starts allowance low high t) = refl
deed_done s (sends n m) = refl
deed_done s (steps goal clause) = refl
deed_done s (answers n report t) = refl
deed_done s (forgets n count) = refl
deed_done s (runs n) = run_done s n

-- an account after the deeds of entries is as after the entries
pub deeds_done : (s : State) (es : List Entry) → after_entries s (deeds_of es) ≡ after_entries s es
deeds_done s [] = refl
deeds_done s (e ∷ es) =
    after_more s (deeds_of_entry e) (deeds_of es) ∙ ap (λ (t : State). after_entries t (deeds_of es)) (deed_done s e) ∙ deeds_done (entry_step s e).state es

-- the deeds of a front are a front of the deeds
pub deeds_front : (es : List Entry) (n : ℕ) → take (length (deeds_of (take n es))) (deeds_of es) ≡ deeds_of (take n es)
deeds_front es n =
    ap (take (length (deeds_of (take n es)))) (ap deeds_of (sym (take-append-drop n es)) ∙ deeds_more (take n es) (drop n es))
    ∙ take-append_seam (deeds_of (take n es)) (deeds_of (drop n es))

pub replays_of_fronts : ReplaysOfFronts
replays_of_fronts name j k m same =
    let from = fresh_with j.rules name j.names 0 in
    let count = length (deeds_of (take m j.entries)) in
    sym (deeds_done from (take m j.entries))
    ∙ ap (after_entries from) (sym (deeds_front j.entries m) ∙ ap (take count) same.deeds)
    ∙ ap (λ rules. after_entries (fresh_with rules name j.names 0) (take count (deeds_of k.entries))) same.rules
    ∙ ap (λ (names : List (List ℕ)). after_entries (fresh_with k.rules name names 0) (take count (deeds_of k.entries))) same.names
