-- How journals grow.
use Rattle.std.proofs.Common.{◌≡◌, ℕ, zero, suc, ◌≤◌, Bool, true, false, if◌then◌else◌, List, [], ◌∷◌, ◌++◌, refl, sym, ap, ◌∙◌, subst, arith, inl, inr}
use Rattle.std.specs.Prelude.{nat_lt}
use Rattle.kl1_model.specs.declared.limits.TheConstants.{MOST_RUN}
use Rattle.kl1_model.specs.State.{State}
use Rattle.kl1_model.specs.Event.{Event, load, start, control, reduce, read, login, logout, reset, answer, forget, is_refused}
use Rattle.kl1_model.specs.Choice.{is_in_run}
use Rattle.kl1_model.specs.Step.{step}
use Rattle.kl1_model_server.specs.Journal.{Entry, loads, starts, sends, steps, answers, forgets, runs, run_length, last_run_of, run_longer, Journal, without_last, entered, stepped, with_event}
use Rattle.kl1_model_server.specs.laws.HistoryLaws.{EndsInRun}
use Rattle.kl1_model_server.proofs.RunsKept.{run_with, reduction_run, run_goes_on}
use Rattle.kl1_journal_stamps.specs.Later.{Grows, GrowsBefore, AreLater, IsLater}
use Rattle.kl1_journal_stamps.specs.laws.GrowthLaws.{EventsGrow, GrowthBegins, GrowthGoesOn}

stays_before : (ds : List Entry) (d : Entry) → GrowsBefore ds d d
stays_before [] d = inl refl
stays_before (x ∷ xs) d = refl

same_later : (es : List Entry) → AreLater es es
same_later [] = tt
same_later (e ∷ es) = (stays_before es e, same_later es)

one_later : (es : List Entry) (e : Entry) → AreLater es (es ++ e ∷ [])
one_later [] e = tt
one_later (d ∷ ds) e = (stays_before ds d, one_later ds e)

run_later : (es : List Entry) (m n : ℕ) → m ≤ n → AreLater (es ++ runs m ∷ []) (es ++ runs n ∷ [])
run_later [] m n more = (inr (m, n, refl, refl, more), tt)
run_later (d ∷ ds) m n more = (stays_before (ds ++ runs m ∷ []) d, run_later ds m n more)

same_run : (m n : ℕ) → runs m ≡ runs n → m ≡ n
same_run m n h = ap run_length h

grows_on : (d e f : Entry) → Grows d e → Grows e f → Grows d f
grows_on d e f (inl is) next = subst (λ (x : Entry). Grows x f) (sym is) next
grows_on d e f (inr h) (inl is) = inr (h.0, h.1, h.2, sym is ∙ h.3, h.4)
grows_on d e f (inr h) (inr g) =
    let same = same_run h.1 g.0 (sym h.3 ∙ g.2) in
    let less = h.4 in
    let more = g.4 in
    inr (h.0, g.1, h.2, g.3, omega (arith, same, less, more))

before_on : (ds es : List Entry) (d e f : Entry) → AreLater ds es → GrowsBefore ds d e → GrowsBefore es e f → GrowsBefore ds d f
before_on [] [] d e f l h g = grows_on d e f h g
before_on [] (y ∷ ys) d e f l h g = subst (λ (x : Entry). Grows d x) g h
before_on (x ∷ xs) [] d e f l h g = absurd l
before_on (x ∷ xs) (y ∷ ys) d e f l h g = h ∙ g

later_on : (ds es fs : List Entry) → AreLater ds es → AreLater es fs → AreLater ds fs
later_on [] es fs l m = tt
later_on (d ∷ ds) [] fs l m = absurd l
later_on (d ∷ ds) (e ∷ es) [] l m = absurd m
later_on (d ∷ ds) (e ∷ es) (f ∷ fs) l m = (before_on ds es d e f l.1 l.0 m.0, later_on ds es fs l.1 m.1)

pub growth_begins : GrowthBegins
growth_begins j = record { rules = refl; names = refl; entries = same_later j.entries }

pub growth_goes_on : GrowthGoesOn
growth_goes_on i j k l m = record { rules = l.rules ∙ m.rules; names = l.names ∙ m.names; entries = later_on i.entries j.entries k.entries l.entries m.entries }

pub entered_later : (j : Journal) (e : Entry) → IsLater j (entered j e)
entered_later j e = record { rules = refl; names = refl; entries = one_later j.entries e }

-- entries whose last run is longer by one, or that have a new run
longer_later : (es : List Entry) (n : ℕ) (b : Bool) → without_last es ++ runs (suc n) ∷ [] ≡ es → AreLater es (if b then without_last es ++ runs (suc (suc n)) ∷ [] else es ++ runs 1 ∷ [])
longer_later es n true is = subst (λ (ds : List Entry). AreLater ds (without_last es ++ runs (suc (suc n)) ∷ [])) is (run_later (without_last es) (suc n) (suc (suc n)) (omega arith))
longer_later es n false is = one_later es (runs 1)

-- a reduction that makes the last run longer by one
pub run_later_by_one : (j : Journal) (goal clause m : ℕ) → EndsInRun j.entries (suc m) → IsLater j (stepped j goal clause (suc (suc m)))
run_later_by_one j goal clause m ends = record {
  rules = refl;
  names = refl;
  entries = subst (λ n. AreLater j.entries (run_longer j.entries n)) (sym (ends m refl).0) (longer_later j.entries m (nat_lt (suc m) MOST_RUN) (ends m refl).1);
}

-- a reduction by the length of the last run after it
stepped_later : (j : Journal) (s : State) (goal clause n : ℕ) (in_run : Bool) → n ≡ run_with in_run s → EndsInRun j.entries s.run → IsLater j (stepped j goal clause n)
stepped_later j s goal clause zero in_run is ends = entered_later j _
stepped_later j s goal clause (suc zero) in_run is ends = entered_later j _
stepped_later j s goal clause (suc (suc m)) false is ends = absurd (omega (arith, is))
stepped_later j s goal clause (suc (suc m)) true is ends = run_later_by_one j goal clause m (subst (λ n. EndsInRun j.entries n) (run_goes_on s.run m (sym is)) ends)

accepted_later : (j : Journal) (s : State) (e : Event) → (e ≡ reset → ⊥) → is_refused (step s e).reply ≡ false → EndsInRun j.entries s.run → IsLater j (with_event j e (step s e).state)
accepted_later j s (load text) none a ends = entered_later j _
accepted_later j s (start allowance low high t) none a ends = entered_later j _
accepted_later j s (control n m) none a ends = entered_later j _
accepted_later j s (reduce goal clause) none a ends = stepped_later j s goal clause (step s (reduce goal clause)).state.run (is_in_run s goal clause) (reduction_run s goal clause a) ends
accepted_later j s (read q) none a ends = growth_begins j
accepted_later j s login none a ends = record { rules = refl; names = refl; entries = same_later j.entries }
accepted_later j s logout none a ends = record { rules = refl; names = refl; entries = same_later j.entries }
accepted_later j s reset none a ends = absurd (none refl)
accepted_later j s (answer n report t) none a ends = entered_later j _
accepted_later j s (forget n count) none a ends = entered_later j _

later_by : (j : Journal) (s : State) (e : Event) (c : Bool) → (e ≡ reset → ⊥) → is_refused (step s e).reply ≡ c → EndsInRun j.entries s.run → IsLater j (if c then j else with_event j e (step s e).state)
later_by j s e true none a ends = growth_begins j
later_by j s e false none a ends = accepted_later j s e none a ends

pub events_grow : EventsGrow
events_grow k e r none = later_by k.journal k.state e (is_refused (step k.state e).reply) none refl r.run
