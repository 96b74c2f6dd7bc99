-- Journals of tests, which grow.
use Rattle.std.proofs.Common.{◌≡◌, ℕ, zero, suc, ◌<◌, Bool, if◌then◌else◌, List, [], ◌∷◌, ◌++◌, refl, sym, ap, ◌∙◌, subst, arith, inl, inr}
use Rattle.std.proofs.lemmas.Bool.{lt-ltb}
use Rattle.std.specs.Prelude.{Option, Some, None, IfSome, IsNone, slice_get}
use Rattle.kl1_model.specs.declared.limits.TheConstants.{MOST_RUN}
use Rattle.kl1_model_server.specs.Journal.{Entry, runs, last_run_of, run_longer, Journal, without_last, stepped}
use Rattle.kl1_model_server.specs.laws.HistoryLaws.{EndsInRun}
use Rattle.kl1_journal_entries.specs.Lined.{with_prepared, with_reduction}
use Rattle.kl1_journal_stamps.specs.Later.{IsLater}
use Rattle.kl1_journal_stamps.specs.Stamps.{HistoryId, StampValue, ShownValue, MayFollow}
use Rattle.kl1_journal_stamps.proofs.Growing.{entered_later, growth_begins, run_later_by_one}
use Rattle.kl1_journal_stamps.proofs.Chains.{may_follow_on}

without_one : (es : List Entry) (e : Entry) → without_last (es ++ e ∷ []) ≡ es
without_one [] e = refl
without_one (d ∷ []) e = refl
without_one (d ∷ f ∷ fs) e = ap (λ (es : List Entry). d ∷ es) (without_one (f ∷ fs) e)

last_one : (es : List Entry) (n : ℕ) → last_run_of (es ++ runs n ∷ []) ≡ n
last_one [] n = refl
last_one (d ∷ []) n = refl
last_one (d ∷ f ∷ fs) n = last_one (f ∷ fs) n

-- entries end in their last one, if that is a run
ends_here : (es : List Entry) (n : ℕ) → EndsInRun (es ++ runs n ∷ []) n
ends_here es n m is = (last_one es n, ap (λ (ds : List Entry). ds ++ runs n ∷ []) (without_one es (runs n)))

-- and in no run, if none is counted
pub ends_in_none : (es : List Entry) → EndsInRun es 0
ends_in_none es m is = absurd (omega (arith, is))

-- entries whose last run is longer by one, since it may be
longer_ends : (es : List Entry) (m : ℕ) → suc m < MOST_RUN → EndsInRun (run_longer es (suc m)) (suc (suc m))
longer_ends es m less = subst
    (λ (b : Bool). EndsInRun (if b then without_last es ++ runs (suc (suc m)) ∷ [] else es ++ runs 1 ∷ []) (suc (suc m)))
    (sym (lt-ltb (suc m) MOST_RUN less))
    (ends_here (without_last es) (suc (suc m)))

-- a run that is longer by one, or a new one
run_grown : (j : Journal) (n : ℕ) → n < MOST_RUN → EndsInRun j.entries n → IsLater j (stepped j 0 0 (suc n)) × EndsInRun (stepped j 0 0 (suc n)).entries (suc n)
run_grown j zero less ends = (entered_later j (runs 1), ends_here j.entries 1)
run_grown j (suc m) less ends = (run_later_by_one j 0 0 m ends, subst (λ (k : ℕ). EndsInRun (run_longer j.entries k) (suc (suc m))) (sym (ends m refl).0) (longer_ends j.entries m less))

run_grown_by : (j : Journal) (n r : ℕ) → r ≡ suc n → n < MOST_RUN → EndsInRun j.entries n → IsLater j (with_reduction j 0 0 r) × EndsInRun (with_reduction j 0 0 r).entries r
run_grown_by j n zero is less ends = absurd (omega (arith, is))
run_grown_by j n (suc r) is less ends = let same : n ≡ r = omega (arith, is) in run_grown j r (subst (λ (k : ℕ). k < MOST_RUN) same less) (subst (λ (k : ℕ). EndsInRun j.entries k) same ends)

prepared_later : (j : Journal) (o : Option Entry) → IsLater j (with_prepared j o)
prepared_later j None = growth_begins j
prepared_later j (Some e) = entered_later j e

-- a reduction that is in no run
pub reduced_later : (j : Journal) (goal clause : ℕ) → IsLater j (with_reduction j goal clause 0)
reduced_later j goal clause = prepared_later j _

-- what has grown may follow what its beginning may
pub grown_follows : (last : Option (ℕ × Journal)) (g : ℕ) (j k : Journal) → MayFollow last g j → IsLater j k → MayFollow last g k
grown_follows last g j k was later = may_follow_on last g g j k was (inr (refl, later))

-- and so may what is of the next generation
pub next_follows : (last : Option (ℕ × Journal)) (g h : ℕ) (j k : Journal) → MayFollow last g j → g < h → MayFollow last h k
next_follows last g h j k was less = may_follow_on last g h j k was (inl less)

-- so after a reduction of a run, for which there was room made first
pub run_goes_on : (last : Option (ℕ × Journal)) (g n r : ℕ) (j k m : Journal) → k ≡ j → m ≡ with_reduction k 0 0 r → r ≡ suc n → n < MOST_RUN → MayFollow last g j → EndsInRun j.entries n → MayFollow last g m × EndsInRun m.entries r
run_goes_on last g n r j k m same is one less may ends =
    let grown = run_grown_by k n r one less (subst (λ (x : Journal). EndsInRun x.entries n) (sym same) ends) in
    let before = subst (λ (x : Journal). MayFollow last g x) (sym same) may in (
      subst (λ (x : Journal). MayFollow last g x) (sym is) (grown_follows last g k (with_reduction k 0 0 r) before grown.0),
      subst (λ (x : Journal). EndsInRun x.entries r) (sym is) grown.1,
    )

-- and so after one that is in no run
pub reduced_goes_on : (last : Option (ℕ × Journal)) (g goal clause : ℕ) (j k m : Journal) → k ≡ j → m ≡ with_reduction k goal clause 0 → MayFollow last g j → MayFollow last g m
reduced_goes_on last g goal clause j k m same is may =
    let before = subst (λ (x : Journal). MayFollow last g x) (sym same) may in
    subst (λ (x : Journal). MayFollow last g x) (sym is) (grown_follows last g k (with_reduction k goal clause 0) before (reduced_later k goal clause))

-- a journal that is shown may follow itself, and its account's history is the same
pub shown_goes_on : (o : Option StampValue) (v w : ShownValue) (ids : List HistoryId) (account g : ℕ) (j : Journal) → IfSome o (λ s. w ≡ record { history = v.history; last = Some (g, j) }) → (IsNone o → w ≡ v) → slice_get ids account ≡ Some v.history → MayFollow v.last g j → (slice_get ids account ≡ Some w.history) × MayFollow w.last g j
shown_goes_on None v w ids account g j shown none at may = let same : w ≡ v = none refl in (
  at ∙ ap (λ (x : ShownValue). let o : Option HistoryId = Some x.history in o) (sym same),
  subst (λ (x : ShownValue). MayFollow x.last g j) (sym same) may,
)
shown_goes_on (Some s) v w ids account g j shown none at may = (
  at ∙ ap (λ (x : ShownValue). let o : Option HistoryId = Some x.history in o) (sym shown),
  subst (λ (x : ShownValue). MayFollow x.last g j) (sym shown) (inr (refl, growth_begins j)),
)
