-- Rows of journals.
use Rattle.std.proofs.Common.{◌≡◌, ℕ, zero, suc, ◌+◌, ◌-◌, ◌^◌, ◌<◌, ◌≤◌, Bool, true, false, if◌then◌else◌, List, [], ◌∷◌, ◌++◌, map, take, length, refl, sym, ap, ap₂, subst, ◌∙◌, arith}
use Rattle.std.specs.Prelude.{nat_lt, slice_get, Option, Some, None}
use Rattle.std.specs.List.{AllByRecursion}
use Rattle.std.proofs.lemmas.List.{map-append, length-append}
use Rattle.std.proofs.lemmas.Bool.{lt-ltb, le-ltb}
use Rattle.std.proofs.lemmas.Option.{none-some, same_Some}
use Rattle.kl1_model.specs.declared.limits.TheConstants.{MOST_RUN}
use Rattle.kl1_model.specs.declared.rules.Rules.{Rules}
use Rattle.kl1_model_server.specs.Journal.{Entry, runs, run_length, last_run_of, run_longer, Journal, without_last}
use Rattle.kl1_journal_entries.specs.Lined.{if_longer, lengthened, with_reduction}
use Rattle.kl1_journal_entries.specs.Slots.{entry_of_whole, kept_at, entry_at, IsPlace, IsPrinted, IsSound}
use Rattle.kl1_journal_entries.specs.declared.packed_entry.PackedEntry.{PackedEntry}
use Rattle.kl1_journal_entries.specs.declared.packed_entry.PackedEntry.TheVariants as slot
use Rattle.kl1_journal_entries.specs.declared.long_entry.LongEntry.{LongEntry}
use Rattle.kl1_journal_entries.specs.declared.long_entry.LongEntry.TheVariants as whole

get_front : {X : Type 0} (xs : List X) (x : X) (k : ℕ) → k < length xs → slice_get (xs ++ x ∷ []) k ≡ slice_get xs k
get_front [] x k less = absurd (omega (arith, less))
get_front (y ∷ ys) x zero less = refl
get_front (y ∷ ys) x (suc k) less = get_front ys x k (omega (arith, less))

get_last : {X : Type 0} (xs : List X) (x : X) → slice_get (xs ++ x ∷ []) (length xs) ≡ Some x
get_last [] x = refl
get_last (y ∷ ys) x = get_last ys x

-- one more that is kept whole leaves the entry of a place
place_stays : (ws : List LongEntry) (w : LongEntry) (s : PackedEntry) → IsPlace (length ws) s → entry_at (ws ++ w ∷ []) s ≡ entry_at ws s
place_stays ws w (slot.Step g c) here = refl
place_stays ws w (slot.Stop n) here = refl
place_stays ws w (slot.Resume n) here = refl
place_stays ws w (slot.Abort n) here = refl
place_stays ws w (slot.Run n) here = refl
place_stays ws w (slot.Kept k) here = ap kept_at (get_front ws w k here)

-- and what stands in the row
row_stays : (ws : List LongEntry) (w : LongEntry) (ss : List PackedEntry) → AllByRecursion (IsPlace (length ws)) ss → map (entry_at (ws ++ w ∷ [])) ss ≡ map (entry_at ws) ss
row_stays ws w [] here = refl
row_stays ws w (s ∷ ss) here = ap₂ (λ (e : Entry) (es : List Entry). e ∷ es) (place_stays ws w s here.0) (row_stays ws w ss here.1)

-- the row with one more that is kept whole
pub row_more : (ws : List LongEntry) (w : LongEntry) (ss : List PackedEntry) (k : ℕ) → AllByRecursion (IsPlace (length ws)) ss → k ≡ length ws → map (entry_at (ws ++ w ∷ [])) (ss ++ slot.Kept k ∷ []) ≡ map (entry_at ws) ss ++ entry_of_whole w ∷ []
row_more ws w ss k here is =
    map-append (entry_at (ws ++ w ∷ [])) ss (slot.Kept k ∷ []) ∙ ap (λ es. es ++ kept_at (slice_get (ws ++ w ∷ []) k) ∷ []) (row_stays ws w ss here) ∙ ap (λ n. map (entry_at ws) ss ++ kept_at (slice_get (ws ++ w ∷ []) n) ∷ []) is ∙ ap (λ o. map (entry_at ws) ss ++ kept_at o ∷ []) (get_last ws w)

-- a place that is no number of what is kept whole means the same in each row
pub short_place : (ws : List LongEntry) (s : PackedEntry) → IsPlace 0 s → entry_at ws s ≡ entry_at [] s
short_place ws (slot.Step g c) here = refl
short_place ws (slot.Stop n) here = refl
short_place ws (slot.Resume n) here = refl
short_place ws (slot.Abort n) here = refl
short_place ws (slot.Run n) here = refl
short_place ws (slot.Kept k) here = absurd (omega (arith, here))

-- and stays a place if more is kept whole
pub place_more : (n m : ℕ) (s : PackedEntry) → n < suc m → IsPlace n s → IsPlace m s
place_more n m (slot.Step g c) less here = here
place_more n m (slot.Stop k) less here = here
place_more n m (slot.Resume k) less here = here
place_more n m (slot.Abort k) less here = here
place_more n m (slot.Run k) less here = here
place_more n m (slot.Kept k) less here = omega (arith, less, here)

pub places_more : (n : ℕ) (ss : List PackedEntry) → AllByRecursion (IsPlace n) ss → AllByRecursion (IsPlace (suc n)) ss
places_more n [] here = tt
places_more n (s ∷ ss) here = (place_more n (suc n) s (omega arith) here.0, places_more n ss here.1)

-- what holds of each holds with one more
pub all_more : {X : Type 0} (P : X → Type 0) (xs : List X) (x : X) → AllByRecursion P xs → P x → AllByRecursion P (xs ++ x ∷ [])
all_more P [] x all one = (one, tt)
all_more P (y ∷ ys) x all one = (all.0, all_more P ys x all.1 one)

-- one more entry that is kept whole keeps what holds of the row
pub places_put : (ws us : List LongEntry) (w : LongEntry) (ss ts : List PackedEntry) (k : ℕ) → us ≡ ws ++ w ∷ [] → ts ≡ ss ++ slot.Kept k ∷ [] → k ≡ length ws → AllByRecursion (IsPlace (length ws)) ss → AllByRecursion (IsPlace (length us)) ts
places_put ws us w ss ts k wholes slots place here =
    let more : length us ≡ suc (length ws) = ap length wholes ∙ length-append ws (w ∷ []) ∙ omega arith in
    let last : k < suc (length ws) = omega (arith, place) in
    rw (more, slots) (all_more (IsPlace (suc (length ws))) ss (slot.Kept k) (places_more (length ws) ss here) last)

-- and what holds of what is kept whole
pub sound_put : (rules : Rules) (ws us : List LongEntry) (w : LongEntry) → us ≡ ws ++ w ∷ [] → AllByRecursion (IsSound rules) ws → IsSound rules w → AllByRecursion (IsSound rules) us
sound_put rules ws us w is sound one = rw is (all_more (IsSound rules) ws w sound one)

-- of what is kept whole and is sound the text is a print
pub printed_all : (rules : Rules) (ws : List LongEntry) → AllByRecursion (IsSound rules) ws → AllByRecursion IsPrinted ws
printed_all rules [] sound = tt
printed_all rules (w ∷ ws) sound = (sound.0.printed, printed_all rules ws sound.1)

-- all but the last place are all but the last entry
pub row_without_last : (ws : List LongEntry) (ss : List PackedEntry) (n : ℕ) → n ≡ length ss - 1 → map (entry_at ws) (take n ss) ≡ without_last (map (entry_at ws) ss)
row_without_last ws [] zero is = refl
row_without_last ws [] (suc n) is = refl
row_without_last ws (s ∷ []) zero is = refl
row_without_last ws (s ∷ []) (suc n) is = absurd (omega (arith, is))
row_without_last ws (s ∷ t ∷ ts) zero is = absurd (omega (arith, is))
row_without_last ws (s ∷ t ∷ ts) (suc n) is = ap (λ (es : List Entry). entry_at ws s ∷ es) (row_without_last ws (t ∷ ts) n (omega (arith, is)))

-- what holds of each holds with fewer
pub all_fewer : {X : Type 0} (P : X → Type 0) (xs : List X) (n : ℕ) → AllByRecursion P xs → AllByRecursion P (take n xs)
all_fewer P xs zero all = tt
all_fewer P [] (suc n) all = tt
all_fewer P (x ∷ xs) (suc n) all = (all.0, all_fewer P xs n all.1)

-- the row with a run in place of the last
pub run_last : (ws : List LongEntry) (ss : List PackedEntry) (k n : ℕ) → n ≡ length ss - 1 → map (entry_at ws) (take n ss ++ slot.Run k ∷ []) ≡ without_last (map (entry_at ws) ss) ++ runs k ∷ []
run_last ws ss k n is = map-append (entry_at ws) (take n ss) (slot.Run k ∷ []) ∙ ap (λ (es : List Entry). es ++ runs k ∷ []) (row_without_last ws ss n is)

-- a row with one first reduction more
pub row_longer : (ws : List LongEntry) (ss : List PackedEntry) (k n : ℕ) → n ≡ length ss - 1 → 0 < k → map (entry_at ws) (take n ss ++ slot.Run (k + 1) ∷ []) ≡ lengthened (map (entry_at ws) ss) k
row_longer ws ss zero n is some = absurd (omega (arith, some))
row_longer ws ss (suc k) n is some =
    run_last ws ss (suc k + 1) n is ∙ ap (λ m. without_last (map (entry_at ws) ss) ++ runs m ∷ []) (let e : suc k + 1 ≡ suc (suc k) = omega arith in e)

pub row_begun : (ws : List LongEntry) (ss : List PackedEntry) (k : ℕ) → k ≡ 0 → map (entry_at ws) (ss ++ slot.Run 1 ∷ []) ≡ lengthened (map (entry_at ws) ss) k
row_begun ws ss k none = map-append (entry_at ws) ss (slot.Run 1 ∷ []) ∙ ap (lengthened (map (entry_at ws) ss)) (sym none)

-- a run that may be longer is, and else a new one begins
longer_by : (b : Bool) (es : List Entry) (n : ℕ) → nat_lt (suc n) MOST_RUN ≡ b → (if b then without_last es ++ runs (suc (suc n)) ∷ [] else es ++ runs 1 ∷ []) ≡ lengthened es (if b then suc n else 0)
longer_by true es n h = refl
longer_by false es n h = refl

pub longer_is : (es : List Entry) (n : ℕ) → run_longer es n ≡ lengthened es (if_longer n)
longer_is es zero = ap (λ (b : Bool). lengthened es (if◌then◌else◌ {A = ℕ} b 0 0)) (sym (lt-ltb 0 MOST_RUN (omega arith)))
longer_is es (suc n) = longer_by (nat_lt (suc n) MOST_RUN) es n refl

-- a reduction in a run, by the length of the last run
pub run_goes_on : (j : Journal) (goal clause run k : ℕ) → 1 < run → k ≡ if_longer (last_run_of j.entries) → record j { entries = lengthened j.entries k } ≡ with_reduction j goal clause run
run_goes_on j goal clause zero k more is = absurd (omega (arith, more))
run_goes_on j goal clause (suc zero) k more is = absurd (omega (arith, more))
run_goes_on j goal clause (suc (suc n)) k more is =
    let J : List Entry → Journal = λ es. record j { entries = es } in
    ap (λ (m : ℕ). J (lengthened j.entries m)) is ∙ ap J (sym (longer_is j.entries (last_run_of j.entries)))

-- a run of its own
pub run_begins : (j : Journal) (goal clause run : ℕ) → run ≡ 1 → record j { entries = lengthened j.entries 0 } ≡ with_reduction j goal clause run
run_begins j goal clause run one = ap (with_reduction j goal clause) (sym one)

-- ---- how long the last run is

-- how many reductions a place in the row has as a run, or 0
abbrev run_at : List LongEntry → Option PackedEntry → ℕ
run_at ws None = 0
run_at ws (Some s) = run_length (entry_at ws s)

-- the last of places is that of all but the first
last_behind : (s t : PackedEntry) (ts : List PackedEntry) → slice_get (s ∷ t ∷ ts) (length (s ∷ t ∷ ts) - 1) ≡ slice_get (t ∷ ts) (length (t ∷ ts) - 1)
last_behind s t ts = ap (λ n. slice_get (s ∷ t ∷ ts) n) (let e : length (s ∷ t ∷ ts) - 1 ≡ suc (length (t ∷ ts) - 1) = omega arith in e)

pub last_at : (ws : List LongEntry) (ss : List PackedEntry) (o : Option PackedEntry) → o ≡ slice_get ss (length ss - 1) → last_run_of (map (entry_at ws) ss) ≡ run_at ws o
last_at ws [] o is = ap (run_at ws) (sym is)
last_at ws (s ∷ []) o is = ap (run_at ws) (sym is)
last_at ws (s ∷ t ∷ ts) o is = last_at ws (t ∷ ts) o (is ∙ last_behind s t ts)

pub none_last : (ws : List LongEntry) (ss : List PackedEntry) → None ≡ slice_get ss (length ss - 1) → 0 ≡ if_longer (last_run_of (map (entry_at ws) ss))
none_last ws ss is = sym (ap if_longer (last_at ws ss None is))

pub some_last : (ws : List LongEntry) (ss : List PackedEntry) (s : PackedEntry) (k : ℕ) → Some s ≡ slice_get ss (length ss - 1) → k ≡ if_longer (run_length (entry_at ws s)) → k ≡ if_longer (last_run_of (map (entry_at ws) ss))
some_last ws ss s k is run = run ∙ sym (ap if_longer (last_at ws ss (Some s) is))

-- the last of places that all are such places
pub last_place : (P : PackedEntry → Type 0) (ss : List PackedEntry) (s : PackedEntry) → Some s ≡ slice_get ss (length ss - 1) → AllByRecursion P ss → P s
last_place P [] s is all = absurd (none-some s (sym is))
last_place P (t ∷ []) s is all = subst P (sym (same_Some s t is)) all.0
last_place P (t ∷ u ∷ us) s is all = last_place P (u ∷ us) s (is ∙ last_behind t u us) all.1

-- a run that is kept whole may not be longer
not_longer : (n : ℕ) → MOST_RUN ≤ n → 0 ≡ if_longer n
not_longer n long = ap (λ (b : Bool). if◌then◌else◌ {A = ℕ} b n 0) (sym (le-ltb n MOST_RUN long))

whole_run : (rules : Rules) (w : LongEntry) → IsSound rules w → 0 ≡ if_longer (run_length (entry_of_whole w))
whole_run rules (whole.Load source) sound = refl
whole_run rules (whole.Start allowance low high goal) sound = refl
whole_run rules (whole.Control n m) sound = refl
whole_run rules (whole.Step goal clause) sound = refl
whole_run rules (whole.Run n) sound = let long : 2 ^ 32 ≤ n = sound.told in not_longer n (omega (arith, long))
whole_run rules (whole.Answer n report goal told) sound = refl
whole_run rules (whole.Forget n count) sound = refl

pub kept_run : (rules : Rules) (ws : List LongEntry) (k : ℕ) → k < length ws → AllByRecursion (IsSound rules) ws → 0 ≡ if_longer (run_length (kept_at (slice_get ws k)))
kept_run rules [] k less sound = absurd (omega (arith, less))
kept_run rules (w ∷ ws) zero less sound = whole_run rules w sound.0
kept_run rules (w ∷ ws) (suc k) less sound = kept_run rules ws k (omega (arith, less)) sound.1
