-- Which variables are in a term.
use Rattle.std.proofs.Common.{◌≡◌, ℕ, zero, suc, ◌<◌, ◌≤◌, Bool, true, false, List, [], ◌∷◌, ◌++◌, ◌-◌, map, length, take, drop, get_or, refl, sym, ap, ◌∙◌, ◌⊎◌, inl, inr, arith, append_assoc, append-nil}
use Rattle.std.proofs.lemmas.List.{take_all}
use Rattle.std.specs.Prelude.{nat_lt}
use Rattle.std.proofs.lemmas.Bool.{cases_eq, ne_eqb, le-ltb, lt-ltb, false≢true}
use Rattle.kl1_model.specs.Term.{occurs, occurs_in, size, sizes}
use Rattle.kl1_store.specs.declared.cell.Cell.{Cell}
use Rattle.kl1_store.specs.declared.cell.Cell.TheVariants.{Variable, Integer, Atom, Structure}
use Rattle.kl1_store.specs.declared.levels.Levels.{Levels}
use Rattle.kl1_store.specs.Held.{Held, is_bound, found, IsIn, AreIn, IsWalked, arguments_of}
use Rattle.kl1_store.specs.Meaning.{term_of, terms_of}
use Rattle.kl1_store.specs.Sound.{IsFormed}
use Rattle.kl1_store.specs.Levels.{level_at, IsLevel, AreLevels, SeesTerm}
use Rattle.kl1_store.specs.Tasks.{Lifted}
use Rattle.kl1_store.proofs.Terms.{term_of-Structure, term_of-unbound, term_of-Integer, term_of-Atom, arguments_in}
use Rattle.kl1_store.proofs.Meetings.{named}
use Rattle.kl1_store.proofs.Lists.{found_unbound}
use Rattle.kl1_store.proofs.Levelling.{either, stands, size-positive, or-both, free_above, lies_at_0}

-- ---- what is no variable that stands for itself is in no term

-- a number that isn't that of a variable that stands for itself
abbrev pub IsNoVariable : {N : Type 0} → Held N → ℕ → Type 0
IsNoVariable h n = (w : ℕ) → w < h.variables → is_bound w h.bindings ≡ false → n ≡ w → ⊥

other_each : {N : Type 0} (f : N → List ℕ) (h : Held N) (n k : ℕ) (xs : List (Cell N)) → AreIn h xs → sizes (terms_of f h xs) ≤ k →
    ((x : Cell N) → IsIn h x → size (term_of f h x) ≤ k → occurs n (term_of f h x) ≡ false) → occurs_in n (terms_of f h xs) ≡ false
unfolding terms_of
other_each f h n k [] inside small each = refl
other_each f h n k (x ∷ xs) inside small each =
    or-both (occurs n (term_of f h x)) (occurs_in n (terms_of f h xs)) (each x inside.0 (omega arith)) (other_each f h n k xs inside.1 (omega arith) each)

other_walked : {N : Type 0} (f : N → List ℕ) (h : Held N) (n k : ℕ) (y : Cell N) → IsFormed h → IsNoVariable h n → IsIn h y → IsWalked h y → size (term_of f h y) ≤ suc k →
    ((x : Cell N) → IsIn h x → size (term_of f h x) ≤ k → occurs n (term_of f h x) ≡ false) → occurs n (term_of f h y) ≡ false
other_walked f h n k (Variable w) p apart inside walked small each = ap (occurs n) (term_of-unbound f h w walked) ∙ ne_eqb n w (apart w (omega arith) walked)
other_walked f h n k (Integer i) p apart inside walked small each = ap (occurs n) (term_of-Integer f h i)
other_walked f h n k (Atom a) p apart inside walked small each = ap (occurs n) (term_of-Atom f h a)
other_walked f h n k (Structure s) p apart inside walked small each =
    let r = named h s inside in
    let e = term_of-Structure f h s r.0 p r.1 in
    let big = ap size e in
    ap (occurs n) e ∙ other_each f h n k (arguments_of h s) (arguments_in h s p) (omega (arith, big)) each

at_0 : {N : Type 0} (h : Held N) → IsLevel h (λ v. 0) (λ s. 0)
at_0 h = record { arguments = λ s i x got. lies_at_0 _ _ 0 x refl; values = λ v. lies_at_0 _ _ 0 (found v h.bindings) refl }

other_within : {N : Type 0} (f : N → List ℕ) (h : Held N) (n k : ℕ) (x : Cell N) → IsFormed h → IsNoVariable h n → IsIn h x → size (term_of f h x) ≤ k → occurs n (term_of f h x) ≡ false
other_within f h n zero x p apart inside small = absurd (omega (arith, size-positive (term_of f h x)))
other_within f h n (suc k) x p apart inside small =
    let s = stands h (λ v. 0) (λ s. 0) 0 x p (at_0 h) inside (lies_at_0 _ _ 0 x refl) in
    ap (occurs n) (sym (s.means f))
    ∙ other_walked f h n k s.cell p apart s.inside s.walked (omega (arith, ap size (s.means f))) (λ y there less. other_within f h n k y p apart there less)

pub other_free : {N : Type 0} (f : N → List ℕ) (h : Held N) (n : ℕ) (x : Cell N) → IsFormed h → IsNoVariable h n → IsIn h x → false ≡ occurs n (term_of f h x)
other_free f h n x p apart inside = sym (other_within f h n (size (term_of f h x)) x p apart inside (omega arith))

-- a number beyond the variables, and one of a variable that is bound
pub beyond : {N : Type 0} (h : Held N) (n : ℕ) → h.variables ≤ n → IsNoVariable h n
beyond h n le w lt free e = omega (arith, e)

pub bound : {N : Type 0} (h : Held N) (n : ℕ) → is_bound n h.bindings ≡ true → IsNoVariable h n
bound h n b w lt free e = false≢true (sym free ∙ (ap (λ m. is_bound m h.bindings) (sym e) ∙ b))

-- so is that of a variable whose slot has another cell
pub bound_by : {N : Type 0} (h : Held N) (n : ℕ) → (found n h.bindings ≡ Variable n → ⊥) → IsNoVariable h n
bound_by h n other = by (either (is_bound n h.bindings))
  where
    by : (is_bound n h.bindings ≡ false) ⊎ (is_bound n h.bindings ≡ true) → IsNoVariable h n
    by (inl u) = absurd (other (found_unbound n h.bindings u))
    by (inr b) = bound h n b

-- ---- what lies above 0 is in the term

pub seen_is : {N : Type 0} (f : N → List ℕ) (h : Held N) (ls : Levels) (x : Cell N) (n : ℕ) → IsFormed h → AreLevels h ls → SeesTerm h ls x → IsIn h x → is_bound n h.bindings ≡ false →
    nat_lt 0 (level_at ls.variables.items n) ≡ occurs n (term_of f h x)
seen_is {N = N} f h ls x n p levels sees inside free = by (cases_eq (level_at ls.variables.items n) 0)
  where
    in_term : ((level_at ls.variables.items n ≡ 0) → ⊥) → (level_at ls.variables.items n ≡ 0) ⊎ ((g : N → List ℕ) → occurs n (term_of g h x) ≡ true) → occurs n (term_of f h x) ≡ true
    in_term ne (inl e) = absurd (ne e)
    in_term ne (inr q) = q f

    by : (level_at ls.variables.items n ≡ 0) ⊎ (level_at ls.variables.items n ≡ 0 → ⊥) → nat_lt 0 (level_at ls.variables.items n) ≡ occurs n (term_of f h x)
    by (inl e) =
        le-ltb 0 (level_at ls.variables.items n) (omega (arith, e))
        ∙ sym (free_above f h (level_at ls.variables.items) (level_at ls.structures.items) n 1 x p levels.level (omega (arith, e)) inside sees.here)
    by (inr ne) = lt-ltb 0 (level_at ls.variables.items n) (omega (arith, ne)) ∙ sym (in_term ne (sees.seen n free))

-- a term that alone was lifted, all else lying at 0
pub sees_alone : {N : Type 0} (h : Held N) (old new : Levels) (x : Cell N) → old.variables.items ≡ [] → Lifted h x 1 old new → SeesTerm h new x
sees_alone {N = N} h old new x none lifted = record { here = lifted.here; seen = λ v free. by v (lifted.seen v free) }
  where
    by : (v : ℕ) → (level_at new.variables.items v ≡ level_at old.variables.items v) ⊎ ((f : N → List ℕ) → occurs v (term_of f h x) ≡ true) → (level_at new.variables.items v ≡ 0) ⊎ ((f : N → List ℕ) → occurs v (term_of f h x) ≡ true)
    by v (inl same) = inl (same ∙ ap (λ l. level_at l v) none)
    by v (inr q) = inr q

-- ---- of numbers, one after another

-- the first of those that are left is noted
pub notes_first : (g : ℕ → Bool) (now after all : List Bool) (rest : List ℕ) → 1 ≤ length rest → after ≡ now ++ g (get_or rest 0 0) ∷ [] → now ++ map g rest ≡ all → after ++ map g (take (length rest - 1) (drop 1 rest)) ≡ all
notes_first g now after all [] le pushed is = absurd (omega arith)
notes_first g now after all (m ∷ more) le pushed is =
    ap (λ (ns : List ℕ). after ++ map g ns) (take_all (length (m ∷ more) - 1) more (omega arith))
    ∙ ap (λ (bs : List Bool). bs ++ map g more) pushed
    ∙ append_assoc now (g m ∷ []) (map g more)
    ∙ is

-- none is left
pub notes_all : (g : ℕ → Bool) (now all : List Bool) (rest : List ℕ) → length rest < 1 → now ++ map g rest ≡ all → now ≡ all
notes_all g now all [] few is = sym (append-nil now) ∙ is
notes_all g now all (m ∷ more) few is = absurd (omega arith)
