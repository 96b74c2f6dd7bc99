-- A variable that becomes a name stays unbound through what comes after a goal's effects.
use Rattle.kl1_user_effects.proofs.Words.{inl, inr, zero, suc, ◌≡◌, ℕ, ◌<◌, ◌≤◌, ◌==◌, not, ◌&&◌, Bool, true, false, List, refl, sym, ap, ◌∙◌, subst, arith, find, Option, Some, None, option_map, ne_eqb, eqb-false, cases_Bool, false≢true, Term, variable, replace, nil, CellName, Cell, Variable, Held, IsIn, IsLower, is_bound, found, IsFormed, Grown, IsBoundTo, found_itself, bound_at, term_of-unbound, HasSent, ClosedAs, EndsAt, BreaksOff, off_is, Shoen, has_number, Reading, built, meaning, shoen_with, is_variable, is_tail_of, IsNoTail, KeepsFree, is_late_tail, HasLate, KeepsLate, IsWalked}

-- an unbound variable after another is replaced
other_stays : (v w : ℕ) (t : Term) → (w == v) ≡ false → replace w t (variable v) ≡ variable v
other_stays v w t e = rw (ne_eqb v w (λ q. eqb-false w v e (sym q)))

-- the tail of an unbroken stream is no variable that is no tail
tail_free : (h : Held CellName) (f : Reading) (ss : List (Shoen CellName)) (n v : ℕ) (sh : Shoen CellName) → find (has_number n) ss ≡ Some sh → sh.is_broken ≡ false → IsNoTail v n h ss → is_variable v (meaning f h sh.tail) ≡ false
tail_free h f ss n v sh found whole other =
    sym (ap (λ (o : Option (Shoen CellName)). is_tail_of v (option_map (shoen_with (meaning f h)) o)) found ∙ ap (λ c. not c && is_variable v (meaning f h sh.tail)) whole) ∙ other f

-- a report that is made leaves each other variable
pub sent_free : (h k : Held CellName) (ss : List (Shoen CellName)) (n : ℕ) (sh : Shoen CellName) (is_last : Bool) (m : Cell CellName) (next : ℕ) → find (has_number n) ss ≡ Some sh → HasSent built h k sh.tail sh.is_broken is_last m next → KeepsFree n ss h k
sent_free h k ss n sh is_last m next found s = λ v lt other f reads e.
    (s.sent.each f reads).means (Variable v) (omega (arith, lt))
    ∙ ap (replace s.number _) e
    ∙ other_stays v s.number _ (sym (ap (is_variable v) (s.tail_is f)) ∙ tail_free h f ss n v sh found s.whole other)

-- a store that holds what it held
pub same_free : (h k : Held CellName) (ss : List (Shoen CellName)) (n : ℕ) → k ≡ h → KeepsFree n ss h k
same_free h k ss n e v lt other f reads is = let P : Held CellName → Type 0 = λ x. meaning f x (Variable v) ≡ variable v in subst P (sym e) is

ends_free : (f : Reading) (h k : Held CellName) (v : ℕ) (t : Term) → EndsAt f h k t → is_variable v t ≡ false → meaning f h (Variable v) ≡ variable v → meaning f k (Variable v) ≡ variable v
ends_free f h k v (variable w) ends other is = ends (Variable v) ∙ ap (replace w nil) is ∙ other_stays v w nil other
ends_free f h k v _ ends other is = let same : k ≡ h = ends in rw same is

-- the end of a stream leaves each other variable
pub closed_free : (h k : Held CellName) (ss : List (Shoen CellName)) (n : ℕ) (sh : Shoen CellName) → find (has_number n) ss ≡ Some sh → ClosedAs built h k sh.tail sh.is_broken → KeepsFree n ss h k
closed_free h k ss n sh found c = λ v lt other f reads is. elim (cases_Bool sh.is_broken) [
  | inl b ↦ let same : k ≡ h = c.broken b in rw same is
  | inr b ↦ ends_free f h k v (meaning f h sh.tail) (c.whole b f reads) (tail_free h f ss n v sh found b other) is
]

-- ---- tails that become a name

-- whether there is such a tail, by its cell
pub tail_is : (h : Held CellName) (f : Reading) (n v : ℕ) (ss : List (Shoen CellName)) (sh : Shoen CellName) (x : Cell CellName) (b : Bool) → find (has_number n) ss ≡ Some sh → sh.is_broken ≡ false → meaning f h x ≡ meaning f h sh.tail → is_variable v (meaning f h x) ≡ b →
    is_tail_of v (option_map (shoen_with (meaning f h)) (find (has_number n) ss)) ≡ b
tail_is h f n v ss sh x b found whole same is = rw (found, whole) (ap (is_variable v) (sym same) ∙ is)

-- whether an unbound variable is variable `v`
pub tail_variable : (h : Held CellName) (f : Reading) (v w : ℕ) (x : Cell CellName) → x ≡ Variable w → IsWalked h x → is_variable v (meaning f h x) ≡ (w == v)
tail_variable h f v w x e walked = rw e (ap (is_variable v) (term_of-unbound f h w (rw e at walked)))

-- what is no variable is none
pub tail_other : (h : Held CellName) (f : Reading) (v : ℕ) (x y : Cell CellName) → IsFormed h → IsIn h x → x ≡ y → BreaksOff y → is_variable v (meaning f h x) ≡ false
tail_other h f v x y formed inside e off = off_is f (λ t. is_variable v t ≡ false) h x x formed inside (rw e off) refl (λ i. refl) (λ a. refl) (λ a ts. refl)

-- ---- a variable that becomes a name at the end, if one does

pub free_same : (v : Option ℕ) (h : Held CellName) → KeepsLate v h h
free_same None h = tt
free_same (Some v) h = λ f reads e. e

-- by one change after another
pub free_then : (v : Option ℕ) (h k l : Held CellName) → KeepsLate v h k → KeepsLate v k l → KeepsLate v h l
free_then None h k l p q = tt
free_then (Some v) h k l p q = λ f reads e. q f reads (p f reads e)

-- by what leaves each variable that is no tail
pub free_by : (v : Option ℕ) (n : ℕ) (ss : List (Shoen CellName)) (h k : Held CellName) → HasLate v h → ((f : Reading) → is_late_tail v (option_map (shoen_with (meaning f h)) (find (has_number n) ss)) ≡ false) → KeepsFree n ss h k → KeepsLate v h k
free_by None n ss h k within other keeps = tt
free_by (Some v) n ss h k within other keeps = keeps v within other

-- a store has it still when it has grown
pub still_within : (v : Option ℕ) (h k : Held CellName) → HasLate v h → Grown h k → HasLate v k
still_within None h k within g = tt
still_within (Some v) h k within g =
    let lt : v < h.variables = within in
    let m = g.variables in
    let is : v < k.variables = omega (arith, lt, m) in
    is

-- ---- what a bound variable is bound to

-- what is no variable means none
pub off_none : (h : Held CellName) (f : Reading) (v : ℕ) (x : Cell CellName) → BreaksOff x → IsFormed h → IsIn h x → meaning f h x ≡ variable v → ⊥
off_none h f v x off formed inside same = off_is f (λ t. t ≡ variable v → ⊥) h x x formed inside off refl (λ n q. absurd (cc)) (λ a q. absurd (cc)) (λ a ts q. absurd (cc)) same

pub bound_to : (h : Held CellName) (v : ℕ) → IsFormed h → v < h.variables → is_bound v h.bindings ≡ true → IsBoundTo h v (found v h.bindings)
bound_to h v formed inside bound = bound_at h v (found v h.bindings) formed (omega (arith, inside)) refl (λ same. false≢true (sym (found_itself h v formed same) ∙ bound))

pub lower_still : (v n : ℕ) (x : Cell CellName) → v ≤ n → IsLower v x → IsLower n x
lower_still v n (Variable w) le l = omega arith
lower_still v n _ le l = tt

-- a cell of a store is lower than the next variable
pub in_lower : (h : Held CellName) (x : Cell CellName) → IsIn h x → IsLower h.variables x
in_lower h (Variable w) i = omega (arith, i)
in_lower h _ i = tt

-- a cell that is lower than a variable doesn't mean it
pub not_lower : (n : ℕ) (h : Held CellName) (f : Reading) (v : ℕ) (x : Cell CellName) → IsFormed h → IsIn h x → IsLower n x → n ≤ v → meaning f h x ≡ variable v → ⊥
not_lower zero h f v (Variable w) formed inside low le e = omega (arith, low)
not_lower (suc n) h f v (Variable w) formed inside low le e = elim (cases_Bool (is_bound w h.bindings)) [
  | inl bound ↦
      let b = bound_to h w formed inside bound in
      not_lower n h f v (found w h.bindings) formed b.inside (lower_still w n (found w h.bindings) (omega (arith, low)) b.lower) (omega (arith, le)) (b.means f ∙ e)
  | inr free ↦
      let same : variable w ≡ variable v = sym (term_of-unbound f h w free) ∙ e in
      let is : w ≡ v = cc in
      omega (arith, low, le, is)
]
not_lower n h f v x formed inside low le e = off_none h f v x tt formed inside e

-- nothing is bound to a variable that means itself
pub unbound_by : (h : Held CellName) (f : Reading) (v : ℕ) → IsFormed h → v < h.variables → meaning f h (Variable v) ≡ variable v → is_bound v h.bindings ≡ false
unbound_by h f v formed inside e = elim (cases_Bool (is_bound v h.bindings)) [
  | inl bound ↦ let b = bound_to h v formed inside bound in absurd (not_lower v h f v (found v h.bindings) formed b.inside b.lower (omega arith) (b.means f ∙ e))
  | inr free ↦ free
]
