-- Numbers among others, and the variables of the goal among those of tests.
use Rattle.std.proofs.Common.{◌≡◌, ℕ, zero, suc, ◌+◌, ◌-◌, ◌<◌, ◌≤◌, ◌==◌, Bool, true, false, ◌||◌, if◌then◌else◌, List, [], ◌∷◌, ◌++◌, length, get_or, refl, sym, ap, ap₂, ◌∙◌, arith}
use Rattle.std.specs.Prelude.{nat_le, Contains, ◌↔◌}
use Rattle.std.proofs.lemmas.Bool.{eq-eqb, ne_eqb, eqb-true, leb-true, leb-false, le-leb, false_from_ne_true, false≢true, or_left, or_right, cond-true, cond-false}
use Rattle.kl1_model.specs.Match.{own_variables}
use Rattle.kl1_match_guard.specs.Alike.{is_among}
use Rattle.kl1_match.specs.Waiting.{AreSame}

among_here : (v w : ℕ) (ws : List ℕ) (b : Bool) → (v == w) ≡ b → (is_among v ws ≡ true → Contains ws v) → (b || is_among v ws) ≡ true → Contains (w ∷ ws) v
among_here v w ws true e next h = let is = eqb-true v w e in (0, omega arith, sym is)
among_here v w ws false e next h = let r = next h in (suc r.0, (let lt = r.1 in omega arith), r.2)

pub among_contains : (v : ℕ) (ws : List ℕ) → is_among v ws ≡ true → Contains ws v
among_contains v [] h = absurd (cc)
among_contains v (w ∷ ws) h = among_here v w ws (v == w) refl (among_contains v ws) h

contains_at : (v : ℕ) (ws : List ℕ) (k : ℕ) → k < length ws → get_or ws k v ≡ v → is_among v ws ≡ true
contains_at v [] k lt e = absurd (omega arith)
contains_at v (w ∷ ws) zero lt e = or_left (v == w) (is_among v ws) (eq-eqb v w (sym e))
contains_at v (w ∷ ws) (suc k) lt e = or_right (v == w) (is_among v ws) (contains_at v ws k (omega arith) e)

pub contains_among : (v : ℕ) (ws : List ℕ) → Contains ws v → is_among v ws ≡ true
contains_among v ws c = contains_at v ws c.0 c.1 c.2

iff_same : (a b : Bool) → (a ≡ true → b ≡ true) → (b ≡ true → a ≡ true) → a ≡ b
iff_same true b f g = sym (f refl)
iff_same false true f g = g refl
iff_same false false f g = refl

-- lists in which the same numbers stand
pub among_same : (v : ℕ) (vs ws : List ℕ) → Contains vs v ↔ Contains ws v → is_among v vs ≡ is_among v ws
among_same v vs ws s = iff_same (is_among v vs) (is_among v ws) (λ e. contains_among v ws (s.0 (among_contains v vs e))) (λ e. contains_among v vs (s.1 (among_contains v ws e)))

pub same_among : (vs ws : List ℕ) → ((v : ℕ) → is_among v vs ≡ is_among v ws) → AreSame vs ws
same_among vs ws e = record {
  each = λ v. (
    (λ c. among_contains v ws (sym (e v) ∙ contains_among v vs c)),
    (λ c. among_contains v vs (e v ∙ contains_among v ws c)),
  );
}

-- a list in which no number stands is empty
pub none_among : (ws : List ℕ) → ((v : ℕ) → is_among v ws ≡ false) → ws ≡ []
none_among [] e = refl
none_among (w ∷ ws) e = absurd (false≢true (sym (e w) ∙ or_left (w == w) (is_among w ws) (eq-eqb w w refl)))

-- ---- variables of the goal

less_by : (last w v : ℕ) (ws : List ℕ) (b : Bool) → nat_le v last ≡ b → is_among w (own_variables last ws) ≡ is_among (suc (last + w)) ws →
    is_among w (if b then own_variables last ws else (v - suc last) ∷ own_variables last ws) ≡ ((suc (last + w) == v) || is_among (suc (last + w)) ws)
less_by last w v ws true e next =
    let le = leb-true v last e in
    let other : (suc (last + w) == v) ≡ false = ne_eqb (suc (last + w)) v (λ is. absurd (omega (arith, le, is))) in
    next ∙ sym (ap (λ b. b || is_among (suc (last + w)) ws) other)
less_by last w v ws false e next =
    let lt = leb-false v last e in
    let one : (w == (v - suc last)) ≡ (suc (last + w) == v) = iff_same (w == (v - suc last)) (suc (last + w) == v)
    (λ p. let is = eqb-true w (v - suc last) p in eq-eqb (suc (last + w)) v (omega (arith, is, lt)))
    (λ p. let is = eqb-true (suc (last + w)) v p in eq-eqb w (v - suc last) (omega (arith, is))) in
    ap₂ (λ (a b : Bool). a || b) one next

pub own_among : (last w : ℕ) (ws : List ℕ) → is_among w (own_variables last ws) ≡ is_among (suc (last + w)) ws
own_among last w [] = refl
own_among last w (v ∷ ws) = less_by last w v ws (nat_le v last) refl (own_among last w ws)

-- those of one list and then those of another
own_first : (last v : ℕ) (vs ws : List ℕ) (b : Bool) → own_variables last (vs ++ ws) ≡ own_variables last vs ++ own_variables last ws →
    (if b then own_variables last (vs ++ ws) else (v - suc last) ∷ own_variables last (vs ++ ws)) ≡ (if b then own_variables last vs else (v - suc last) ∷ own_variables last vs) ++ own_variables last ws
own_first last v vs ws true e = e
own_first last v vs ws false e = ap (λ l. (v - suc last) ∷ l) e

pub own_append : (last : ℕ) (vs ws : List ℕ) → own_variables last (vs ++ ws) ≡ own_variables last vs ++ own_variables last ws
own_append last [] ws = refl
own_append last (v ∷ vs) ws = own_first last v vs ws (nat_le v last) (own_append last vs ws)

pub own_dropped : (last v : ℕ) (vs : List ℕ) → v ≤ last → own_variables last (v ∷ vs) ≡ own_variables last vs
own_dropped last v vs le = cond-true (nat_le v last) (own_variables last vs) ((v - suc last) ∷ own_variables last vs) (le-leb v last le)

pub own_taken : (last w : ℕ) (vs : List ℕ) → own_variables last (suc (last + w) ∷ vs) ≡ w ∷ own_variables last vs
own_taken last w vs =
    let back : suc (last + w) - suc last ≡ w = omega arith in
    cond-false (nat_le (suc (last + w)) last) (own_variables last vs) ((suc (last + w) - suc last) ∷ own_variables last vs) (false_from_ne_true (nat_le (suc (last + w)) last) (λ e. let k = leb-true (suc (last + w)) last e in absurd (omega (arith, k))))
    ∙ ap (λ n. n ∷ own_variables last vs) back
