-- What stays of shoens through what goals do and monitors read.
use Rattle.kl1_user_effects.proofs.Words.{◌≡◌, ℕ, suc, ◌+◌, ◌<◌, ◌≤◌, ◌==◌, List, [], ◌∷◌, ◌++◌, length, refl, inl, inr, sym, ap, ◌∙◌, arith, find, Some, option_map, OnOk, Result, Ok, Err, eqb-false, CellName, Cell, Shoen, Tree, has_number, changed, AreNumbered, KeepsBy, plain, IsCalm, cases_Bool, None, map, if◌then◌else◌, KeepsOthers, KeepsOutlines, Option, Variable, eqb-true, ne_eqb, outline, Rules, leaving}

pub keeps_map : (f g : Shoen CellName → Shoen CellName) → ((h : Shoen CellName) → f (g h) ≡ f h) → (ss : List (Shoen CellName)) → KeepsBy f ss (map g ss)
keeps_map f g e [] = tt
keeps_map f g e (h ∷ hs) = (e h, keeps_map f g e hs)

pub keeps_changed : (f g : Shoen CellName → Shoen CellName) (n : ℕ) (ss : List (Shoen CellName)) → ((h : Shoen CellName) → f (g h) ≡ f h) → KeepsBy f ss (changed n g ss)
keeps_changed f g n ss e = keeps_map f (λ h. if has_number n h then g h else h) (λ h. elim (cases_Bool (has_number n h)) [ inl p ↦ rw p (e h) | inr p ↦ rw p ]) ss

pub keeps_more : (f : Shoen CellName → Shoen CellName) (ss more : List (Shoen CellName)) → KeepsBy f ss (ss ++ more)
keeps_more f [] more = tt
keeps_more f (h ∷ hs) more = (refl, keeps_more f hs more)

-- ---- a shoen by its number, and its control stream

pub found_stays : (f : Shoen CellName → Shoen CellName) (k n : ℕ) (before after : List (Shoen CellName)) → ((h : Shoen CellName) → (f h).number ≡ h.number) → AreNumbered k before → KeepsBy f before after → k < n → n ≤ k + length before →
    option_map f (find (has_number n) after) ≡ option_map f (find (has_number n) before)
found_stays f k n [] rs num a p low high = absurd (omega (arith, low, high))
found_stays f k n (h ∷ hs) [] num a p low high = absurd p
found_stays f k n (h ∷ hs) (r ∷ rs) num a p low high =
    let same : (r.number == n) ≡ (h.number == n) = ap (λ (m : ℕ). m == n) (sym (num r) ∙ ap (λ (x : Shoen CellName). x.number) p.0 ∙ num h) in
    rw same (elim (cases_Bool (h.number == n)) [
      | inl q ↦ rw q (ap Some p.0)
      | inr q ↦ rw q (let m = a.0 in let apart : h.number ≡ n → ⊥ = eqb-false h.number n q in found_stays f (suc k) n hs rs num a.1 p.1 (omega (arith, apart, m, low)) (omega (arith, high)))
    ])

-- shoen `n` is there
pub never_absent : (last n : ℕ) (ss : List (Shoen CellName)) → AreNumbered last ss → last < n → n ≤ last + length ss → find (has_number n) ss ≡ None → ⊥
never_absent last n [] a low high e = omega arith
never_absent last n (h ∷ ss) a low high e = elim (cases_Bool (h.number == n)) [
  | inl p ↦ let found : Some h ≡ None = rw p at e in cc
  | inr p ↦ let m = a.0 in let apart : h.number ≡ n → ⊥ = eqb-false h.number n p in never_absent (suc last) n ss a.1 (omega (arith, apart, m, low)) (omega arith) (rw p at e)
]

-- ---- what is so if there was no want of memory

pub on_ok_both : {T E P Q R : Type 0} (r : Result T E) → (P → Q → R) → OnOk r P → OnOk r Q → OnOk r R
on_ok_both (Ok x) f p q = f p q
on_ok_both (Err e) f p q = tt

pub calm_controlled : (n : ℕ) (x : Cell CellName) (t u : Tree CellName) → u ≡ record t { shoens = changed n (λ h. record h { control = x }) t.shoens } → IsCalm t u
calm_controlled n x t u is = rw is (record { shoens = keeps_changed plain (λ h. record h { control = x }) n t.shoens (λ h. refl); work = refl })

-- ---- what stays through what the monitor of one of them reads

pub outlines_controlled : (n : ℕ) (x : Cell CellName) (t u : Tree CellName) → u ≡ record t { shoens = changed n (λ h. record h { control = x }) t.shoens } → KeepsOutlines n t.shoens u.shoens
outlines_controlled n x t u is = rw is (keeps_map (outline n) (λ h. if has_number n h then record h { control = x } else h) (λ h. elim (cases_Bool (has_number n h)) [ inl p ↦ rw (p, p) | inr p ↦ rw (p, p) ]) t.shoens)

pub outlines_leaving : (rules : Rules) (n : ℕ) (ss : List (Shoen CellName)) → KeepsOutlines n ss (changed n (leaving rules) ss)
outlines_leaving rules n ss = keeps_map (outline n) (λ h. if has_number n h then leaving rules h else h) (λ h. elim (cases_Bool (has_number n h)) [ inl p ↦ rw (p, p) | inr p ↦ rw (p, p) ]) ss

pub found_number : (a : ℕ) (ss : List (Shoen CellName)) (h : Shoen CellName) → find (has_number a) ss ≡ Some h → h.number ≡ a
found_number a [] h e = absurd (cc)
found_number a (r ∷ ss) h e = elim (cases_Bool (r.number == a)) [
  | inl p ↦ let found : Some r ≡ Some h = rw p at e in let same : r ≡ h = cc in sym (ap (λ (x : Shoen CellName). x.number) same) ∙ eqb-true r.number a p
  | inr p ↦ found_number a ss h (rw p at e)
]

control_beside : (m n : ℕ) (o : Option (Shoen CellName)) → (n ≡ m → ⊥) → ((h : Shoen CellName) → o ≡ Some h → h.number ≡ n) → option_map (λ (h : Shoen CellName). h.control) (option_map (outline m) o) ≡ option_map (λ (h : Shoen CellName). h.control) o
control_beside m n None apart e = refl
control_beside m n (Some h) apart e =
    let is = e h refl in
    ap (λ b. Some (if b then Variable 0 else h.control)) (ne_eqb h.number m (λ q. apart (sym is ∙ q)))

-- control streams of the others stay
pub others_keep : (m : ℕ) (xs ys : List (Shoen CellName)) → AreNumbered 0 xs → KeepsOutlines m xs ys → KeepsOthers m xs ys
others_keep m xs ys a p n low high apart =
    sym (control_beside m n (find (has_number n) ys) apart (λ h e. found_number n ys h e))
    ∙ ap (λ (o : Option (Shoen CellName)). option_map (λ (h : Shoen CellName). h.control) o) (found_stays (outline m) 0 n xs ys (λ h. refl) a p low (omega (arith, high)))
    ∙ control_beside m n (find (has_number n) xs) apart (λ h e. found_number n xs h e)
