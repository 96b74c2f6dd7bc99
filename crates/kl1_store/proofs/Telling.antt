-- Who is told: each number that hangs on a variable that was bound, so who isn't told hangs on none.
use Rattle.std.proofs.Common.{◌≡◌, ℕ, zero, suc, ◌==◌, Bool, true, false, ◌||◌, if◌then◌else◌, List, [], ◌∷◌, ◌++◌, refl, sym, ap, ◌∙◌, arith, subst, eq-eqb, eqb-true}
use Rattle.std.specs.List.{Contains}
use Rattle.std.proofs.lemmas.Bool.{cond-true}
use Rattle.std.proofs.lemmas.List.Elements.{Contains-append_left, Contains-append_right, Contains-push}
use Rattle.kl1_store.specs.declared.binding.Binding.{Binding}
use Rattle.kl1_store.specs.Held.{is_bound}
use Rattle.kl1_store.specs.Hooks.{Hook, hanging_on, told_by, told_on}
use Rattle.kl1_store.specs.Slots.{variables_of}

-- what hangs on the variables of bindings
pub told_on-variables : {N : Type 0} (bs : List (Binding N)) (ks : List Hook) → told_on (variables_of bs) ks ≡ told_by bs ks
told_on-variables [] ks = refl
told_on-variables (b ∷ bs) ks = ap (λ l. hanging_on b.variable ks ++ l) (told_on-variables bs ks)

-- each hook on a variable is among those that hang there
pub hangs : (ks : List Hook) (k : Hook) → Contains ks k → Contains (hanging_on k.variable ks) k.number
hangs [] k (i, lt, e) = absurd (omega arith)
hangs (j ∷ ks) k (zero, lt, e) =
    let same : (if j.variable == k.variable then j.number ∷ [] else []) ≡ k.number ∷ [] =
    cond-true (j.variable == k.variable) (j.number ∷ []) [] (eq-eqb j.variable k.variable (ap (λ (h : Hook). h.variable) e)) ∙ ap (λ (h : Hook). h.number ∷ []) e in
    let P : List ℕ → Type 0 = λ l. Contains (hanging_on k.variable ks ++ l) k.number in
    subst P (sym same) (Contains-push (hanging_on k.variable ks) k.number)
hangs (j ∷ ks) k (suc i, lt, e) = Contains-append_left (hanging_on k.variable ks) (if j.variable == k.variable then j.number ∷ [] else []) k.number (hangs ks k (i, omega arith, e))

-- each hook on a variable that was bound is told
pub is_told : {N : Type 0} (bs : List (Binding N)) (ks : List Hook) (k : Hook) → Contains ks k → is_bound k.variable bs ≡ true → Contains (told_by bs ks) k.number
is_told [] ks k h e = absurd (cc)
is_told (b ∷ bs) ks k h e = here (b.variable == k.variable) (λ p. eqb-true b.variable k.variable p) e (is_told bs ks k h)
  where
    here : (p : Bool) → (p ≡ true → b.variable ≡ k.variable) → (p || is_bound k.variable bs) ≡ true → (is_bound k.variable bs ≡ true → Contains (told_by bs ks) k.number) → Contains (hanging_on b.variable ks ++ told_by bs ks) k.number
    here true same e rest =
        let P : ℕ → Type 0 = λ v. Contains (hanging_on v ks) k.number in
        Contains-append_left (hanging_on b.variable ks) (told_by bs ks) k.number (subst P (sym (same refl)) (hangs ks k h))
    here false same e rest = Contains-append_right (hanging_on b.variable ks) (told_by bs ks) k.number (rest e)

-- who isn't told hangs on no variable that was bound
pub hangs_on_none : {N : Type 0} (bs : List (Binding N)) (ks : List Hook) (n : ℕ) → (Contains (told_by bs ks) n → ⊥) → (v : ℕ) → Contains ks (record { variable = v; number = n }) → is_bound v bs ≡ false
hangs_on_none bs ks n untold v h = by (is_bound v bs) (is_told bs ks (record { variable = v; number = n }) h)
  where
    by : (b : Bool) → (b ≡ true → Contains (told_by bs ks) n) → b ≡ false
    by true t = absurd (untold (t refl))
    by false t = refl
