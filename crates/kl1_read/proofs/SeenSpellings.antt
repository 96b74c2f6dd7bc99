-- Spellings that were seen, as one more is.
use Rattle.std.proofs.Common.{◌≡◌, ℕ, suc, ◌≤◌, cond, Bool, true, false, List, [], ◌∷◌, ◌++◌, length, codes, bytes_eq, Option, Some, None, if◌then◌else◌, refl, sym, ap, subst, ◌∙◌, arith, length-append}
use Rattle.std.proofs.lemmas.Bool.{true≢false, lt-ltb, le-ltb}
use Rattle.std.proofs.lemmas.Slice.Eq.{bytes_eq-Decides}
use Rattle.std.specs.HashMap.{get, HashMap, Updates}
use Rattle.std.specs.Map.{lookup}
use Rattle.kl1_model.specs.Numbering.{place_of, variable_number, seen_after}
use Rattle.kl1_read.specs.Spellings.{IsNumbered, IsNumberAmong, Finds}

kept_by : (b : Bool) (p q n : ℕ) → (q ≤ n → p ≡ q) → (if b then 1 else suc q) ≤ suc n → ◌≡◌ {A = ℕ} (if b then 1 else suc p) (if b then 1 else suc q)
kept_by true p q n k h = refl
kept_by false p q n k h = ap suc (k (omega (arith, h)))

-- a spelling that was seen keeps its place
place_kept : (seen : List (List ℕ)) (u v : List ℕ) → place_of seen v ≤ length seen → place_of (seen ++ u ∷ []) v ≡ place_of seen v
place_kept [] u v h = absurd (omega (arith, h))
place_kept (s ∷ seen) u v h = kept_by (bytes_eq s v) _ _ (length seen) (place_kept seen u v) h

new_by : (b : Bool) (p q n m : ℕ) → (q ≡ suc n → p ≡ m) → (if b then 1 else suc q) ≡ suc (suc n) → ◌≡◌ {A = ℕ} (if b then 1 else suc p) (suc m)
new_by true p q n m k h = absurd (omega (arith, h))
new_by false p q n m k h = ap suc (k (omega (arith, h)))

-- a spelling that wasn't seen is not the new one
place_apart : (seen : List (List ℕ)) (u v : List ℕ) → bytes_eq u v ≡ false → place_of seen v ≡ suc (length seen) → place_of (seen ++ u ∷ []) v ≡ suc (suc (length seen))
place_apart [] u v e h = ap (λ (b : Bool). let n : ℕ = if b then 1 else 2 in n) e
place_apart (s ∷ seen) u v e h = new_by (bytes_eq s v) _ _ (length seen) (suc (suc (length seen))) (place_apart seen u v e) h

-- a spelling that wasn't seen is the new one
place_joins : (seen : List (List ℕ)) (u v : List ℕ) → bytes_eq u v ≡ true → place_of seen v ≡ suc (length seen) → place_of (seen ++ u ∷ []) v ≡ suc (length seen)
place_joins [] u v e h = ap (λ (b : Bool). let n : ℕ = if b then 1 else 2 in n) e
place_joins (s ∷ seen) u v e h = new_by (bytes_eq s v) _ _ (length seen) (suc (length seen)) (place_joins seen u v e) h

-- another spelling is put after those seen
number_stays : (seen : List (List ℕ)) (u v : List ℕ) (o : Option ℕ) → bytes_eq u v ≡ false → IsNumberAmong seen v o → IsNumberAmong (seen ++ u ∷ []) v o
number_stays seen u v None e h =
    let more : suc (length seen) ≡ length (seen ++ u ∷ []) = omega (arith, length-append seen (u ∷ [])) in
    place_apart seen u v e h ∙ ap suc more
number_stays seen u v (Some n) e h =
    (place_kept seen u v (omega (arith, h.0, h.1)) ∙ h.0, omega (arith, h.1, length-append seen (u ∷ [])))

-- a spelling is put after those seen, and perhaps is this one
number_with : (seen : List (List ℕ)) (u v : List ℕ) (next : ℕ) (o : Option ℕ) (b : Bool) → bytes_eq u v ≡ b → next ≡ suc (length seen) → (b ≡ true → o ≡ None) → IsNumberAmong seen v o → IsNumberAmong (seen ++ u ∷ []) v (cond b (Some next) o)
number_with seen u v next o true e n none h =
    (place_joins seen u v e (subst (IsNumberAmong seen v) (none refl) h) ∙ sym n, omega (arith, n, length-append seen (u ∷ [])))
number_with seen u v next o false e n none h = number_stays seen u v o e h

-- nothing is found if nothing was seen
pub finds_none : {S : Type 0} (numbers : HashMap (List ℕ) ℕ S) (seen : List (List ℕ)) → numbers.entries ≡ [] → seen ≡ [] → Finds numbers seen
finds_none numbers seen e s = λ v other.
    let none : get bytes_eq numbers v ≡ None = ap (lookup (bytes_eq v)) e in
    let new : place_of seen v ≡ suc (length seen) = ap (λ xs. place_of xs v) s ∙ ap (λ (xs : List (List ℕ)). suc (length xs)) (sym s) in
    subst (IsNumberAmong seen v) (sym none) new

apart_from : (u v w : List ℕ) (b : Bool) → bytes_eq u v ≡ b → bytes_eq u w ≡ true → bytes_eq v w ≡ false → b ≡ false
apart_from u v w true e is other = absurd (true≢false (sym is ∙ ap (λ x. bytes_eq x w) ((bytes_eq-Decides u v).0 e) ∙ other))
apart_from u v w false e is other = refl

-- what finds spellings still does with `_` after those seen
finds_behind : {S : Type 0} (numbers : HashMap (List ℕ) ℕ S) (seen : List (List ℕ)) (u : List ℕ) → bytes_eq u (codes "_") ≡ true → Finds numbers seen → Finds numbers (seen ++ u ∷ [])
finds_behind numbers seen u is h = λ v other.
    number_stays seen u v _ (apart_from u v (codes "_") (bytes_eq u v) refl is other) (h v other)

-- one more is found
finds_more : {S : Type 0} (old new : HashMap (List ℕ) ℕ S) (seen : List (List ℕ)) (u : List ℕ) (next : ℕ) → Finds old seen → get bytes_eq old u ≡ None → next ≡ suc (length seen) → Updates bytes_eq old new u (Some next) → Finds new (seen ++ u ∷ [])
finds_more old new seen u next h none n updates = λ v other.
    subst (IsNumberAmong (seen ++ u ∷ []) v) (sym (updates.0 v))
    (number_with seen u v next _ (bytes_eq u v) refl n (λ e. ap (λ x. get bytes_eq old x) (sym ((bytes_eq-Decides u v).0 e)) ∙ none) (h v other))

-- a spelling that has the next number joins those seen, and another one doesn't
joined_by : (seen : List (List ℕ)) (v : List ℕ) (n : ℕ) → n ≡ variable_number seen v → n ≡ suc (length seen) → seen ++ v ∷ [] ≡ seen_after seen v
joined_by seen v n e next =
    sym (ap (λ b. if◌then◌else◌ {A = List (List ℕ)} b (seen ++ v ∷ []) seen) (lt-ltb (length seen) (variable_number seen v) (omega (arith, e, next))))

old_by : (seen : List (List ℕ)) (v : List ℕ) (n : ℕ) → n ≡ variable_number seen v → n ≤ length seen → seen ≡ seen_after seen v
old_by seen v n e low =
    sym (ap (λ b. if◌then◌else◌ {A = List (List ℕ)} b (seen ++ v ∷ []) seen) (le-ltb (length seen) (variable_number seen v) (omega (arith, e, low))))

-- `_`
pub another : {S : Type 0} (numbers : HashMap (List ℕ) ℕ S) (seen now : List (List ℕ)) (v : List ℕ) (n : ℕ) → Finds numbers seen → true ≡ bytes_eq v (codes "_") → n ≡ suc (length seen) → now ≡ seen ++ v ∷ [] → IsNumbered numbers seen now v n
another numbers seen now v n h is next put =
    let value : n ≡ variable_number seen v = next ∙ sym (ap (λ b. if◌then◌else◌ {A = ℕ} b (suc (length seen)) (place_of seen v)) (sym is)) in
    record { finds = subst (Finds numbers) (sym put) (finds_behind numbers seen v (sym is) h); value = value; seen = put ∙ joined_by seen v n value next }

-- a spelling that was seen, or not
placed : (seen : List (List ℕ)) (v : List ℕ) → false ≡ bytes_eq v (codes "_") → variable_number seen v ≡ place_of seen v
placed seen v is = ap (λ b. if◌then◌else◌ {A = ℕ} b (suc (length seen)) (place_of seen v)) (sym is)

pub again : {S : Type 0} (numbers : HashMap (List ℕ) ℕ S) (seen : List (List ℕ)) (v : List ℕ) (n : ℕ) → Finds numbers seen → false ≡ bytes_eq v (codes "_") → Some n ≡ get bytes_eq numbers v → IsNumbered numbers seen seen v n
again numbers seen v n h is found =
    let number : IsNumberAmong seen v (Some n) = subst (IsNumberAmong seen v) (sym found) (h v (sym is)) in
    let value : n ≡ variable_number seen v = sym (placed seen v is ∙ number.0) in
    record { finds = h; value = value; seen = old_by seen v n value number.1 }

pub first : {S : Type 0} (old new : HashMap (List ℕ) ℕ S) (seen now : List (List ℕ)) (v : List ℕ) (n : ℕ) → Finds old seen → false ≡ bytes_eq v (codes "_") → None ≡ get bytes_eq old v → n ≡ suc (length seen) → now ≡ seen ++ v ∷ [] → Updates bytes_eq old new v (Some n) → IsNumbered new seen now v n
first old new seen now v n h is none next put updates =
    let number : IsNumberAmong seen v None = subst (IsNumberAmong seen v) (sym none) (h v (sym is)) in
    let value : n ≡ variable_number seen v = next ∙ sym (placed seen v is ∙ number) in
    record { finds = subst (Finds new) (sym put) (finds_more old new seen v n h (sym none) next updates); value = value; seen = put ∙ joined_by seen v n value next }
