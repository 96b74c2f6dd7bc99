-- Walking from a variable to what it was bound to.
use Rattle.std.proofs.Common.{◌≡◌, ℕ, suc, ◌≤◌, ◌==◌, false, List, [], ◌∷◌, ◌++◌, refl, sym, ap, ◌∙◌, ◌⊎◌, inl, inr, arith, subst}
use Rattle.std.proofs.lemmas.Bool.{cases_eq, ne_eqb, or_from}
use Rattle.kl1_store.specs.declared.cell.Cell.{Cell}
use Rattle.kl1_store.specs.declared.cell.Cell.TheVariants.{Variable, Integer, Atom, Structure}
use Rattle.kl1_store.specs.declared.binding.Binding.{Binding}
use Rattle.kl1_store.specs.Held.{Shape, Held, is_bound, found, IsIn, IsLower}
use Rattle.kl1_store.specs.Meaning.{term_of}
use Rattle.kl1_store.specs.Sound.{Bound, IsFormed, IsBoundTo}
use Rattle.kl1_store.proofs.Meanings.{if_same, if_other}
use Rattle.kl1_store.proofs.Lists.{found_unbound}
use Rattle.kl1_store.proofs.Terms.{term_of-found, found_in}

-- how far a walk can still go
abbrev pub height : {N : Type 0} → Cell N → ℕ
height (Variable v) = suc v
height (Integer i) = 0
height (Atom a) = 0
height (Structure s) = 0

-- a variable is unbound, or was bound to something lower
bound_lower : {N : Type 0} (vs : ℕ) (ss : List (Shape N)) (before bs : List (Binding N)) (v : ℕ) → Bound vs ss before bs → (is_bound v bs ≡ false) ⊎ IsLower v (found v bs)
bound_lower vs ss before [] v h = inl refl
bound_lower {N = N} vs ss before (b ∷ bs) v h = by_case (cases_eq b.variable v) (bound_lower vs ss (before ++ b ∷ []) bs v h.1)
  where
    by_case : (b.variable ≡ v) ⊎ (b.variable ≡ v → ⊥) → (is_bound v bs ≡ false) ⊎ IsLower v (found v bs) → (is_bound v (b ∷ bs) ≡ false) ⊎ IsLower v (found v (b ∷ bs))
    by_case (inl e) r =
        let P : Cell N → Type 0 = λ x. IsLower v x in
        let Q : ℕ → Type 0 = λ n. IsLower n b.value in
        inr (subst P (sym (if_same b.value (found v bs) b.variable v e)) (subst Q e h.0.lower))
    by_case (inr ne) (inl u) = inl (or_from (b.variable == v) (is_bound v bs) (ne_eqb b.variable v ne) u)
    by_case (inr ne) (inr l) = let P : Cell N → Type 0 = λ x. IsLower v x in inr (subst P (sym (if_other b.value (found v bs) b.variable v ne)) l)

pub found_itself : {N : Type 0} (h : Held N) (v : ℕ) → IsFormed h → found v h.bindings ≡ Variable v → is_bound v h.bindings ≡ false
found_itself {N = N} h v p e = by_case (bound_lower h.variables h.structures [] h.bindings v p.bound)
  where
    by_case : (is_bound v h.bindings ≡ false) ⊎ IsLower v (found v h.bindings) → is_bound v h.bindings ≡ false
    by_case (inl u) = u
    by_case (inr l) = let P : Cell N → Type 0 = λ x. IsLower v x in let q : suc v ≤ v = subst P e l in absurd (omega arith)

pub bound_at : {N : Type 0} (h : Held N) (v : ℕ) (x : Cell N) → IsFormed h → suc v ≤ h.variables → x ≡ found v h.bindings → (x ≡ Variable v → ⊥) → IsBoundTo h v x
bound_at {N = N} h v x p le e other = by_case (bound_lower h.variables h.structures [] h.bindings v p.bound)
  where
    by_case : (is_bound v h.bindings ≡ false) ⊎ IsLower v (found v h.bindings) → IsBoundTo h v x
    by_case (inl u) = absurd (other (e ∙ found_unbound v h.bindings u))
    by_case (inr l) =
        let P : Cell N → Type 0 = λ y. IsLower v y in
        let Q : Cell N → Type 0 = λ y. IsIn h y in
        record {
          inside = subst Q (sym e) (found_in h v p le);
          lower = subst P (sym e) l;
          means = λ f. ap (term_of f h) e ∙ sym (term_of-found f h v p);
        }

pub lower_height : {N : Type 0} (v : ℕ) (x : Cell N) → IsLower v x → height x ≤ v
lower_height v (Variable w) l = l
lower_height v (Integer i) l = omega arith
lower_height v (Atom a) l = omega arith
lower_height v (Structure s) l = omega arith
