-- Facts about terms: when two are the same, and what occurs after a replacement.
use Rattle.std.proofs.Common.{Decides, subst, ◌≡◌, ℕ, ◌==◌, true, false, refl, sym, ap, ap₂, eqb-true, eq-eqb}
use Rattle.std.proofs.lemmas.Bool.{false≢true, and_parts, and_from, or_parts, or_from, eqb-false, ne_eqb, cond_both}
use Rattle.std.proofs.lemmas.Bool.Decides.{Decides-int_eq}
use Rattle.std.proofs.lemmas.Slice.Eq.{bytes_eq-Decides}
use Rattle.std.specs.Prelude.{bytes_eq}
use Rattle.kl1_model.specs.Term.{Term, variable, integer, atom, structure, Terms, none, more, same_term, same_terms, occurs, occurs_in, replace, replace_each}

mutual
  -- terms that are the same are equal
  pub same_term-true : (t u : Term) → same_term t u ≡ true → t ≡ u
  same_term-true (variable m) (variable n) h = ap variable (eqb-true m n h)
  same_term-true (integer i) (integer j) h = ap integer ((Decides-int_eq i j).0 h)
  same_term-true (atom a) (atom b) h = ap atom ((bytes_eq-Decides a b).0 h)
  same_term-true (structure f ts) (structure g us) h =
      let p = and_parts (bytes_eq f g) (same_terms ts us) h in
      ap₂ structure ((bytes_eq-Decides f g).0 p.0) (same_terms-true ts us p.1)
  same_term-true _ _ h = absurd (false≢true h)

  same_terms-true : (ts us : Terms) → same_terms ts us ≡ true → ts ≡ us
  same_terms-true none none h = refl
  same_terms-true (more t ts) (more u us) h =
      let p = and_parts (same_term t u) (same_terms ts us) h in
      ap₂ more (same_term-true t u p.0) (same_terms-true ts us p.1)
  same_terms-true _ _ h = absurd (false≢true h)

mutual
  -- a term is the same as itself
  pub same_term-self : (t : Term) → same_term t t ≡ true
  same_term-self (variable n) = eq-eqb n n refl
  same_term-self (integer i) = (Decides-int_eq i i).1 refl
  same_term-self (atom a) = (bytes_eq-Decides a a).1 refl
  same_term-self (structure f ts) = and_from (bytes_eq f f) (same_terms ts ts) ((bytes_eq-Decides f f).1 refl) (same_terms-self ts)

  same_terms-self : (ts : Terms) → same_terms ts ts ≡ true
  same_terms-self none = refl
  same_terms-self (more t ts) = and_from (same_term t t) (same_terms ts ts) (same_term-self t) (same_terms-self ts)

mutual
  -- what does not occur still does not after a replacement by a term in which it does not
  pub occurs-replace : (w v : ℕ) (u t : Term) → occurs w u ≡ false → occurs w t ≡ false → occurs w (replace v u t) ≡ false
  occurs-replace w v u (variable n) k h = cond_both (n == v) u (variable n) (λ x. occurs w x ≡ false) (λ _. k) (λ _. h)
  occurs-replace w v u (integer i) k h = refl
  occurs-replace w v u (atom a) k h = refl
  occurs-replace w v u (structure f ts) k h = occurs_in-replace_each w v u ts k h

  pub occurs_in-replace_each : (w v : ℕ) (u : Term) (ts : Terms) → occurs w u ≡ false → occurs_in w ts ≡ false → occurs_in w (replace_each v u ts) ≡ false
  occurs_in-replace_each w v u none k h = refl
  occurs_in-replace_each w v u (more t ts) k h =
      let p = or_parts (occurs w t) (occurs_in w ts) h in
      or_from (occurs w (replace v u t)) (occurs_in w (replace_each v u ts)) (occurs-replace w v u t k p.0) (occurs_in-replace_each w v u ts k p.1)

mutual
  -- a variable that is replaced by a term without it occurs no longer
  pub occurs-replaced : (v : ℕ) (u t : Term) → occurs v u ≡ false → occurs v (replace v u t) ≡ false
  occurs-replaced v u (variable n) k = cond_both (n == v) u (variable n) (λ x. occurs v x ≡ false) (λ _. k) (λ e. ne_eqb v n (λ q. eqb-false n v e (sym q)))
  occurs-replaced v u (integer i) k = refl
  occurs-replaced v u (atom a) k = refl
  occurs-replaced v u (structure f ts) k = occurs_in-replaced v u ts k

  pub occurs_in-replaced : (v : ℕ) (u : Term) (ts : Terms) → occurs v u ≡ false → occurs_in v (replace_each v u ts) ≡ false
  occurs_in-replaced v u none k = refl
  occurs_in-replaced v u (more t ts) k = or_from (occurs v (replace v u t)) (occurs_in v (replace_each v u ts)) (occurs-replaced v u t k) (occurs_in-replaced v u ts k)

mutual
  -- a replacement of what does not occur changes nothing
  pub replace-absent : (v : ℕ) (u t : Term) → occurs v t ≡ false → replace v u t ≡ t
  replace-absent v u (variable n) h = cond_both (n == v) u (variable n) (λ x. x ≡ variable n) (λ e. absurd (eqb-false v n h (sym (eqb-true n v e)))) (λ _. refl)
  replace-absent v u (integer i) h = refl
  replace-absent v u (atom a) h = refl
  replace-absent v u (structure f ts) h = ap (structure f) (replace_each-absent v u ts h)

  pub replace_each-absent : (v : ℕ) (u : Term) (ts : Terms) → occurs_in v ts ≡ false → replace_each v u ts ≡ ts
  replace_each-absent v u none h = refl
  replace_each-absent v u (more t ts) h =
      let p = or_parts (occurs v t) (occurs_in v ts) h in
      ap₂ more (replace-absent v u t p.0) (replace_each-absent v u ts p.1)

-- two terms are the same if they are equal
pub same_term_decides : (t u : Term) → Decides (same_term t u) (t ≡ u)
same_term_decides t u = (same_term-true t u, λ e. subst (λ x. same_term t x ≡ true) e (same_term-self t))
