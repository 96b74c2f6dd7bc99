-- What the front equation leads to, by its cases.
use Rattle.std.proofs.Common.{◌≡◌, ℕ, ◌==◌, ◌&&◌, nat_lt, false, cond, ℤ, List, refl, sym, ◌∙◌, ap, subst, arith, eqb-true, eq-eqb, ltb-true, ltb-false}
use Rattle.std.proofs.lemmas.Bool.{false≢true, and_parts, and_from, eqb-false, ne_eqb, cond_both}
use Rattle.std.proofs.lemmas.Bool.Decides.{Decides-int_eq}
use Rattle.std.proofs.lemmas.Slice.Eq.{bytes_eq-Decides}
use Rattle.std.specs.Prelude.{bytes_eq}
use Rattle.std.specs.Ordering.{int_eq}
use Rattle.kl1_model.specs.Term.{Term, variable, integer, atom, structure, Terms, count_of, occurs, occurs_in, substituted, each_substituted}
use Rattle.kl1_model.specs.Unify.{Equation, argument_equations, Transformed, remains, conflicts, eliminates, transformed}
use Rattle.kl1_model.specs.laws.UnifyLaws.{IsLower}
use Rattle.kl1_model.proofs.Substitutions.{no_cycle, count-each_substituted}

-- no terms in place of variables make two terms equal
abbrev pub Clash : Term → Term → Type 0
Clash a b = (s : ℕ → Term) → substituted s a ≡ substituted s b → ⊥

-- integers and atoms that differ clash
clash-integers : (i j : ℤ) → int_eq i j ≡ false → Clash (integer i) (integer j)
clash-integers i j h s e = let p : i ≡ j = cc in false≢true (sym h ∙ (Decides-int_eq i j).1 p)

clash-atoms : (a b : List ℕ) → bytes_eq a b ≡ false → Clash (atom a) (atom b)
clash-atoms a b h s e = let p : a ≡ b = cc in false≢true (sym h ∙ (bytes_eq-Decides a b).1 p)

-- structures of other names or lengths clash
clash-structures : (f g : List ℕ) (ts us : Terms) → (bytes_eq f g && count_of ts == count_of us) ≡ false → Clash (structure f ts) (structure g us)
clash-structures f g ts us h s e =
    let p : f ≡ g = cc in
    let q : each_substituted s ts ≡ each_substituted s us = cc in
    let n = sym (count-each_substituted s ts) ∙ ap count_of q ∙ count-each_substituted s us in
    false≢true (sym h ∙ and_from (bytes_eq f g) (count_of ts == count_of us) ((bytes_eq-Decides f g).1 p) (eq-eqb (count_of ts) (count_of us) n))

-- what holds of two sides and what they lead to, if it holds in each case
pub front_cases : (es : List Equation) (Q : Term → Term → Transformed → Type 0) → ((t : Term) → Q t t (remains es)) → ((f : List ℕ) (ts us : Terms) → count_of ts ≡ count_of us → Q (structure f ts) (structure f us) (remains (argument_equations ts us es))) → ((v : ℕ) (t : Term) → occurs v t ≡ false → IsLower v t → Q (variable v) t (eliminates v t es)) → ((v : ℕ) (t : Term) → occurs v t ≡ false → IsLower v t → Q t (variable v) (eliminates v t es)) → ((a b : Term) → Clash a b → Q a b conflicts) → (a b : Term) → Q a b (transformed a b es)
front_cases es Q same inner left right clash (variable v) (variable w) =
    cond_both (v == w) (remains es) (cond (nat_lt v w) (eliminates w (variable v) es) (eliminates v (variable w) es)) (Q (variable v) (variable w)) (λ e. subst (λ x. Q (variable v) (variable x) (remains es)) (eqb-true v w e) (same (variable v))) (λ e. cond_both (nat_lt v w) (eliminates w (variable v) es) (eliminates v (variable w) es) (Q (variable v) (variable w)) (λ l. right w (variable v) (ne_eqb w v (λ q. eqb-false v w e (sym q))) (ltb-true v w l)) (λ l. left v (variable w) e (let p = ltb-false v w l in let q = eqb-false v w e in omega arith)))
front_cases es Q same inner left right clash (variable v) (integer i) = left v (integer i) refl tt
front_cases es Q same inner left right clash (variable v) (atom a) = left v (atom a) refl tt
front_cases es Q same inner left right clash (variable v) (structure f ts) =
    cond_both (occurs_in v ts) conflicts (eliminates v (structure f ts) es) (Q (variable v) (structure f ts)) (λ h. clash (variable v) (structure f ts) (λ s e. no_cycle s v f ts h e)) (λ h. left v (structure f ts) h tt)
front_cases es Q same inner left right clash (integer i) (variable v) = right v (integer i) refl tt
front_cases es Q same inner left right clash (atom a) (variable v) = right v (atom a) refl tt
front_cases es Q same inner left right clash (structure f ts) (variable v) =
    cond_both (occurs_in v ts) conflicts (eliminates v (structure f ts) es) (Q (structure f ts) (variable v)) (λ h. clash (structure f ts) (variable v) (λ s e. no_cycle s v f ts h (sym e))) (λ h. right v (structure f ts) h tt)
front_cases es Q same inner left right clash (integer i) (integer j) =
    cond_both (int_eq i j) (remains es) conflicts (Q (integer i) (integer j)) (λ e. subst (λ x. Q (integer i) (integer x) (remains es)) ((Decides-int_eq i j).0 e) (same (integer i))) (λ e. clash (integer i) (integer j) (clash-integers i j e))
front_cases es Q same inner left right clash (atom a) (atom b) =
    cond_both (bytes_eq a b) (remains es) conflicts (Q (atom a) (atom b)) (λ e. subst (λ x. Q (atom a) (atom x) (remains es)) ((bytes_eq-Decides a b).0 e) (same (atom a))) (λ e. clash (atom a) (atom b) (clash-atoms a b e))
front_cases es Q same inner left right clash (structure f ts) (structure g us) =
    cond_both (bytes_eq f g && count_of ts == count_of us) (remains (argument_equations ts us es)) conflicts (Q (structure f ts) (structure g us)) (λ e. let p = and_parts (bytes_eq f g) (count_of ts == count_of us) e in subst (λ x. Q (structure f ts) (structure x us) (remains (argument_equations ts us es))) ((bytes_eq-Decides f g).0 p.0) (inner f ts us (eqb-true (count_of ts) (count_of us) p.1))) (λ e. clash (structure f ts) (structure g us) (clash-structures f g ts us e))
front_cases es Q same inner left right clash (integer i) (atom a) = clash (integer i) (atom a) (λ s e. cc)
front_cases es Q same inner left right clash (integer i) (structure f ts) = clash (integer i) (structure f ts) (λ s e. cc)
front_cases es Q same inner left right clash (atom a) (integer i) = clash (atom a) (integer i) (λ s e. cc)
front_cases es Q same inner left right clash (atom a) (structure f ts) = clash (atom a) (structure f ts) (λ s e. cc)
front_cases es Q same inner left right clash (structure f ts) (integer i) = clash (structure f ts) (integer i) (λ s e. cc)
front_cases es Q same inner left right clash (structure f ts) (atom a) = clash (structure f ts) (atom a) (λ s e. cc)
