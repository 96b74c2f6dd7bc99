-- Pairs of structures that were looked at to the end are equal.
use Rattle.std.proofs.Common.{◌≡◌, ℕ, zero, suc, ◌≤◌, ◌==◌, false, List, [], ◌∷◌, ◌++◌, refl, sym, ap, ◌∙◌, ◌⊎◌, inl, inr, arith, subst}
use Rattle.std.specs.Prelude.{Some, slice_get}
use Rattle.std.proofs.lemmas.Bool.{cond-true, eq-eqb}
use Rattle.kl1_model.specs.Term.{Term, variable, structure, occurs, replace, replace_each}
use Rattle.kl1_model.specs.laws.Clashes.{argument_at}
use Rattle.kl1_model.proofs.TermFacts.{replace-absent}
use Rattle.kl1_store.specs.declared.cell.Cell.{Cell}
use Rattle.kl1_store.specs.declared.cell.Cell.TheVariants.{Variable, Structure}
use Rattle.kl1_store.specs.declared.frame.Frame.{Frame}
use Rattle.kl1_store.specs.declared.merge.Merge.{Merge}
use Rattle.kl1_store.specs.declared.next.Next.TheVariants.{Binds}
use Rattle.kl1_store.specs.Held.{Held, with_binding, is_bound, arguments_of}
use Rattle.kl1_store.specs.Meaning.{term_of, terms_of}
use Rattle.kl1_store.specs.Sound.{IsFormed}
use Rattle.kl1_store.specs.Waiting.{IsPair, IsTurn}
use Rattle.kl1_store.specs.Onward.{onward}
use Rattle.kl1_store.specs.Meets.{Takes, Opens}
use Rattle.kl1_store.specs.Nested.{Under, Expects, Alike, Equal, structure_term, argument_terms, IsNested, IsExpecting, ExpectsNext}
use Rattle.kl1_store.specs.Merged.{Respects, AreMerged}
use Rattle.kl1_store.proofs.Terms.{term_of-Structure, term_of-unbound, term_of-binding, terms_of-binding}
use Rattle.kl1_store.proofs.Meetings.{count_of-terms_of}
use Rattle.kl1_store.proofs.Nesting.{Changes, expected_done, expected_opens, under_turn, under_top, under_pop, equal_arguments, expected_changed}

pub argument_read : {N : Type 0} (f : N → List ℕ) (h : Held N) (xs : List (Cell N)) (i : ℕ) (x : Cell N) → slice_get xs i ≡ Some x → argument_at (terms_of f h xs) i ≡ Some (term_of f h x)
unfolding terms_of
argument_read f h [] i x e = absurd (cc)
argument_read {N = N} f h (y ∷ xs) zero x e = let q : y ≡ x = cc in ap (λ (z : Cell N). Some (term_of f h z)) q
argument_read f h (y ∷ xs) (suc i) x e = argument_read f h xs i x e

-- the arguments in turn are to be made equal
pub nested_turn : {N : Type 0} (h : Held N) (before ps now : List Frame) (p q : Frame) (x y : Cell N) → IsNested h before → before ≡ ps ++ p ∷ [] → now ≡ ps ++ q ∷ [] → q ≡ onward p → IsTurn h p x y → IsExpecting h now x y
nested_turn {N = N} h before ps now p q x y n e are is turn =
    let t = turn.turn in
    let some : Term → _ = λ z. Some z in
    record {
      left = n.left;
      right = n.right;
      expects = λ f.
          let S = structure_term f h in
          let P = argument_terms f h in
          let a = term_of f h n.left in
          let b = term_of f h n.right in
          let U : List Frame → Type 0 = λ l. Under Equal S P a b l in
          let E : List Frame → Type 0 = λ l. Expects Equal S P a b l (term_of f h x) (term_of f h y) in
          subst E (sym (are ∙ ap (λ r. ps ++ r ∷ []) is))
          (under_turn Equal S P a b ps p (term_of f h x) (term_of f h y) (subst U e (n.under f))
          (argument_read f h (arguments_of h p.left) p.next turn.left t.left ∙ ap some (sym (t.left_means f)))
          (argument_read f h (arguments_of h p.right) p.next turn.right t.right ∙ ap some (sym (t.right_means f))));
    }

-- they are equal
pub nested_same : {N : Type 0} (h : Held N) (ps : List Frame) (x y : Cell N) → IsExpecting h ps x y → ((f : N → List ℕ) → term_of f h x ≡ term_of f h y) → IsNested h ps
nested_same h ps x y n same = record {
  left = n.left;
  right = n.right;
  under = λ f. expected_done Equal (structure_term f h) (argument_terms f h) (term_of f h n.left) (term_of f h n.right) ps (term_of f h x) (term_of f h y) (n.expects f) (same f);
}

-- they are structures, which are looked at next
pub nested_opens : {N : Type 0} (h : Held N) (ps now : List Frame) (o : Frame) (x y : Cell N) → IsExpecting h ps x y → Opens h x y o → now ≡ ps ++ o ∷ [] → IsNested h now
nested_opens {N = N} h ps now o x y n opens e = record {
  left = n.left;
  right = n.right;
  under = λ f.
      let S = structure_term f h in
      let P = argument_terms f h in
      let U : List Frame → Type 0 = λ l. Under Equal S P (term_of f h n.left) (term_of f h n.right) l in
      subst U (sym e)
      (expected_opens Equal S P (term_of f h n.left) (term_of f h n.right) ps (term_of f h x) (term_of f h y) o (n.expects f) (ap (term_of f h) opens.left) (ap (term_of f h) opens.right) opens.start);
}

pub nested_starts : {N : Type 0} (h : Held N) (ps : List Frame) (p : Frame) → ps ≡ p ∷ [] → p.next ≡ 0 → IsNested h ps
nested_starts {N = N} h ps p e z = record {
  left = Structure p.left;
  right = Structure p.right;
  under = λ f.
      let S = structure_term f h in
      let P = argument_terms f h in
      let U : List Frame → Type 0 = λ l. Under Equal S P (S p.left) (S p.right) l in
      let A : ℕ → Type 0 = λ n. Alike Equal n (P p.left) (P p.right) in
      subst U (sym e) (refl, refl, subst A (sym z) tt);
}

pair_equal : {N : Type 0} (f : N → List ℕ) (h : Held N) (p : Frame) → IsFormed h → IsPair h p → p.count ≤ p.next → Alike Equal p.next (argument_terms f h p.left) (argument_terms f h p.right) →
    structure_term f h p.left ≡ structure_term f h p.right
pair_equal f h p formed pair le alike =
    let l = count_of-terms_of f h (arguments_of h p.left) in
    let r = count_of-terms_of f h (arguments_of h p.right) in
    let same = equal_arguments p.next (argument_terms f h p.left) (argument_terms f h p.right) alike (omega (arith, l, pair.left_count, pair.next)) (omega (arith, r, pair.right_count, pair.next)) in
    term_of-Structure f h p.left pair.name formed pair.left_shape ∙ ap (structure (f pair.name)) same ∙ sym (term_of-Structure f h p.right pair.name formed pair.right_shape)

-- a pair at its end
pub record IsClosed {N : Type 0} (h : Held N) (ps : List Frame) (p : Frame) : Type 0 where
  pub nested : IsNested h ps
  pub equal : (f : N → List ℕ) → structure_term f h p.left ≡ structure_term f h p.right

pub nested_closed : {N : Type 0} (h : Held N) (before ps : List Frame) (p : Frame) → IsFormed h → IsNested h before → before ≡ ps ++ p ∷ [] → IsPair h p → p.count ≤ p.next → IsClosed h ps p
nested_closed {N = N} h before ps p formed n e pair le = record {
  nested = record {
    left = n.left;
    right = n.right;
    under = λ f. under_pop Equal (structure_term f h) (argument_terms f h) (term_of f h n.left) (term_of f h n.right) ps p (under f) (equal f);
  };
  equal = equal;
}
  where
    under : (f : N → List ℕ) → Under Equal (structure_term f h) (argument_terms f h) (term_of f h n.left) (term_of f h n.right) (ps ++ p ∷ [])
    under f = let U : List Frame → Type 0 = λ l. Under Equal (structure_term f h) (argument_terms f h) (term_of f h n.left) (term_of f h n.right) l in subst U e (n.under f)

    equal : (f : N → List ℕ) → structure_term f h p.left ≡ structure_term f h p.right
    equal f = pair_equal f h p formed pair le (under_top Equal (structure_term f h) (argument_terms f h) (term_of f h n.left) (term_of f h n.right) ps p (under f))

-- ---- after a binding

replace_changes : (v : ℕ) (t : Term) → Changes (replace v t) (replace_each v t)
replace_changes v t = record { none_is = refl; more_is = λ u us. refl }

bound_nested : {N : Type 0} (h : Held N) (v : ℕ) (z x y : Cell N) (ps : List Frame) → IsExpecting h ps x y → ((f : N → List ℕ) → replace v (term_of f h z) (term_of f h x) ≡ replace v (term_of f h z) (term_of f h y)) → IsNested (with_binding h v z) ps
bound_nested {N = N} h v z x y ps n same = record { left = n.left; right = n.right; under = under }
  where
    new : Held N
    new = with_binding h v z

    under : (f : N → List ℕ) → Under Equal (structure_term f new) (argument_terms f new) (term_of f new n.left) (term_of f new n.right) ps
    under f =
        let g : Term → Term = replace v (term_of f h z) in
        let S = structure_term f new in
        let P = argument_terms f new in
        let U : Term → Type 0 = λ t. Under Equal S P t (term_of f new n.right) ps in
        let V : Term → Type 0 = λ t. Under Equal S P (g (term_of f h n.left)) t ps in
        subst U (sym (term_of-binding f h v z n.left)) (subst V (sym (term_of-binding f h v z n.right))
        (expected_done Equal S P (g (term_of f h n.left)) (g (term_of f h n.right)) ps (g (term_of f h x)) (g (term_of f h y))
        (expected_changed Equal Equal g (replace_each v (term_of f h z)) (structure_term f h) S (argument_terms f h) P (replace_changes v (term_of f h z)) (λ t u e. ap g e)
        (λ s. term_of-binding f h v z (Structure s)) (λ s. terms_of-binding f h v z (arguments_of h s)) (term_of f h n.left) (term_of f h n.right) ps (term_of f h x) (term_of f h y) (n.expects f)) (same f)))

-- the variable and what it takes mean one term then
taken_equal : {N : Type 0} (f : N → List ℕ) (h : Held N) (v : ℕ) (z : Cell N) → is_bound v h.bindings ≡ false → occurs v (term_of f h z) ≡ false → replace v (term_of f h z) (term_of f h (Variable v)) ≡ replace v (term_of f h z) (term_of f h z)
taken_equal f h v z unbound free =
    ap (replace v (term_of f h z)) (term_of-unbound f h v unbound) ∙ cond-true (v == v) (term_of f h z) (variable v) (eq-eqb v v refl) ∙ sym (replace-absent v (term_of f h z) (term_of f h z) free)

pub nested_bound : {N : Type 0} (h : Held N) (v : ℕ) (z : Cell N) (ps : List Frame) → ExpectsNext h ps (Binds v z) → is_bound v h.bindings ≡ false → ((f : N → List ℕ) → occurs v (term_of f h z) ≡ false) → IsNested (with_binding h v z) ps
nested_bound h v z ps (inl n) unbound free = bound_nested h v z (Variable v) z ps n (λ f. taken_equal f h v z unbound (free f))
nested_bound h v z ps (inr n) unbound free = bound_nested h v z z (Variable v) ps n (λ f. sym (taken_equal f h v z unbound (free f)))

respects_bound : {N : Type 0} (f : N → List ℕ) (h : Held N) (v : ℕ) (z : Cell N) (ms : List Merge) → Respects (structure_term f h) ms → Respects (structure_term f (with_binding h v z)) ms
respects_bound f h v z [] r = tt
respects_bound f h v z (m ∷ ms) r = (
  term_of-binding f h v z (Structure m.from) ∙ ap (replace v (term_of f h z)) r.0 ∙ sym (term_of-binding f h v z (Structure m.to)),
  respects_bound f h v z ms r.1,
)

pub merged_bound : {N : Type 0} (h : Held N) (v : ℕ) (z : Cell N) (ms : List Merge) → AreMerged h ms → AreMerged (with_binding h v z) ms
merged_bound h v z ms m = λ f. respects_bound f h v z ms (m f)

-- what a binding that is asked for leaves to be made equal
pub expects_taken : {N : Type 0} (h : Held N) (ps : List Frame) (x y : Cell N) (v : ℕ) (z : Cell N) → IsExpecting h ps x y → Takes h x y v z → ExpectsNext h ps (Binds v z)
expects_taken {N = N} h ps x y v z n takes = by_side takes.sides
  where
    by_side : ((x ≡ Variable v) × (z ≡ y)) ⊎ ((y ≡ Variable v) × (z ≡ x)) → ExpectsNext h ps (Binds v z)
    by_side (inl e) =
        let A : Cell N → Type 0 = λ c. IsExpecting h ps c z in
        let B : Cell N → Type 0 = λ c. IsExpecting h ps x c in
        inl (subst A e.0 (subst B (sym e.1) n))
    by_side (inr e) =
        let A : Cell N → Type 0 = λ c. IsExpecting h ps z c in
        let B : Cell N → Type 0 = λ c. IsExpecting h ps c y in
        inr (subst A e.0 (subst B (sym e.1) n))
