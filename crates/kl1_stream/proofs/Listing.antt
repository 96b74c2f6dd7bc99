-- The elements of a list that is walked.
use Rattle.std.proofs.Common.{◌≡◌, ℕ, zero, suc, ◌+◌, ◌-◌, ◌≤◌, List, [], ◌∷◌, drop, refl, sym, ap, ◌∙◌, arith, subst}
use Rattle.kl1_model.specs.Term.{Term, structure, Terms, none, more, count_of}
use Rattle.kl1_model.specs.Meaning.{cell}
use Rattle.kl1_model.specs.Asking.{elements_of}
use Rattle.kl1_model.specs.declared.built_in.BuiltIn.{BuiltIn}
use Rattle.kl1_store.specs.declared.cell.Cell.{Cell}
use Rattle.kl1_store.specs.declared.fingers.Finger.{Finger}
use Rattle.kl1_store.specs.Held.{Held}
use Rattle.kl1_store.specs.Meaning.{term_of}
use Rattle.kl1_store.specs.Fingers.{IsAfter, IsFinger}
use Rattle.kl1_stream.specs.Elements.{HasElement}
use Rattle.kl1_stream.specs.Tops.{IsOther}

-- a structure that has neither one argument nor two has no elements
other_elements : (g : List ℕ) (ts : Terms) → (count_of ts ≡ 2 → ⊥) → elements_of (structure g ts) ≡ []
other_elements g none ne = refl
other_elements g (more t none) ne = refl
other_elements g (more t (more u none)) ne = absurd (ne refl)
other_elements g (more t (more u (more v ts))) ne = refl

pub no_elements : (t : Term) → IsOther t → elements_of t ≡ []
no_elements t o = ap elements_of o.is ∙ other_elements o.name o.arguments o.not_two

-- one element less to skip
pub skipped : (n : ℕ) (t e r : Term) (xs : List Term) → t ≡ cell e r → drop (suc n) (elements_of t) ≡ xs → drop n (elements_of r) ≡ xs
skipped n t e r xs is d = sym (ap (λ u. drop (suc n) (elements_of u)) is) ∙ d

drop_none : {A : Type 0} (n : ℕ) → drop n (let l : List A = [] in l) ≡ []
drop_none zero = refl
drop_none (suc n) = refl

pub ended : (n : ℕ) (t : Term) (xs : List Term) → elements_of t ≡ [] → drop n (elements_of t) ≡ xs → elements_of t ≡ xs
ended n t xs e d = e ∙ sym (drop_none n) ∙ ap (drop n) (sym e) ∙ d

-- what is left of a list at a place has the elements after those that are counted
pub elements_after : (k : ℕ) (t u : Term) → IsAfter k t u → elements_of u ≡ drop k (elements_of t)
elements_after zero t u a = ap elements_of (sym a)
elements_after (suc k) t u a =
    let m = a.1 in
    elements_after k m.0 u m.1.1 ∙ sym (ap (λ x. drop (suc k) (elements_of x)) m.1.0)

drop_drop : {A : Type 0} (k n : ℕ) (xs : List A) → k ≤ n → drop (n - k) (drop k xs) ≡ drop n xs
drop_drop zero n xs le = let e : n - 0 ≡ n = omega arith in ap (λ m. drop m xs) e
drop_drop (suc k) zero xs le = absurd (omega arith)
drop_drop (suc k) (suc n) [] le = let e : suc n - suc k ≡ n - k = omega arith in ap (λ m. drop m []) e ∙ drop_none (n - k)
drop_drop (suc k) (suc n) (x ∷ xs) le = let e : suc n - suc k ≡ n - k = omega arith in ap (λ m. drop m (drop k xs)) e ∙ drop_drop k n xs (omega arith)

-- the elements after some, from a place among these
pub skipped_to : (k n : ℕ) (t u : Term) → k ≤ n → IsAfter k t u → drop (n - k) (elements_of u) ≡ drop n (elements_of t)
skipped_to k n t u le a = ap (drop (n - k)) (elements_after k t u a) ∙ drop_drop k n (elements_of t) le

-- a place one element further
pub after_more : (k : ℕ) (t u e r : Term) → IsAfter k t u → u ≡ cell e r → IsAfter (suc k) t r
after_more zero t u e r a is = (e, (r, (a ∙ is, refl)))
after_more (suc k) t u e r a is = let m = a.1 in (a.0, (m.0, (m.1.0, after_more k m.0 u e r m.1.1 is)))

pub further : {N : Type 0} (built : BuiltIn → N) (h : Held N) (g : Finger N) (e r : Cell N) (count : ℕ) → IsFinger built h g → HasElement built h g.rest (e, r) → count ≡ g.count + 1 → IsFinger built h (record { list = g.list; count = count; rest = r })
further {N = N} built h g e r count p q c = record {
  list_in = p.list_in;
  rest_in = q.rest_in;
  after = λ f reads.
      let A : ℕ → Type 0 = λ n. IsAfter n (term_of f h g.list) (term_of f h r) in
      let one : suc g.count ≡ count = omega arith in
      subst A one (after_more g.count (term_of f h g.list) (term_of f h g.rest) (term_of f h e) (term_of f h r) (p.after f reads) (q.is f reads));
}

-- the elements that are left at a place of a list
pub skipped_at : {N : Type 0} (f : N → List ℕ) (h : Held N) (list : Cell N) (g : Finger N) (n : ℕ) → g.list ≡ list → g.count ≤ n → IsAfter g.count (term_of f h g.list) (term_of f h g.rest) →
    drop (n - g.count) (elements_of (term_of f h g.rest)) ≡ drop n (elements_of (term_of f h list))
skipped_at f h list g n e le a = skipped_to g.count n (term_of f h g.list) (term_of f h g.rest) le a ∙ ap (λ x. drop n (elements_of (term_of f h x))) e
