-- From what was compared to the answer of passive equality.
use Rattle.std.proofs.Common.{◌≡◌, ℕ, zero, suc, true, List, [], ◌∷◌, ◌++◌, length, get_or, ◌<◌, ◌⊎◌, inl, inr, refl, sym, arith, subst}
use Rattle.std.specs.Prelude.{Contains, ◌↔◌}
use Rattle.kl1_model.specs.declared.built_in.BuiltIn.{BuiltIn}
use Rattle.kl1_model.specs.code.Comparing.{same, differs, unknown, awaited, some_clash, awaited_by, passive_each}
use Rattle.kl1_model.proofs.SameEach.{each_is_same, each_differs, each_is_unknown}
use Rattle.kl1_text.specs.Reading.{Reads}
use Rattle.kl1_store.specs.declared.cell.Cell.{Cell}
use Rattle.kl1_store.specs.Held.{Held}
use Rattle.kl1_store.specs.Meaning.{term_of}
use Rattle.kl1_store.specs.Unbound.{AreUnbound}
use Rattle.kl1_store.specs.Compares.{Compared}
use Rattle.kl1_store.specs.Sameness.{AreAlike}
use Rattle.kl1_store.specs.Done.{IsOf}
use Rattle.kl1_store.specs.ComparesEach.{term_list, ComparedEach}

no_members : (xs : List ℕ) → ((v : ℕ) → IsOf v xs → ⊥) → xs ≡ []
no_members [] none_of = refl
no_members (x ∷ xs) none_of = absurd (none_of x (inl refl))

pub answers_yes : {N : Type 0} (f : N → List ℕ) (h : Held N) (xs : List (Cell N)) (start longer : List ℕ) → start ≡ [] → longer ≡ [] → ComparedEach f h xs start longer → passive_each (term_list f h xs) ≡ same
answers_yes f h xs start longer s e c =
    each_is_same (term_list f h xs) c.clash (no_members (awaited_by (term_list f h xs)) (λ v a. let E : List ℕ → Type 0 = λ k. IsOf v k in subst E e ((c.awaited v).1 (inr a))))

pub answers_no : {N : Type 0} (f : N → List ℕ) (h : Held N) (xs : List (Cell N)) → some_clash (term_list f h xs) ≡ true → passive_each (term_list f h xs) ≡ differs
answers_no f h xs c = each_differs (term_list f h xs) c

pub of_at : (v : ℕ) (xs : List ℕ) (k : ℕ) → k < length xs → get_or xs k v ≡ v → IsOf v xs
of_at v [] k lt e = absurd (omega arith)
of_at v (x ∷ xs) zero lt e = inl e
of_at v (x ∷ xs) (suc k) lt e = inr (of_at v xs k (omega arith) e)

pub contains_of : (v : ℕ) (xs : List ℕ) → IsOf v xs → Contains xs v
contains_of v [] a = absurd a
contains_of v (x ∷ xs) (inl e) = (0, omega arith, e)
contains_of v (x ∷ xs) (inr a) = let r = contains_of v xs a in (suc r.0, (let lt = r.1 in omega arith), r.2)

pub answers_wait : {N : Type 0} (f : N → List ℕ) (h : Held N) (xs : List (Cell N)) (start longer : List ℕ) → start ≡ [] → 0 < length longer → ComparedEach f h xs start longer →
    (passive_each (term_list f h xs) ≡ unknown) × ((v : ℕ) → Contains longer v ↔ Contains (awaited_by (term_list f h xs)) v)
answers_wait {N = N} f h xs start longer s lt c = (
  waits (awaited_by (term_list f h xs)) refl (first longer lt (λ v a. forth v ((c.awaited v).0 a))),
  λ v. (λ p. contains_of v (awaited_by (term_list f h xs)) (forth v ((c.awaited v).0 (of_at v longer p.0 p.1 p.2))), λ p. contains_of v longer ((c.awaited v).1 (inr (of_at v (awaited_by (term_list f h xs)) p.0 p.1 p.2)))),
)
  where
    forth : (v : ℕ) → IsOf v start ⊎ IsOf v (awaited_by (term_list f h xs)) → IsOf v (awaited_by (term_list f h xs))
    forth v (inl a) = let E : List ℕ → Type 0 = λ k. IsOf v k in absurd (subst E s a)
    forth v (inr a) = a

    first : (ls : List ℕ) → 0 < length ls → ((v : ℕ) → IsOf v ls → IsOf v (awaited_by (term_list f h xs))) → (v : ℕ) × IsOf v (awaited_by (term_list f h xs))
    first [] lt k = absurd (omega arith)
    first (w ∷ ls) lt k = (w, k w (inl refl))

    waits : (ws : List ℕ) → awaited_by (term_list f h xs) ≡ ws → (v : ℕ) × IsOf v (awaited_by (term_list f h xs)) → passive_each (term_list f h xs) ≡ unknown
    waits [] a m = let E : List ℕ → Type 0 = λ k. IsOf m.0 k in absurd (subst E a m.1)
    waits (w ∷ ws) a m = each_is_unknown (term_list f h xs) w ws c.clash a

-- ---- two cells

same_members : (start longer ws : List ℕ) → start ≡ [] → ((v : ℕ) → IsOf v longer ↔ (IsOf v start ⊎ IsOf v ws)) → (v : ℕ) → Contains longer v ↔ Contains ws v
same_members start longer ws s each v =
    (λ p. contains_of v ws (forth ((each v).0 (of_at v longer p.0 p.1 p.2))), λ p. contains_of v longer ((each v).1 (inr (of_at v ws p.0 p.1 p.2))))
  where
    forth : IsOf v start ⊎ IsOf v ws → IsOf v ws
    forth (inl a) = let E : List ℕ → Type 0 = λ k. IsOf v k in absurd (subst E s a)
    forth (inr a) = a

-- two cells that were compared, beginning with no variables, and those that were found are put after others
pub alike_from : {N : Type 0} (built : BuiltIn → N) (h : Held N) (x y : Cell N) (start longer before after : List ℕ) → start ≡ [] → after ≡ before ++ longer → (AreUnbound h start → AreUnbound h longer) →
    ((f : N → List ℕ) → Reads built f → Compared f h x y start longer) → AreAlike built h x y before after
alike_from {N = N} built h x y start longer before after s added unbound compared =
    let U : List ℕ → Type 0 = λ l. AreUnbound h l in
    record {
      named = longer;
      added = added;
      unbound = unbound (subst U (sym s) tt);
      clash = λ f reads. (compared f reads).clash;
      awaited = λ f reads. same_members start longer (awaited (term_of f h x) (term_of f h y)) s (compared f reads).awaited;
    }
