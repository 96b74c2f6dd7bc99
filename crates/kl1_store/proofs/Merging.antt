-- Classes of equal structures.
use Rattle.std.proofs.Common.{◌≡◌, ℕ, zero, suc, ◌<◌, ◌≤◌, List, [], ◌∷◌, ◌++◌, length, get_or, set, refl, sym, ap, ◌∙◌, ◌⊎◌, inl, inr, arith, subst}
use Rattle.std.proofs.lemmas.Bool.{cases_eq}
use Rattle.std.proofs.lemmas.List.{get_or-set_same, get_or-set_other, get_or_past, get_or_default}
use Rattle.kl1_model.specs.Term.{Term}
use Rattle.kl1_store.specs.declared.merge.Merge.{Merge}
use Rattle.kl1_store.specs.Merged.{Respects, IsFrom, AreParents, FindsRoot}

-- what a structure leads to, after one was changed
set_parent : (ps : List ℕ) (at x s : ℕ) → at < length ps → (s ≡ at) ⊎ (s ≡ at → ⊥) → (s ≡ at) × (get_or (set ps at x) s s ≡ x) ⊎ (s ≡ at → ⊥) × (get_or (set ps at x) s s ≡ get_or ps s s)
set_parent ps at x s lt (inl e) =
    let P : ℕ → Type 0 = λ n. get_or (set ps at x) n n ≡ x in
    inl (e, subst P (sym e) (get_or-set_same ps at x at lt))
set_parent ps at x s lt (inr ne) = inr (ne, get_or-set_other ps at s x s ne)

pub respects-first : (S : ℕ → Term) (ms : List Merge) (m : Merge) → Respects S (ms ++ m ∷ []) → Respects S ms × (S m.from ≡ S m.to)
respects-first S [] m r = (tt, r.0)
respects-first S (n ∷ ms) m r = let q = respects-first S ms m r.1 in ((r.0, q.0), q.1)

pub respects-push : (S : ℕ → Term) (ms : List Merge) (m : Merge) → Respects S ms → S m.from ≡ S m.to → Respects S (ms ++ m ∷ [])
respects-push S [] m r e = (e, tt)
respects-push S (n ∷ ms) m r e = (r.0, respects-push S ms m r.1 e)

from-first : (s : ℕ) (ms : List Merge) (m : Merge) → IsFrom s ms → IsFrom s (ms ++ m ∷ [])
from-first s [] m f = absurd f
from-first s (n ∷ ms) m (inl e) = inl e
from-first s (n ∷ ms) m (inr f) = inr (from-first s ms m f)

from-last : (ms : List Merge) (m : Merge) → IsFrom m.from (ms ++ m ∷ [])
from-last [] m = inl refl
from-last (n ∷ ms) m = inr (from-last ms m)

from-split : (s : ℕ) (ms : List Merge) (m : Merge) → IsFrom s (ms ++ m ∷ []) → IsFrom s ms ⊎ (m.from ≡ s)
from-split s [] m (inl e) = inr e
from-split s [] m (inr f) = absurd f
from-split s (n ∷ ms) m (inl e) = inl (inl e)
from-split s (n ∷ ms) m (inr f) = further (from-split s ms m f)
  where
    further : IsFrom s ms ⊎ (m.from ≡ s) → IsFrom s (n ∷ ms) ⊎ (m.from ≡ s)
    further (inl g) = inl (inr g)
    further (inr e) = inr e

-- the way of a structure that leads further is shortened
shortened : (ps : List ℕ) (ms : List Merge) (at : ℕ) → at < length ps → get_or ps at at < at → AreParents ps ms → AreParents (set ps at (get_or ps (get_or ps at at) (get_or ps at at))) ms
shortened ps ms at inside less a = record {
  lower = λ s. lower s (set_parent ps at over s inside (cases_eq s at));
  same = λ S r s. same S r s (set_parent ps at over s inside (cases_eq s at));
  linked = λ s. linked s (set_parent ps at over s inside (cases_eq s at));
}
  where
    next : ℕ
    next = get_or ps at at

    over : ℕ
    over = get_or ps next next

    lower : (s : ℕ) → (s ≡ at) × (get_or (set ps at over) s s ≡ over) ⊎ (s ≡ at → ⊥) × (get_or (set ps at over) s s ≡ get_or ps s s) → get_or (set ps at over) s s ≤ s
    lower s (inl e) = let l = a.lower next in omega (arith, e.0, e.1, l, less)
    lower s (inr ne) = let l = a.lower s in omega (arith, ne.1, l)

    same : (S : ℕ → Term) → Respects S ms → (s : ℕ) → (s ≡ at) × (get_or (set ps at over) s s ≡ over) ⊎ (s ≡ at → ⊥) × (get_or (set ps at over) s s ≡ get_or ps s s) → S (get_or (set ps at over) s s) ≡ S s
    same S r s (inl e) = ap S e.1 ∙ a.same S r next ∙ a.same S r at ∙ ap S (sym e.0)
    same S r s (inr ne) = ap S ne.1 ∙ a.same S r s

    moved : (get_or ps at at ≡ at) ⊎ IsFrom at ms → IsFrom at ms
    moved (inl e) = absurd (omega (arith, e, less))
    moved (inr f) = f

    linked : (s : ℕ) → (s ≡ at) × (get_or (set ps at over) s s ≡ over) ⊎ (s ≡ at → ⊥) × (get_or (set ps at over) s s ≡ get_or ps s s) → (get_or (set ps at over) s s ≡ s) ⊎ IsFrom s ms
    linked s (inl e) = let F : ℕ → Type 0 = λ n. IsFrom n ms in inr (subst F (sym e.0) (moved (a.linked at)))
    linked s (inr ne) = let F : ℕ → Type 0 = λ n. (n ≡ s) ⊎ IsFrom s ms in subst F (sym ne.1) (a.linked s)

pub root_starts : (ps : List ℕ) (s : ℕ) (ms : List Merge) → AreParents ps ms → FindsRoot ps ms s s
root_starts ps s ms a = record { kept = a; lower = omega arith; same = λ S r. refl }

pub root_goes_on : (ps qs : List ℕ) (s at next over : ℕ) (ms : List Merge) → at < length ps → next ≡ get_or ps at next → next < at → over ≡ get_or ps next next → qs ≡ set ps at over → FindsRoot ps ms s at → FindsRoot qs ms s next
root_goes_on ps qs s at next over ms inside is less to e f =
    let n : next ≡ get_or ps at at = is ∙ get_or_default ps at next at inside in
    let P : List ℕ → Type 0 = λ l. FindsRoot l ms s next in
    let O : ℕ → Type 0 = λ k. FindsRoot (set ps at k) ms s next in
    let Q : ℕ → Type 0 = λ k. FindsRoot (set ps at (get_or ps k k)) ms s next in
    subst P (sym e) (subst O (sym to) (subst Q (sym n) (record {
      kept = shortened ps ms at inside (omega (arith, n, less)) f.kept;
      lower = omega (arith, less, f.lower);
      same = λ S r. ap S n ∙ f.kept.same S r at ∙ f.same S r;
    })))

-- ---- all put back

pub reset_inside : (ps qs : List ℕ) (all ms : List Merge) (m : Merge) → all ≡ ms ++ m ∷ [] → m.from < length ps → qs ≡ set ps m.from m.from → ((s : ℕ) → (get_or ps s s ≡ s) ⊎ IsFrom s all) → (s : ℕ) → (get_or qs s s ≡ s) ⊎ IsFrom s ms
reset_inside ps qs all ms m is inside e a s =
    let G : List ℕ → Type 0 = λ l. (get_or l s s ≡ s) ⊎ IsFrom s ms in
    subst G (sym e) (at (set_parent ps m.from m.from s inside (cases_eq s m.from)) (a s))
  where
    at : (s ≡ m.from) × (get_or (set ps m.from m.from) s s ≡ m.from) ⊎ (s ≡ m.from → ⊥) × (get_or (set ps m.from m.from) s s ≡ get_or ps s s) → (get_or ps s s ≡ s) ⊎ IsFrom s all → (get_or (set ps m.from m.from) s s ≡ s) ⊎ IsFrom s ms
    at (inl q) b = inl (q.1 ∙ sym q.0)
    at (inr q) (inl b) = inl (q.1 ∙ b)
    at (inr q) (inr f) = let F : List Merge → Type 0 = λ l. IsFrom s l in left (from-split s ms m (subst F is f))
      where
        left : IsFrom s ms ⊎ (m.from ≡ s) → (get_or (set ps m.from m.from) s s ≡ s) ⊎ IsFrom s ms
        left (inl g) = inr g
        left (inr z) = absurd (q.0 (sym z))

pub reset_outside : (ps : List ℕ) (all ms : List Merge) (m : Merge) → all ≡ ms ++ m ∷ [] → length ps ≤ m.from → ((s : ℕ) → (get_or ps s s ≡ s) ⊎ IsFrom s all) → (s : ℕ) → (get_or ps s s ≡ s) ⊎ IsFrom s ms
reset_outside ps all ms m is past a s = at (a s)
  where
    at : (get_or ps s s ≡ s) ⊎ IsFrom s all → (get_or ps s s ≡ s) ⊎ IsFrom s ms
    at (inl b) = inl b
    at (inr f) = let F : List Merge → Type 0 = λ l. IsFrom s l in left (from-split s ms m (subst F is f))
      where
        left : IsFrom s ms ⊎ (m.from ≡ s) → (get_or ps s s ≡ s) ⊎ IsFrom s ms
        left (inl g) = inr g
        left (inr z) = inl (get_or_past ps s s (omega (arith, z, past)))

pub reset_ends : (ps : List ℕ) (ms : List Merge) → ms ≡ [] → ((s : ℕ) → (get_or ps s s ≡ s) ⊎ IsFrom s ms) → (s : ℕ) → get_or ps s s ≡ s
reset_ends ps ms e a s = at (a s)
  where
    at : (get_or ps s s ≡ s) ⊎ IsFrom s ms → get_or ps s s ≡ s
    at (inl b) = b
    at (inr f) = let F : List Merge → Type 0 = λ l. IsFrom s l in absurd (subst F e f)

pub parents_reset : (ps : List ℕ) (ms : List Merge) → ((s : ℕ) → get_or ps s s ≡ s) → AreParents ps ms
parents_reset ps ms a = record {
  lower = λ s. omega (arith, a s);
  same = λ S r s. ap S (a s);
  linked = λ s. inl (a s);
}

-- ---- one link more

one_filled : (ps : List ℕ) (i d n : ℕ) → (i ≡ length ps → d ≡ n) → get_or (ps ++ n ∷ []) i d ≡ get_or ps i d
one_filled [] zero d n e = sym (e refl)
one_filled [] (suc i) d n e = get_or_past (n ∷ []) (suc i) d (omega arith) ∙ sym (get_or_past [] (suc i) d (omega arith))
one_filled (p ∷ ps) zero d n e = refl
one_filled (p ∷ ps) (suc i) d n e = one_filled ps i d n (λ q. e (ap suc q))

pub filled : (ps qs : List ℕ) (s n : ℕ) → qs ≡ ps ++ n ∷ [] → n ≡ length ps → get_or qs s s ≡ get_or ps s s
filled ps qs s n e is = ap (λ l. get_or l s s) e ∙ one_filled ps s s n (λ q. q ∙ sym is)

pub parents_same : (ps qs : List ℕ) (ms : List Merge) → ((s : ℕ) → get_or qs s s ≡ get_or ps s s) → AreParents ps ms → AreParents qs ms
parents_same ps qs ms e a = record {
  lower = λ s. let l = a.lower s in omega (arith, e s, l);
  same = λ S r s. ap S (e s) ∙ a.same S r s;
  linked = λ s. let F : ℕ → Type 0 = λ n. (n ≡ s) ⊎ IsFrom s ms in subst F (sym (e s)) (a.linked s);
}

pub linked_to : (ps qs : List ℕ) (ms ns : List Merge) (from to : ℕ) → from < length ps → to < from → qs ≡ set ps from to → ns ≡ ms ++ record { from = from; to = to } ∷ [] → AreParents ps ms → AreParents qs ns
linked_to ps qs ms ns from to inside less e is a =
    let P : List ℕ → Type 0 = λ l. AreParents l ns in
    let Q : List Merge → Type 0 = λ l. AreParents (set ps from to) l in
    subst P (sym e) (subst Q (sym is) (record {
      lower = λ s. lower s (set_parent ps from to s inside (cases_eq s from));
      same = λ S r s. let q = respects-first S ms m r in same S q.0 q.1 s (set_parent ps from to s inside (cases_eq s from));
      linked = λ s. linked s (set_parent ps from to s inside (cases_eq s from));
    }))
  where
    m : Merge
    m = record { from = from; to = to }

    lower : (s : ℕ) → (s ≡ from) × (get_or (set ps from to) s s ≡ to) ⊎ (s ≡ from → ⊥) × (get_or (set ps from to) s s ≡ get_or ps s s) → get_or (set ps from to) s s ≤ s
    lower s (inl q) = omega (arith, q.0, q.1, less)
    lower s (inr q) = let l = a.lower s in omega (arith, q.1, l)

    same : (S : ℕ → Term) → Respects S ms → S from ≡ S to → (s : ℕ) → (s ≡ from) × (get_or (set ps from to) s s ≡ to) ⊎ (s ≡ from → ⊥) × (get_or (set ps from to) s s ≡ get_or ps s s) → S (get_or (set ps from to) s s) ≡ S s
    same S r one s (inl q) = ap S q.1 ∙ sym one ∙ ap S (sym q.0)
    same S r one s (inr q) = ap S q.1 ∙ a.same S r s

    linked : (s : ℕ) → (s ≡ from) × (get_or (set ps from to) s s ≡ to) ⊎ (s ≡ from → ⊥) × (get_or (set ps from to) s s ≡ get_or ps s s) → (get_or (set ps from to) s s ≡ s) ⊎ IsFrom s (ms ++ m ∷ [])
    linked s (inl q) = let F : ℕ → Type 0 = λ n. IsFrom n (ms ++ m ∷ []) in inr (subst F (sym q.0) (from-last ms m))
    linked s (inr q) = at (a.linked s)
      where
        at : (get_or ps s s ≡ s) ⊎ IsFrom s ms → (get_or (set ps from to) s s ≡ s) ⊎ IsFrom s (ms ++ m ∷ [])
        at (inl z) = inl (q.1 ∙ z)
        at (inr f) = inr (from-first s ms m f)
