-- Rows in the order of their keys: what a search finds among them, and what one row more does.
use Rattle.std.proofs.Common.{◌≡◌, ℕ, zero, suc, ◌+◌, ◌<◌, ◌≤◌, cond, Bool, true, false, List, [], ◌∷◌, length, get_or, set, refl, sym, ap, ◌∙◌, subst, inl, inr, arith}
use Rattle.std.specs.Prelude.{Option, Some, None, Result, Ok, Err, IfOk, IfErr}
use Rattle.std.specs.declared.cmp.Ordering.{Ordering}
use Rattle.std.specs.declared.cmp.Ordering.TheVariants.{Less, Equal, Greater}
use Rattle.std.specs.Ordering.{is_eq, is_lt, nat_cmp, ordering_index, ordering_reverse, eq_by_cmp}
use Rattle.std.specs.Cmp.{IsTotalOrder}
use Rattle.std.specs.List.{insert, AllByRecursion}
use Rattle.std.specs.List.Sorted.{IsStrictlySortedBy, IsNonDecreasingBy, IsSearchInRange, IsBinarySearchResult}
use Rattle.std.specs.Map.{lookup, keys_of}
use Rattle.std.proofs.lemmas.Bool.{cases_lt, cond-true, cond-false, false≢true}
use Rattle.std.proofs.lemmas.Cmp.{tied_itself, nat_cmp_total, on_total, then_total}
use Rattle.std.proofs.lemmas.List.Sorted.{searchable_from_sorted}
use Rattle.std.proofs.lemmas.Map.Lookups.{exact_pairs, exact_unsigned}
use Rattle.kl1_codes.specs.declared.span.Span.{Span}
use Rattle.kl1_codes.specs.Indexes.{Key, Rows, key_order, span_at, IsInOrder, IsAt, IsGap, HasPut}

pub key_total : IsTotalOrder key_order
key_total = then_total (on_total (λ p. p.0) nat_cmp_total) (on_total (λ p. p.1) nat_cmp_total)

-- keys that none of both comes before are one
pub one_key : (a b : Key) → key_order a b ≡ Equal → a ≡ b
one_key = exact_pairs nat_cmp nat_cmp exact_unsigned exact_unsigned

pub equal_is : (r : Ordering) → is_eq r ≡ true → r ≡ Equal
equal_is Less e = absurd (false≢true e)
equal_is Equal e = refl
equal_is Greater e = absurd (false≢true e)

-- a key before another is none that is the same as that
apart : {K : Type 0} {R : K → K → Ordering} (o : IsTotalOrder R) (a k q : K) → R a k ≡ Less → is_eq (R q k) ≡ true → is_eq (R q a) ≡ false
apart {R = R} o a k q less same = ap is_eq (o.congr q k a (equal_is (R q k) same) ∙ o.antisymm k a ∙ ap ordering_reverse less)

turn : {X : Type 0} (a b : Bool) (x y z : Option X) → (b ≡ true → a ≡ false) → cond a x (cond b y z) ≡ cond b y (cond a x z)
turn true true x y z f = absurd (false≢true (sym (f refl)))
turn true false x y z f = refl
turn false true x y z f = refl
turn false false x y z f = refl

over : {X : Type 0} (b : Bool) (x y z : Option X) → cond b x z ≡ cond b x (cond b y z)
over true x y z = refl
over false x y z = refl

all_inserted : {K X : Type 0} (P : K → Type 0) (es : List (K × X)) (i : ℕ) (k : K) (v : X) → AllByRecursion P (keys_of es) → P k → AllByRecursion P (keys_of (insert es i (k, v)))
all_inserted P es zero k v a p = (p, a)
all_inserted P [] (suc i) k v a p = (p, tt)
all_inserted P (e ∷ es) (suc i) k v a p = (a.0, all_inserted P es i k v a.1 p)

keys_kept : {K X : Type 0} (es : List (K × X)) (i : ℕ) (k : K) (v : X) → i < length es → ((d : K × X) → (get_or es i d).0 ≡ k) → keys_of (set es i (k, v)) ≡ keys_of es
keys_kept [] i k v lt is = absurd (omega arith)
keys_kept (e ∷ es) zero k v lt is = ap (λ x. x ∷ keys_of es) (sym (is e))
keys_kept (e ∷ es) (suc i) k v lt is = ap (λ l. e.0 ∷ l) (keys_kept es i k v (omega arith) is)

all_at : {K X : Type 0} (P : K → Type 0) (es : List (K × X)) (i : ℕ) (k : K) → AllByRecursion P (keys_of es) → i < length es → ((d : K × X) → (get_or es i d).0 ≡ k) → P k
all_at P [] i k a lt is = absurd (omega arith)
all_at P (e ∷ es) zero k a lt is = subst P (is e) a.0
all_at P (e ∷ es) (suc i) k a lt is = all_at P es i k a.1 (omega arith) is

module _ {K X : Type 0} {R : K → K → Ordering} (o : IsTotalOrder R) where
  -- ---- a row more, in a gap

  pub inserted : (es : List (K × X)) (i : ℕ) (k : K) (v : X) → ((j : ℕ) (d : K × X) → j < i → R (get_or es j d).0 k ≡ Less) → (q : K) →
      lookup (eq_by_cmp R q) (insert es i (k, v)) ≡ cond (eq_by_cmp R q k) (Some v) (lookup (eq_by_cmp R q) es)
  inserted es zero k v less q = refl
  inserted [] (suc i) k v less q = refl
  inserted (e ∷ es) (suc i) k v less q =
      ap (λ r. cond (is_eq (R q e.0)) (Some e.1) r) (inserted es i k v (λ j d lt. less (suc j) d (omega arith)) q)
      ∙ turn (is_eq (R q e.0)) (is_eq (R q k)) (Some e.1) (Some v) (lookup (eq_by_cmp R q) es) (apart o e.0 k q (less 0 e (omega arith)))

  all_above : (es : List (K × X)) (k : K) → ((j : ℕ) (d : K × X) → j < length es → R (get_or es j d).0 k ≡ Greater) → AllByRecursion (λ y. R k y ≡ Less) (keys_of es)
  all_above [] k greater = tt
  all_above (e ∷ es) k greater = (o.antisymm k e.0 ∙ ap ordering_reverse (greater 0 e (omega arith)), all_above es k (λ j d lt. greater (suc j) d (omega arith)))

  pub order_inserted : (es : List (K × X)) (i : ℕ) (k : K) (v : X) → ((j : ℕ) (d : K × X) → j < i → R (get_or es j d).0 k ≡ Less) → ((j : ℕ) (d : K × X) → i ≤ j → j < length es → R (get_or es j d).0 k ≡ Greater) →
      IsStrictlySortedBy R (keys_of es) → IsStrictlySortedBy R (keys_of (insert es i (k, v)))
  unfolding IsStrictlySortedBy
  order_inserted es zero k v less greater s = (all_above es k (λ j d lt. greater j d (omega arith) lt), s)
  order_inserted [] (suc i) k v less greater s = (tt, tt)
  order_inserted (e ∷ es) (suc i) k v less greater s = (
    all_inserted (λ y. R e.0 y ≡ Less) es i k v s.0 (less 0 e (omega arith)),
    order_inserted es i k v (λ j d lt. less (suc j) d (omega arith)) (λ j d le lt. greater (suc j) d (omega arith) (omega arith)) s.1,
  )

  -- ---- a row in place of that of the same key

  pub written : (es : List (K × X)) (i : ℕ) (k : K) (v : X) → IsStrictlySortedBy R (keys_of es) → i < length es → ((d : K × X) → (get_or es i d).0 ≡ k) → (q : K) →
      lookup (eq_by_cmp R q) (set es i (k, v)) ≡ cond (eq_by_cmp R q k) (Some v) (lookup (eq_by_cmp R q) es)
  unfolding IsStrictlySortedBy
  written [] i k v s lt is q = absurd (omega arith)
  written (e ∷ es) zero k v s lt is q =
      over (is_eq (R q k)) (Some v) (Some e.1) (lookup (eq_by_cmp R q) es)
      ∙ ap (λ a. cond (is_eq (R q k)) (Some v) (cond (is_eq (R q a)) (Some e.1) (lookup (eq_by_cmp R q) es))) (sym (is e))
  written (e ∷ es) (suc i) k v s lt is q =
      ap (λ r. cond (is_eq (R q e.0)) (Some e.1) r) (written es i k v s.1 (omega arith) is q)
      ∙ turn (is_eq (R q e.0)) (is_eq (R q k)) (Some e.1) (Some v) (lookup (eq_by_cmp R q) es) (apart o e.0 k q (all_at (λ y. R e.0 y ≡ Less) es i k s.0 (omega arith) is))

  -- ---- what a search finds

  pub hit : (es : List (K × X)) (i : ℕ) (k : K) → IsStrictlySortedBy R (keys_of es) → i < length es → ((d : K × X) → (get_or es i d).0 ≡ k) → (d : K × X) → lookup (eq_by_cmp R k) es ≡ Some (get_or es i d).1
  unfolding IsStrictlySortedBy
  hit [] i k s lt is d = absurd (omega arith)
  hit (e ∷ es) zero k s lt is d = cond-true (is_eq (R k e.0)) (Some e.1) (lookup (eq_by_cmp R k) es) (ap (λ a. is_eq (R k a)) (is e) ∙ ap is_eq (tied_itself o k))
  hit (e ∷ es) (suc i) k s lt is d =
      cond-false (is_eq (R k e.0)) (Some e.1) (lookup (eq_by_cmp R k) es) (apart o e.0 k k (all_at (λ y. R e.0 y ≡ Less) es i k s.0 (omega arith) is) (ap is_eq (tied_itself o k)))
      ∙ hit es i k s.1 (omega arith) is d

  absent : (es : List (K × X)) (k : K) → ((j : ℕ) (d : K × X) → j < length es → is_eq (R k (get_or es j d).0) ≡ false) → lookup (eq_by_cmp R k) es ≡ None
  absent [] k none = refl
  absent (e ∷ es) k none = cond-false (is_eq (R k e.0)) (Some e.1) (lookup (eq_by_cmp R k) es) (none 0 e (omega arith)) ∙ absent es k (λ j d lt. none (suc j) d (omega arith))

  pub miss : (es : List (K × X)) (i : ℕ) (k : K) → ((j : ℕ) (d : K × X) → j < i → R (get_or es j d).0 k ≡ Less) → ((j : ℕ) (d : K × X) → i ≤ j → j < length es → R (get_or es j d).0 k ≡ Greater) → lookup (eq_by_cmp R k) es ≡ None
  miss es i k less greater =
      absent es k (λ j d lt.
      elim (cases_lt j i) [
        | inl before ↦ ap is_eq (o.antisymm k (get_or es j d).0 ∙ ap ordering_reverse (less j d before))
        | inr behind ↦ ap is_eq (o.antisymm k (get_or es j d).0 ∙ ap ordering_reverse (greater j d behind lt))
      ])

  next_above : (es : List (K × X)) (j : ℕ) (d : K × X) → IsStrictlySortedBy R (keys_of es) → suc j < length es → R (get_or es j d).0 (get_or es (suc j) d).0 ≡ Less
  unfolding IsStrictlySortedBy
  next_above [] j d s lt = absurd (omega arith)
  next_above (e ∷ []) j d s lt = absurd (omega arith)
  next_above (e ∷ f ∷ es) zero d s lt = s.0.0
  next_above (e ∷ f ∷ es) (suc j) d s lt = next_above (f ∷ es) j d s.1 (omega arith)

  -- comparisons with a key rise along the rows, as a binary search asks
  pub rises : (es : List (K × X)) (k : K) → IsStrictlySortedBy R (keys_of es) → IsNonDecreasingBy (λ y. ordering_index (R y.0 k)) es
  rises es k s =
      searchable_from_sorted o (λ e. e.0) es k (λ j d low lt.
      let next : suc j ≡ j + 1 = omega arith in
      let less : R (get_or es j d).0 (get_or es (suc j) d).0 ≡ Less = next_above es j d s (omega arith) in
      ap is_lt (ap (λ n. R (get_or es n d).0 (get_or es j d).0) (sym next) ∙ o.antisymm (get_or es (suc j) d).0 (get_or es j d).0 ∙ ap ordering_reverse less))

pub none_in_order : IsInOrder []
unfolding IsStrictlySortedBy
none_in_order = tt

-- a binary search ends at the key, or at the gap for it
pub searched : (rows : Rows) (key : Key) (r : Result ℕ ℕ) → IsInOrder rows → IsSearchInRange r (length rows) → IsBinarySearchResult (λ row. key_order row.0 key) rows r → record { found : IfOk r (IsAt rows key); absent : IfErr r (IsGap rows key) }
searched rows key (Ok i) s range is = record { found = record { within = range; is = λ d. one_key (get_or rows i d).0 key (is d) }; absent = tt }
searched rows key (Err i) s range parted =
    let parts = parted (rises key_total rows key s) in
    record { found = tt; absent = record { within = range; less = λ j d lt. parts.0 j d (omega arith) lt; greater = λ j d le lt. parts.1 j d le lt } }

pub span_hit : (rows : Rows) (key : Key) (place : ℕ) → IsInOrder rows → IsAt rows key place → (d : Key × Span) → span_at rows key ≡ Some (get_or rows place d).1
span_hit rows key place s at d = hit key_total rows place key s at.within at.is d

-- what is read there
pub span_read : (rows : Rows) (key : Key) (place : ℕ) (row : Key × Span) → IsInOrder rows → IsAt rows key place → row ≡ get_or rows place row → span_at rows key ≡ Some row.1
span_read rows key place row s at e = span_hit rows key place s at row ∙ ap (λ r. Some r.1) (sym e)

pub span_miss : (rows : Rows) (key : Key) (place : ℕ) → IsGap rows key place → span_at rows key ≡ None
span_miss rows key place gap = miss key_total rows place key gap.less gap.greater

pub puts_over : (rows : Rows) (key : Key) (place : ℕ) (s : Span) → IsInOrder rows → IsAt rows key place → HasPut rows (set rows place (key, s)) key s
puts_over rows key place s order at = written key_total rows place key s order at.within at.is

pub order_over : (rows : Rows) (key : Key) (place : ℕ) (s : Span) → IsInOrder rows → IsAt rows key place → IsInOrder (set rows place (key, s))
order_over rows key place s order at = subst (λ ks. IsStrictlySortedBy key_order ks) (sym (keys_kept rows place key s at.within at.is)) order

pub puts_more : (rows : Rows) (key : Key) (place : ℕ) (s : Span) → IsGap rows key place → HasPut rows (insert rows place (key, s)) key s
puts_more rows key place s gap = inserted key_total rows place key s gap.less

pub order_more : (rows : Rows) (key : Key) (place : ℕ) (s : Span) → IsInOrder rows → IsGap rows key place → IsInOrder (insert rows place (key, s))
order_more rows key place s order gap = order_inserted key_total rows place key s gap.less gap.greater order
