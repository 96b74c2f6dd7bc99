-- Lists of children.
use Rattle.std.proofs.Common.{◌≡◌, ℕ, zero, suc, ◌+◌, ◌-◌, ◌<◌, ◌≤◌, ◌⊎◌, inl, inr, true, ◌==◌, List, [], ◌∷◌, ◌++◌, length, get_or, set, refl, sym, ap, ◌∙◌, arith, subst}
use Rattle.std.proofs.lemmas.Bool.{false≢true, eq-eqb, eqb-true, or_cases, or_left, or_right, cases_eq}
use Rattle.std.proofs.lemmas.List.{length-set, length_push, get_or-set_same, get_or-set_other, get_or_append_left, get_or_push}
use Rattle.kl1_model.specs.Module.{is_among}
use Rattle.kl1_model.specs.laws.TreeLaws.{ParentsAreLower}
use Rattle.kl1_shoen_paths.specs.Below.{AreLinked, children_from}
use Rattle.kl1_shoen_paths.proofs.Paths.{go_on, path_none, path_among}

-- nothing comes from the number 0
pub children_none : (next : List ℕ) (n : ℕ) → n ≡ 0 → children_from next n ≡ []
children_none next n e = ap (children_from next) e ∙ path_none next

-- a child, and then those from the next one on
pub children_step : (next : List ℕ) (n : ℕ) → ParentsAreLower next → 0 < n → children_from next n ≡ n ∷ children_from next (get_or next (n - 1) 0)
children_step next n lower lt =
    let is : n ≡ suc (n - 1) = omega (arith, lt) in
    ap (children_from next) is ∙ go_on next lower (n - 1) ∙ ap (λ (m : ℕ). m ∷ children_from next (get_or next (n - 1) 0)) (sym is)

zero_more : (cs : List ℕ) (k : ℕ) → get_or (cs ++ 0 ∷ []) k 0 ≡ get_or cs k 0
zero_more [] zero = refl
zero_more [] (suc k) = refl
zero_more (c ∷ cs) zero = refl
zero_more (c ∷ cs) (suc k) = zero_more cs k

-- numbers that are each at most their place stay so if one more is
pub lower_push : (b v : ℕ) (ps : List ℕ) → ((k : ℕ) → get_or ps k 0 ≤ b + k) → v ≤ b + length ps → (k : ℕ) → get_or (ps ++ v ∷ []) k 0 ≤ b + k
lower_push b v [] lower few zero = few
lower_push b v [] lower few (suc k) = omega arith
lower_push b v (q ∷ qs) lower few zero = lower zero
lower_push b v (q ∷ qs) lower few (suc k) =
    let l = lower_push (suc b) v qs (λ j. let m = lower (suc j) in omega (arith, m)) (omega (arith, few)) k in
    omega (arith, l)

head_among : (n : ℕ) (ns : List ℕ) → is_among n (n ∷ ns) ≡ true
head_among n ns = or_left (n == n) (is_among n ns) (eq-eqb n n refl)

-- the first child of a number is there
pub first_few : (parents first next : List ℕ) → AreLinked parents first next → (p : ℕ) → get_or first p 0 ≤ length parents
first_few parents first next a p = by_case (get_or first p 0) refl
  where
    by_case : (c : ℕ) → get_or first p 0 ≡ c → get_or first p 0 ≤ length parents
    by_case zero e = omega (arith, e)
    by_case (suc c) e =
        let lt : 0 < get_or first p 0 = omega (arith, e) in
        let step = children_step next (get_or first p 0) a.lower lt in
        let child = (a.among p (get_or first p 0)).0 (ap (is_among (get_or first p 0)) step ∙ head_among (get_or first p 0) (children_from next (get_or next (get_or first p 0 - 1) 0))) in
        child.1

none_from : (next : List ℕ) (c n : ℕ) → c ≡ 0 → is_among n (children_from next c) ≡ true → ⊥
none_from next c n e h = false≢true (sym (ap (is_among n) (children_none next c e)) ∙ h)

-- no shoens have no children
pub linked_none : (first next : List ℕ) → first ≡ [] → next ≡ [] → AreLinked [] first next
linked_none first next e f = subst (λ (xs : List ℕ). AreLinked [] xs next) (sym e) (subst (λ (ys : List ℕ). AreLinked [] [] ys) (sym f) (record {
  first_count = refl;
  next_count = refl;
  lower = λ k. omega arith;
  among = λ p n. (λ h. absurd (none_from [] 0 n refl h), λ h. absurd (omega (arith, h.0, h.1)));
}))

-- what is known of one shoen more
record Pushed (parents first next : List ℕ) (q new : ℕ) : Type 0 where
  linked : AreLinked parents first next
  few : q ≤ length first
  number : new ≡ suc (length first)

-- the lists after it
abbrev first_after : List ℕ → ℕ → ℕ → List ℕ
first_after first q new = set (first ++ 0 ∷ []) q new

abbrev next_after : List ℕ → List ℕ → ℕ → List ℕ
next_after first next q = next ++ get_or (first ++ 0 ∷ []) q 0 ∷ []

lower_after : (parents first next : List ℕ) (q new : ℕ) → Pushed parents first next q new → ParentsAreLower (next_after first next q)
lower_after parents first next q new k j =
    let z = zero_more first q in
    let few = first_few parents first next k.linked q in
    let l = lower_push 0 (get_or (first ++ 0 ∷ []) q 0) next (λ i. let m = k.linked.lower i in omega (arith, m)) (omega (arith, z, few, k.linked.next_count)) j in
    omega (arith, l)

-- the first child of another number stays, and what comes from it
same_from : (parents first next : List ℕ) (q new p : ℕ) → Pushed parents first next q new → children_from (next_after first next q) (get_or first p 0) ≡ children_from next (get_or first p 0)
same_from parents first next q new p k =
    let few = first_few parents first next k.linked p in
    path_among next (get_or (first ++ 0 ∷ []) q 0 ∷ []) k.linked.lower (get_or first p 0) (get_or first p 0) (omega (arith, few, k.linked.next_count))

other_from : (parents first next : List ℕ) (q new p : ℕ) → Pushed parents first next q new → (p ≡ q → ⊥) → children_from (next_after first next q) (get_or (first_after first q new) p 0) ≡ children_from next (get_or first p 0)
other_from parents first next q new p k other =
    ap (children_from (next_after first next q)) (get_or-set_other (first ++ 0 ∷ []) q p new 0 other ∙ zero_more first p) ∙ same_from parents first next q new p k

-- the new child comes first, and then those that there were
own_from : (parents first next : List ℕ) (q new p : ℕ) → Pushed parents first next q new → p ≡ q → children_from (next_after first next q) (get_or (first_after first q new) p 0) ≡ new ∷ children_from next (get_or first q 0)
own_from parents first next q new p k is =
    let len = length_push first 0 in
    let place : length next ≡ new - 1 = (let a = k.linked.first_count in let b = k.linked.next_count in omega (arith, a, b, k.number)) in
    let here : get_or (first_after first q new) p 0 ≡ new = ap (λ j. get_or (first_after first q new) j 0) is ∙ get_or-set_same (first ++ 0 ∷ []) q new 0 (omega (arith, len, k.few)) in
    let then : get_or (next_after first next q) (new - 1) 0 ≡ get_or first q 0 = get_or_push next (get_or (first ++ 0 ∷ []) q 0) 0 (new - 1) place ∙ zero_more first q in
    ap (children_from (next_after first next q)) here
    ∙ children_step (next_after first next q) new (lower_after parents first next q new k) (omega (arith, k.number))
    ∙ ap (λ (m : ℕ). new ∷ children_from (next_after first next q) m) then
    ∙ ap (λ (ns : List ℕ). new ∷ ns) (same_from parents first next q new q k)

-- whether a shoen is a child of a number
abbrev IsChild : List ℕ → ℕ → ℕ → Type 0
IsChild parents p n = (0 < n) × (n ≤ length parents) × (get_or parents (n - 1) 0 ≡ p)

child_after : (parents : List ℕ) (q p n : ℕ) → IsChild parents p n → IsChild (parents ++ q ∷ []) p n
child_after parents q p n c =
    let len = length_push parents q in
    (c.0, omega (arith, c.1, len), get_or_append_left parents (q ∷ []) 0 (n - 1) (omega (arith, c.0, c.1)) ∙ c.2)

child_before : (parents : List ℕ) (q p n : ℕ) → IsChild (parents ++ q ∷ []) p n → (IsChild parents p n) ⊎ ((n ≡ suc (length parents)) × (q ≡ p))
child_before parents q p n c = by_case (cases_eq n (suc (length parents)))
  where
    by_case : (n ≡ suc (length parents)) ⊎ (n ≡ suc (length parents) → ⊥) → (IsChild parents p n) ⊎ ((n ≡ suc (length parents)) × (q ≡ p))
    by_case (inl e) = inr (e, sym (get_or_push parents q 0 (n - 1) (omega (arith, e))) ∙ c.2)
    by_case (inr d) =
        let len = length_push parents q in
        let few : n ≤ length parents = by_few (cases_eq n (suc (length parents))) (omega (arith, c.1, len)) in
        inl (c.0, few, sym (get_or_append_left parents (q ∷ []) 0 (n - 1) (omega (arith, c.0, few))) ∙ c.2)
      where
        by_few : (n ≡ suc (length parents)) ⊎ (n ≡ suc (length parents) → ⊥) → n ≤ suc (length parents) → n ≤ length parents
        by_few (inl e) le = absurd (d e)
        by_few (inr f) le = omega (arith, f, le)

among_to : (parents first next : List ℕ) (q new p n : ℕ) → Pushed parents first next q new → (p ≡ q) ⊎ (p ≡ q → ⊥) → is_among n (children_from (next_after first next q) (get_or (first_after first q new) p 0)) ≡ true → IsChild (parents ++ q ∷ []) p n
among_to parents first next q new p n k (inr other) h =
    child_after parents q p n ((k.linked.among p n).0 (sym (ap (is_among n) (other_from parents first next q new p k other)) ∙ h))
among_to parents first next q new p n k (inl is) h = by_case (or_cases (n == new) (is_among n (children_from next (get_or first q 0))) (sym (ap (is_among n) (own_from parents first next q new p k is)) ∙ h))
  where
    by_case : ((n == new) ≡ true) ⊎ (is_among n (children_from next (get_or first q 0)) ≡ true) → IsChild (parents ++ q ∷ []) p n
    by_case (inl e) =
        let len = length_push parents q in
        let m = eqb-true n new e in
        (omega (arith, m, k.number), (let a = k.linked.first_count in omega (arith, m, len, k.number, a)), get_or_push parents q 0 (n - 1) (let a = k.linked.first_count in omega (arith, m, k.number, a)) ∙ sym is)
    by_case (inr e) = child_after parents q p n (subst (λ (j : ℕ). IsChild parents j n) (sym is) ((k.linked.among q n).0 e))

among_from : (parents first next : List ℕ) (q new p n : ℕ) → Pushed parents first next q new → (p ≡ q) ⊎ (p ≡ q → ⊥) → (IsChild parents p n) ⊎ ((n ≡ suc (length parents)) × (q ≡ p)) →
    is_among n (children_from (next_after first next q) (get_or (first_after first q new) p 0)) ≡ true
among_from parents first next q new p n k (inr other) (inl c) = ap (is_among n) (other_from parents first next q new p k other) ∙ (k.linked.among p n).1 c
among_from parents first next q new p n k (inr other) (inr c) = absurd (other (sym c.1))
among_from parents first next q new p n k (inl is) (inl c) =
    ap (is_among n) (own_from parents first next q new p k is)
    ∙ or_right (n == new) (is_among n (children_from next (get_or first q 0))) ((k.linked.among q n).1 (subst (λ (j : ℕ). IsChild parents j n) is c))
among_from parents first next q new p n k (inl is) (inr c) =
    ap (is_among n) (own_from parents first next q new p k is)
    ∙ or_left (n == new) (is_among n (children_from next (get_or first q 0))) (eq-eqb n new (let a = k.linked.first_count in let e = c.0 in omega (arith, e, k.number, a)))

-- a shoen more is the first child of its parent
pub linked_push : (parents first next : List ℕ) (q new : ℕ) → AreLinked parents first next → q ≤ length first → new ≡ suc (length first) →
    AreLinked (parents ++ q ∷ []) (set (first ++ 0 ∷ []) q new) (next ++ get_or (first ++ 0 ∷ []) q 0 ∷ [])
linked_push parents first next q new a few e =
    let k : Pushed parents first next q new = record { linked = a; few = few; number = e } in
    let len = length_push parents q in
    let x = a.first_count in
    let y = a.next_count in
    record {
      first_count = length-set (first ++ 0 ∷ []) q new ∙ length_push first 0 ∙ omega (arith, len, x);
      next_count = length_push next (get_or (first ++ 0 ∷ []) q 0) ∙ omega (arith, len, y);
      lower = lower_after parents first next q new k;
      among = λ p n. (among_to parents first next q new p n k (cases_eq p q), λ c. among_from parents first next q new p n k (cases_eq p q) (child_before parents q p n c));
    }
