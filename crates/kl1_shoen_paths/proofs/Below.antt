-- The way down lists of children.
use Rattle.std.proofs.Common.{◌≡◌, ◌≢◌, ℕ, zero, suc, ◌+◌, ◌-◌, ◌<◌, ◌≤◌, ◌⊎◌, ◌↔◌, inl, inr, Bool, true, false, not, ◌==◌, ◌||◌, List, [], ◌∷◌, ◌++◌, length, get_or, take, refl, sym, ap, ◌∙◌, arith, subst}
use Rattle.std.specs.Prelude.{Contains, All, filter, cond}
use Rattle.std.specs.List.{AllPairs}
use Rattle.std.proofs.lemmas.Bool.{false≢true, eq-eqb, ne_eqb, eqb-true, or_cases, or_left, or_right, cases_eq}
use Rattle.std.proofs.lemmas.List.{take_all, take_more, take-append-le, length-append, length-map, get_or-take}
use Rattle.std.proofs.lemmas.List.Elements.{Contains-get_or, Contains-append_left, Contains-append_right, Contains-push, Contains-push_cases, Contains-append_cases}
use Rattle.std.proofs.lemmas.List.Kept.{AllPairs-cons, AllPairs-filter}
use Rattle.kl1_model.specs.Module.{is_among}
use Rattle.kl1_model.specs.laws.TreeLaws.{ParentsAreLower}
use Rattle.kl1_shoen_paths.specs.declared.shoen.Shoen.{Shoen}
use Rattle.kl1_shoen_paths.specs.Paths.{AreLower, parents_in, is_on_path_in}
use Rattle.kl1_shoen_paths.specs.Below.{AreBelow, children_from}
use Rattle.kl1_shoen_paths.proofs.Paths.{beyond_path, go_on, zero_off_path}
use Rattle.kl1_shoen_paths.proofs.Linking.{children_none, children_step}

-- what a list contains is among it, and what is among it it contains
pub among_contains : (n : ℕ) (ns : List ℕ) → Contains ns n → is_among n ns ≡ true
among_contains n [] c = let l = c.1 in absurd (omega (arith, l))
among_contains n (m ∷ ns) c = by_place (λ k. among_contains n ns k) c.0 c.1 c.2
  where
    by_place : (Contains ns n → is_among n ns ≡ true) → (k : ℕ) → k < suc (length ns) → get_or (m ∷ ns) k n ≡ n → is_among n (m ∷ ns) ≡ true
    by_place rest zero l e = or_left (n == m) (is_among n ns) (eq-eqb n m (sym e))
    by_place rest (suc k) l e = or_right (n == m) (is_among n ns) (rest (k, omega (arith, l), e))

pub contains_among : (n : ℕ) (ns : List ℕ) → is_among n ns ≡ true → Contains ns n
contains_among n [] h = absurd (false≢true h)
contains_among n (m ∷ ns) h = by_case (λ e. contains_among n ns e) (or_cases (n == m) (is_among n ns) h)
  where
    by_case : (is_among n ns ≡ true → Contains ns n) → ((n == m) ≡ true) ⊎ (is_among n ns ≡ true) → Contains (m ∷ ns) n
    by_case rest (inl e) = (0, omega arith, sym (eqb-true n m e))
    by_case rest (inr e) = let c = rest e in (suc c.0, (let l = c.1 in omega (arith, l)), c.2)

-- the numbers that come from a child are each lower than the one before
pub children_once : (next : List ℕ) (most n : ℕ) → ParentsAreLower next → n ≤ most → AllPairs (λ a b. a ≢ b) (children_from next n)
children_once next zero n lower few = subst (λ (ns : List ℕ). AllPairs (λ a b. a ≢ b) ns) (sym (children_none next n (omega (arith, few)))) (λ i j d lt within. absurd (omega (arith, within)))
children_once next (suc most) zero lower few = subst (λ (ns : List ℕ). AllPairs (λ a b. a ≢ b) ns) (sym (children_none next 0 refl)) (λ i j d lt within. absurd (omega (arith, within)))
children_once next (suc most) (suc n) lower few =
    let up : ℕ = get_or next n 0 in
    let low = lower n in
    let away : All (λ b. suc n ≢ b) (children_from next up) = λ k d within e.
    false≢true (sym (beyond_path next lower up up (suc n) (omega (arith, low))) ∙ among_contains (suc n) (children_from next up) (subst (λ (m : ℕ). Contains (children_from next up) m) (sym e) (Contains-get_or (children_from next up) k d within))) in
    subst (λ (ns : List ℕ). AllPairs (λ a b. a ≢ b) ns) (sym (go_on next lower n))
    (AllPairs-cons (λ a b. a ≢ b) (suc n) (children_from next up) away (children_once next most up lower (omega (arith, low, few))))

-- ---- distinct numbers up to a number are no more than that

-- those of a list that aren't this number
abbrev others : ℕ → List ℕ → List ℕ
others m ns = filter (λ n. not (n == m)) ns

others_all : (m : ℕ) (ns : List ℕ) → ((k d : ℕ) → k < length ns → m ≢ get_or ns k d) → length ns ≤ length (others m ns)
others_all m [] away = omega arith
others_all m (n ∷ ns) away =
    let l = others_all m ns (λ k d lt. away (suc k) d (omega (arith, lt))) in
    subst (λ (b : Bool). suc (length ns) ≤ length (cond (not b) (n ∷ others m ns) (others m ns))) (sym (ne_eqb n m (λ e. away 0 0 (omega arith) (sym e)))) (omega (arith, l))

others_few : (m : ℕ) (ns : List ℕ) → AllPairs (λ a b. a ≢ b) ns → length ns ≤ suc (length (others m ns))
others_few m [] once = omega arith
others_few m (n ∷ ns) once = by_case (others_few m ns rest) (n == m) refl
  where
    rest : AllPairs (λ a b. a ≢ b) ns
    rest = λ i j d lt within. once (suc i) (suc j) d (omega (arith, lt)) (omega (arith, within))

    by_case : length ns ≤ suc (length (others m ns)) → (b : Bool) → (n == m) ≡ b → suc (length ns) ≤ suc (length (cond (not b) (n ∷ others m ns) (others m ns)))
    by_case few true e =
        let is = eqb-true n m e in
        let l = others_all m ns (λ k d lt. λ f. once 0 (suc k) d (omega arith) (omega (arith, lt)) (is ∙ f)) in
        omega (arith, l)
    by_case few false e = omega (arith, few)

others_among : (m n : ℕ) (ns : List ℕ) → is_among n (others m ns) ≡ true → (is_among n ns ≡ true) × (n ≢ m)
others_among m n [] h = absurd (false≢true h)
others_among m n (k ∷ ns) h = by_case (λ f. others_among m n ns f) (k == m) refl h
  where
    later : ((is_among n ns ≡ true) × (n ≢ m)) → (is_among n (k ∷ ns) ≡ true) × (n ≢ m)
    later o = (or_right (n == k) (is_among n ns) o.0, o.1)

    by_head : (is_among n (others m ns) ≡ true → (is_among n ns ≡ true) × (n ≢ m)) → (k == m) ≡ false → ((n == k) ≡ true) ⊎ (is_among n (others m ns) ≡ true) → (is_among n (k ∷ ns) ≡ true) × (n ≢ m)
    by_head rest e (inl f) = (or_left (n == k) (is_among n ns) f, λ g. false≢true (sym e ∙ eq-eqb k m (sym (eqb-true n k f) ∙ g)))
    by_head rest e (inr f) = later (rest f)

    by_case : (is_among n (others m ns) ≡ true → (is_among n ns ≡ true) × (n ≢ m)) → (b : Bool) → (k == m) ≡ b → is_among n (cond (not b) (k ∷ others m ns) (others m ns)) ≡ true → (is_among n (k ∷ ns) ≡ true) × (n ≢ m)
    by_case rest true e g = later (rest g)
    by_case rest false e g = by_head rest e (or_cases (n == k) (is_among n (others m ns)) g)

-- distinct numbers from 1 up to a number are no more than that
pub distinct_few : (most : ℕ) (ns : List ℕ) → AllPairs (λ a b. a ≢ b) ns → ((n : ℕ) → Contains ns n → (0 < n) × (n ≤ most)) → length ns ≤ most
distinct_few zero [] once within = omega arith
distinct_few zero (n ∷ ns) once within = let w = within n (0, omega arith, refl) in absurd (omega (arith, w.0, w.1))
distinct_few (suc most) ns once within =
    let kept = others_few (suc most) ns once in
    let few = distinct_few most (others (suc most) ns) (AllPairs-filter (λ a b. a ≢ b) (λ n. not (n == suc most)) ns once) (λ n c. kept_within n (others_among (suc most) n ns (among_contains n (others (suc most) ns) c))) in
    omega (arith, kept, few)
  where
    kept_within : (n : ℕ) → (is_among n ns ≡ true) × (n ≢ suc most) → (0 < n) × (n ≤ most)
    kept_within n o =
        let w = within n (contains_among n ns o.0) in
        let f = o.1 in
        (w.0, by_top (cases_eq n (suc most)) f w.1)
      where
        by_top : (n ≡ suc most) ⊎ (n ≡ suc most → ⊥) → (n ≢ suc most) → n ≤ suc most → n ≤ most
        by_top (inl e) f le = absurd (f e)
        by_top (inr g) f le = omega (arith, g, le)

-- ---- a list that is being closed

-- the parent of a shoen, of the parents of all
abbrev pub up_in : List ℕ → ℕ → ℕ
up_in parents n = get_or parents (n - 1) 0

-- whether a shoen is on the path of another
abbrev pub on_in : List ℕ → ℕ → ℕ → Bool
on_in parents a n = is_among a (children_from parents n)

-- all of a list are below a shoen, and those before a place of it have their children in it
pub record Closes (parents : List ℕ) (root : ℕ) (found : List ℕ) (i : ℕ) : Type 0 where
  pub within : i ≤ length found
  pub has_root : Contains found root
  pub sound : (n : ℕ) → Contains found n → (0 < n) × (n ≤ length parents) × (on_in parents root n ≡ true)
  pub closed : (n : ℕ) → 0 < n → n ≤ length parents → Contains (take i found) (up_in parents n) → Contains found n
  pub comes : (n : ℕ) → Contains found n → (n ≡ root) ⊎ Contains (take i found) (up_in parents n)
  pub once : AllPairs (λ a b. a ≢ b) found

none_there : {A : Type 0} (x : A) (xs : List A) → xs ≡ [] → Contains xs x → ⊥
none_there x xs e c = let l = c.1 in let z = ap (λ (ys : List _). length ys) e in omega (arith, l, z)

-- the path of a shoen goes on with its parent's
pub on_step : (parents : List ℕ) (a n : ℕ) → ParentsAreLower parents → 0 < n → on_in parents a n ≡ (a == n || on_in parents a (up_in parents n))
on_step parents a n lower lt = ap (is_among a) (children_step parents n lower lt)

on_itself : (parents : List ℕ) (n : ℕ) → ParentsAreLower parents → 0 < n → on_in parents n n ≡ true
on_itself parents n lower lt = on_step parents n n lower lt ∙ or_left (n == n) (on_in parents n (up_in parents n)) (eq-eqb n n refl)

-- a list of one
pub closes_one : (parents : List ℕ) (root : ℕ) → ParentsAreLower parents → 0 < root → root ≤ length parents → Closes parents root (root ∷ []) 0
closes_one parents root lower lt few = record {
  within = omega arith;
  has_root = (0, omega arith, refl);
  sound = λ n c. let e = is n c in subst (λ (m : ℕ). (0 < m) × (m ≤ length parents) × (on_in parents root m ≡ true)) (sym e) (lt, few, on_itself parents root lower lt);
  closed = λ n l f c. absurd (none_there (up_in parents n) (take 0 (root ∷ [])) refl c);
  comes = λ n c. inl (is n c);
  once = λ i j d l w. absurd (omega (arith, l, w));
}
  where
    is : (n : ℕ) → Contains (root ∷ []) n → n ≡ root
    is n c = by_place c.0 c.1 c.2
      where
        by_place : (k : ℕ) → k < 1 → get_or (root ∷ []) k n ≡ n → n ≡ root
        by_place zero l e = sym e
        by_place (suc k) l e = absurd (omega (arith, l))

-- what comes of a shoen's children, which are added: nothing is there twice
once_more : (xs ys : List ℕ) → AllPairs (λ a b. a ≢ b) xs → AllPairs (λ a b. a ≢ b) ys → ((n : ℕ) → Contains xs n → Contains ys n → ⊥) → AllPairs (λ a b. a ≢ b) (xs ++ ys)
once_more [] ys o p away = p
once_more (x ∷ xs) ys o p away =
    AllPairs-cons (λ a b. a ≢ b) x (xs ++ ys) (λ k d within e. by_case (Contains-append_cases xs ys x (subst (λ (m : ℕ). Contains (xs ++ ys) m) (sym e) (Contains-get_or (xs ++ ys) k d within))))
    (once_more xs ys (λ i j d lt within. o (suc i) (suc j) d (omega (arith, lt)) (omega (arith, within))) p (λ n c. away n (suc c.0, (let l = c.1 in omega (arith, l)), c.2)))
  where
    by_case : Contains xs x ⊎ Contains ys x → ⊥
    by_case (inl c) = o 0 (suc c.0) x (omega arith) (let l = c.1 in omega (arith, l)) (sym c.2)
    by_case (inr c) = away x (0, omega arith, refl) c

-- the children of the shoen at a place are added
pub closes_more : (parents : List ℕ) (root : ℕ) (found added : List ℕ) (i x : ℕ) → ParentsAreLower parents → Closes parents root found i → i < length found → x ≡ get_or found i x → AllPairs (λ a b. a ≢ b) added →
    ((n : ℕ) → (is_among n added ≡ true) ↔ ((0 < n) × (n ≤ length parents) × (up_in parents n ≡ x))) → Closes parents root (found ++ added) (i + 1)
closes_more parents root found added i x lower c lt at distinct are = record {
  within = (let l = length-append found added in omega (arith, l, lt));
  has_root = Contains-append_left found added root c.has_root;
  sound = λ n k. sound_case n (Contains-append_cases found added n k);
  closed = λ n l f k. closed_case n l f (Contains-push_cases (take i found) x (up_in parents n) (subst (λ (ns : List ℕ). Contains ns (up_in parents n)) taken k));
  comes = λ n k. comes_case n (Contains-append_cases found added n k);
  once = once_more found added c.once distinct (λ n k m. apart n k (child n m));
}
  where
    here : Contains found x
    here = (i, lt, sym at)

    taken : take (i + 1) (found ++ added) ≡ take i found ++ x ∷ []
    taken = take-append-le (i + 1) found added (omega (arith, lt)) ∙ take_more found i x lt ∙ ap (λ (m : ℕ). take i found ++ m ∷ []) (sym at)

    child : (n : ℕ) → Contains added n → (0 < n) × (n ≤ length parents) × (up_in parents n ≡ x)
    child n k = (are n).0 (among_contains n added k)

    sound_case : (n : ℕ) → Contains found n ⊎ Contains added n → (0 < n) × (n ≤ length parents) × (on_in parents root n ≡ true)
    sound_case n (inl k) = c.sound n k
    sound_case n (inr k) =
        let d = child n k in
        let s = c.sound x here in
        (d.0, d.1, on_step parents root n lower d.0 ∙ or_right (root == n) (on_in parents root (up_in parents n)) (ap (on_in parents root) d.2 ∙ s.2))

    closed_case : (n : ℕ) → 0 < n → n ≤ length parents → Contains (take i found) (up_in parents n) ⊎ (x ≡ up_in parents n) → Contains (found ++ added) n
    closed_case n l f (inl k) = Contains-append_left found added n (c.closed n l f k)
    closed_case n l f (inr e) = Contains-append_right found added n (contains_among n added ((are n).1 (l, f, sym e)))

    in_taken : (m : ℕ) → Contains (take i found ++ x ∷ []) m → Contains (take (i + 1) (found ++ added)) m
    in_taken m k = subst (λ (ns : List ℕ). Contains ns m) (sym taken) k

    comes_old : (n : ℕ) → (n ≡ root) ⊎ Contains (take i found) (up_in parents n) → (n ≡ root) ⊎ Contains (take (i + 1) (found ++ added)) (up_in parents n)
    comes_old n (inl e) = inl e
    comes_old n (inr k) = inr (in_taken (up_in parents n) (Contains-append_left (take i found) (x ∷ []) (up_in parents n) k))

    comes_case : (n : ℕ) → Contains found n ⊎ Contains added n → (n ≡ root) ⊎ Contains (take (i + 1) (found ++ added)) (up_in parents n)
    comes_case n (inl k) = comes_old n (c.comes n k)
    comes_case n (inr k) = inr (in_taken (up_in parents n) (subst (λ (m : ℕ). Contains (take i found ++ x ∷ []) m) (sym (child n k).2) (Contains-push (take i found) x)))

    apart_case : (n : ℕ) → (0 < n) × (n ≤ length parents) × (up_in parents n ≡ x) → (n ≡ root) ⊎ Contains (take i found) (up_in parents n) → ⊥
    apart_case n d (inl e) =
        let s = c.sound x here in
        let low = lower (n - 1) in
        let l = d.0 in
        let u = d.2 in
        false≢true (sym (beyond_path parents lower x x root (omega (arith, e, low, l, u))) ∙ s.2)
    apart_case n d (inr k) =
        let j = k.0 in
        let l = k.1 in
        let few : j < i = (let m = lib_take i found j l in m) in
        c.once j i x few lt (sym (get_or-take i found j x few) ∙ (ap (λ (m : ℕ). get_or (take i found) j m) (sym d.2) ∙ k.2 ∙ d.2) ∙ at)
      where
        lib_take : (i : ℕ) (xs : List ℕ) (j : ℕ) → j < length (take i xs) → j < i
        lib_take zero xs j l = l
        lib_take (suc i) [] j l = absurd (omega (arith, l))
        lib_take (suc i) (y ∷ xs) zero l = omega arith
        lib_take (suc i) (y ∷ xs) (suc j) l = let m = lib_take i xs j (omega (arith, l)) in omega (arith, m)

    apart : (n : ℕ) → Contains found n → (0 < n) × (n ≤ length parents) × (up_in parents n ≡ x) → ⊥
    apart n k d = apart_case n d (c.comes n k)

-- a list that is closed has all that are below
reached : (parents : List ℕ) (root : ℕ) (found : List ℕ) (i : ℕ) → ParentsAreLower parents → Closes parents root found i → length found ≤ i → (most n : ℕ) → n ≤ most → 0 < n → n ≤ length parents → on_in parents root n ≡ true → Contains found n
reached parents root found i lower c all zero n few lt within on = absurd (omega (arith, few, lt))
reached parents root found i lower c all (suc most) n few lt within on =
    by_case (λ l some w up. reached parents root found i lower c all most (up_in parents n) l some w up) (or_cases (root == n) (on_in parents root (up_in parents n)) (sym (on_step parents root n lower lt) ∙ on))
  where
    up_some : (m : ℕ) → up_in parents n ≡ m → on_in parents root (up_in parents n) ≡ true → 0 < up_in parents n
    up_some zero e on = absurd (false≢true (sym (ap (is_among root) (children_none parents (up_in parents n) e)) ∙ on))
    up_some (suc m) e on = omega (arith, e)

    by_case : (up_in parents n ≤ most → 0 < up_in parents n → up_in parents n ≤ length parents → on_in parents root (up_in parents n) ≡ true → Contains found (up_in parents n)) →
        ((root == n) ≡ true) ⊎ (on_in parents root (up_in parents n) ≡ true) → Contains found n
    by_case rest (inl e) = subst (λ (m : ℕ). Contains found m) (eqb-true root n e) c.has_root
    by_case rest (inr up) =
        let low = lower (n - 1) in
        let k = rest (omega (arith, low, few, lt)) (up_some (up_in parents n) refl up) (omega (arith, low, within, lt)) up in
        c.closed n lt within (subst (λ (ns : List ℕ). Contains ns (up_in parents n)) (sym (take_all i found all)) k)

-- so it has just those, each once
pub closed_among : (parents : List ℕ) (root : ℕ) (found : List ℕ) (i : ℕ) → ParentsAreLower parents → Closes parents root found i → length found ≤ i → (n : ℕ) → Contains found n ↔ ((0 < n) × (n ≤ length parents) × (on_in parents root n ≡ true))
closed_among parents root found i lower c all n = (c.sound n, λ h. reached parents root found i lower c all n n (omega arith) h.0 h.1 h.2)

-- and is no longer than the shoens are
pub closes_few : (parents : List ℕ) (root : ℕ) (found : List ℕ) (i : ℕ) → Closes parents root found i → length found ≤ length parents
closes_few parents root found i c = distinct_few (length parents) found c.once (λ n k. let s = c.sound n k in (s.0, s.1))

-- a list that is closed has just the shoens that are below
pub below_closed : {N : Type 0} (ss : List (Shoen N)) (root : ℕ) (found : List ℕ) (i : ℕ) → AreLower ss → Closes (parents_in ss) root found i → length found ≤ i → AreBelow ss root found
below_closed {N = N} ss root found i lower c all =
    let len = length-map ss (λ (h : Shoen N). h.parent) in
    record {
      among = λ n.
          let is = closed_among (parents_in ss) root found i lower c all n in
          (λ k. let s = is.0 k in (s.0, (let w = s.1 in omega (arith, w, len)), s.2), λ h. is.1 (h.0, (let w = h.1 in omega (arith, w, len)), h.2));
      once = c.once;
    }

none_below : {N : Type 0} (ss : List (Shoen N)) (root : ℕ) (found : List ℕ) → found ≡ [] → ((n : ℕ) → n ≤ length ss → is_on_path_in ss root n ≡ false) → AreBelow ss root found
none_below ss root found e off = record {
  among = λ n. (λ k. absurd (none_there n found e k), λ h. absurd (false≢true (sym (off n h.1) ∙ h.2)));
  once = subst (λ (ns : List ℕ). AllPairs (λ a b. a ≢ b) ns) (sym e) (λ i j d lt within. absurd (omega (arith, within)));
}

-- none is below the number 0
pub below_zero : {N : Type 0} (ss : List (Shoen N)) (root : ℕ) (found : List ℕ) → root ≡ 0 → found ≡ [] → AreBelow ss root found
below_zero ss root found z e = none_below ss root found e (λ n few. ap (λ (a : ℕ). is_on_path_in ss a n) z ∙ zero_off_path (parents_in ss) n n)

-- nor below a number that no shoen has
pub below_beyond : {N : Type 0} (ss : List (Shoen N)) (root : ℕ) (found : List ℕ) → AreLower ss → length ss < root → found ≡ [] → AreBelow ss root found
below_beyond ss root found lower lt e = none_below ss root found e (λ n few. beyond_path (parents_in ss) lower n n root (omega (arith, lt, few)))
