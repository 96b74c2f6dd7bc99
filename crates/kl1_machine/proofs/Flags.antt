-- Which goals may step: as before, after changes that leave all by which that is so, and after a charge by which no shoen reaches its allowance.
use Rattle.kl1_machine.proofs.Words.{◌≡◌, ℕ, suc, ◌+◌, ◌<◌, ◌≤◌, ◌==◌, ◌||◌, not, Bool, true, false, List, [], ◌∷◌, ◌++◌, length, get_or, refl, sym, ap, ap₂, ◌∙◌, arith, Option, Some, find, option_map, unwrap_or, cond, list_any, AllByRecursion, eqb-true, eqb-false, lt-leb, le-leb, leb-true, leb-false, sum_by-cons, is_among, is_living, path_within, ParentsAreLower, CellName, Shoen, Tree, has_number, AreNumbered, AreLower, parents_in, path_in, is_on_path_in, charged_in, is_exhausted_in, is_blocking_in, is_blocking_at, is_enabled_at, has_reached_in, path_among, plain, KeepsBy, IsCalm, SameFlags, found_stays, any_reached, found_number, inl, inr, cases_Bool, or_parts, held_by, length-map, option_cases, any_same, nat_le}

-- ---- paths and charges stay

later : List (Shoen CellName) → List (Shoen CellName) → List (Shoen CellName)
later [] ys = ys
later (x ∷ xs) [] = []
later (x ∷ xs) (y ∷ ys) = later xs ys

parents_stay : (xs ys : List (Shoen CellName)) → KeepsBy plain xs ys → parents_in ys ≡ parents_in xs ++ parents_in (later xs ys)
unfolding later
parents_stay [] ys p = refl
parents_stay (x ∷ xs) [] p = absurd p
parents_stay (x ∷ xs) (y ∷ ys) p = ap₂ (λ (n : ℕ) (ns : List ℕ). n ∷ ns) (ap (λ (h : Shoen CellName). h.parent) p.0) (parents_stay xs ys p.1)

path_stays : (xs ys : List (Shoen CellName)) (n : ℕ) → KeepsBy plain xs ys → AreLower xs → n ≤ length xs → path_in ys n ≡ path_in xs n
path_stays xs ys n p lower le =
    let e : length (parents_in xs) ≡ length xs = length-map xs (λ (h : Shoen CellName). h.parent) in
    ap (λ ps. path_within n ps n) (parents_stay xs ys p) ∙ path_among (parents_in xs) (parents_in (later xs ys)) lower n n (omega (arith, e, le))

charged_stays : (xs ys : List (Shoen CellName)) (a : ℕ) (work : List ℕ) → KeepsBy plain xs ys → AreLower xs → AllByRecursion (λ w. w ≤ length xs) work → charged_in ys work a ≡ charged_in xs work a
charged_stays xs ys a [] p lower all = refl
charged_stays xs ys a (w ∷ ws) p lower all =
    sum_by-cons (λ v. cond (is_on_path_in ys a v) 1 0) w ws
    ∙ ap₂ (λ b (m : ℕ). cond b 1 0 + m) (ap (is_among a) (path_stays xs ys w p lower all.0)) (charged_stays xs ys a ws p lower all.1)
    ∙ sym (sum_by-cons (λ v. cond (is_on_path_in xs a v) 1 0) w ws)

-- ---- what a shoen holds back stays

blocking_stays : (xs ys : List (Shoen CellName)) (work : List ℕ) (n : ℕ) → KeepsBy plain xs ys → AreNumbered 0 xs → AreLower xs → AllByRecursion (λ w. w ≤ length xs) work → 0 < n → n ≤ length xs → is_blocking_at ys work n ≡ is_blocking_at xs work n
blocking_stays xs ys work n p numbered lower all low high =
    let q = is_blocking_in ys work in
    sym (held_by plain q q (λ h. refl) (find (has_number n) ys))
    ∙ ap (λ (o : Option (Shoen CellName)). unwrap_or (option_map q o) false) (found_stays plain 0 n xs ys (λ h. refl) numbered p low (omega (arith, high)))
    ∙ held_by plain q (is_blocking_in xs work) (λ h. ap (λ c. h.is_stopped || not (is_living h.life) || nat_le h.allowance c) (charged_stays xs ys h.number work p lower all)) (find (has_number n) xs)

-- ---- which goals may step stays

path_up : (most : ℕ) (ps : List ℕ) → ParentsAreLower ps → (m n : ℕ) → n ≤ most → AllByRecursion (λ k. (0 < k) × (k ≤ most)) (path_within m ps n)
unfolding path_within
path_up most ps lower (suc m) (suc n) le = ((omega arith, le), path_up most ps lower m (get_or ps n 0) (omega (arith, le, lower n)))
path_up most ps lower _ _ le = tt

any_within : (p q : ℕ → Bool) (most : ℕ) (ns : List ℕ) → ((n : ℕ) → 0 < n → n ≤ most → p n ≡ q n) → AllByRecursion (λ k. (0 < k) × (k ≤ most)) ns → list_any p ns ≡ list_any q ns
any_within p q most [] e all = refl
any_within p q most (n ∷ ns) e all = ap₂ (λ b c. b || c) (e n all.0.0 all.0.1) (any_within p q most ns e all.1)

enabled_stays : (xs ys : List (Shoen CellName)) (work : List ℕ) (n : ℕ) → KeepsBy plain xs ys → AreNumbered 0 xs → AreLower xs → AllByRecursion (λ w. w ≤ length xs) work → n ≤ length xs → is_enabled_at ys work n ≡ is_enabled_at xs work n
enabled_stays xs ys work n p numbered lower all le =
    ap (λ ns. not (list_any (is_blocking_at ys work) ns)) (path_stays xs ys n p lower le)
    ∙ ap (λ b. not b) (any_within (is_blocking_at ys work) (is_blocking_at xs work) (length xs) (path_in xs n) (λ k low high. blocking_stays xs ys work k p numbered lower all low high) (path_up (length xs) (parents_in xs) lower n n le))

-- after a calm change, a tree lets the same goals step
pub same_flags : (t u : Tree CellName) → AreNumbered 0 t.shoens → AreLower t.shoens → AllByRecursion (λ w. w ≤ length t.shoens) t.work → IsCalm t u → SameFlags t u
same_flags t u numbered lower all stays n le =
    ap (λ (work : List ℕ). is_enabled_at u.shoens work n) stays.work
    ∙ enabled_stays t.shoens u.shoens t.work n stays.shoens numbered lower all le

-- ---- a charge by which no shoen reaches its allowance

none_of : (p : ℕ → Bool) (ns : List ℕ) (a : ℕ) → list_any p ns ≡ false → is_among a ns ≡ true → p a ≡ false
none_of p [] a e on = absurd (cc)
none_of p (n ∷ ns) a e on =
    let apart = or_parts (p n) (list_any p ns) e in
    elim (cases_Bool (a == n)) [ inl q ↦ ap p (eqb-true a n q) ∙ apart.0 | inr q ↦ none_of p ns a apart.1 (rw q at on) ]

-- one charge more is reached by no allowance but one that it is just as much as
same_but_reached : (allowance c : ℕ) → (allowance ≡ 1 + c → ⊥) → nat_le allowance (1 + c) ≡ nat_le allowance c
same_but_reached allowance c apart = by_case (nat_le allowance c) refl
  where
    by_case : (b : Bool) → nat_le allowance c ≡ b → nat_le allowance (1 + c) ≡ b
    by_case true e = let le = leb-true allowance c e in le-leb allowance (1 + c) (omega (arith, le))
    by_case false e = let lt = leb-false allowance c e in lt-leb allowance (1 + c) (omega (arith, lt, apart))

exhausted_same : (ss : List (Shoen CellName)) (work : List ℕ) (n : ℕ) (h : Shoen CellName) → any_reached n ss (n ∷ work) ≡ false → find (has_number h.number) ss ≡ Some h → is_exhausted_in ss (n ∷ work) h ≡ is_exhausted_in ss work h
exhausted_same ss work n h none found =
    let c = charged_in ss work h.number in
    let more : charged_in ss (n ∷ work) h.number ≡ cond (is_on_path_in ss h.number n) 1 0 + c = sum_by-cons (λ w. cond (is_on_path_in ss h.number w) 1 0) n work in
    elim (cases_Bool (is_on_path_in ss h.number n)) [
      | inl e ↦
          let one : charged_in ss (n ∷ work) h.number ≡ 1 + c = more ∙ ap (λ b. cond b 1 0 + c) e in
          let unlike : (h.allowance == charged_in ss (n ∷ work) h.number) ≡ false =
          ap (λ (o : Option (Shoen CellName)). unwrap_or (option_map (λ (x : Shoen CellName). x.allowance == charged_in ss (n ∷ work) h.number) o) false) (sym found) ∙ none_of (has_reached_in ss (n ∷ work)) (path_in ss n) h.number none e in
          let apart : h.allowance ≡ charged_in ss (n ∷ work) h.number → ⊥ = eqb-false h.allowance (charged_in ss (n ∷ work) h.number) unlike in
          ap (nat_le h.allowance) one ∙ same_but_reached h.allowance c (λ q. apart (q ∙ sym one))
      | inr e ↦ let none_more : 0 + c ≡ c = omega arith in ap (nat_le h.allowance) (more ∙ ap (λ b. cond b 1 0 + c) e ∙ none_more)
    ]

blocking_same : (ss : List (Shoen CellName)) (work : List ℕ) (n a : ℕ) → any_reached n ss (n ∷ work) ≡ false → is_blocking_at ss (n ∷ work) a ≡ is_blocking_at ss work a
blocking_same ss work n a none = elim (option_cases (find (has_number a) ss)) [
  | inl e ↦ rw e
  | inr e ↦
      let h = e.0 in
      rw e.1 (ap (λ b. h.is_stopped || not (is_living h.life) || b) (exhausted_same ss work n h none (ap (λ k. find (has_number k) ss) (found_number a ss h e.1) ∙ e.1)))
]

-- a charge by which no shoen reaches its allowance lets the same goals step
pub charge_flags : (t : Tree CellName) (n : ℕ) → any_reached n t.shoens (n ∷ t.work) ≡ false → SameFlags t (record t { work = n ∷ t.work })
charge_flags t n none m le =
    ap (λ b. not b) (any_same (is_blocking_at t.shoens (n ∷ t.work)) (is_blocking_at t.shoens t.work) (λ a. blocking_same t.shoens t.work n a none) (path_in t.shoens m))
