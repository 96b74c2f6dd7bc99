-- Shoens that let their goals step: none has reached its allowance, and if the innermost has a goal, none ends.
use Rattle.kl1_machine.proofs.Words.{◌≡◌, ℕ, suc, ◌-◌, ◌<◌, ◌==◌, ◌&&◌, ◌||◌, not, Bool, true, false, if◌then◌else◌, List, [], ◌∷◌, get_or, refl, sym, ap, ◌∙◌, arith, Option, Some, None, find, option_map, unwrap_or, list_any, eq-eqb, ne_eqb, leb-false, not-true, not-false, or_parts, or_right, is_among, is_living, path_within, after_reduction, CellName, Goal, is_goal_of, Shoen, parent_at, has_number, changed, AreNumbered, parents_in, path_in, charged_in, is_blocking_in, is_blocking_at, has_reached_in, lives_in, is_living_child_of, terminated, ending_in, reached_in, Machine, IsMachine, TurnsAs, LetsStill, found_number, inl, inr, cases_Bool, nat_le, option_cases}
use Rattle.kl1_machine.proofs.Late.{late_none, late_settles, comes_early}

-- ---- shoens that don't hold back their goals

-- such a shoen lives, and has not been charged what it may be
alive : (a b c : Bool) → (a || not b || c) ≡ false → (b ≡ true) × (c ≡ false)
alive a b c e = let p = or_parts (a || not b) c e in (not-false b (or_parts a (not b) p.0).1, p.1)

unreached_one : (ss : List (Shoen CellName)) (work : List ℕ) (n : ℕ) → is_blocking_at ss work n ≡ false → has_reached_in ss work n ≡ false
unreached_one ss work n free = by_case (find (has_number n) ss) refl free
  where
    by_case : (o : Option (Shoen CellName)) → find (has_number n) ss ≡ o → unwrap_or (option_map (is_blocking_in ss work) o) false ≡ false → unwrap_or (option_map (λ (h : Shoen CellName). h.allowance == charged_in ss work n) o) false ≡ false
    by_case None e free = refl
    by_case (Some h) e free =
        let few = ap (λ k. nat_le h.allowance (charged_in ss work k)) (sym (found_number n ss h e)) ∙ (alive h.is_stopped (is_living h.life) (nat_le h.allowance (charged_in ss work h.number)) free).1 in
        let less = leb-false h.allowance (charged_in ss work n) few in
        ne_eqb h.allowance (charged_in ss work n) (λ same. omega (arith, less, same))

pub unreached_each : (ss : List (Shoen CellName)) (work ending ns : List ℕ) → list_any (is_blocking_at ss work) ns ≡ false → reached_in ss work ending ns ≡ []
unreached_each ss work ending [] free = refl
unreached_each ss work ending (n ∷ ns) free =
    let apart = or_parts (is_blocking_at ss work n) (list_any (is_blocking_at ss work) ns) free in
    ap (λ c. if c && not (is_among n ending) then n ∷ reached_in ss work ending ns else reached_in ss work ending ns) (unreached_one ss work n apart.0)
    ∙ unreached_each ss work ending ns apart.1

-- ---- shoens that are kept

-- a shoen has a goal or a living child
abbrev IsKept : List (Goal CellName) → List (Shoen CellName) → ℕ → Type 0
IsKept goals ss n = (list_any (is_goal_of n) goals || list_any (is_living_child_of n) ss) ≡ true

has_either : (a b c : Bool) → (b || c) ≡ true → (a && not b && not c) ≡ false
has_either true false false e = absurd (cc)
has_either a b c e = refl

some_child : (p k : ℕ) (ss : List (Shoen CellName)) (h : Shoen CellName) → find (has_number k) ss ≡ Some h → is_living_child_of p h ≡ true → list_any (is_living_child_of p) ss ≡ true
some_child p k [] h e lives = absurd (cc)
some_child p k (r ∷ ss) h e lives = elim (cases_Bool (r.number == k)) [
  | inl q ↦
      let found : Some r ≡ Some h = rw q at e in
      let same : r ≡ h = cc in
      rw (same, lives)
  | inr q ↦ or_right (is_living_child_of p r) (list_any (is_living_child_of p) ss) (some_child p k ss h (rw q at e) lives)
]

-- the parent of a shoen that doesn't hold back its goals is kept
parent_kept : (goals : List (Goal CellName)) (ss : List (Shoen CellName)) (work : List ℕ) (n p : ℕ) → AreNumbered 0 ss → p ≡ get_or (parents_in ss) n 0 → is_blocking_at ss work (suc n) ≡ false → 0 < p → IsKept goals ss p
parent_kept goals ss work n p numbered is free some =
    let place : n ≡ suc n - 1 = omega arith in
    let parent : p ≡ unwrap_or (option_map (λ (h : Shoen CellName). h.parent) (find (has_number (suc n)) ss)) 0 =
    is ∙ ap (λ k. get_or (parents_in ss) k 0) place ∙ sym (parent_at (suc n) (unwrap_or (option_map (λ (h : Shoen CellName). h.parent) (find (has_number (suc n)) ss)) 0) ss numbered refl (omega arith)) in
    elim (option_cases (find (has_number (suc n)) ss)) [
      | inl e ↦ absurd (let zero_is : p ≡ 0 = rw e at parent in omega (arith, some, zero_is))
      | inr e ↦
          let h = e.0 in
          let named : p ≡ h.parent = rw e.1 at parent in
          let held : is_blocking_in ss work h ≡ false = rw e.1 at free in
          let lives = (alive h.is_stopped (is_living h.life) (nat_le h.allowance (charged_in ss work h.number)) held).0 in
          let child : is_living_child_of p h ≡ true = ap (λ b. b && is_living h.life) (eq-eqb h.parent p (sym named)) ∙ lives in
          or_right (list_any (is_goal_of p) goals) (list_any (is_living_child_of p) ss) (some_child p (suc n) ss h e.1 child)
    ]

pub kept_each : (goals : List (Goal CellName)) (ss : List (Shoen CellName)) (work : List ℕ) (m n : ℕ) → AreNumbered 0 ss → (0 < n → IsKept goals ss n) → list_any (is_blocking_at ss work) (path_within m (parents_in ss) n) ≡ false → ending_in goals (path_within m (parents_in ss) n) ss ≡ []
unfolding path_within
kept_each goals ss work (suc m) (suc n) numbered kept free =
    let up = get_or (parents_in ss) n 0 in
    let ns = path_within m (parents_in ss) up in
    let apart = or_parts (is_blocking_at ss work (suc n)) (list_any (is_blocking_at ss work) ns) free in
    ap (λ c. if c then suc n ∷ ending_in goals ns (changed (suc n) terminated ss) else ending_in goals ns ss)
    (has_either (lives_in ss (suc n)) (list_any (is_goal_of (suc n)) goals) (list_any (is_living_child_of (suc n)) ss) (kept (omega arith)))
    ∙ kept_each goals ss work m up numbered (parent_kept goals ss work n up numbered refl apart.0) apart.1
kept_each goals ss work _ _ numbered kept free = refl

-- ---- machines

-- of a shoen that lets its goals step, on whose path none holds them back
pub free_path : (m : Machine) (n : ℕ) → LetsStill n m → m.shifts ≡ false → list_any (is_blocking_at m.shoens.shoens m.shoens.work) (path_in m.shoens.shoens n) ≡ false
free_path m n lets still = not-true (list_any (is_blocking_at m.shoens.shoens m.shoens.work) (path_in m.shoens.shoens n)) (lets still)

-- nothing comes after a reduction if none ends, and none has reached its allowance
pub calm_after : (m : Machine) (n : ℕ) → IsMachine m → ending_in m.goals.goals (path_in m.shoens.shoens n) m.shoens.shoens ≡ [] → ((ending : List ℕ) → reached_in m.shoens.shoens m.shoens.work ending (path_in m.shoens.shoens n) ≡ []) → TurnsAs (λ f. after_reduction n) m m
calm_after m n i lives unreached = comes_early m m n (late_settles m m m n None [] [] i (record { ends = record { ending_is = sym lives; tree_is = refl }; rest = refl; machine = i }) (sym (unreached [])) (late_none None m i))
