-- Goals that are let to step, or held back, where that may be other than when an event began.
use Rattle.kl1_machine.proofs.Words.{◌≡◌, ℕ, ◌==◌, ◌||◌, not, Bool, true, false, List, [], ◌∷◌, length, map, refl, sym, ap, ◌∙◌, arith, AllByRecursion, eqb-true, recursion_from_All, is_among, CellName, Hook, Held, Goal, is_monitor, enabled_in, Shoen, Tree, is_enabled_at, shoens_of, AreShifts, Shift, Program, Reading, IsOwned, IsEnabled, AreEnabled, AreSettled, shifted_by, or-true, unlooked, among_contains, all_then, map-map, inl, inr, cases_Bool}

-- ---- shifts change nothing but whether goals may step

pub shifted_unlooked : (ss : List Shift) (gs : List (Goal CellName)) → map unlooked (shifted_by ss gs) ≡ map unlooked gs
shifted_unlooked [] gs = refl
shifted_unlooked (s ∷ ss) gs = shifted_unlooked ss (map (enabled_in s.shoen s.is_enabled) gs) ∙ map-map unlooked (enabled_in s.shoen s.is_enabled) gs

-- settled goals stay so
one_settled : (f : Reading) (hooks : List Hook) (h : Held CellName) (program : Program) (shoens : List (Shoen CellName)) (n : ℕ) (b : Bool) (gs : List (Goal CellName)) → AreSettled f hooks h program shoens gs → AreSettled f hooks h program shoens (map (enabled_in n b) gs)
one_settled f hooks h program shoens n b [] a = tt
one_settled f hooks h program shoens n b (g ∷ gs) a = (record { standing = a.0.standing; does = a.0.does; hung = a.0.hung }, one_settled f hooks h program shoens n b gs a.1)

pub shifted_settled : (f : Reading) (hooks : List Hook) (h : Held CellName) (program : Program) (shoens : List (Shoen CellName)) (ss : List Shift) (gs : List (Goal CellName)) → AreSettled f hooks h program shoens gs → AreSettled f hooks h program shoens (shifted_by ss gs)
shifted_settled f hooks h program shoens [] gs a = a
shifted_settled f hooks h program shoens (s ∷ ss) gs a = shifted_settled f hooks h program shoens ss (map (enabled_in s.shoen s.is_enabled) gs) (one_settled f hooks h program shoens s.shoen s.is_enabled gs a)

-- ---- which goals may step

-- whether one of these shifts is of a shoen
abbrev is_shifted : ℕ → List Shift → Bool
is_shifted n shifts = is_among n (shoens_of shifts)

-- a goal may step as a tree has it, if it is a monitor or none of these shifts is of its shoen
abbrev pub IsRightBut : Tree CellName → List Shift → Goal CellName → Type 0
IsRightBut tree shifts g = (is_monitor g || not (is_shifted g.shoen shifts)) ≡ true → IsEnabled tree.shoens tree.work g

-- a shift of a goal's shoen, or of another
right_next : (tree : Tree CellName) (s : Shift) (shifts : List Shift) (g : Goal CellName) → s.is_enabled ≡ is_enabled_at tree.shoens tree.work s.shoen → IsRightBut tree (s ∷ shifts) g → IsRightBut tree shifts (enabled_in s.shoen s.is_enabled g)
right_next tree s shifts g right r e = elim (cases_Bool (g.shoen == s.shoen)) [
  | inl p ↦ elim (cases_Bool (is_monitor g)) [
    | inl q ↦ rw (p, q) (rw q at (r (rw q)))
    | inr q ↦ rw (p, q) (right ∙ ap (is_enabled_at tree.shoens tree.work) (sym (eqb-true g.shoen s.shoen p)))
  ]
  | inr p ↦ rw p (r (rw p e))
]

rights_next : (tree : Tree CellName) (s : Shift) (shifts : List Shift) (gs : List (Goal CellName)) → s.is_enabled ≡ is_enabled_at tree.shoens tree.work s.shoen → AllByRecursion (IsRightBut tree (s ∷ shifts)) gs → AllByRecursion (IsRightBut tree shifts) (map (enabled_in s.shoen s.is_enabled) gs)
rights_next tree s shifts [] right a = tt
rights_next tree s shifts (g ∷ gs) right a = (right_next tree s shifts g right a.0, rights_next tree s shifts gs right a.1)

all_shifted : (tree : Tree CellName) (shifts : List Shift) (gs : List (Goal CellName)) → AllByRecursion (λ (s : Shift). s.is_enabled ≡ is_enabled_at tree.shoens tree.work s.shoen) shifts → AllByRecursion (IsRightBut tree shifts) gs → AreEnabled tree.shoens tree.work (shifted_by shifts gs)
all_shifted tree [] gs right a = all_then (IsRightBut tree []) (IsEnabled tree.shoens tree.work) (λ g r. r (or-true (is_monitor g))) gs a
all_shifted tree (s ∷ shifts) gs right a = all_shifted tree shifts (map (enabled_in s.shoen s.is_enabled) gs) right.1 (rights_next tree s shifts gs right.0 a)

-- goals that are right but for shifts may step as a tree has it after them
pub rights_shifted : (tree : Tree CellName) (shifts : List Shift) (gs : List (Goal CellName)) → AreShifts tree shifts → AllByRecursion (IsRightBut tree shifts) gs → AreEnabled tree.shoens tree.work (shifted_by shifts gs)
rights_shifted tree shifts gs s a = all_shifted tree shifts gs (recursion_from_All (λ (x : Shift). x.is_enabled ≡ is_enabled_at tree.shoens tree.work x.shoen) shifts s.right) a

-- a goal that might step as an event began with it is right but for what has shifted since
pub right_since : (tree : Tree CellName) (shifts : List Shift) (g : Goal CellName) → AreShifts tree shifts → IsOwned (length tree.kept) g → IsEnabled tree.kept tree.kept_work g → IsRightBut tree shifts g
right_since tree shifts g s o e = by_case (is_monitor g) (is_shifted g.shoen shifts) refl refl
  where
    by_case : (m c : Bool) → is_monitor g ≡ m → is_shifted g.shoen shifts ≡ c → (m || not c) ≡ true → IsEnabled tree.shoens tree.work g
    by_case true c p q u = e ∙ ap (λ x. x || is_enabled_at tree.kept tree.kept_work g.shoen) p ∙ ap (λ x. x || is_enabled_at tree.shoens tree.work g.shoen) (sym p)
    by_case false true p q u = absurd (cc)
    by_case false false p q u = let high = o.high in e ∙ ap (λ x. is_monitor g || x) (sym (s.whole g.shoen o.low (omega (arith, high)) (λ c. let f = among_contains g.shoen (shoens_of shifts) c in cc)))
