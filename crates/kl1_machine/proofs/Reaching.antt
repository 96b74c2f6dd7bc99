-- All goals of a machine are looked at, in order of number.
use Rattle.kl1_machine.proofs.Words.{◌≡◌, ℕ, zero, suc, ◌<◌, ◌≤◌, ◌==◌, ◌||◌, Bool, true, false, List, [], ◌∷◌, map, refl, sym, ap, ◌∙◌, arith, Some, None, find, AllByRecursion, ltb-false, lt-ltb, le-ltb, eqb-false, or_parts, is_among, CellName, Goal, number_of, is_after, Ascend, AreInOrder, Program, Reading, Knows, IsSettled, or-true, Machine, IsMachine, unready, Looks, AreSettledBut, Wakes, AllSettled, Reschedules, inl, inr, cases_Bool, cases_lt, all_then, all_of, nat_lt}
use Rattle.kl1_machine.proofs.Sincing.{each_both}
use Rattle.kl1_machine.proofs.Looking.{same_goal, above_from, looks_then, looks_machine}

-- ---- the first goal after a number

-- no goal stands between
none_between : (n from : ℕ) (gs : List (Goal CellName)) (goal : Goal CellName) → Ascend from (map number_of gs) → Some goal ≡ find (is_after n) gs → AllByRecursion (λ g. n < g.number → goal.number ≤ g.number) gs
none_between n from [] goal up e = tt
none_between n from (g ∷ gs) goal up e = elim (cases_Bool (is_after n g)) [
  | inl is ↦
      let same : goal.number ≡ g.number = ap (λ (a : Goal CellName). a.number) (same_goal goal g (rw is at e)) in
      ((λ lt. omega (arith, same)), all_then (λ (a : Goal CellName). suc g.number ≤ a.number) (λ a. n < a.number → goal.number ≤ a.number) (λ a le lt. omega (arith, le, same)) gs (above_from (suc g.number) gs up.1))
  | inr is ↦ ((λ lt. absurd (let le = ltb-false n g.number is in omega (arith, lt, le))), none_between n (suc g.number) gs goal up.1 (rw is at e))
]

-- none comes after
none_after : (n : ℕ) (gs : List (Goal CellName)) → None ≡ find (is_after n) gs → AllByRecursion (λ g. g.number ≤ n) gs
none_after n [] e = tt
none_after n (g ∷ gs) e = elim (cases_Bool (is_after n g)) [
  | inl is ↦ let found : None ≡ Some g = rw is at e in absurd (cc)
  | inr is ↦ (ltb-false n g.number is, none_after n gs (rw is at e))
]

-- ---- goals that were looked at up to a number

-- all goals of a machine up to this number were looked at
pub record Reaches (program : Program) (n : ℕ) (m u : Machine) : Type 0 where
  pub looks : Looks m u
  pub flags : map unready u.goals.goals ≡ map unready m.goals.goals
  pub settled : (f : Reading) → Knows program.loaded f → AreSettledBut (nat_lt n) f program u

is_zero_or_more : (k : ℕ) → (is_among k (0 ∷ []) || nat_lt 0 k) ≡ true
is_zero_or_more zero = refl
is_zero_or_more (suc k) = ap (λ (b : Bool). is_among (suc k) (0 ∷ []) || b) (lt-ltb 0 (suc k) (omega arith)) ∙ or-true (is_among (suc k) (0 ∷ []))

-- that of number 0
pub reaches_zero : (program : Program) (m u : Machine) → Wakes program (0 ∷ []) m u → Reaches program 0 m u
reaches_zero program m u w = record {
  looks = w.looks;
  flags = w.flags;
  settled = λ f knows.
      w.settles f knows (nat_lt 0)
      (all_of (λ (g : Goal CellName). (is_among g.number (0 ∷ []) || nat_lt 0 g.number) ≡ false → IsSettled f m.store.hooks m.store.held program m.shoens.shoens g) (λ g e. absurd (let t = is_zero_or_more g.number in cc)) m.goals.goals);
}

-- the next
pub reaches_next : (program : Program) (n : ℕ) (goal : Goal CellName) (m u v : Machine) → AreInOrder u.goals.goals → Some goal ≡ find (is_after n) u.goals.goals → Reaches program n m u → Wakes program (goal.number ∷ []) u v → Reaches program goal.number m v
reaches_next program n goal m u v order found r w = record {
  looks = looks_then m u v r.looks w.looks;
  flags = w.flags ∙ r.flags;
  settled = λ f knows.
      w.settles f knows (nat_lt goal.number)
      (each_both (λ g. n < g.number → goal.number ≤ g.number) (λ g. nat_lt n g.number ≡ false → IsSettled f u.store.hooks u.store.held program u.shoens.shoens g) (λ g. (is_among g.number (goal.number ∷ []) || nat_lt goal.number g.number) ≡ false → IsSettled f u.store.hooks u.store.held program u.shoens.shoens g) (λ g next s e.
      let apart = or_parts (is_among g.number (goal.number ∷ [])) (nat_lt goal.number g.number) e in
      let other = eqb-false g.number goal.number (or_parts (g.number == goal.number) false apart.0).0 in
      let le = ltb-false goal.number g.number apart.1 in
      s (elim (cases_lt n g.number) [ inl after ↦ absurd (let up = next after in other (omega (arith, le, up))) | inr before ↦ le-ltb n g.number before ]))
      u.goals.goals
      (none_between n 0 u.goals.goals goal order found) (r.settled f knows));
}

-- and none is left
pub reaches_all : (program : Program) (n : ℕ) (m u : Machine) → None ≡ find (is_after n) u.goals.goals → Reaches program n m u → AllSettled program u
reaches_all program n m u none r f knows =
    each_both (λ g. g.number ≤ n) (λ g. nat_lt n g.number ≡ false → IsSettled f u.store.hooks u.store.held program u.shoens.shoens g) (IsSettled f u.store.hooks u.store.held program u.shoens.shoens) (λ g le s. s (le-ltb n g.number le))
    u.goals.goals (none_after n u.goals.goals none) (r.settled f knows)

-- goals that were looked at are rescheduled
pub looks_reschedule : (m u : Machine) → IsMachine m → Looks m u → Reschedules m u
looks_reschedule m u i l = record { machine = looks_machine m u l i; goals = l.goals; held = l.held; rest = l.rest ∙ ap (λ (k : _). let z : Machine = record m { store = u.store; goals = record m.goals { goals = u.goals.goals }; told = k } in z) (sym (ap (λ (x : Machine). x.told) l.rest)) }
