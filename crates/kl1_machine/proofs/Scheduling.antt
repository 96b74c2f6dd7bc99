-- Goals of a machine that came, and are looked at in order of number.
use Rattle.kl1_machine.proofs.Words.{◌≡◌, ℕ, suc, ◌≤◌, ◌==◌, ◌||◌, Bool, false, if◌then◌else◌, map, refl, sym, ap, ◌∙◌, arith, None, find, ne_eqb, eq-eqb, cases_eq, ltb-false, le-ltb, CellName, Kept, Goal, Standing, Task, is_monitor, is_monitor_task, looked_at, is_enabled_at, Program, IsSettled, Machine, unlooked, IsLet, Schedules, inl, inr, map-map, all_then, nat_lt}
use Rattle.kl1_goals.specs.Lists.{has_number}
use Rattle.kl1_machine.proofs.Sincing.{each_both}
use Rattle.kl1_machine.proofs.Looking.{each_changed, looks_same, looks_then, IsFor, IsLook, look_ready, one_of, none_of, one_settled, settled_but_more, settled_but_none}

-- one number more
one_later : (n m : ℕ) → m ≡ suc n → (k : ℕ) → nat_lt m k ≡ false → (k ≡ m → ⊥) → nat_lt n k ≡ false
one_later n m next k e other = le-ltb n k (let le = ltb-false m k e in omega (arith, le, next, other))

-- the goal of the next number was looked at
pub schedules_one : (program : Program) (m : Machine) (k : Kept CellName) (n number : ℕ) (goal : Goal CellName) (o : Standing) (may : Bool) → number ≡ suc n → IsLook program m k number goal o → may ≡ (is_monitor goal || is_enabled_at m.shoens.shoens m.shoens.work goal.shoen) →
    Schedules program n number m (record m { store = k; goals = record m.goals { goals = map (looked_at number o may) m.goals.goals } })
schedules_one program m k n number goal o may next look lets =
    let for = one_of number 0 m.goals.goals goal look.order look.found in
    record {
      looks = record { goals = map-map unlooked (looked_at number o may) m.goals.goals; held = look.held; grown = look.grown; rest = refl };
      settles = λ f knows all.
          rw look.held
          (each_changed (IsFor number goal) (λ g. nat_lt n g.number ≡ false → IsSettled f m.store.hooks m.store.held program m.shoens.shoens g) (λ g. nat_lt number g.number ≡ false → IsSettled f k.hooks m.store.held program m.shoens.shoens g) (looked_at number o may) m.goals.goals
          (λ g is s e. one_settled f program m k (record goal { number = number }) o look.grown ((look_ready program m k number goal o look).settled f knows) g (if g.number == number then may else g.is_enabled) is (λ other. s (one_later n number next g.number e other)))
          for all);
      flags = λ b low all. each_changed (IsFor number goal) (IsLet b n m) (IsLet b number m) (looked_at number o may) m.goals.goals (let_one b low) for all;
    }
  where
    -- whether a goal may step that was looked at
    let_one : (b : Machine) → b.counts.last_goal ≤ n → (g : Goal CellName) → IsFor number goal g → IsLet b n m g → IsLet b number m (looked_at number o may g)
    let_one b low g is was = (
      λ early.
          let w = was.0 early in
          let other : g.number ≡ number → ⊥ = λ same. omega (arith, early, same, next, low) in
          (record { low = w.0.low; high = w.0.high }, ap (λ (c : Bool). if c then may else g.is_enabled) (ne_eqb g.number number other) ∙ w.1),
      λ late up.
          elim (cases_eq g.number number) [
            | inl same ↦
                let for = is same in
                ap (λ (c : Bool). if c then may else g.is_enabled) (eq-eqb g.number number same)
                ∙ lets
                ∙ ap (λ (x : Task CellName). is_monitor_task x || is_enabled_at m.shoens.shoens m.shoens.work goal.shoen) (sym for.1)
                ∙ ap (λ (k : ℕ). is_monitor g || is_enabled_at m.shoens.shoens m.shoens.work k) (sym for.0)
            | inr other ↦ ap (λ (c : Bool). if c then may else g.is_enabled) (ne_eqb g.number number other) ∙ was.1 late (omega (arith, up, next, other))
          ],
    )

-- a number that no goal has
pub schedules_none : (program : Program) (m : Machine) (n number : ℕ) → number ≡ suc n → None ≡ find (has_number number) m.goals.goals → Schedules program n number m m
schedules_none program m n number next e = record {
  looks = looks_same m;
  settles = λ f knows all. settled_but_none f program m number (nat_lt n) (nat_lt number) e (one_later n number next) all;
  flags = λ b low all.
      each_both (λ g. g.number ≡ number → ⊥) (IsLet b n m) (IsLet b number m) (λ g other was. (was.0, (λ late up. was.1 late (omega (arith, up, next, other)))))
      m.goals.goals
      (none_of number m.goals.goals e) all;
}

-- some numbers, and then those after them
pub schedules_then : (program : Program) (i j k : ℕ) (m u v : Machine) → i ≤ j → Schedules program i j m u → Schedules program j k u v → Schedules program i k m v
schedules_then program i j k m u v le p q = record {
  looks = looks_then m u v p.looks q.looks;
  settles = λ f knows all. q.settles f knows (p.settles f knows all);
  flags = λ b low all. q.flags b (omega (arith, low, le)) (p.flags b low all);
}

-- all up to a lesser number
pub schedules_less : (program : Program) (i j k : ℕ) (m u : Machine) → k ≤ j → Schedules program i j m u → Schedules program i k m u
schedules_less program i j k m u le p = record {
  looks = p.looks;
  settles = λ f knows all. settled_but_more f program u (nat_lt j) (nat_lt k) (λ n e. le-ltb j n (let a = ltb-false k n e in omega (arith, a, le))) (p.settles f knows all);
  flags = λ b low all. all_then (IsLet b j u) (IsLet b k u) (λ g was. (was.0, (λ late up. was.1 late (omega (arith, up, le))))) u.goals.goals (p.flags b low all);
}
