-- Goals of a machine that are woken, one number after another.
use Rattle.kl1_machine.proofs.Words.{◌≡◌, ℕ, ◌+◌, ◌<◌, ◌≤◌, ◌==◌, ◌||◌, Bool, false, List, [], ◌∷◌, ◌++◌, length, map, take, get_or, refl, ap, ◌∙◌, None, find, OnOk, Result, on_ok_weaker, ne_eqb, take_more, take_all, list_any-append, is_among, CellName, Kept, Tabled, Goal, Standing, stood_by, Program, IsSettled, Machine, unready, unlooked, Wakes, map-map, or_group}
use Rattle.kl1_goals.specs.Lists.{has_number}
use Rattle.kl1_machine.proofs.Sincing.{goals_are}
use Rattle.kl1_machine.proofs.Looking.{each_changed, looks_same, looks_then, IsFor, IsLook, look_ready, one_of, one_settled, settled_but_more, settled_but_none}

-- one number less
one_less : (n : ℕ) (q : ℕ → Bool) (k : ℕ) → q k ≡ false → (k ≡ n → ⊥) → (is_among k (n ∷ []) || q k) ≡ false
one_less n q k e other = ap (λ b. (b || false) || q k) (ne_eqb k n other) ∙ e

-- the goal of a number was looked at
pub wakes_one : {T E : Type 0} (done : Result T E) (program : Program) (m : Machine) (k : Kept CellName) (r : Tabled CellName) (n : ℕ) (goal : Goal CellName) (o : Standing) → IsLook program m k n goal o → r ≡ record m.goals { goals = r.goals } → OnOk done (r.goals ≡ map (stood_by n o) m.goals.goals) →
    OnOk done (Wakes program (n ∷ []) m (record m { store = k; goals = r }))
wakes_one done program m k r n goal o look rest =
    on_ok_weaker done (λ (is : r.goals ≡ map (stood_by n o) m.goals.goals). rw (goals_are m.goals r (map (stood_by n o) m.goals.goals) rest is) (record {
      looks = record { goals = map-map unlooked (stood_by n o) m.goals.goals; held = look.held; grown = look.grown; rest = refl };
      flags = map-map unready (stood_by n o) m.goals.goals;
      settles = λ f knows q all.
          let was : ℕ → Bool = λ i. is_among i (n ∷ []) || q i in
          rw look.held
          (each_changed (IsFor n goal) (λ g. was g.number ≡ false → IsSettled f m.store.hooks m.store.held program m.shoens.shoens g) (λ g. q g.number ≡ false → IsSettled f k.hooks m.store.held program m.shoens.shoens g) (stood_by n o) m.goals.goals
          (λ g is s e. one_settled f program m k (record goal { number = n }) o look.grown ((look_ready program m k n goal o look).settled f knows) g g.is_enabled is (λ other. s (one_less n q g.number e other)))
          (one_of n 0 m.goals.goals goal look.order look.found) all);
    }))

-- a number that no goal has
pub wakes_none : (program : Program) (m : Machine) (n : ℕ) → None ≡ find (has_number n) m.goals.goals → Wakes program (n ∷ []) m m
wakes_none program m n e = record { looks = looks_same m; flags = refl; settles = λ f knows q all. settled_but_none f program m n (λ k. is_among k (n ∷ []) || q k) q e (one_less n q) all }

-- these numbers, and then those
pub wakes_then : (program : Program) (ns ms : List ℕ) (m u v : Machine) → Wakes program ns m u → Wakes program ms u v → Wakes program (ns ++ ms) m v
wakes_then program ns ms m u v p q = record {
  looks = looks_then m u v p.looks q.looks;
  flags = q.flags ∙ p.flags;
  settles = λ f knows r all.
      q.settles f knows r
      (p.settles f knows (λ k. is_among k ms || r k)
      (settled_but_more f program m (λ k. is_among k (ns ++ ms) || r k) (λ k. is_among k ns || (is_among k ms || r k))
      (λ k e. ap (λ b. b || r k) (list_any-append (λ i. k == i) ns ms) ∙ or_group (is_among k ns) (is_among k ms) (r k) ∙ e) all));
}

-- one more of the numbers that a machine was told
pub wakes_more : (program : Program) (i n : ℕ) (m u v : Machine) → i < length m.told.items → Wakes program (take i m.told.items) m u → n ≡ get_or u.told.items i n → Wakes program (n ∷ []) u v → Wakes program (take (i + 1) m.told.items) m v
wakes_more program i n m u v lt p e q =
    rw (take_more m.told.items i n lt)
    (wakes_then program (take i m.told.items) (get_or m.told.items i n ∷ []) m u v p (rw (e ∙ ap (λ (x : Machine). get_or x.told.items i n) p.looks.rest) at q))

-- all of them
pub wakes_all : (program : Program) (told : List ℕ) (i : ℕ) (m u : Machine) → length told ≤ i → Wakes program (take i told) m u → Wakes program told m u
wakes_all program told i m u le p = rw (take_all i told le) at p
