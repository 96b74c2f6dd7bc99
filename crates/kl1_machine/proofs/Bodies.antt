-- Goals of bodies that come after the others.
use Rattle.kl1_machine.proofs.Words.{◌≡◌, ℕ, suc, ◌+◌, ◌-◌, ◌&&◌, not, Bool, true, false, List, [], ◌∷◌, ◌++◌, length, refl, sym, ap, ◌∙◌, arith, subst, append-nil, append_assoc, length-map, find, nat_le, count_by, Option, Some, option_map, unwrap_or, goals_of, Candidate, Term, substituted, clipped, body_priorities, body_variable, limits_of, commits, or_exhaustion, committed, raised, moved, exhaustion, Reads, CellName, Qualified, Held, Kept, AreQualifiedIn, Place, IsCandidate, IsBody, AreNeeds, Needs, Reduces, Goal, is_monitor, Shoen, has_number, Reading, built, meaning, goal_with, aim, IsOwned, goals_for, goal_at, priorities_by, Made, worked, count_read, turns_as, with_body, commit_turns, room_read, Machine, made, IsMachine, with_goal, with_goals, Becomes, TurnsAs, Chosen, Commits}
use Rattle.kl1_machine.proofs.Keeping.{Grows}

-- ---- goals of a body

-- a machine with these goals, the greatest number that was put, and the last number
abbrev with_row : List (Goal CellName) → ℕ → ℕ → Machine → Machine
with_row gs l n m = record m { goals = record m.goals { goals = gs; last = l }; counts = record m.counts { last_goal = n } }

-- a machine with goals for cells more, each with the next number
abbrev with_come : ℕ → List ℕ → List (Qualified CellName) → Machine → Machine
with_come shoen ps xs m = with_row (m.goals.goals ++ goals_for m.counts.last_goal shoen ps xs) (with_goals shoen ps xs m).goals.last (m.counts.last_goal + length (goals_for m.counts.last_goal shoen ps xs)) m

none_more : (m : Machine) → m ≡ with_row (m.goals.goals ++ []) m.goals.last (m.counts.last_goal + 0) m
none_more m =
    let e : m.counts.last_goal ≡ m.counts.last_goal + 0 = omega arith in
    ap (λ gs. with_row gs m.goals.last m.counts.last_goal m) (sym (append-nil m.goals.goals)) ∙ ap (λ n. with_row (m.goals.goals ++ []) m.goals.last n m) e

goals_are : (shoen : ℕ) (ps : List ℕ) (xs : List (Qualified CellName)) (m : Machine) → with_goals shoen ps xs m ≡ with_come shoen ps xs m
goals_are shoen ps [] m = none_more m
goals_are shoen [] (x ∷ xs) m = none_more m
goals_are shoen (p ∷ ps) (x ∷ xs) m =
    let g = goal_at (suc m.counts.last_goal) shoen p (Reduces x) in
    let more = goals_for (suc m.counts.last_goal) shoen ps xs in
    let last = (with_goals shoen ps xs (with_goal g m)).goals.last in
    let e : suc m.counts.last_goal + length more ≡ m.counts.last_goal + suc (length more) = omega arith in
    goals_are shoen ps xs (with_goal g m)
    ∙ ap (λ gs. with_row gs last (suc m.counts.last_goal + length more) m) (append_assoc m.goals.goals (g ∷ []) more)
    ∙ ap (λ n. with_row (m.goals.goals ++ (g ∷ more)) last n m) e

as_many : (last shoen : ℕ) (ps : List ℕ) (xs : List (Qualified CellName)) → length ps ≡ length xs → length (goals_for last shoen ps xs) ≡ length xs
as_many last shoen [] [] e = refl
as_many last shoen [] (x ∷ xs) e = absurd (cc)
as_many last shoen (p ∷ ps) [] e = refl
as_many last shoen (p ∷ ps) (x ∷ xs) e = ap suc (as_many (suc last) shoen ps xs (omega (arith, e)))

-- ---- whether there is room

-- whether there is room for what is counted
abbrev pub room_in : Machine → Needs → Bool
room_in m n =
    nat_le (count_by (λ g. not (is_monitor g)) m.goals.goals + n.goals) (limits_of m.rules).goals && nat_le (m.counts.variables + n.variables) (limits_of m.rules).variables && nat_le (m.counts.nodes + n.nodes) (limits_of m.rules).nodes

-- what is counted is what any candidate of a clause needs
abbrev pub AreNeedsOf : Chosen → Needs → Type 0
AreNeedsOf b n = (f : Reading) (h : Held CellName) (places : List (Place CellName)) (k : Candidate) → IsCandidate f h b.predicate b.place places k → AreNeeds k.clause n

-- a goal that finds no room for the body
pub commits_exhausted : (b : Chosen) (goal : Goal CellName) (x : Qualified CellName) (m u : Machine) (n : Needs) → AreNeedsOf b n → room_in m n ≡ false → TurnsAs (λ f. raised (goal_with (meaning f m.store.held) goal) exhaustion (aim f m.store.held x)) m u → Commits b goal x m u
commits_exhausted b goal x m u n needs full r = record {
  turns = λ ms c candidate.
      turns_as ms (λ f. raised (goal_with (meaning f m.store.held) goal) exhaustion (aim f m.store.held x)) (λ f. moved (goal_with (meaning f m.store.held) goal) (aim f m.store.held x) (commits (c f))) m.store.held u.store.held (made m) (made u)
      (λ f knows s.
      let a = needs f m.store.held b.places (c f) (candidate f knows) in
      let S = worked f s m.store.held (made m) in
      ap (λ y. or_exhaustion y (goal_with (meaning f m.store.held) goal) (aim f m.store.held x) (committed (goal_with (meaning f m.store.held) goal) (c f) S) S)
      (room_read f s m.store.held (made m) (c f).clause (count_by (λ g. not (is_monitor g)) m.goals.goals) n refl a ∙ full))
      (r.turns ms);
  machine = r.machine;
  named = r.named;
}

-- ---- a goal that commits

-- what a body leaves: goals for its cells, and more that is counted
abbrev pub with_needs : Needs → Machine → Machine
with_needs n m = record m { counts = record m.counts { variables = m.counts.variables + n.variables; nodes = m.counts.nodes + n.nodes } }

pub needs_machine : (n : Needs) (m : Machine) → IsMachine m → IsMachine (with_needs n m)
needs_machine n m i = let w = i.inside in record { inside = record { some = w.some; goals = w.goals; shoens = w.shoens; owned = w.owned }; last = i.last; placed = i.placed; known = i.known }

-- the body of a clause that a goal of a machine has chosen is in a store, and there is room for it
pub record HasBody (b : Chosen) (goal : Goal CellName) (m : Machine) (k : Kept CellName) (sh : Shoen CellName) (ps : List (Option ℕ)) (cells : List (Qualified CellName)) (n : Needs) : Type 0 where
  pub machine : IsMachine m
  pub owned : IsOwned (length m.shoens.shoens) goal
  pub found : find (has_number goal.shoen) m.shoens.shoens ≡ Some sh
  pub number : sh.number ≡ goal.shoen
  pub needs : AreNeedsOf b n
  pub room : room_in m n ≡ true
  pub grows : Grows m k
  pub inside : AreQualifiedIn k.held cells
  pub priorities : (f : Reading) (h : Held CellName) (places : List (Place CellName)) (c : Candidate) → IsCandidate f h b.predicate b.place places c → ps ≡ body_priorities c.clause
  pub body : (f : Reading) → Reads built f → (c : Candidate) → IsCandidate f m.store.held b.predicate b.place b.places c → IsBody f c m.store.held k.held cells

pub commits_body : (b : Chosen) (goal : Goal CellName) (x : Qualified CellName) (m : Machine) (k : Kept CellName) (sh : Shoen CellName) (ps : List (Option ℕ)) (cells : List (Qualified CellName)) (n : Needs) (u : Machine) → HasBody b goal m k sh ps cells n → Becomes (with_goals sh.number (priorities_by (Some sh) goal.priority ps) cells (with_needs n (record m { store = k }))) u → Commits b goal x m u
commits_body b goal x m k sh ps cells n u a after =
    let h = m.store.held in
    let qs = priorities_by (Some sh) goal.priority ps in
    let come = goals_for m.counts.last_goal sh.number qs cells in
    let v = with_come sh.number qs cells (with_needs n (record m { store = k })) in
    let C : Machine → Type 0 = λ y. IsMachine y → Commits b goal x m y in
    subst C (sym (after.is ∙ goals_are sh.number qs cells (with_needs n (record m { store = k }))))
    (λ machine. record {
      turns = λ ms c candidate.
          let B = commit_turns ms h k.held (made m) goal (Some sh) ps n cells c a.machine.inside (record {
            grown = a.grows.grown;
            found = a.found;
            owned = a.owned;
            inside = a.inside;
            priorities = λ f knows. a.priorities f h b.places (c f) (candidate f knows);
            needs = λ f knows. a.needs f h b.places (c f) (candidate f knows);
            body = λ f knows. a.body f knows.reads (c f) (candidate f knows);
          }) in
          record {
            inside = machine.inside;
            states = λ f knows s.
                let d = a.needs f h b.places (c f) (candidate f knows) in
                let S = worked f s h (made m) in
                let many = many_cells f knows.reads (c f) (candidate f knows) in
                let last : m.counts.last_goal + length cells ≡ m.counts.last_goal + length come = ap (λ y. m.counts.last_goal + y) (sym (as_many m.counts.last_goal sh.number qs cells many)) in
                let same : with_body (made m) goal.shoen qs cells n.variables n.nodes ≡ made v =
                ap (λ y. with_body (made m) y qs cells n.variables n.nodes) (sym a.number)
                ∙ ap (λ y. let z : Made = record (with_body (made m) sh.number qs cells n.variables n.nodes) { last_goal = y } in z) last in
                ap (λ y. or_exhaustion y (goal_with (meaning f h) goal) (aim f h x) (committed (goal_with (meaning f h) goal) (c f) S) S)
                (room_read f s h (made m) (c f).clause (count_by (λ g. not (is_monitor g)) m.goals.goals) n refl d ∙ a.room)
                ∙ B.states f knows s
                ∙ ap (λ (y : Made). worked f s k.held y) same;
          };
      machine = machine;
      named = record { name = refl; spelled = refl };
    })
    after.machine
  where
    -- as many goals as priorities
    many_cells : (f : Reading) → Reads built f → (c : Candidate) → IsCandidate f m.store.held b.predicate b.place b.places c → length (priorities_by (Some sh) goal.priority ps) ≡ length cells
    many_cells f reads c candidate =
        length-map ps (λ (o : Option ℕ). unwrap_or (option_map (clipped sh.low sh.high) o) goal.priority)
        ∙ ap (λ (os : List (Option ℕ)). length os) (a.priorities f m.store.held b.places c candidate)
        ∙ length-map c.clause.body (λ y. y.priority)
        ∙ sym (length-map c.clause.body (λ y. y.goal))
        ∙ sym (length-map (goals_of c.clause.body) (substituted (body_variable c.clause c.places (m.store.held.variables - 1))))
        ∙ ap (λ (ts : List Term). length ts) (sym (a.body f reads c candidate).terms)
        ∙ count_read f k.held cells
