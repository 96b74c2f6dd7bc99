-- A goal that comes in the place of a variable.
use Rattle.kl1_machine.proofs.Words.{◌≡◌, ℕ, zero, suc, ◌+◌, ◌-◌, ◌<◌, true, false, if◌then◌else◌, List, [], ◌∷◌, refl, sym, ap, ◌∙◌, arith, Option, Some, None, ne_eqb, or_from, Term, variable, structure, Terms, none, more, occurs, occurs_in, replace, Replacement, substituted, each_substituted, replaced, highest, structures_of, mgu_within, highest_among, mgu, is_goal, answered_by, State, names_of, with_names, nodes_of, Reads, CellName, Cell, Variable, Unified, Bound, Clash, Held, is_bound, IsIn, Kept, SettlesTo, IsSolved, OnlyBound, IsFormed, Grown, Grown-bound, Grown-trans, equation_of, Instruction, IsRowOf, with_variables, kept_with, in_grown, Reading, built, meaning, worked, replaced_state, base, read_as, rereads, Machine, made, IsMachine, ReadsNames, Answer, counting, CanAnswer, BuildsAnswer, AreOthers, Brings, IsNoVariable, front_solves, one_equation, one_by, sides, subst}
use Rattle.kl1_match.specs.GoalCells as building
use Rattle.kl1_match.specs.GoalCells.{new_in, told_row, told_at, AreFreeCells}
use Rattle.kl1_match.proofs.GoalCells.{told_variables}
use Rattle.kl1_machine.proofs.Keeping.{Grows, grown_machine}

-- ---- the goal of an answer that is built

-- the row of the goal was put into a machine's store after its variables
pub record IsBuilt (numbers : List CellName) (w : Answer) (row : List Instruction) (m : Machine) (one : Held CellName) (k : Kept CellName) (cells : List (Cell CellName)) (x : Cell CellName) : Type 0 where
  pub machine : IsMachine m
  pub can : CanAnswer m.store.held m.counts.variables m.counts.nodes numbers w
  pub formed : IsFormed m.store.held
  pub row_is : IsRowOf (with_names [] (names_of w.code.now)) row (nodes_of w.code.now)
  pub one_is : one ≡ with_variables m.store.held (new_in w.told.now)
  pub first : Grown m.store.held one
  pub cells_are : cells ≡ told_row built m.store.held.variables w.told.now
  pub more : Grown one k.held
  pub bindings : k.held.bindings ≡ one.bindings
  pub builds : building.BuildsGoal built numbers row cells one k.held x
  pub hooks : k.hooks ≡ m.store.hooks

pub built_answer : (numbers : List CellName) (w : Answer) (row : List Instruction) (m : Machine) (one : Held CellName) (k : Kept CellName) (cells : List (Cell CellName)) (x : Cell CellName) → IsBuilt numbers w row m one k cells x →
    BuildsAnswer w numbers m (record (counting (m.counts.variables + w.new) (m.counts.nodes + w.nodes) m) { store = k }) x
built_answer numbers w row m one k cells x p =
    let h = m.store.held in
    let goal = w.code.now in
    let told = w.told.now in
    let up = Grown-trans h one k.held p.first p.more in
    let i = p.machine in
    let s = i.inside in
    let some = s.some in
    let one_bindings = ap (λ (z : Held CellName). z.bindings) p.one_is in
    let free = told_variables built h one told cells p.formed p.can.told one_bindings p.cells_are in
    let those : AreFreeCells one (highest goal) (λ v. told_at h.variables told (v - 1)) cells = subst (λ n. AreFreeCells one n (λ v. told_at h.variables told (v - 1)) cells) p.can.count free in
    let next : h.variables ≡ suc (h.variables - 1) = omega (arith, some) in
    record {
      rest = refl;
      machine = grown_machine (counting (m.counts.variables + w.new) (m.counts.nodes + w.nodes) m) k (record { grown = up; hooks = p.hooks }) (record { inside = record { some = s.some; goals = s.goals; shoens = s.shoens; owned = s.owned }; last = i.last; placed = i.placed; known = i.known });
      grown = up;
      hooks = p.hooks;
      inside = p.builds.inside;
      variables = p.builds.variables ∙ (ap (λ (z : Held CellName). z.variables) p.one_is ∙ ap (λ n. h.variables + n) (sym p.can.new_is));
      bindings = p.bindings ∙ one_bindings;
      kept = λ f reads y j. p.builds.kept f reads y (in_grown h one p.first y j) ∙ ap (λ (z : Held CellName). meaning f z y) p.one_is ∙ kept_with f h (new_in told) y;
      means = λ f reads names.
          (p.builds.built_is f reads goal (rw names p.row_is)).free p.can.numbered (λ v. told_at h.variables told (v - 1)) those
          ∙ ap (λ n. substituted (λ v. variable (told_at n told (v - 1))) goal) next;
    }

-- ---- no variable that stands in it is the one that it takes the place of

mutual
  absent_in_put : (e : ℕ → ℕ) (v : ℕ) (t : Term) → ((n : ℕ) → v ≡ e n → ⊥) → occurs v (substituted (λ n. variable (e n)) t) ≡ false
  absent_in_put e v (variable n) other = ne_eqb v (e n) (other n)
  absent_in_put e v (structure f ts) other = absent_in_each e v ts other
  absent_in_put e v _ other = refl

  absent_in_each : (e : ℕ → ℕ) (v : ℕ) (ts : Terms) → ((n : ℕ) → v ≡ e n → ⊥) → occurs_in v (each_substituted (λ n. variable (e n)) ts) ≡ false
  absent_in_each e v none other = refl
  absent_in_each e v (more t ts) other =
      or_from (occurs v (substituted (λ n. variable (e n)) t)) (occurs_in v (each_substituted (λ n. variable (e n)) ts)) (absent_in_put e v t other) (absent_in_each e v ts other)

told_apart : (next v : ℕ) (told : List (Option ℕ)) → v < next → AreOthers v told → (i : ℕ) → v ≡ told_at next told i → ⊥
told_apart next v [] lt others i e = omega (arith, lt, e)
told_apart next v (Some u ∷ ts) lt others zero e = others.0 (sym e)
told_apart next v (None ∷ ts) lt others zero e = omega (arith, lt, e)
told_apart next v (Some u ∷ ts) lt others (suc i) e = told_apart next v ts lt others.1 i e
told_apart next v (None ∷ ts) lt others (suc i) e = told_apart (suc next) v ts (omega (arith, lt)) others i e

-- ---- a variable that becomes a goal

goal_no_variable : (e : ℕ → ℕ) (t : Term) → is_goal t ≡ true → IsNoVariable (substituted (λ n. variable (e n)) t)
goal_no_variable e (variable v) is = absurd (cc)
goal_no_variable e _ is = tt

solve_one : (v : ℕ) (t : Term) → IsNoVariable t → mgu (one_equation v t) ≡ (if occurs v t then None else Some (one_by v t))
unfolding mgu_within
solve_one v (variable w) n = absurd n
solve_one v t n = front_solves (highest_among (one_equation v t)) v t (occurs v t)

-- an equation of an unbound variable and a cell of a goal has one solution
solves_goal : (f : Reading) (h : Held CellName) (v : ℕ) (x : Cell CellName) (t : Term) → is_bound v h.bindings ≡ false → meaning f h x ≡ t → IsNoVariable t → occurs v t ≡ false → mgu (equation_of f h (Variable v) x) ≡ Some (one_by v t)
solves_goal f h v x t unbound means plain free =
    ap mgu (sides f h v x t unbound means)
    ∙ solve_one v t plain
    ∙ ap (λ b. if b then None else Some (one_by v t)) free

-- what unification of the two comes to, for one reading
becomes_goal : (f : Reading) (h k : Held CellName) (v : ℕ) (x : Cell CellName) (t : Term) (u : Unified) → Reads built f → mgu (equation_of f h (Variable v) x) ≡ Some (one_by v t) → SettlesTo built h k (Variable v) x u → (z : Cell CellName) → meaning f k z ≡ replace v t (meaning f h z)
becomes_goal f h k v x t Bound reads is s z =
    let solved : IsSolved f h k (Variable v) x = s.0 f reads in
    let same : solved.replacements ≡ one_by v t = cc (solved.solves, is) in
    solved.everywhere z ∙ ap (λ (rs : List Replacement). replaced rs (meaning f h z)) same
becomes_goal f h k v x t Clash reads is s z = absurd (cc (is, s f reads))

-- ---- all of it

-- the goal of an answer was built in a machine, and its variable was unified with it
pub record IsPut (numbers : List CellName) (w : Answer) (m a : Machine) (x : Cell CellName) (k : Held CellName) : Type 0 where
  pub inside : IsMachine m
  pub can : CanAnswer m.store.held m.counts.variables m.counts.nodes numbers w
  pub builds : BuildsAnswer w numbers m a x
  pub unified : Unified
  pub settles : SettlesTo built a.store.held k (Variable w.variable) x unified
  pub only : OnlyBound a.store.held k

module _ (numbers : List CellName) (w : Answer) (m a : Machine) (x : Cell CellName) (k : Held CellName) (p : IsPut numbers w m a x k) where
  abbrev goal : Term
  goal = w.code.now

  -- what stands for its variables
  abbrev stands : ℕ → ℕ
  stands n = told_at (suc (m.store.held.variables - 1)) w.told.now (n - 1)

  -- the goal with these
  abbrev put : Term
  put = substituted (λ n. variable (stands n)) goal

  -- what a cell meant means the same with the goal in place of the variable
  put_means : (f : Reading) → Reads built f → ReadsNames numbers goal f → (z : Cell CellName) → IsIn m.store.held z → meaning f k z ≡ replace w.variable put (meaning f m.store.held z)
  put_means f reads names z i =
      let v = w.variable in
      let last = m.store.held.variables - 1 in
      let within = p.can.unbound.within in
      let free : is_bound v a.store.held.bindings ≡ false = ap (is_bound v) p.builds.bindings ∙ p.can.unbound.unbound in
      let below : v < suc last = omega (arith, within) in
      let absent : occurs v put ≡ false = absent_in_put stands v goal (λ n. told_apart (suc last) v w.told.now below p.can.others (n - 1)) in
      let solved = solves_goal f a.store.held v x put free (p.builds.means f reads names) (goal_no_variable stands goal p.can.goal) absent in
      becomes_goal f a.store.held k v x put p.unified reads solved p.settles z ∙ ap (replace v put) (p.builds.kept f reads z i)

  -- the state is what the answer makes of it
  put_state : (f : Reading) → Reads built f → ReadsNames numbers goal f → (s : State) →
      answered_by w (worked f s m.store.held (made m)) ≡ worked f s k (record (made m) { variables = m.counts.variables + w.new; nodes = m.counts.nodes + w.nodes; names = with_names (made m).names (names_of goal) })
  put_state f reads names s =
      let h = m.store.held in
      let last = h.variables - 1 in
      let top = last + w.new in
      let counted : State → ℕ → ℕ → ℕ → State = λ z l i j. record z { names = with_names (made m).names (names_of goal); last_variable = l; variables = m.counts.variables + i; nodes = m.counts.nodes + j } in
      let now = read_as s (meaning f k) last (made m) in
      let some = p.inside.inside.some in
      let more : k.variables ≡ h.variables + w.new = p.only.variables ∙ p.builds.variables in
      let top_is : top ≡ k.variables - 1 = omega (arith, some, more) in
      ap (λ z. counted z top w.new (structures_of goal))
      (replaced_state (base s (made m)) w.variable put (meaning f h) last m.goals.goals m.shoens.shoens ∙ rereads s (λ y. replace w.variable put (meaning f h y)) (meaning f k) last h (made m) (λ y i. sym (put_means f reads names y i)) p.inside.inside)
      ∙ ap (λ l. counted now l w.new (structures_of goal)) top_is
      ∙ ap (λ j. counted now (k.variables - 1) w.new j) (sym p.can.nodes_are)

-- a store in which only variables are bound has grown
pub bound_grows : (a : Machine) (k : Kept CellName) → OnlyBound a.store.held k.held → k.hooks ≡ a.store.hooks → Grows a k
bound_grows a k only hooks = record { grown = Grown-bound a.store.held k.held only; hooks = hooks }

-- the machine has come on by the answer
pub put_brings : (numbers : List CellName) (w : Answer) (m a : Machine) (x : Cell CellName) (k : Kept CellName) → IsPut numbers w m a x k.held → k.hooks ≡ a.store.hooks → Brings (answered_by w) w.code.now numbers m (record a { store = k })
put_brings numbers w m a x k p hooks =
    rw p.builds.rest (record {
      states = λ f reads names s. put_state numbers w m a x k.held p f reads names s;
      plain = λ f g one two names q. record { goals = q.goals; shoens = q.shoens };
      machine = rw p.builds.rest at (grown_machine a k (bound_grows a k p.only hooks) p.builds.machine);
      named = record { name = refl; spelled = refl };
      work = refl;
    })
