-- Goals that commit, and goals that go.
use Rattle.kl1_user_effects.proofs.Words.{◌≡◌, ℕ, suc, ◌+◌, ◌-◌, not, ◌&&◌, Bool, List, [], ◌∷◌, ◌++◌, length, map, refl, sym, ap, ap₂, ◌∙◌, arith, unwrap_or, nat_le, find, count_by, Option, Some, None, option_map, map-append, sum_by-cons, Term, Clause, goals_of, Candidate, body_instance, body_priorities, fresh_variables, goals_nodes, State, limits_of, shoen_at, clipped, priority_of, goals_from, has_room_for, committed, CellName, Qualified, Held, qualified_list, AreQualifiedIn, Grown, Goal, is_monitor, Shoen, has_number, Needs, IsBody, AreNeeds, Numbered, Reading, Means, meaning, goal_with, shoen_with, AreGoalsIn, IsOwned, AreOwned, goals_for, priorities_by, Made, worked, IsMadeIn, Knows, Turns, IsTaskIn, MONITOR_PRIORITY, le_trans, max-le, min-le_right, ◌≤◌}
use Rattle.std.specs.Prelude.{cond}
use Rattle.kl1_model.specs.State as model
use Rattle.kl1_user_effects.proofs.States.{aim_is, Agree, same_goals, same_shoens}
use Rattle.kl1_user_effects.proofs.Works.{finds, grown_made}
use Rattle.kl1_user_effects.proofs.Goals.{count_read, monitor_read}
use Rattle.kl1_user_effects.proofs.Lists.{maps_as, all_append}

-- ---- the goals of a body

pub goals_read : (f : Reading) (h : Held CellName) (last shoen : ℕ) (ps : List ℕ) (xs : List (Qualified CellName)) → goals_from last shoen ps (qualified_list f h xs) ≡ map (goal_with (meaning f h)) (goals_for last shoen ps xs)
goals_read f h last shoen ps [] = refl
goals_read f h last shoen [] (x ∷ xs) = refl
goals_read f h last shoen (p ∷ ps) (x ∷ xs) =
    ap₂ (λ t (gs : List model.Goal). let g : model.Goal = record { number = suc last; task = model.reduces t; shoen = shoen; priority = p } in g ∷ gs) (sym (aim_is f h x)) (goals_read f h (suc last) shoen ps xs)

goals_made : (h : Held CellName) (count last : ℕ) (goal : Goal CellName) (ps : List ℕ) (xs : List (Qualified CellName)) → AreQualifiedIn h xs → IsOwned count goal → AreGoalsIn h (goals_for last goal.shoen ps xs) × AreOwned count (goals_for last goal.shoen ps xs)
goals_made h count last goal ps [] i o = (tt, tt)
goals_made h count last goal [] (x ∷ xs) i o = (tt, tt)
goals_made h count last goal (p ∷ ps) (x ∷ xs) i o =
    let rest = goals_made h count (suc last) goal ps xs i.1 o in
    ((i.0, rest.0), (record { low = o.low; high = o.high }, rest.1))

priorities_read : (t : Means) (o : Option (Shoen CellName)) (own : ℕ) (ps : List (Option ℕ)) → map (priority_of (option_map (shoen_with t) o) own) ps ≡ priorities_by o own ps
priorities_read t None own ps = refl
priorities_read t (Some h) own ps = maps_as (priority_of (Some (shoen_with t h)) own) (λ (p : Option ℕ). unwrap_or (option_map (clipped h.low h.high) p) own) one ps
  where
    one : (p : Option ℕ) → priority_of (Some (shoen_with t h)) own p ≡ unwrap_or (option_map (clipped h.low h.high) p) own
    one None = refl
    one (Some n) = refl

-- a priority that is clipped to a range is at most a monitor's
pub clipped_low : (low high n : ℕ) → low ≤ MONITOR_PRIORITY → high ≤ MONITOR_PRIORITY → clipped low high n ≤ MONITOR_PRIORITY
clipped_low low high n a b = max-le a (le_trans (min-le_right n high) b)

-- ---- a goal that commits

-- what is made with the goals of a body after the others
abbrev pub with_body : Made → ℕ → List ℕ → List (Qualified CellName) → ℕ → ℕ → Made
with_body w shoen ps cells fresh nodes = record w { goals = w.goals ++ goals_for w.last_goal shoen ps cells; last_goal = w.last_goal + length cells; variables = w.variables + fresh; nodes = w.nodes + nodes }

-- a goal commits to a candidate, for each reading that knows these modules; these are its shoen, the priorities and the needs of the clause,
-- and the cells of the body's goals
pub record HasCommitted (ms : List Numbered) (h k : Held CellName) (w : Made) (goal : Goal CellName) (o : Option (Shoen CellName)) (ps : List (Option ℕ)) (n : Needs) (cells : List (Qualified CellName)) (candidate : Reading → Candidate) : Type 0 where
  pub grown : Grown h k
  pub found : find (has_number goal.shoen) w.shoens ≡ o
  pub owned : IsOwned (length w.shoens) goal
  pub inside : AreQualifiedIn k cells
  pub priorities : (f : Reading) → Knows ms f → ps ≡ body_priorities (candidate f).clause
  pub needs : (f : Reading) → Knows ms f → AreNeeds (candidate f).clause n
  pub body : (f : Reading) → Knows ms f → IsBody f (candidate f) h k cells

pub commit_turns : (ms : List Numbered) (h k : Held CellName) (w : Made) (goal : Goal CellName) (o : Option (Shoen CellName)) (ps : List (Option ℕ)) (n : Needs) (cells : List (Qualified CellName)) (candidate : Reading → Candidate) → IsMadeIn h w → HasCommitted ms h k w goal o ps n cells candidate →
    Turns ms (λ f. committed (goal_with (meaning f h) goal) (candidate f)) h k w (with_body w goal.shoen (priorities_by o goal.priority ps) cells n.variables n.nodes)
commit_turns ms h k w goal o ps n cells candidate i a =
    let j = grown_made h k w a.grown i in
    let own_ps = priorities_by o goal.priority ps in
    let added = goals_for w.last_goal goal.shoen own_ps cells in
    let made = goals_made k (length w.shoens) w.last_goal goal own_ps cells a.inside a.owned in
    record {
      inside = record {
        some = j.some;
        goals = all_append (λ (g : Goal CellName). IsTaskIn k g.task) w.goals added j.goals made.0;
        shoens = j.shoens;
        owned = all_append (IsOwned (length w.shoens)) w.goals added j.owned made.1;
      };
      states = λ f knows s.
          let c = candidate f in
          let S = worked f s h w in
          let t = meaning f k in
          let body = a.body f knows in
          let needs = a.needs f knows in
          let agree : Agree h (meaning f h) t = λ x y. sym (body.kept x y) in
          let priorities : map (priority_of (shoen_at goal.shoen S.shoens) goal.priority) (body_priorities c.clause) ≡ own_ps =
          ap (λ (p : Option model.Shoen). map (priority_of p goal.priority) (body_priorities c.clause)) (finds s (meaning f h) (h.variables - 1) w goal.shoen o a.found)
          ∙ priorities_read (meaning f h) o goal.priority (body_priorities c.clause)
          ∙ ap (priorities_by o goal.priority) (sym (a.priorities f knows)) in
          let terms : body_instance c.clause c.places (h.variables - 1) ≡ qualified_list f k cells = sym body.terms in
          let last : (h.variables - 1) + fresh_variables c.clause ≡ k.variables - 1 = let more = body.variables in let some = i.some in omega arith in
          -- the state by the goals that come, the other goals, the shoens, the last variable and goal, and what is counted
          let by : List model.Goal → List model.Goal → List model.Shoen → ℕ → ℕ → ℕ → ℕ → State = λ new old shoens v g fresh nodes.
          record S { goals = old ++ new; shoens = shoens; last_variable = v; last_goal = g; variables = w.variables + fresh; nodes = w.nodes + nodes } in
          ap₂ (λ (qs : List ℕ) (ts : List Term). by (goals_from w.last_goal goal.shoen qs ts) S.goals S.shoens ((h.variables - 1) + fresh_variables c.clause) (w.last_goal + length ts) (fresh_variables c.clause) (goals_nodes (goals_of c.clause.body))) priorities terms
          ∙ ap₂ (λ (new old : List model.Goal). by new old S.shoens ((h.variables - 1) + fresh_variables c.clause) (w.last_goal + length (qualified_list f k cells)) (fresh_variables c.clause) (goals_nodes (goals_of c.clause.body)))
          (goals_read f k w.last_goal goal.shoen own_ps cells) (same_goals h (meaning f h) t agree w.goals i.goals)
          ∙ ap₂ (λ (ys : List model.Shoen) v. by (map (goal_with t) added) (map (goal_with t) w.goals) ys v (w.last_goal + length (qualified_list f k cells)) (fresh_variables c.clause) (goals_nodes (goals_of c.clause.body)))
          (same_shoens h (meaning f h) t agree w.shoens i.shoens) last
          ∙ ap₂ (λ g v. by (map (goal_with t) added) (map (goal_with t) w.goals) (map (shoen_with t) w.shoens) (k.variables - 1) (w.last_goal + g) v (goals_nodes (goals_of c.clause.body))) (count_read f k cells) (sym needs.variables)
          ∙ ap₂ (λ m (gs : List model.Goal). let z : State = record S { goals = gs; shoens = map (shoen_with t) w.shoens; last_variable = k.variables - 1; last_goal = w.last_goal + length cells; variables = w.variables + n.variables; nodes = w.nodes + m } in z)
          (sym needs.nodes) (sym (map-append (goal_with t) w.goals added));
    }

-- ---- how many goals there are

pub alive_read : (t : Means) (gs : List (Goal CellName)) → count_by (λ (g : model.Goal). not (model.is_monitor g.task)) (map (goal_with t) gs) ≡ count_by (λ g. not (is_monitor g)) gs
alive_read t [] = refl
alive_read t (g ∷ gs) =
    sum_by-cons (λ (x : model.Goal). cond (not (model.is_monitor x.task)) 1 0) (goal_with t g) (map (goal_with t) gs)
    ∙ ap₂ (λ b (n : ℕ). cond b 1 0 + n) (ap not (monitor_read t g.task)) (alive_read t gs)
    ∙ sym (sum_by-cons (λ (x : Goal CellName). cond (not (is_monitor x)) 1 0) g gs)

-- whether there is room for a body, by what is counted
pub room_read : (f : Reading) (s : State) (h : Held CellName) (w : Made) (clause : Clause) (alive : ℕ) (n : Needs) → alive ≡ count_by (λ g. not (is_monitor g)) w.goals → AreNeeds clause n →
    has_room_for (worked f s h w) clause ≡ (nat_le (alive + n.goals) (limits_of w.rules).goals && nat_le (w.variables + n.variables) (limits_of w.rules).variables && nat_le (w.nodes + n.nodes) (limits_of w.rules).nodes)
room_read f s h w clause alive n a needs =
    let most = limits_of w.rules in
    let by : ℕ → ℕ → ℕ → ℕ → Bool = λ living goals fresh nodes. nat_le (living + goals) most.goals && nat_le (w.variables + fresh) most.variables && nat_le (w.nodes + nodes) most.nodes in
    ap₂ (λ m g. by m g (fresh_variables clause) (goals_nodes (goals_of clause.body))) (alive_read (meaning f h) w.goals ∙ sym a) (sym needs.goals)
    ∙ ap₂ (λ v k. by alive n.goals v k) (sym needs.variables) (sym needs.nodes)
