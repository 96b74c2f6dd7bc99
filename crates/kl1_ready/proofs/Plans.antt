-- What goals are to do: moves that are found are those of the definitions.
use Rattle.kl1_ready.proofs.Words.{◌≡◌, ℕ, ◌<◌, ◌==◌, slice_get, if◌then◌else◌, Bool, true, false, List, [], length, get_or, refl, sym, ap, ◌∙◌, arith, subst, Option, Some, None, MatchOption, option_map, eq-eqb, ne_eqb, MatchOption-at_some, slice_get-get_or, text_of, Term, Module, goal_look, Rules, reads, moves, read_action, task_action, substitute_move, monitor_action, move_by, term_clause, Reads, CellName, no_names, Cell, Variable, Qualified, Held, IsIn, arguments_of, Control, Awaits, control_as, Predicate, AreSome, Place, Move, ExecuteArguments, order_at, IsOrder, IsMove, MoveIn, move_by_clause, substitute_move_of, SubstituteMoves, Monitor, Reduces, Substitutes, Goal, is_monitor, Shoen, shoen_in, contents, Program, Reading, built, reading_of, reading_fits, meaning, task_with, shoen_with, aim, whole, worked, Made, found_in, Plan, PlannedMove, Judges, CanDo, ReadsBy, MovesBy, IsPlan, DoesNothing, is_read, move_or_go, MovesAs, DoesAs, SubstituteDoes, TaskDoes, Standing, clause_in, qualified_term, aim_is, Task, is_monitor_task}
use Rattle.kl1_model.specs.Control as model_control
use Rattle.kl1_model.specs.State as model
use Rattle.kl1_model.specs.Reduction as reduction
use Rattle.kl1_goals.specs.declared.standing.Standing.TheVariants as standing
use Rattle.kl1_goals_moves.specs.declared.moves.Move.TheVariants as made
use Rattle.kl1_ready.specs.declared.planning.Plan.TheVariants as plan

-- ---- what a monitor can do

-- what the monitor of a shoen does, if there is one
pub monitor_does : (program : Program) (h : Held CellName) (w : Made) (c : ℕ) (g : Goal CellName) (f : Reading) (o : Option (Shoen CellName)) → g.task ≡ Monitor → shoen_in g.shoen w.shoens ≡ o → CanDo program h w g c f (monitor_action (option_map (shoen_with (meaning f h)) o) c)
monitor_does program h w c g f o task found s is =
    let t = meaning f h in
    ap (λ k. task_action (worked f s h w) g.shoen (task_with t k) c) task ∙ ap (λ h. monitor_action h c) (found_in t g.shoen w.shoens ∙ ap (option_map (shoen_with t)) found)

-- it takes no other clause than 0
pub monitor_takes : (h : Option model.Shoen) (c : ℕ) → (c ≡ 0 → ⊥) → monitor_action h c ≡ None
monitor_takes None c ne = refl
monitor_takes (Some h) c ne = ap (λ b. if b then read_action (model_control.control_of h.control) else None) (ne_eqb c 0 ne)

-- by 0 it reads what stands before it, unless that is a variable
pub monitor_reads : (f : Reading) (h : Held CellName) (s : Shoen CellName) (c : ℕ) (k : Control CellName) (b : Bool) → c ≡ 0 → control_as f h k ≡ model_control.control_of (meaning f h s.control) → is_read k ≡ b → monitor_action (Some (shoen_with (meaning f h) s)) c ≡ (if b then Some (reads (control_as f h k)) else None)
monitor_reads f h s c k b zero same e =
    ap (λ b. if b then read_action (model_control.control_of (meaning f h s.control)) else None) (eq-eqb c 0 zero)
    ∙ ap read_action (sym same)
    ∙ by_front k
    ∙ ap (λ b. if b then Some (reads (control_as f h k)) else None) e
  where
    by_front : (k : Control CellName) → read_action (control_as f h k) ≡ (if is_read k then Some (reads (control_as f h k)) else None)
    by_front (Awaits v) = refl
    by_front _ = refl

-- ---- what any other goal can do

-- it makes the move of its term, if there is one
pub goal_does : (program : Program) (h : Held CellName) (w : Made) (c : ℕ) (g : Goal CellName) (f : Reading) (x : Qualified CellName) → w.rules ≡ program.rules → g.task ≡ Reduces x → CanDo program h w g c f (option_map (moves (aim f h x)) (move_by program.rules (contents program.loaded) (aim f h x) c))
goal_does program h w c g f x rules task s is =
    ap (λ k. task_action (worked f s h w) g.shoen (task_with (meaning f h) k) c) task
    ∙ ap (λ (ms : List Module). option_map (moves (aim f h x)) (move_by w.rules ms (aim f h x) c)) is
    ∙ ap (λ (r : Rules). option_map (moves (aim f h x)) (move_by r (contents program.loaded) (aim f h x) c)) rules

-- it stands so, and by this clause, as its store tells its term, for rules that are the account's
pub judged_as : {program : Program} {h : Held CellName} {g : Goal CellName} {f : Reading} {r : Rules} (x : Qualified CellName) (c : ℕ) → r ≡ program.rules → g.task ≡ Reduces x → clause_in g.standing ≡ Some c → Judges program h g f →
    DoesAs r (qualified_term f h x) g.standing × (term_clause r (contents program.loaded) (qualified_term f h x) ≡ Some c)
judged_as {program = program} {h = h} {g = g} {f = f} x c rules task stands judges =
    let Both : Rules → Term → Type 0 = λ r t. DoesAs r t g.standing × (term_clause r (contents program.loaded) t ≡ Some c) in
    let does = subst (λ (k : Task CellName). TaskDoes program.rules (task_with (meaning f h) k) g.standing) task judges.does in
    subst (λ (r : Rules). Both r (qualified_term f h x)) (sym rules) (subst (Both program.rules) (aim_is f h x) (does, judges.judged x c task stands))

-- a substitute makes the move of what its variable is, if there is one
pub substitute_does : (program : Program) (h : Held CellName) (w : Made) (c : ℕ) (g : Goal CellName) (f : Reading) (y : Cell CellName) → g.task ≡ Substitutes y → CanDo program h w g c f (option_map (moves (aim f h (whole y))) (move_by_clause (meaning f h y) c))
substitute_does program h w c g f y task s is = ap (λ k. task_action (worked f s h w) g.shoen (task_with (meaning f h) k) c) task ∙ by_case (meaning f h y) (c == 0)
  where
    by_case : (t : Term) (b : Bool) → (if b then option_map (moves t) (substitute_move (goal_look t)) else None) ≡ option_map (moves t) (if b then substitute_move (goal_look t) else None)
    by_case t true = refl
    by_case t false = refl

-- ---- moves that are found

-- six cells are an order
order_there : (h : Held CellName) (s : ℕ) → length (arguments_of h s) ≡ 6 → (o : ExecuteArguments CellName) × IsOrder h s o
order_there h s n =
    let xs = arguments_of h s in
    let none : Cell CellName = Variable 0 in
    let at : (k : ℕ) → k < 6 → slice_get xs k ≡ Some (get_or xs k none) = λ k lt. slice_get-get_or xs k none (omega (arith, n, lt)) in (
      record { goal = get_or xs 0 none; low = get_or xs 1 none; high = get_or xs 2 none; allowance = get_or xs 3 none; control = get_or xs 4 none; reports = get_or xs 5 none },
      record { goal_is = at 0 (omega arith); low_is = at 1 (omega arith); high_is = at 2 (omega arith); allowance_is = at 3 (omega arith); control_is = at 4 (omega arith); reports_is = at 5 (omega arith) },
    )

gives : (o : Option reduction.Move) (m : reduction.Move) → o ≡ Some m → o ≡ Some (move_or_go o)
gives None m e = absurd (cc)
gives (Some n) m e = refl

-- a move that is found is one of the definitions
allowed : (f : Reading) (h : Held CellName) (o : Option reduction.Move) (p : Predicate CellName) (places : List (Place CellName)) (text : List ℕ) (m : Move CellName) → MoveIn h p places text (Some m) → IsMove f h o p places text (Some m) → o ≡ Some (move_or_go o)
allowed f h o p places text (made.Commits place) i k = gives o (reduction.commits k.candidate) k.moves
allowed f h o p places text (made.Raises b) i k = gives o (reduction.raises (text_of b)) k
allowed f h o p places text (made.Unifies a b) i k = gives o (reduction.unifies (meaning f h a) (meaning f h b)) k
allowed f h o p places text (made.Names a) i k = gives o (reduction.names text (meaning f h a)) k
allowed f h o p places text (made.Opens s) i k = let r = order_there h s i.1 in gives o (reduction.opens (order_at f h r.0)) (k r.0 r.1)
allowed f h o p places text made.Goes i k = gives o reduction.goes k
allowed f h o p places text made.GivesWay i k = gives o reduction.gives_way k

-- a substitute's move, told of cells, of which it has none
pub substitute_moves : (f : Reading) (h : Held CellName) (o : Option reduction.Move) (p : Predicate CellName) (places : List (Place CellName)) (text : List ℕ) (m : Option (Move CellName)) → substitute_move_of m o → IsMove f h o p places text m × MoveIn h p places text m
substitute_moves f h o p places text None s = (s, tt)
substitute_moves f h o p places text (Some (made.Raises b)) s = (s, tt)
substitute_moves f h o p places text (Some made.GivesWay) s = (s, tt)
substitute_moves f h o p places text _ s = absurd s

-- the move of a substitute has no cells
pub inside_by : (h : Held CellName) (y : Cell CellName) (c : ℕ) (p : Predicate CellName) (places : List (Place CellName)) (text : List ℕ) (o : Option (Move CellName)) → ((f : Reading) → Reads built f → SubstituteMoves (meaning f h y) c o) → MoveIn h p places text o
inside_by h y c p places text o given = let f = reading_of [] in (substitute_moves f h (move_by_clause (meaning f h y) c) p places text o (given f (reading_fits [] no_names).reads)).1

-- a substitute that stands by a clause stands by 0
pub stands_by_none : (t : Term) (s : Standing) (c : ℕ) → SubstituteDoes t s → clause_in s ≡ Some c → 0 ≡ c
stands_by_none t standing.Waits c does e = absurd (cc)
stands_by_none t standing.Misuses c does e = cc
stands_by_none t standing.GivesWay c does e = cc
stands_by_none t _ c does e = absurd does

-- ---- plans

-- a move that was found of a goal that is no monitor and is this cell, or none: it is what the goal does for each reading
pub record IsFound (program : Program) (h : Held CellName) (w : Made) (g : Goal CellName) (c : ℕ) (places : List (Place CellName)) (text : List ℕ) (x : Qualified CellName) (p : Predicate CellName) (o : Option (Move CellName)) : Type 0 where
  pub reduces : is_monitor g ≡ false
  pub cell : IsIn h x.cell
  pub inside : MoveIn h p places text o
  pub move : Reading → Option reduction.Move
  pub is : (f : Reading) → Judges program h g f → IsMove f h (move f) p places text o
  pub does : (f : Reading) → Judges program h g f → CanDo program h w g c f (option_map (moves (aim f h x)) (move f))

-- a goal is this cell, for an account with these rules
pub record IsAimed (program : Program) (h : Held CellName) (w : Made) (g : Goal CellName) (x : Qualified CellName) : Type 0 where
  pub rules : w.rules ≡ program.rules
  pub task : g.task ≡ Reduces x
  pub cell : IsIn h x.cell

-- what it can do was found
pub goal_found : {program : Program} {h : Held CellName} {w : Made} {g : Goal CellName} {c : ℕ} {places : List (Place CellName)} {text : List ℕ} {x : Qualified CellName} {p : Predicate CellName} {o : Option (Move CellName)} → IsAimed program h w g x → MoveIn h p places text o →
    ((f : Reading) → Judges program h g f → MovesAs f h program.rules (contents program.loaded) (qualified_term f h x) c p places text o) → IsFound program h w g c places text x p o
goal_found {program = program} {h = h} {w = w} {g = g} {c = c} {places = places} {text = text} {x = x} {p = p} {o = o} a inside found = record {
  reduces = ap is_monitor_task a.task;
  cell = a.cell;
  inside = inside;
  move = λ f. move_by program.rules (contents program.loaded) (aim f h x) c;
  is = λ f judges. subst (λ (t : Term). MovesAs f h program.rules (contents program.loaded) t c p places text o) (sym (aim_is f h x)) (found f judges);
  does = λ f judges. goal_does program h w c g f x a.rules a.task;
}

-- what a substitute can do was found
pub substitute_found : {program : Program} {h : Held CellName} {w : Made} {g : Goal CellName} {c : ℕ} {places : List (Place CellName)} {text : List ℕ} {y : Cell CellName} {p : Predicate CellName} {o : Option (Move CellName)} → g.task ≡ Substitutes y → IsIn h y → MoveIn h p places text o →
    ((f : Reading) → Reads built f → SubstituteDoes (meaning f h y) g.standing → SubstituteMoves (meaning f h y) c o) → IsFound program h w g c places text (whole y) p o
substitute_found {program = program} {h = h} {w = w} {g = g} {c = c} {places = places} {text = text} {y = y} {p = p} {o = o} task cell inside found = record {
  reduces = ap is_monitor_task task;
  cell = cell;
  inside = inside;
  move = λ f. move_by_clause (meaning f h y) c;
  is = λ f judges.
      let does = subst (λ (k : Task CellName). TaskDoes program.rules (task_with (meaning f h) k) g.standing) task judges.does in
      (substitute_moves f h (move_by_clause (meaning f h y) c) p places text o (found f judges.knows.reads does)).0;
  does = λ f judges. substitute_does program h w c g f y task;
}

-- a predicate without clauses
pub no_predicate : Predicate CellName
no_predicate = record { names = record { ref_ptr = (0, 0); now = [] }; clauses = record { ref_ptr = (0, 0); now = [] } }

-- if nothing was found, it can do nothing
pub nothing_found : {program : Program} {h : Held CellName} {w : Made} {g : Goal CellName} {c : ℕ} {places : List (Place CellName)} {text : List ℕ} {x : Qualified CellName} {p : Predicate CellName} {o : Option (Move CellName)} → o ≡ None → IsFound program h w g c places text x p o → DoesNothing program h w g c
nothing_found {h = h} {places = places} {text = text} {x = x} {p = p} e i f judges s is = i.does f judges s is ∙ ap (option_map (moves (aim f h x))) (subst (IsMove f h (i.move f) p places text) e (i.is f judges))

-- if a move was found, it is what the goal is to do
pub move_found : {program : Program} {h : Held CellName} {w : Made} {g : Goal CellName} {c : ℕ} {places : List (Place CellName)} {text : List ℕ} {o : Option (Move CellName)} (a : PlannedMove) → o ≡ Some a.made → IsFound program h w g c places text a.cell a.located.predicate o →
    AreSome a.located.predicate.names.now a.located.predicate.clauses.now → MovesBy program h w g c places text a
move_found {program = program} {h = h} {g = g} {places = places} {text = text} a e i some =
    let p = a.located.predicate in
    let inside = subst (MoveIn h p places text) e i.inside in
    let is : (f : Reading) → Judges program h g f → IsMove f h (i.move f) p places text (Some a.made) = λ f judges. subst (IsMove f h (i.move f) p places text) e (i.is f judges) in
    let there : (f : Reading) → Judges program h g f → i.move f ≡ Some (move_or_go (i.move f)) = λ f judges. allowed f h (i.move f) p places text a.made inside (is f judges) in
    record {
      runnable = record { reduces = i.reduces; cell = i.cell; some = some; inside = inside };
      move = λ f. move_or_go (i.move f);
      is = λ f judges. subst (λ q. IsMove f h q p places text (Some a.made)) (there f judges) (is f judges);
      does = λ f judges s is. i.does f judges s is ∙ ap (option_map (moves (aim f h a.cell))) (there f judges);
    }

-- a plan that was found to read
pub plan_reads : (program : Program) (h : Held CellName) (w : Made) (g : Goal CellName) (c : ℕ) (places : List (Place CellName)) (text : List ℕ) (o : Option Plan) (control : Control CellName) → o ≡ Some (plan.Reads control) → MatchOption o (DoesNothing program h w g c) (IsPlan program h w g c places text) →
    ReadsBy program h w g c control
plan_reads program h w g c places text o control e a = MatchOption-at_some (DoesNothing program h w g c) (IsPlan program h w g c places text) (plan.Reads control) e a

-- one to make a move
pub plan_moves : (program : Program) (h : Held CellName) (w : Made) (g : Goal CellName) (c : ℕ) (places : List (Place CellName)) (text : List ℕ) (o : Option Plan) (x : PlannedMove) → o ≡ Some (plan.Moves x) → MatchOption o (DoesNothing program h w g c) (IsPlan program h w g c places text) →
    MovesBy program h w g c places text x
plan_moves program h w g c places text o x e a = MatchOption-at_some (DoesNothing program h w g c) (IsPlan program h w g c places text) (plan.Moves x) e a
