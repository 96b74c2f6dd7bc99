-- Goals of the console that are built, and starts.
use Rattle.kl1_machine.proofs.Words.{◌≡◌, ℕ, suc, ◌+◌, ◌-◌, ◌==◌, true, false, List, [], length, refl, sym, ap, ◌∙◌, arith, inl, inr, Option, Some, None, or_cases, false≢true, bytes_eq-Decides, Living, True, text_of, Term, variable, atom, nodes_of, report_of, is_goal, highest, is_numbered, goal_nodes, State, fresh, names_of, with_names, has_made_last, report_tail, reported_on, report, started_report, exhausted_report, open_shoen, with_next_variables, started_shoen, start_goal, Reads, CellName, no_names, Cell, Held, IsIn, with_variable, Kept, IsFormed, Grown, Grown-variable, Grown-trans, term_of-variable, term_of-unbound, term_of-Atom, Instruction, IsRowOf, with_variables, AreGoalVariables, kept_with, beyond_unbound, Origin, Shoen, Reading, built, reading_of, reading_fits, meaning, shoen_with, worked, IsMadeIn, in_grown, read_as, rereads, Machine, made, IsMachine, counting, CanStart, Brings, OpensAs, bare, IsPlain, IsPlainShoen, ArePlain, ReadsNames, BuildsGoal, OpensStreams, cases_Bool, IsTrue, bytes_eq, same_text}
use Rattle.kl1_model.specs.State as model
use Rattle.kl1_model.specs.Opening.{with_shoen}
use Rattle.kl1_store.specs.declared.cell.Cell.TheVariants as cell
use Rattle.kl1_match.specs.GoalCells as building
use Rattle.kl1_machine.specs.declared.machine.starting.Start.{Start}
use Rattle.kl1_machine.proofs.Keeping.{grown_machine}

-- ---- a goal that is built

-- the row of a goal was put into a machine's store after its variables
pub record IsPut (goal : Term) (numbers : List CellName) (row : List Instruction) (m : Machine) (one : Held CellName) (k : Kept CellName) (cells : List (Cell CellName)) (x : Cell CellName) : Type 0 where
  pub machine : IsMachine m
  pub numbered : IsTrue (is_numbered goal)
  pub row_is : IsRowOf (with_names [] (names_of goal)) row (nodes_of goal)
  pub one_is : one ≡ with_variables m.store.held (highest goal)
  pub first : Grown m.store.held one
  pub variables : AreGoalVariables one (m.store.held.variables - 1) (highest goal) cells
  pub more : Grown one k.held
  pub bindings : k.held.bindings ≡ one.bindings
  pub builds : building.BuildsGoal built numbers row cells one k.held x
  pub hooks : k.hooks ≡ m.store.hooks

pub built_goal : (goal : Term) (numbers : List CellName) (row : List Instruction) (m : Machine) (one : Held CellName) (k : Kept CellName) (cells : List (Cell CellName)) (x : Cell CellName) → IsPut goal numbers row m one k cells x → (variables nodes : ℕ) →
    BuildsGoal goal numbers (counting variables nodes m) (record (counting variables nodes m) { store = k }) x
built_goal goal numbers row m one k cells x p variables nodes =
    let h = m.store.held in
    let up = Grown-trans h one k.held p.first p.more in
    let i = p.machine in
    let w = i.inside in
    record {
      rest = refl;
      machine = grown_machine (counting variables nodes m) k (record { grown = up; hooks = p.hooks }) (record { inside = record { some = w.some; goals = w.goals; shoens = w.shoens; owned = w.owned }; last = i.last; placed = i.placed; known = i.known });
      grown = up;
      hooks = p.hooks;
      inside = p.builds.inside;
      variables = p.builds.variables ∙ ap (λ (z : Held CellName). z.variables) p.one_is;
      bindings = p.bindings ∙ ap (λ (z : Held CellName). z.bindings) p.one_is;
      kept = λ f reads y j. p.builds.kept f reads y (in_grown h one p.first y j) ∙ ap (λ (z : Held CellName). meaning f z y) p.one_is ∙ kept_with f h (highest goal) y;
      means = λ f reads names.
          (p.builds.built_is f reads goal (rw names p.row_is)).next p.numbered (h.variables - 1) p.variables.next p.variables.free;
    }

-- ---- streams that open

pub streams_opened : (goal : Cell CellName) (m : Machine) (a : Held CellName) (k : Kept CellName) (control reports : ℕ) → IsMachine m → IsFormed m.store.held → IsIn m.store.held goal → (control ≡ m.store.held.variables) × (a ≡ with_variable m.store.held) → (reports ≡ a.variables) × (k.held ≡ with_variable a) → k.hooks ≡ m.store.hooks →
    OpensStreams goal m (record m { store = k }) (record { goal = goal; forgotten = 0; reports = cell.Variable reports; control = cell.Variable control })
streams_opened goal m a k control reports i formed j p q hooks =
    let h = m.store.held in
    let one = with_variable h in
    let two = with_variable one in
    let is : k.held ≡ two = q.1 ∙ ap (λ (z : Held CellName). with_variable z) p.1 in
    let second : reports ≡ suc h.variables = q.0 ∙ ap (λ (z : Held CellName). z.variables) p.1 ∙ omega arith in
    let first = p.0 in
    let count : k.held.variables ≡ h.variables + 2 = ap (λ (z : Held CellName). z.variables) is ∙ omega arith in
    let up : Grown h k.held = rw is (Grown-trans h one two (Grown-variable h) (Grown-variable one)) in
    let same : (f : Reading) (y : Cell CellName) → meaning f k.held y ≡ meaning f h y = λ f y. ap (λ (z : Held CellName). meaning f z y) is ∙ term_of-variable f one y ∙ term_of-variable f h y in
    record {
      rest = refl;
      machine = grown_machine m k (record { grown = up; hooks = hooks }) i;
      grown = up;
      hooks = hooks;
      inside = record { goal = in_grown h k.held up goal j; reports = omega (arith, second, count); control = omega (arith, first, count) };
      variables = count;
      kept = λ f y l. same f y;
      goal = refl;
      forgotten = refl;
      control = ap (λ v. let y : Cell CellName = cell.Variable v in y) first;
      reports = ap (λ v. let y : Cell CellName = cell.Variable v in y) second;
      free = λ f. (
        same f (cell.Variable control) ∙ ap (λ v. meaning f h (cell.Variable v)) first ∙ term_of-unbound f h h.variables (beyond_unbound h.variables h.structures [] h.bindings h.variables formed.bound (omega arith)),
        same f (cell.Variable reports) ∙ ap (λ v. meaning f h (cell.Variable v)) second ∙ term_of-unbound f h (suc h.variables) (beyond_unbound h.variables h.structures [] h.bindings (suc h.variables) formed.bound (omega arith)),
      );
    }

-- ---- names that are used, and reductions that were charged, change nothing of a shoen that opens

-- a state with these names and these reductions
abbrev aside : List (List ℕ) → List ℕ → State → State
aside ns ws s = record s { names = ns; work = ws }

report_aside : (n : ℕ) (x : Term) (ns : List (List ℕ)) (ws : List ℕ) (s : State) → report n x (aside ns ws s) ≡ aside ns ws (report n x s)
report_aside n x ns ws s = by_shoen (model.shoen_at n s.shoens)
  where
    by_tail : (o : Option ℕ) → reported_on n x o (aside ns ws s) ≡ aside ns ws (reported_on n x o s)
    by_tail None = refl
    by_tail (Some v) = refl

    by_shoen : (o : Option model.Shoen) → report_of o n x (aside ns ws s) ≡ aside ns ws (report_of o n x s)
    by_shoen None = refl
    by_shoen (Some h) = elim (cases_Bool h.is_broken) [ inl e ↦ rw e | inr e ↦ rw e (by_tail (report_tail (has_made_last s) x h.tail)) ]

open_aside : (h : model.Shoen) (goal : Term) (ns : List (List ℕ)) (ws : List ℕ) (s : State) → open_shoen h goal (aside ns ws s) ≡ aside ns ws (open_shoen h goal s)
open_aside h goal ns ws s =
    let said = report h.number started_report (with_shoen h goal s) in
    let once : report h.number started_report (with_shoen h goal (aside ns ws s)) ≡ aside ns ws said = report_aside h.number started_report ns ws (with_shoen h goal s) in
    elim (cases_Bool (h.allowance == 0)) [
      | inl e ↦ rw e (ap (report h.number exhausted_report) once ∙ report_aside h.number exhausted_report ns ws said)
      | inr e ↦ rw e once
    ]

open_work : (h : model.Shoen) (goal : Term) (s : State) → (open_shoen h goal s).work ≡ s.work
open_work h goal s = ap (λ (z : State). z.work) (open_aside h goal s.names s.work s)

open_names : (h : model.Shoen) (goal : Term) (ns : List (List ℕ)) (s : State) → open_shoen h goal (record s { names = ns }) ≡ record (open_shoen h goal s) { names = ns }
open_names h goal ns s = open_aside h goal ns s.work s ∙ ap (λ ws. aside ns ws (open_shoen h goal s)) (sym (open_work h goal s))

opened_work : (h : Shoen CellName) (x : Cell CellName) (m n : Machine) → OpensAs h x m n → n.shoens.work ≡ m.shoens.work
opened_work h x m n p =
    let f = reading_of [] in
    let s = fresh m.rules [] in
    let reads : Reads built f = (reading_fits [] no_names).reads in
    sym (ap (λ (z : State). z.work) ((p.turns []).states f (record { reads = reads; rows = tt }) s))
    ∙ open_work (shoen_with (meaning f m.store.held) h) (meaning f m.store.held x) (worked f s m.store.held (made m))

-- ---- a goal that is a name

-- it is `true`
goal_name : (t : List ℕ) → is_goal (atom t) ≡ true → t ≡ text_of True
goal_name t e = (bytes_eq-Decides t (text_of True)).0 (elim (or_cases (bytes_eq t (text_of True)) false e) [ inl is ↦ is | inr other ↦ absurd (false≢true other) ])

-- the cell of a goal, if it is a name by itself, is one that all readings read the same
goal_plain : (f g : Reading) (goal : Term) (last : ℕ) (h : Held CellName) (x : Cell CellName) → is_goal goal ≡ true → Reads built f → Reads built g → meaning g h x ≡ with_next_variables last goal → IsPlain f g x
goal_plain f g goal last h x is first second means = by_cell x means
  where
    by_goal : (a : CellName) (t : Term) → is_goal t ≡ true → atom (g a) ≡ with_next_variables last t → f a ≡ g a
    by_goal a (atom t) e p =
        let own : g a ≡ text_of True = same_text (g a) t p ∙ goal_name t e in
        let same : a ≡ built True = second.once a (built True) (own ∙ sym (second.texts True)) in
        ap f same ∙ first.texts True ∙ sym own
    by_goal a _ e p = absurd (cc)

    by_cell : (y : Cell CellName) → meaning g h y ≡ with_next_variables last goal → IsPlain f g y
    by_cell (cell.Atom a) e = ap atom (by_goal a goal is (sym (term_of-Atom g h a) ∙ e))
    by_cell _ e = refl

-- ---- starts

-- the shoen that opens for a start, with a number and what the console keeps
abbrev pub shoen_for : ℕ → Start → Origin CellName → Shoen CellName
shoen_for number w o = record {
  number = number;
  parent = 0;
  allowance = w.allowance;
  low = w.low;
  high = w.high;
  control = o.control;
  tail = o.reports;
  life = Living;
  is_stopped = false;
  is_broken = false;
  origin = Some o;
}

-- a shoen has opened for a cell, and brings no name that stands by itself but one that two readings read the same
pub record Opens (h : Shoen CellName) (x : Cell CellName) (m n : Machine) : Type 0 where
  pub opens : OpensAs h x m n
  pub plain : (f g : Reading) → Reads built f → Reads built g → IsPlainShoen f g h → IsPlain f g x → ArePlain f g m → ArePlain f g n

-- a machine that counts the variables of a start, and these structures
abbrev pub starting : Start → ℕ → Machine → Machine
starting w nodes m = counting (m.counts.variables + (w.variables + 2)) (m.counts.nodes + nodes) m

-- the cells of a start, in machines that have come on from one whose counts have
pub record HasStreams (numbers : List CellName) (w : Start) (nodes : ℕ) (m a b : Machine) (x : Cell CellName) (o : Origin CellName) : Type 0 where
  pub machine : IsMachine m
  pub can : CanStart m.counts.variables m.counts.nodes numbers w
  pub nodes_are : nodes ≡ goal_nodes w.code.now
  pub builds : BuildsGoal w.code.now numbers (starting w nodes m) a x
  pub streams : OpensStreams x a b o

module _ (numbers : List CellName) (w : Start) (nodes : ℕ) (m a b : Machine) (x : Cell CellName) (o : Origin CellName) (g : HasStreams numbers w nodes m a b x o) where
  abbrev goal : Term
  goal = w.code.now

  -- the last variable that was there, and the last of the goal
  abbrev last : ℕ
  last = m.store.held.variables - 1

  abbrev top : ℕ
  top = last + highest goal

  -- what has changed before the shoen opens
  prepared : b ≡ record (starting w nodes m) { store = b.store }
  prepared = g.streams.rest ∙ ap (λ (y : Machine). let z : Machine = record y { store = b.store } in z) g.builds.rest

  -- as many shoens are there as there were
  pub shoens_prepared : length b.shoens.shoens ≡ length m.shoens.shoens
  shoens_prepared = ap (λ (y : Machine). length y.shoens.shoens) prepared

  prepared_state : (f : Reading) → Reads built f → (s : State) →
      record (worked f s m.store.held (made m)) { last_variable = suc (suc top); variables = m.counts.variables + suc (suc (highest goal)); nodes = m.counts.nodes + goal_nodes goal } ≡ worked f s b.store.held (made (starting w nodes m))
  prepared_state f reads s =
      let h = m.store.held in
      let k = b.store.held in
      let i = g.machine.inside in
      let j : IsMadeIn h (made (starting w nodes m)) = record { some = i.some; goals = i.goals; shoens = i.shoens; owned = i.owned } in
      let some = i.some in
      let first : a.store.held.variables ≡ h.variables + highest goal = g.builds.variables in
      let second = g.streams.variables in
      let own = g.can.variables_are in
      let counts : ℕ → ℕ → State = λ v n. record (worked f s h (made m)) { last_variable = suc (suc top); variables = m.counts.variables + v; nodes = m.counts.nodes + n } in
      let many : suc (suc (highest goal)) ≡ w.variables + 2 = omega (arith, own) in
      let end : suc (suc top) ≡ k.variables - 1 = omega (arith, some, first, second) in
      ap (λ v. counts v (goal_nodes goal)) many
      ∙ ap (counts (w.variables + 2)) (sym g.nodes_are)
      ∙ rereads s (meaning f h) (meaning f k) (suc (suc top)) h (made (starting w nodes m)) (λ y l. sym (g.streams.kept f y (in_grown h a.store.held g.builds.grown y l) ∙ g.builds.kept f reads y l)) j
      ∙ ap (λ n. read_as s (meaning f k) n (made (starting w nodes m))) end

  -- the goal is what it is by the definitions
  goal_read : (f : Reading) → Reads built f → ReadsNames numbers goal f → with_next_variables last goal ≡ meaning f b.store.held x
  goal_read f reads names = sym (g.streams.kept f x g.builds.inside ∙ g.builds.means f reads names)

  -- and so is the shoen
  shoen_read : (f : Reading) → Reads built f → ReadsNames numbers goal f → (s : State) →
      started_shoen (worked f s m.store.held (made m)) w.allowance w.low w.high (with_next_variables last goal) (variable (suc top)) (variable (suc (suc top))) ≡ shoen_with (meaning f b.store.held) (shoen_for (suc (length m.shoens.shoens)) w o)
  shoen_read f reads names s =
      let t = meaning f b.store.held in
      let some = g.machine.inside.some in
      let count : a.store.held.variables ≡ m.store.held.variables + highest goal = g.builds.variables in
      let first : a.store.held.variables ≡ suc top = omega (arith, some, count) in
      let goal_is : with_next_variables last goal ≡ t o.goal = goal_read f reads names ∙ ap t (sym g.streams.goal) in
      let none : o.forgotten ≡ 0 = g.streams.forgotten in
      let control_is : variable (suc top) ≡ t o.control = sym ((g.streams.free f).0 ∙ ap (λ n. variable n) first) in
      let reports_is : variable (suc (suc top)) ≡ t o.reports = sym ((g.streams.free f).1 ∙ ap (λ n. variable (suc n)) first) in
      cc

  -- the shoen's cells are variables, but for the goal
  shoen_plain : (number : ℕ) (f k : Reading) → IsPlain f k x → IsPlainShoen f k (shoen_for number w o)
  shoen_plain number f k p =
      let control : bare f o.control ≡ bare k o.control = ap (bare f) g.streams.control ∙ sym (ap (bare k) g.streams.control) in
      let reports : bare f o.reports ≡ bare k o.reports = ap (bare f) g.streams.reports ∙ sym (ap (bare k) g.streams.reports) in
      let goal_is : bare f o.goal ≡ bare k o.goal = ap (bare f) g.streams.goal ∙ p ∙ sym (ap (bare k) g.streams.goal) in
      cc

  pub started : (n : Machine) (number : ℕ) → number ≡ suc (length m.shoens.shoens) → Opens (shoen_for number w o) x b n → Brings (λ s. start_goal s w.allowance w.low w.high goal) goal numbers m n
  started n number number_is opened =
      let h = shoen_for (suc (length m.shoens.shoens)) w o in
      let c : Machine = record (starting w nodes m) { store = b.store } in
      let p : Opens h x c n = rw (number_is, prepared) at opened in
      record {
        states = λ f reads names s.
            let t = meaning f b.store.held in
            let S = worked f s m.store.held (made m) in
            let G = with_next_variables last goal in
            let W = with_names S.names (names_of goal) in
            let Z : State = record S { last_variable = suc (suc top); variables = m.counts.variables + suc (suc (highest goal)); nodes = m.counts.nodes + goal_nodes goal } in
            let named : State → State = λ z. record z { names = W } in
            open_names (started_shoen S w.allowance w.low w.high G (variable (suc top)) (variable (suc (suc top)))) G W Z
            ∙ ap (λ (y : model.Shoen). named (open_shoen y G Z)) (shoen_read f reads names s)
            ∙ ap (λ (y : Term). named (open_shoen (shoen_with t h) y Z)) (goal_read f reads names)
            ∙ ap (λ (y : State). named (open_shoen (shoen_with t h) (t x) y)) (prepared_state f reads s)
            ∙ ap named ((p.opens.turns []).states f (record { reads = reads; rows = tt }) s);
        plain = λ f k first second names q.
            let cell = goal_plain f k goal last a.store.held x g.can.goal first second (g.builds.means k second names) in
            p.plain f k first second (shoen_plain (suc (length m.shoens.shoens)) f k cell) cell (record { goals = q.goals; shoens = q.shoens });
        machine = p.opens.machine;
        named = record { name = p.opens.named.name; spelled = p.opens.named.spelled };
        work = opened_work h x c n p.opens;
      }
