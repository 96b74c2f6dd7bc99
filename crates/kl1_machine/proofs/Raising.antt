-- Exceptions: with a report alone, and with a substitute in the place of the goal.
use Rattle.kl1_machine.proofs.Words.{◌≡◌, ℕ, suc, ◌+◌, ◌-◌, ◌&&◌, Bool, true, false, if◌then◌else◌, List, [], length, map, refl, sym, ap, ◌∙◌, arith, subst, find, Option, BuiltIn, text_of, Term, variable, State, has_substitutes, report, is_reported, exception, exception_with, is_reported_of, replaced_by, substituted_by, raised, Reads, CellName, Qualified, Cell, Variable, Held, IsIn, with_variable, Kept, term_of-variable, Grown-variable, IsException, Substitutes, Goal, has_number, Numbered, Reading, built, meaning, aim, task_with, goal_with, shoen_with, IsWhole, IsOwned, unheard, Made, worked, IsMadeIn, Knows, found_in, read_as, rereads, grown_made, last_made, turns_then, turns_as, unmade_turns, grown_turns, raised_turns, IsAsked, new_in, new_stays, reported_here, replaced_turns, plain_turns, whole_turns, new_means, asked_agree, Machine, made, IsMachine, Puts, Tells, TurnsAs, and_left, and_right}
use Rattle.kl1_model.specs.State as model
use Rattle.kl1_user_effects.specs.Works as works
use Rattle.kl1_machine.proofs.Keeping.{Grows}

-- ---- without a substitute

-- an exception of a term is reported
pub exception_reported : (m : Machine) (k : Kept CellName) (n : ℕ) (kind : BuiltIn) (goal message : Cell CellName) (u : Machine) (told : Bool) → IsMachine m → Grows m k → IsException built m.store.held k.held kind goal message →
    Tells n message (record m { store = k }) u told → TurnsAs (λ f. report n (exception (text_of kind) (meaning f m.store.held goal))) m u
exception_reported m k n kind goal message u told i g e tells = record {
  turns = λ ms. raised_turns ms m.store.held k.held u.store.held (made m) (made u) n kind goal message (record { grown = g.grown; excepts = e; inside = i.inside }) (λ j. tells.turns ms);
  machine = tells.machine;
  named = record { name = tells.named.name; spelled = tells.named.spelled };
}

-- a goal is made whole, and raises the exception
pub raised_whole : (m : Machine) (k : Kept CellName) (goal : Goal CellName) (kind : BuiltIn) (cell : Qualified CellName) (x : Cell CellName) (u : Machine) → IsMachine m → Grows m k → IsWhole m.store.held k.held cell x →
    TurnsAs (λ f. raised (goal_with (meaning f k.held) goal) (text_of kind) (meaning f k.held x)) (record m { store = k }) u → TurnsAs (λ f. raised (goal_with (meaning f m.store.held) goal) (text_of kind) (aim f m.store.held cell)) m u
raised_whole m k goal kind cell x u i g whole r = record {
  turns = λ ms. whole_turns ms m.store.held k.held u.store.held (made m) (made u) goal (text_of kind) cell x (record { grown = g.grown; whole = whole; inside = i.inside }) (λ j. r.turns ms);
  machine = r.machine;
  named = record { name = r.named.name; spelled = r.named.spelled };
}

-- or its exception is reported alone
pub raised_alone : (m : Machine) (k : Kept CellName) (goal : Goal CellName) (kind : BuiltIn) (cell : Qualified CellName) (x : Cell CellName) (u : Machine) → IsMachine m → has_substitutes m.rules ≡ false → Grows m k → IsWhole m.store.held k.held cell x →
    TurnsAs (λ f. report goal.shoen (exception (text_of kind) (meaning f k.held x))) (record m { store = k }) u → TurnsAs (λ f. raised (goal_with (meaning f m.store.held) goal) (text_of kind) (aim f m.store.held cell)) m u
raised_alone m k goal kind cell x u i one g whole r =
    raised_whole m k goal kind cell x u i g whole (record { turns = λ ms. plain_turns ms k.held u.store.held (made m) (made u) goal (text_of kind) x (λ f knows s. and_left (has_substitutes m.rules) (is_reported goal.shoen (exception (text_of kind) (meaning f k.held x)) (worked f s k.held (made m))) one) (r.turns ms); machine = r.machine; named = r.named })

-- ---- with a substitute: as `kl1_user_effects` has it, where these are private

asked_means : (h mid : Held CellName) (kind : BuiltIn) (term message : Cell CellName) → IsAsked h mid kind term message → (f : Reading) → Reads built f → meaning f mid message ≡ exception_with (text_of kind) (meaning f h term) (variable h.variables)
asked_means h mid kind term message a f reads =
    a.asks.means f reads
    ∙ ap (λ (t : Term). exception_with (text_of kind) t (meaning f (with_variable h) (Variable h.variables))) (term_of-variable f h term)
    ∙ ap (λ (t : Term). exception_with (text_of kind) (meaning f h term) t) (new_means f h a.formed)

new_turns : (ms : List Numbered) (h : Held CellName) (w : Made) → IsMadeIn h w → works.Turns ms (λ f s. record s { last_variable = suc s.last_variable }) h (with_variable h) w w
new_turns ms h w i = record {
  inside = grown_made h (with_variable h) w (Grown-variable h) i;
  states = λ f knows s.
      let some = i.some in
      let last : suc (h.variables - 1) ≡ (h.variables + 1) - 1 = omega arith in
      rereads s (meaning f h) (meaning f (with_variable h)) (suc (h.variables - 1)) h w (λ x j. sym (term_of-variable f h x)) i
      ∙ ap (λ n. read_as s (meaning f (with_variable h)) n w) last;
}

abbrev substituted_at : model.Goal → State → Term → Term → State
substituted_at g s message awaited = replaced_by g (model.substitutes awaited) (report g.shoen message (record s { last_variable = suc s.last_variable }))

substituted_state : (s : State) (g : model.Goal) (kind : List ℕ) (t message awaited : Term) (v : ℕ) → has_substitutes s.rules ≡ true → suc s.last_variable ≡ v → is_reported g.shoen (exception kind t) s ≡ true → message ≡ exception_with kind t (variable v) → awaited ≡ variable v →
    raised g kind t s ≡ substituted_at g s message awaited
substituted_state s g kind t message awaited v two new reported means stays =
    ap (λ b. if b && is_reported g.shoen (exception kind t) s then substituted_by g kind t s else report g.shoen (exception kind t) s) two
    ∙ ap (λ b. if b then substituted_by g kind t s else report g.shoen (exception kind t) s) reported
    ∙ ap (λ n. substituted_at g s (exception_with kind t (variable n)) (variable n)) new
    ∙ ap (λ m. substituted_at g s m (variable v)) (sym means)
    ∙ ap (λ x. substituted_at g s message x) (sym stays)

-- ---- with a substitute, over a machine

-- a goal of a machine has raised an exception, and its store has a new variable and the message
pub record Asks (m : Machine) (k : Kept CellName) (goal : Goal CellName) (kind : BuiltIn) (term message : Cell CellName) : Type 0 where
  pub machine : IsMachine m
  pub two : has_substitutes m.rules ≡ true
  pub owned : IsOwned (length m.shoens.shoens) goal
  pub asked : IsAsked m.store.held k.held kind term message
  pub grows : Grows m k

-- what the exception does
abbrev pub Raises : Machine → Goal CellName → BuiltIn → Cell CellName → Machine → Type 0
Raises m goal kind term n = TurnsAs (λ f. raised (goal_with (meaning f m.store.held) goal) (text_of kind) (meaning f m.store.held term)) m n

-- whether the exception is reported, for each reading
abbrev IsToldSo : Machine → Goal CellName → BuiltIn → Cell CellName → Bool → Type 0
IsToldSo m goal kind term told = (f : Reading) → Reads built f → (s : State) → is_reported goal.shoen (exception (text_of kind) (meaning f m.store.held term)) (worked f s m.store.held (made m)) ≡ told

-- that is told of the exception without the variable
told_here : (m : Machine) (k : Kept CellName) (goal : Goal CellName) (kind : BuiltIn) (term message : Cell CellName) (u : Machine) (told : Bool) → Asks m k goal kind term message → Tells goal.shoen message (record m { store = k }) u told → IsToldSo m goal kind term told
told_here m k goal kind term message u told a tells = λ f reads s.
    let n = goal.shoen in
    let h = m.store.held in
    let ss = m.shoens.shoens in
    let E = exception (text_of kind) (meaning f h term) in
    let M = exception_with (text_of kind) (meaning f h term) (variable h.variables) in
    let last = last_made m.rules m.counts.reports in
    ap (λ (p : Option model.Shoen). is_reported_of p E last) (found_in (meaning f h) n ss)
    ∙ reported_here f h k.held ss n last (text_of kind) (meaning f h term) a.asked.formed a.machine.inside.shoens (asked_agree h k.held kind term message a.asked f)
    ∙ ap (λ (p : Option model.Shoen). is_reported_of p M last) (sym (found_in (meaning f k.held) n ss))
    ∙ ap (λ (x : Term). is_reported_of (model.shoen_at n (map (shoen_with (meaning f k.held)) ss)) x last) (sym (asked_means h k.held kind term message a.asked f reads))
    ∙ tells.told_is f reads s

-- an exception that is reported with a new variable, for which a substitute waits in the place of the goal
pub raised_asked : (m : Machine) (k : Kept CellName) (goal : Goal CellName) (kind : BuiltIn) (term message : Cell CellName) (u z : Machine) → Asks m k goal kind term message → Tells goal.shoen message (record m { store = k }) u true →
    Puts goal.shoen goal.priority (Substitutes (Variable m.store.held.variables)) u z → Raises m goal kind term z
raised_asked m k goal kind term message u z a tells puts =
    let h = m.store.held in
    let l = u.store.held in
    let w = made m in
    let last : suc (h.variables - 1) ≡ h.variables = let some = a.machine.inside.some in omega (arith, some) in
    let task = Substitutes (Variable h.variables) in
    let new : Reading → State → State = λ f s. record s { last_variable = suc s.last_variable } in
    let says : Reading → State → State = λ f. report goal.shoen (meaning f k.held message) in
    let stands : Reading → State → State = λ f. replaced_by (goal_with (meaning f l) goal) (task_with (meaning f l) task) in
    rw puts.is (record {
      turns = λ ms.
          let first = new_turns ms h w a.machine.inside in
          let second = grown_turns ms (with_variable h) k.held w a.asked.grown a.asked.asks.variables a.asked.asks.others first.inside in
          let both = turns_then ms new (λ f s. s) h (with_variable h) k.held w w w first second in
          let third = tells.turns ms in
          let so_far = turns_then ms new says h k.held l w w (made u) both third in
          let fourth = replaced_turns ms l (made u) goal task third.inside (new_in h k.held l kind term message a.asked tells.grown) (rw tells.count a.owned) in
          turns_as ms (λ f s. stands f (says f (new f s))) (λ f. raised (goal_with (meaning f h) goal) (text_of kind) (meaning f h term)) h l w _
          (λ f knows s.
          substituted_state (worked f s h w) (goal_with (meaning f h) goal) (text_of kind) (meaning f h term) (meaning f k.held message) (meaning f l (Variable h.variables)) h.variables a.two last (told_here m k goal kind term message u true a tells f knows.reads s) (asked_means h k.held kind term message a.asked f knows.reads)
          (new_stays h k.held l kind term message m.shoens.shoens goal.shoen a.asked a.machine.inside.shoens tells.keeps f knows.reads))
          (turns_then ms (λ f s. says f (new f s)) stands h l l w (made u) _ so_far fourth);
      machine = rw puts.is at puts.machine;
      named = record { name = tells.named.name; spelled = tells.named.spelled };
    })

-- after a report that wasn't made, and with the store as it was, there is what a report without the variable leaves
pub raised_unasked : (m : Machine) (k : Kept CellName) (goal : Goal CellName) (kind : BuiltIn) (term message : Cell CellName) (u : Machine) (b : Kept CellName) → Asks m k goal kind term message → Tells goal.shoen message (record m { store = k }) u false →
    b.held ≡ m.store.held → b.hooks ≡ m.store.hooks → Raises m goal kind term (record u { store = b })
raised_unasked m k goal kind term message u b a tells held hooks =
    let h = m.store.held in
    let w = made m in
    let n = goal.shoen in
    let ss = unheard m.rules n (find (has_number n) m.shoens.shoens) m.shoens.shoens in
    let unmade : (f : Reading) (ms : List Numbered) → Knows ms f → (s : State) → is_reported n (exception (text_of kind) (meaning f h term)) (worked f s h w) ≡ false = λ f ms knows s. told_here m k goal kind term message u false a tells f knows.reads s in
    let v : Machine = record m { store = b; shoens = record m.shoens { shoens = ss } } in
    let is : record u { store = b } ≡ v = ap (λ (y : Machine). let q : Machine = record y { store = b } in q) (tells.dropped refl) in
    let A : Machine → Type 0 = λ y. Raises m goal kind term y in
    let turns : (ms : List Numbered) → works.Turns ms (λ f. raised (goal_with (meaning f h) goal) (text_of kind) (meaning f h term)) h b.held w (made v) =
    λ ms. rw held
    (plain_turns ms h h w (made v) goal (text_of kind) term (λ f knows s. and_right (has_substitutes m.rules) (is_reported n (exception (text_of kind) (meaning f h term)) (worked f s h w)) (unmade f ms knows s)) (unmade_turns ms h w n (λ f. exception (text_of kind) (meaning f h term)) a.machine.inside (λ f knows s. unmade f ms knows s))) in
    let machine : IsMachine v =
    (let U : Machine → Type 0 = λ y. y.goals.shoens ≡ length y.shoens.shoens in
    record { inside = (turns []).inside; last = a.machine.last; placed = a.machine.placed; known = subst U is tells.machine.known }) in
    subst A (sym is) (record { turns = turns; machine = machine; named = record { name = refl; spelled = refl } })

-- the new variable is a task's, and the goal's shoen is still there
pub asks_task : (m : Machine) (k : Kept CellName) (goal : Goal CellName) (kind : BuiltIn) (term message : Cell CellName) (u : Machine) (told : Bool) (v : ℕ) → Asks m k goal kind term message → Tells goal.shoen message (record m { store = k }) u told → v ≡ m.store.held.variables → IsIn u.store.held (Variable v)
asks_task m k goal kind term message u told v a tells e = let I : ℕ → Type 0 = λ n. IsIn u.store.held (Variable n) in subst I (sym e) (new_in m.store.held k.held u.store.held kind term message a.asked tells.grown)
