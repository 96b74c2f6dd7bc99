-- Exceptions: with a report alone, and with a substitute in the place of the goal.
use Rattle.kl1_user_effects.proofs.Words.{◌≡◌, ℕ, suc, ◌+◌, ◌≤◌, ◌==◌, not, ◌&&◌, ◌||◌, Bool, false, if◌then◌else◌, List, [], ◌∷◌, ◌++◌, length, take, refl, sym, ap, ◌∙◌, inl, inr, arith, find, Some, None, option_map, ne_eqb, and-false, map-append, take_all, BuiltIn, Term, variable, occurs, State, has_substitutes, report, is_reported, exception, exception_with, is_reported_at, is_reported_of, replaced_by, substituted_by, raised, Reads, CellName, Qualified, Cell, Variable, Binding, Shape, Held, IsIn, is_bound, with_variable, Kept, HasGrown, IsFormed, Grown, term_of-variable, term_of-unbound, Grown-variable, IsExceptionWith, Task, Goal, Shoen, has_number, Numbered, Reading, built, meaning, aim, task_with, goal_with, shoen_with, IsWhole, IsTaskIn, IsOwned, AreShoensIn, one_for, is_variable, IsNoTail, KeepsFree, Made, worked, IsMadeIn, Knows, Turns, option_cases}
use Rattle.std.specs.Prelude.{is_some}
use Rattle.kl1_model.specs.State as model
use Rattle.kl1_store.specs.Sound.{Bound}
use Rattle.kl1_user_effects.proofs.States.{Agree, found_shoen_in}
use Rattle.kl1_user_effects.proofs.Works.{turns_then, turns_as}
use Rattle.kl1_user_effects.proofs.Lists.{all_append}
use Rattle.kl1_user_effects.proofs.LateFree.{in_lower, not_lower}
use Rattle.kl1_user_effects.proofs.Streams.{grown_turns}

-- ---- a goal in the place of one that goes

-- what is made with a goal of another task in the place of one
abbrev pub with_one : Made → Goal CellName → Task CellName → Made
with_one w goal task = record w { goals = w.goals ++ one_for w.last_goal goal task; last_goal = suc w.last_goal }

pub replaced_turns : (ms : List Numbered) (h : Held CellName) (w : Made) (goal : Goal CellName) (task : Task CellName) → IsMadeIn h w → IsTaskIn h task → IsOwned (length w.shoens) goal →
    Turns ms (λ f. replaced_by (goal_with (meaning f h) goal) (task_with (meaning f h) task)) h h w (with_one w goal task)
replaced_turns ms h w goal task i j own =
    let one = one_for w.last_goal goal task in
    record {
      inside = record {
        some = i.some;
        goals = all_append (λ (g : Goal CellName). IsTaskIn h g.task) w.goals one i.goals (j, tt);
        shoens = i.shoens;
        owned = all_append (IsOwned (length w.shoens)) w.goals one i.owned (record { low = own.low; high = own.high }, tt);
      };
      states = λ f knows s.
          let t = meaning f h in
          let S = worked f s h w in
          ap (λ (gs : List model.Goal). let z : State = record S { goals = gs; last_goal = suc w.last_goal } in z) (sym (map-append (goal_with t) w.goals one));
    }

-- ---- a message with a new variable

-- an exception with a variable that isn't the tail is reported if the exception without it is
reported_beside : (tail : Term) (kind : List ℕ) (goal : Term) (w : ℕ) (last : Bool) → ((v : ℕ) → tail ≡ variable v → (v == w) ≡ false) → is_reported_at last (exception_with kind goal (variable w)) tail ≡ is_reported_at last (exception kind goal) tail
reported_beside (variable v) kind goal w last other =
    let same : occurs v (exception_with kind goal (variable w)) ≡ occurs v (exception kind goal) = rw (other v refl) in
    ap (λ b. is_some (if b || last then None else Some v)) same
reported_beside _ kind goal w last other = refl

-- ---- a variable that is new to a store

pub unbound_past : {N : Type 0} (vs : ℕ) (ss : List (Shape N)) (before bs : List (Binding N)) (v : ℕ) → vs ≤ v → Bound vs ss before bs → is_bound v bs ≡ false
unbound_past vs ss before [] v le p = refl
unbound_past vs ss before (b ∷ bs) v le p =
    let i = p.0.inside in
    let other : b.variable ≡ v → ⊥ = λ e. omega arith in
    ap (λ c. c || is_bound v bs) (ne_eqb b.variable v other) ∙ unbound_past vs ss (before ++ b ∷ []) bs v le p.1

-- it means itself
pub new_means : (f : Reading) (h : Held CellName) → IsFormed h → meaning f (with_variable h) (Variable h.variables) ≡ variable h.variables
new_means f h p = term_of-unbound f (with_variable h) h.variables (unbound_past h.variables h.structures [] h.bindings h.variables (omega arith) p.bound)

-- it is none of the cells that were there
never_new : (h : Held CellName) (f : Reading) (v : ℕ) (x : Cell CellName) → IsFormed h → IsIn h x → meaning f h x ≡ variable v → (v == h.variables) ≡ false
never_new h f v x p i e = ne_eqb v h.variables (λ q. not_lower h.variables h f v x p i (in_lower h x i) (omega (arith, q)) e)

-- an exception with it is reported if the exception without it is
pub reported_here : (f : Reading) (h k : Held CellName) (ss : List (Shoen CellName)) (n : ℕ) (last : Bool) (kind : List ℕ) (goal : Term) → IsFormed h → AreShoensIn h ss → Agree h (meaning f k) (meaning f h) →
    is_reported_of (option_map (shoen_with (meaning f h)) (find (has_number n) ss)) (exception kind goal) last ≡ is_reported_of (option_map (shoen_with (meaning f k)) (find (has_number n) ss)) (exception_with kind goal (variable h.variables)) last
reported_here f h k ss n last kind goal p i agree = elim (option_cases (find (has_number n) ss)) [
  | inl none ↦ rw none
  | inr some ↦
      let sh = some.0 in
      let inside = found_shoen_in h n ss sh i some.1 in
      rw some.1 (ap (λ b. not sh.is_broken && b) (sym (reported_beside (meaning f h sh.tail) kind goal h.variables last (λ v q. never_new h f v sh.tail p inside.tail q)))
      ∙ ap (λ (t : Term). not sh.is_broken && is_reported_at last (exception_with kind goal (variable h.variables)) t) (sym (agree sh.tail inside.tail)))
]

none_is : (v : ℕ) (t : Term) → ((w : ℕ) → t ≡ variable w → (w == v) ≡ false) → is_variable v t ≡ false
none_is v (variable w) other = other w refl
none_is v _ other = refl

-- it is the tail of no stream
new_no_tail : (h k : Held CellName) (ss : List (Shoen CellName)) (n : ℕ) → IsFormed h → AreShoensIn h ss → ((f : Reading) → Agree h (meaning f k) (meaning f h)) → IsNoTail h.variables n k ss
new_no_tail h k ss n p i agree f = elim (option_cases (find (has_number n) ss)) [
  | inl none ↦ rw none
  | inr some ↦
      let sh = some.0 in
      let inside = found_shoen_in h n ss sh i some.1 in
      rw some.1 (ap (λ b. not sh.is_broken && b) (none_is h.variables (meaning f k sh.tail) (λ w q. never_new h f w sh.tail p inside.tail (sym (agree f sh.tail inside.tail) ∙ q))) ∙ and-false (not sh.is_broken))
]

-- ---- a store with a new variable and an exception with it

-- what a store is after a variable and an exception with it, in which nothing else is new
pub record IsAsked (h mid : Held CellName) (kind : BuiltIn) (term message : Cell CellName) : Type 0 where
  pub formed : IsFormed h
  pub inside : IsIn h term
  pub grown : Grown (with_variable h) mid
  pub asks : IsExceptionWith built (with_variable h) mid kind term (Variable h.variables) message

-- what is after a new variable and an exception with it
pub asked : (h next mid : Held CellName) (kind : BuiltIn) (term message : Cell CellName) (v : ℕ) → IsFormed h → IsIn h term → (v ≡ h.variables) × (next ≡ with_variable h) → Grown next mid → IsExceptionWith built next mid kind term (Variable v) message → IsAsked h mid kind term message
asked h next mid kind term message v p i fresh g e =
    record { formed = p; inside = i; grown = rw fresh.1 at g; asks = rw (fresh.0, fresh.1) at e }

in_next : (h : Held CellName) (x : Cell CellName) → IsIn h x → IsIn (with_variable h) x
in_next h (Variable v) i = omega arith
in_next h _ i = i

-- a cell that was there is there after a new variable
pub next_still : (h next : Held CellName) (v : ℕ) (x : Cell CellName) → (v ≡ h.variables) × (next ≡ with_variable h) → IsIn h x → IsIn next x
next_still h next v x fresh i = rw fresh.1 (in_next h x i)

-- and so is the variable
pub next_there : (h next : Held CellName) (v : ℕ) → (v ≡ h.variables) × (next ≡ with_variable h) → IsIn next (Variable v)
next_there h next v fresh = let e = fresh.0 in rw fresh.1 (omega (arith, e))

pub next_grown : (h next : Held CellName) (v : ℕ) → (v ≡ h.variables) × (next ≡ with_variable h) → Grown h next
next_grown h next v fresh = rw fresh.1 (Grown-variable h)

pub asked_agree : (h mid : Held CellName) (kind : BuiltIn) (term message : Cell CellName) → IsAsked h mid kind term message → (f : Reading) → Agree h (meaning f mid) (meaning f h)
asked_agree h mid kind term message a f x i = a.asks.others f x (in_next h x i) ∙ term_of-variable f h x

-- the new variable is of each store that is later
pub new_in : (h mid k : Held CellName) (kind : BuiltIn) (term message : Cell CellName) → IsAsked h mid kind term message → Grown mid k → IsIn k (Variable h.variables)
new_in h mid k kind term message a g =
    let more : mid.variables ≡ h.variables + 1 = a.asks.variables in
    let le = g.variables in
    omega (arith, more, le)

-- the new variable stays unbound while the exception is reported
pub new_stays : (h mid k : Held CellName) (kind : BuiltIn) (term message : Cell CellName) (ss : List (Shoen CellName)) (n : ℕ) → IsAsked h mid kind term message → AreShoensIn h ss → KeepsFree n ss mid k → (f : Reading) → Reads built f →
    meaning f k (Variable h.variables) ≡ variable h.variables
new_stays h mid k kind term message ss n a i free = λ f reads.
    let more : mid.variables ≡ h.variables + 1 = a.asks.variables in
    free h.variables (omega (arith, more)) (new_no_tail h mid ss n a.formed i (asked_agree h mid kind term message a)) f reads
    (a.asks.others f (Variable h.variables) (omega arith) ∙ new_means f h a.formed)

-- ---- exceptions by the rules

-- an exception that isn't reported, or for which there are no substitutes, is a report
pub plain_turns : (ms : List Numbered) (h k : Held CellName) (w v : Made) (goal : Goal CellName) (kind : List ℕ) (x : Cell CellName) → ((f : Reading) → Knows ms f → (s : State) → (has_substitutes w.rules && is_reported goal.shoen (exception kind (meaning f h x)) (worked f s h w)) ≡ false) →
    Turns ms (λ f. report goal.shoen (exception kind (meaning f h x))) h k w v → Turns ms (λ f. raised (goal_with (meaning f h) goal) kind (meaning f h x)) h k w v
plain_turns ms h k w v goal kind x one t =
    turns_as ms (λ f. report goal.shoen (exception kind (meaning f h x))) (λ f. raised (goal_with (meaning f h) goal) kind (meaning f h x)) h k w v
    (λ f knows s.
    let S = worked f s h w in
    let G = goal_with (meaning f h) goal in
    let T = meaning f h x in
    ap (λ b. if b then substituted_by G kind T S else report goal.shoen (exception kind T) S) (one f knows s))
    t

-- a store that has only grown, by no hook, still has all that it had
pub has_grown : (old new : Kept CellName) → Grown old.held new.held → new.hooks ≡ old.hooks → HasGrown old new
has_grown old new grown hooks = record { held = grown; hooks = ap (take (length old.hooks)) hooks ∙ take_all (length old.hooks) old.hooks (omega arith) }

-- ---- goals that were made whole

-- a goal was made whole in a store, of which is what is made
pub record WasMadeWhole (h mid : Held CellName) (w : Made) (cell : Qualified CellName) (x : Cell CellName) : Type 0 where
  pub grown : Grown h mid
  pub whole : IsWhole h mid cell x
  pub inside : IsMadeIn h w

-- an exception of a goal that was made whole before
pub whole_turns : (ms : List Numbered) (h mid k : Held CellName) (w v : Made) (goal : Goal CellName) (kind : List ℕ) (cell : Qualified CellName) (x : Cell CellName) → WasMadeWhole h mid w cell x →
    (IsMadeIn mid w → Turns ms (λ f. raised (goal_with (meaning f mid) goal) kind (meaning f mid x)) mid k w v) → Turns ms (λ f. raised (goal_with (meaning f h) goal) kind (aim f h cell)) h k w v
whole_turns ms h mid k w v goal kind cell x r next =
    let e = r.whole in
    let first = grown_turns ms h mid w r.grown e.variables e.others r.inside in
    turns_as ms (λ f. raised (goal_with (meaning f mid) goal) kind (meaning f mid x)) (λ f. raised (goal_with (meaning f h) goal) kind (aim f h cell)) h k w v
    (λ f knows s. ap (λ t. raised (goal_with (meaning f h) goal) kind t (worked f s h w)) (sym (e.means f knows.reads)))
    (turns_then ms (λ f s. s) (λ f. raised (goal_with (meaning f mid) goal) kind (meaning f mid x)) h mid k w w v first (next first.inside))
