-- What messages to shoens do to a machine, and what monitors read.
use Rattle.kl1_machine.proofs.Words.{Held, subst, ◌≡◌, ℕ, ◌+◌, ◌-◌, ◌<◌, ◌≤◌, ◌==◌, not, ◌&&◌, Bool, true, false, if◌then◌else◌, List, [], ◌∷◌, length, map, drop, get_or, refl, sym, ap, ◌∙◌, find, Option, Some, option_map, filter, drop_more, drop_all, Aborted, is_among, State, change_shoen, is_living, path_within, report, close, exception, illegal_input, aborted_report, without_monitor, ended_below, Abort, Allow, Message, tells, tells_other, breaks_off, obeyed, heard, allowed_more, CellName, Cell, Goal, is_in, is_monitor_of, Shoen, has_number, changed, is_on_path_in, aborted_below_in, AreBelow, Means, meaning, goal_with, shoen_with, is_of_any, worked, below_tells, halted, allowing, controlled, all_stay, below_read, parents_read, path_read, finds, changes, Machine, made, IsMachine, Becomes, TurnsAs, having_goals, having_shoens, shifting_shoens, inl, inr, cases_Bool, maps_both, length-map, Term, AllByRecursion, Atom, EmptyList, built, nil, left_by, left_means, control_read, AreElsewhere}
use Rattle.kl1_model.specs.State as model
use Rattle.kl1_model.specs.Reduction.{with_control}
use Rattle.kl1_model.specs.code.Steps as steps
use Rattle.kl1_model.specs.declared.rules.Rules.{Rules}
use Rattle.kl1_model.specs.Ending.{ended_as}
use Rattle.kl1_shoen.specs.Shoens.{ended_with}
use Rattle.kl1_machine.proofs.Ending.{as_then, as_same, as_none, changed_as, unmonitored}

-- ---- a shoen that is stopped, or goes on

-- what a shoen that is found leads to
found_as : (after : Option model.Shoen → State → State) (m n : Machine) (k : ℕ) (o : Option (Shoen CellName)) → find (has_number k) m.shoens.shoens ≡ o → TurnsAs (λ f. after (option_map (shoen_with (meaning f m.store.held)) o)) m n →
    TurnsAs (λ f s. after (model.shoen_at k s.shoens) s) m n
found_as after m n k o is p =
    let h = m.store.held in
    as_same (λ f. after (option_map (shoen_with (meaning f h)) o)) (λ f s. after (model.shoen_at k s.shoens) s) m n
    (λ f s. ap (λ (x : Option model.Shoen). after x (worked f s h (made m))) (finds s (meaning f h) (h.variables - 1) (made m) k o is)) p

-- one for which a message does nothing
pub unmoved : (after : Option model.Shoen → State → State) (m : Machine) (k : ℕ) (o : Option (Shoen CellName)) → IsMachine m → find (has_number k) m.shoens.shoens ≡ o → ((t : Means) (s : State) → after (option_map (shoen_with t) o) s ≡ s) →
    TurnsAs (λ f s. after (model.shoen_at k s.shoens) s) m m
unmoved after m k o i is same =
    let h = m.store.held in
    found_as after m m k o is (as_same (λ f s. s) (λ f. after (option_map (shoen_with (meaning f h)) o)) m m (λ f s. same (meaning f h) (worked f s h (made m))) (as_none m i))

-- one that is halted, or no longer
pub halts : (b : Bool) (m n : Machine) (k : ℕ) → IsMachine m → Becomes (shifting_shoens (changed k (halted b) m.shoens.shoens) m) n → TurnsAs (λ f. change_shoen k (λ x. record x { is_stopped = b })) m n
halts b m n k i becomes =
    changed_as m n k (halted b) (λ x. record x { is_stopped = b }) i (λ s a. record { control = a.control; tail = a.tail; origin = a.origin; low = a.low; high = a.high }) (λ f s. refl) becomes

-- and reports it
pub goes_as : (after : Option model.Shoen → State → State) (m n u : Machine) (k : ℕ) (b : Bool) (said : Term) (sh : Shoen CellName) → find (has_number k) m.shoens.shoens ≡ Some sh → ((t : Means) (s : State) → after (Some (shoen_with t sh)) s ≡ report k said (change_shoen k (λ x. record x { is_stopped = b }) s)) →
    TurnsAs (λ f. change_shoen k (λ x. record x { is_stopped = b })) m n → TurnsAs (λ f. report k said) n u → TurnsAs (λ f s. after (model.shoen_at k s.shoens) s) m u
goes_as after m n u k b said sh there same turns p =
    let h = m.store.held in
    found_as after m u k (Some sh) there
    (as_same (λ f s. report k said (change_shoen k (λ x. record x { is_stopped = b }) s)) (λ f. after (Some (shoen_with (meaning f h) sh))) m u (λ f s. same (meaning f h) (worked f s h (made m)))
    (as_then (λ f. change_shoen k (λ x. record x { is_stopped = b })) (λ f. report k said) m n u turns p))

-- one whose allowance grows
pub allowed : (m n : Machine) (k extra : ℕ) → IsMachine m → Becomes (shifting_shoens (changed k (allowing extra) m.shoens.shoens) m) n → TurnsAs (λ f. obeyed k (Allow extra)) m n
allowed m n k extra i becomes = changed_as m n k (allowing extra) (allowed_more extra) i (λ s a. record { control = a.control; tail = a.tail; origin = a.origin; low = a.low; high = a.high }) (λ f s. refl) becomes

-- ---- goals of shoens that go

-- goals of none of these shoens
abbrev pub rid_of : List ℕ → List (Goal CellName) → List (Goal CellName)
rid_of ns gs = filter (λ g. not (is_of_any ns g)) gs

one_more : (n : ℕ) (ns : List ℕ) (gs : List (Goal CellName)) → rid_of ns (filter (λ g. not (is_in n g)) gs) ≡ rid_of (n ∷ ns) gs
one_more n ns [] = refl
one_more n ns (g ∷ gs) = elim (cases_Bool (g.shoen == n)) [
  | inl p ↦ rw p (one_more n ns gs)
  | inr p ↦ rw p (ap (λ (ks : List (Goal CellName)). if not (is_among g.shoen ns) then g ∷ ks else ks) (one_more n ns gs))
]

-- the goals of the shoens up to a place are gone
pub record IsRid (ns : List ℕ) (i : ℕ) (m u : Machine) : Type 0 where
  pub goals : rid_of (drop i ns) u.goals.goals ≡ rid_of ns m.goals.goals
  pub rest : u ≡ having_goals u.goals.goals m
  pub machine : IsMachine u

pub next_rid : (ns : List ℕ) (i : ℕ) (m u v : Machine) → i < length ns → IsRid ns i m u → Becomes (having_goals (filter (λ g. not (is_in (get_or ns i 0) g)) u.goals.goals) u) v → IsRid ns (i + 1) m v
next_rid ns i m u v lt r b =
    let goals : v.goals.goals ≡ filter (λ g. not (is_in (get_or ns i 0) g)) u.goals.goals = ap (λ (x : Machine). x.goals.goals) b.is in
    record {
      goals = ap (rid_of (drop (i + 1) ns)) goals ∙ one_more (get_or ns i 0) (drop (i + 1) ns) u.goals.goals ∙ ap (λ (ks : List ℕ). rid_of ks u.goals.goals) (sym (drop_more ns i 0 lt)) ∙ r.goals;
      rest = b.is ∙ ap (λ (gs : List (Goal CellName)). having_goals gs u) (sym goals) ∙ ap (having_goals v.goals.goals) r.rest;
      machine = b.machine;
    }

pub last_rid : (ns : List ℕ) (i : ℕ) (m u : Machine) → length ns ≤ i → IsRid ns i m u → Becomes (having_goals (rid_of ns m.goals.goals) m) u
last_rid ns i m u le r = record {
  is = r.rest ∙ ap (λ (gs : List (Goal CellName)). having_goals gs m) (sym (all_stay u.goals.goals) ∙ ap (λ (ks : List ℕ). rid_of ks u.goals.goals) (sym (drop_all i ns le)) ∙ r.goals);
  machine = r.machine;
}

-- ---- aborts: as `kl1_user_effects` has it, where these are private

if_aborted : (c : Bool) (t : Means) (rules : Rules) (h : Shoen CellName) → t (Atom (built EmptyList)) ≡ nil → (if c then ended_as rules Aborted (shoen_with t h) else shoen_with t h) ≡ shoen_with t (if c then ended_with (left_by rules) Aborted h else h)
if_aborted true t rules h is = ap (λ (x : Term). let z : model.Shoen = record (shoen_with t h) { life = Aborted; control = x } in z) (control_read t is rules h.origin h.control)
if_aborted false t rules h is = refl

aborted_read : (t : Means) (rules : Rules) (all : List (Shoen CellName)) (n : ℕ) (ss : List (Shoen CellName)) → t (Atom (built EmptyList)) ≡ nil →
    map (steps.aborted_below rules (map (shoen_with t) all) n) (map (shoen_with t) ss) ≡ map (shoen_with t) (map (aborted_below_in (left_by rules) all n) ss)
aborted_read t rules all n ss is =
    maps_both (steps.aborted_below rules (map (shoen_with t) all) n) (shoen_with t) (shoen_with t) (aborted_below_in (left_by rules) all n)
    (λ h. ap (λ (ns : List ℕ). if is_living h.life && is_among n ns then ended_as rules Aborted (shoen_with t h) else shoen_with t h) (path_read t all h.number) ∙ if_aborted (is_living h.life && is_on_path_in all n h.number) t rules h is)
    ss

-- a machine with a shoen and all below it aborted, and their goals gone
abbrev pub with_aborted : ℕ → List ℕ → Machine → Machine
with_aborted k below m = shifting_shoens (map (aborted_below_in (left_by m.rules) m.shoens.shoens k) m.shoens.shoens) (having_goals (rid_of below m.goals.goals) m)

aborts : (m : Machine) (k : ℕ) (below : List ℕ) → IsMachine m → AreBelow m.shoens.shoens k below → IsMachine (with_aborted k below m) → TurnsAs (λ f. ended_below k) m (with_aborted k below m)
aborts m k below i b j =
    let ss = m.shoens.shoens in
    let h = m.store.held in
    record {
      turns = λ ms. record {
        inside = j.inside;
        states = λ f knows s.
            let t = meaning f h in
            let S = worked f s h (made m) in
            let left = rid_of below m.goals.goals in
            ap (λ (ps : List ℕ). let z : State = record S { goals = filter (λ g. not (is_among k (path_within g.shoen ps g.shoen))) S.goals; shoens = map (steps.aborted_below m.rules S.shoens k) S.shoens } in z) (parents_read t ss)
            ∙ ap (λ (gs : List model.Goal). let z : State = record S { goals = gs; shoens = map (steps.aborted_below m.rules S.shoens k) S.shoens } in z) (below_read t (is_on_path_in ss k) below m.goals.goals (below_tells k ss below m.goals.goals b i.inside.owned))
            ∙ ap (λ (xs : List model.Shoen). let z : State = record S { goals = map (goal_with t) left; shoens = xs } in z) (aborted_read t m.rules ss k ss (left_means f h knows.reads))
            ∙ ap (λ c. let z : State = record S { goals = map (goal_with t) left; shoens = map (shoen_with t) (map (aborted_below_in (left_by m.rules) ss k) ss); last_shoen = c } in z) (sym (length-map ss (aborted_below_in (left_by m.rules) ss k)));
      };
      machine = j;
      named = record { name = refl; spelled = refl };
    }

-- the goals that are left are of shoens elsewhere
elsewhere_by : (n : ℕ) (ss : List (Shoen CellName)) (below : List ℕ) (gs : List (Goal CellName)) → AllByRecursion (λ g. is_on_path_in ss n g.shoen ≡ is_of_any below g) gs → AreElsewhere ss n (rid_of below gs)
elsewhere_by n ss below [] these = tt
elsewhere_by n ss below (g ∷ gs) these = elim (cases_Bool (is_of_any below g)) [ inl gone ↦ rw gone (elsewhere_by n ss below gs these.1) | inr left ↦ rw left (these.0 ∙ left, elsewhere_by n ss below gs these.1) ]

pub elsewhere_after : (m n : Machine) (k : ℕ) (below : List ℕ) → IsMachine m → AreBelow m.shoens.shoens k below → Becomes (having_goals (rid_of below m.goals.goals) m) n → AreElsewhere n.shoens.shoens k n.goals.goals
elsewhere_after m n k below i b gone = rw gone.is (elsewhere_by k m.shoens.shoens below m.goals.goals (below_tells k m.shoens.shoens below m.goals.goals b i.inside.owned))

-- one step after the other
pub aborts_after : (m n u : Machine) (k : ℕ) (below : List ℕ) → IsMachine m → AreBelow m.shoens.shoens k below → Becomes (having_goals (rid_of below m.goals.goals) m) n → Becomes (shifting_shoens (map (aborted_below_in (left_by n.rules) n.shoens.shoens k) n.shoens.shoens) n) u → TurnsAs (λ f. ended_below k) m u
aborts_after m n u k below i b gone ended =
    rw (ended.is, gone.is) (aborts m k below i b (rw (ended.is, gone.is) at ended.machine))

pub aborted : (m u v w : Machine) (k : ℕ) → TurnsAs (λ f. ended_below k) m u → TurnsAs (λ f. report k aborted_report) u v → TurnsAs (λ f. close k) v w → TurnsAs (λ f. obeyed k Abort) m w
aborted m u v w k ends told closed =
    as_then (λ f s. report k aborted_report (ended_below k s)) (λ f. close k) m v w (as_then (λ f. ended_below k) (λ f. report k aborted_report) m u v ends told) closed

-- ---- what monitors read

-- a machine of which a shoen has another control stream, and which has told this
abbrev pub with_controlled : ℕ → Cell CellName → Machine → Machine → Machine
with_controlled k x n m = record (having_shoens (changed k (controlled x) m.shoens.shoens) m) { told = n.told }

pub same_held : (k : ℕ) (x : Cell CellName) (m n : Machine) → Becomes (with_controlled k x n m) n → n.store.held ≡ m.store.held
same_held k x m n b = ap (λ (y : Machine). y.store.held) b.is

controls : (m n : Machine) (k : ℕ) (x : Cell CellName) → Becomes (with_controlled k x n m) n → TurnsAs (λ f. with_control k (meaning f m.store.held x)) m n
controls m n k x b =
    let h = m.store.held in
    let j = rw b.is at b.machine in
    rw b.is (record {
      turns = λ ms. record {
        inside = j.inside;
        states = λ f knows s. changes s (meaning f h) (h.variables - 1) (made m) k (controlled x) (λ y. record y { control = meaning f h x }) (λ y. refl);
      };
      machine = j;
      named = record { name = refl; spelled = refl };
    })

-- a message, and what is left of the stream
pub told : (m n u : Machine) (k : ℕ) (message : Message) (x : Cell CellName) → Becomes (with_controlled k x n m) n → TurnsAs (λ f. obeyed k message) n u → TurnsAs (λ f. heard k (tells message (meaning f m.store.held x))) m u
told m n u k message x b p = as_then (λ f. with_control k (meaning f m.store.held x)) (λ f. obeyed k message) m n u (controls m n k x b) p

-- another element, and what is left of the stream
pub told_other : (m n u : Machine) (k : ℕ) (y x : Cell CellName) → Becomes (with_controlled k x n m) n → TurnsAs (λ f. report k (exception illegal_input (meaning f n.store.held y))) n u →
    TurnsAs (λ f. heard k (tells_other (meaning f m.store.held y) (meaning f m.store.held x))) m u
told_other m n u k y x b p =
    let h = m.store.held in
    let P : Held CellName → Type 0 = λ l. TurnsAs (λ f. report k (exception illegal_input (meaning f l y))) n u in
    as_then (λ f. with_control k (meaning f h x)) (λ f. report k (exception illegal_input (meaning f h y))) m n u (controls m n k x b) (subst P (same_held k x m n b) p)

-- what is no stream
pub broken_off : (m n u : Machine) (k : ℕ) (y : Cell CellName) → Becomes (having_goals (filter (λ g. not (is_monitor_of k g)) m.goals.goals) m) n → TurnsAs (λ f. report k (exception illegal_input (meaning f n.store.held y))) n u →
    TurnsAs (λ f. heard k (breaks_off (meaning f m.store.held y))) m u
broken_off m n u k y b p =
    let h = m.store.held in
    let P : Held CellName → Type 0 = λ l. TurnsAs (λ f. report k (exception illegal_input (meaning f l y))) n u in
    as_then (λ f. without_monitor k) (λ f. report k (exception illegal_input (meaning f h y))) m n u (unmonitored m n k b) (subst P (ap (λ (x : Machine). x.store.held) b.is) p)
