-- What changes of shoens leave since an event began.
use Rattle.kl1_shoen.specs.Changes.{reports_left}
use Rattle.kl1_machine.proofs.Words.{rules, ◌≡◌, ℕ, ◌+◌, ◌-◌, ◌≤◌, ◌==◌, ◌||◌, Bool, true, false, List, [], ◌∷◌, ◌++◌, length, refl, sym, ap, ◌∙◌, arith, Vec, Option, Some, None, option_map, OnOk, OnErr, AllByRecursion, Result, Ok, Err, eqb-false, eq-eqb, on_ok_weaker, is_among, CellName, Cell, Held, IsIn, Goal, is_monitor_of, Tabled, Shoen, Origin, Tree, changed, AreNumbered, AreLower, with_control, IsOwned, AreOwned, IsOriginIn, IsShoenIn, AreShoensIn, KeepsBy, plain, IsCalm, SameFlags, outline, KeepsOutlines, KeepsOthers, keeps_changed, keeps_more, calm_controlled, others_keep, outlines_controlled, Machine, trail_of, IsMachine, Becomes, Charges, any_reached, having_shoens, shifting_shoens, with_shoen, KeepsControl, Since, StillSince, IsOnlyMonitor, shoens_changed, changed_count, inl, inr, cases_Bool, list_any-append, or_parts, or-true, all_append, all_then, ap₂, eqb-true, false≢true, has_number, is_living, is_on_path_in, aborted_below_in, control_left, control_at, left_by, leaving, AreElsewhere, HasNoMonitor, outlines_leaving, length-map}
use Rattle.std.specs.Prelude.{map, if◌then◌else◌}
use Rattle.std.proofs.lemmas.List.{length-append}
use Rattle.kl1_goals.specs.Lists.{is_monitor}
use Rattle.kl1_model.specs.declared.rules.Rules.{Rules}
use Rattle.kl1_machine.proofs.Flags.{same_flags, charge_flags}
use Rattle.kl1_machine.proofs.Sincing.{each_both, since_counts}

-- ---- shoens that are there

as_long : (f : Shoen CellName → Shoen CellName) (xs ys : List (Shoen CellName)) → KeepsBy f xs ys → length xs ≤ length ys
as_long f [] ys p = omega arith
as_long f (x ∷ xs) [] p = absurd p
as_long f (x ∷ xs) (y ∷ ys) p = let le = as_long f xs ys p.1 in omega (arith, le)

-- shoens are in order, and reductions were done in them
pub record IsTree (t : Tree CellName) : Type 0 where
  pub numbered : AreNumbered 0 t.shoens
  pub lower : AreLower t.shoens
  pub worked : AllByRecursion (λ w. w ≤ length t.shoens) t.work

-- ---- what a change leaves

-- a machine with these shoens, which has told these numbers
abbrev telling : List (Shoen CellName) → Vec ℕ → Machine → Machine
telling hs v m = record m { shoens = record m.shoens { shoens = hs }; told = v }

control_kept : (b m : Machine) (hs : List (Shoen CellName)) (g : Goal CellName) → KeepsOthers 0 m.shoens.shoens hs → IsOwned (length m.shoens.shoens) g → KeepsControl b m g → KeepsControl b (having_shoens hs m) g
control_kept b m hs g others own k le monitor told =
    let high = own.high in
    let low = own.low in
    others g.shoen low (omega (arith, high)) (λ e. omega (arith, e, low)) ∙ k le monitor told

-- monitors have the control streams before them that they had
pub controls_kept : (b m : Machine) (hs : List (Shoen CellName)) → AreNumbered 0 m.shoens.shoens → IsMachine m → KeepsOutlines 0 m.shoens.shoens hs → AllByRecursion (KeepsControl b m) m.goals.goals → AllByRecursion (KeepsControl b (having_shoens hs m)) m.goals.goals
controls_kept b m hs numbered i p a =
    each_both (IsOwned (length m.shoens.shoens)) (KeepsControl b m) (KeepsControl b (having_shoens hs m)) (λ g own k. control_kept b m hs g (others_keep 0 m.shoens.shoens hs numbered p) own k) m.goals.goals i.inside.owned a

-- goals may step as before
flags_then : (b m : Machine) (t : Tree CellName) (shifts : Bool) → (shifts ≡ false → (m.shifts ≡ false) × SameFlags m.shoens t) → Since b m → shifts ≡ false → SameFlags b.shoens t
flags_then b m t shifts f s e k le = let more = s.shoens in (f e).1 k (omega (arith, le, more)) ∙ s.flags (f e).0 k le

-- a machine of which only shoens are others, how many the table of goals knows, what is noted of them, and who is told
pub since_tree : (b m : Machine) (hs : List (Shoen CellName)) (room known : ℕ) (shifts : Bool) (v : Vec ℕ) → length m.shoens.shoens ≤ length hs → AllByRecursion (KeepsControl b (telling hs v m)) m.goals.goals → (shifts ≡ false → (m.shifts ≡ false) × SameFlags m.shoens (record m.shoens { shoens = hs })) → Since b m →
    Since b (record m { shoens = record m.shoens { shoens = hs; room = room }; goals = record m.goals { shoens = known }; shifts = shifts; told = v })
since_tree b m hs room known shifts v more controls flags s = record {
  keeps = record { grown = s.keeps.grown; trail = s.keeps.trail };
  hooks = s.hooks;
  come = record { left = s.come.left; added = s.come.added; goals = s.come.goals; above = s.come.above; last = s.come.last };
  shoens = let le = s.shoens in omega (arith, more, le);
  controls = controls;
  flags = flags_then b m (record m.shoens { shoens = hs }) shifts flags s;
  work = s.work;
}

-- if control streams stay, and goals may step as before, unless that is to be looked at
since_left : (b m : Machine) (hs : List (Shoen CellName)) (shifts : Bool) → IsTree m.shoens → IsMachine m → KeepsOutlines 0 m.shoens.shoens hs → (shifts ≡ false → (m.shifts ≡ false) × SameFlags m.shoens (record m.shoens { shoens = hs })) → Since b m →
    Since b (record (having_shoens hs m) { shifts = shifts })
since_left b m hs shifts tree i outlines flags s =
    since_tree b m hs m.shoens.room m.goals.shoens shifts m.told (as_long (outline 0) m.shoens.shoens hs outlines)
    (controls_kept b m hs tree.numbered i outlines s.controls) flags s

-- ---- what a change of one shoen leaves

-- a change of one shoen by which its number, its control stream and all by which goals may step stay
pub record IsQuiet (f : Shoen CellName → Shoen CellName) : Type 0 where
  pub outlines : (h : Shoen CellName) → outline 0 (f h) ≡ outline 0 h
  pub plains : (h : Shoen CellName) → plain (f h) ≡ plain h

-- a tree of which only the shoens are others
abbrev with_shoens : List (Shoen CellName) → Tree CellName → Tree CellName
with_shoens hs t = record t { shoens = hs }

quiet_left : (b m : Machine) (n : ℕ) (f : Shoen CellName → Shoen CellName) → IsQuiet f → IsTree m.shoens → IsMachine m → Since b m → Since b (having_shoens (changed n f m.shoens.shoens) m)
quiet_left b m n f q tree i =
    let u = with_shoens (changed n f m.shoens.shoens) m.shoens in
    let calm : IsCalm m.shoens u = record { shoens = keeps_changed plain f n m.shoens.shoens q.plains; work = refl } in
    since_left b m (changed n f m.shoens.shoens) m.shifts tree i (keeps_changed (outline 0) f n m.shoens.shoens q.outlines) (λ e. (e, same_flags m.shoens u tree.numbered tree.lower tree.worked calm))

-- if only shoens are others, and what is noted of them, or the tree is the same since memory was refused
pub since_either : {T E : Type 0} (r : Result T E) (b m : Machine) (t : Tree CellName) (hs : List (Shoen CellName)) (shifts : Bool) (v : Vec ℕ) → OnOk r (t ≡ with_shoens hs m.shoens) → OnErr r (t ≡ m.shoens) → (Since b m → Since b (record (having_shoens hs m) { shifts = shifts; told = v })) → Since b m →
    StillSince r b (record m { shoens = t; shifts = shifts; told = v })
since_either (Ok x) b m t hs shifts v ok err so s = let is : t ≡ with_shoens hs m.shoens = ok in rw is (so s)
since_either (Err x) b m t hs shifts v ok is so s = record { grown = s.keeps.grown; trail = ap (λ (u : Tree CellName). let z : Machine = record m { shoens = u } in trail_of z) is ∙ s.keeps.trail }

-- ---- that it is a machine

pub tree_machine : (m : Machine) (hs : List (Shoen CellName)) → AreShoensIn m.store.held hs → length hs ≡ length m.shoens.shoens → IsMachine m → IsMachine (having_shoens hs m)
tree_machine m hs inside same i =
    let w = i.inside in
    record { inside = record { some = w.some; goals = w.goals; shoens = inside; owned = rw same w.owned }; last = i.last; placed = i.placed; known = i.known ∙ sym same }

-- a change of one shoen by which its cells, its number and its control stream stay
pub record IsShift (f : Shoen CellName → Shoen CellName) : Type 0 where
  pub inside : (h : Held CellName) (s : Shoen CellName) → IsShoenIn h s → IsShoenIn h (f s)
  pub outlines : (s : Shoen CellName) → outline 0 (f s) ≡ outline 0 s

-- only shoens are others, and what is noted of them
pub becomes_so : {T E : Type 0} (r : Result T E) (m : Machine) (t : Tree CellName) (hs : List (Shoen CellName)) (shifts : Bool) (v : Vec ℕ) → AreShoensIn m.store.held hs → length hs ≡ length m.shoens.shoens → IsMachine m → OnOk r (t ≡ with_shoens hs m.shoens) →
    OnOk r (Becomes (record (having_shoens hs m) { shifts = shifts; told = v }) (record m { shoens = t; shifts = shifts; told = v }))
becomes_so r m t hs shifts v inside same i =
    let j = tree_machine m hs inside same i in
    on_ok_weaker r (λ (is : t ≡ with_shoens hs m.shoens). rw is (record { is = refl; machine = record { inside = j.inside; last = j.last; placed = j.placed; known = j.known } }))

-- one shoen that changes so
pub shifts_one : {T E : Type 0} (r : Result T E) (m : Machine) (t : Tree CellName) (n : ℕ) (f : Shoen CellName → Shoen CellName) → IsShift f → IsMachine m → OnOk r (t ≡ with_shoens (changed n f m.shoens.shoens) m.shoens) → OnOk r (Becomes (shifting_shoens (changed n f m.shoens.shoens) m) (record m { shoens = t; shifts = true }))
shifts_one r m t n f q i = becomes_so r m t (changed n f m.shoens.shoens) true m.told (shoens_changed m.store.held n f (q.inside m.store.held) m.shoens.shoens i.inside.shoens) (changed_count n f m.shoens.shoens) i

-- what an event has done, with any change by which control streams stay, if goals are to be looked at
pub since_shifting : {T E : Type 0} (r : Result T E) (b m : Machine) (t : Tree CellName) (hs : List (Shoen CellName)) → KeepsOutlines 0 m.shoens.shoens hs → IsTree m.shoens → IsMachine m → OnOk r (t ≡ with_shoens hs m.shoens) → OnErr r (t ≡ m.shoens) → Since b m → StillSince r b (record m { shoens = t; shifts = true })
since_shifting r b m t hs p tree i ok err =
    since_either r b m t hs true m.told ok err (since_left b m hs true tree i p (λ e. absurd (cc)))

pub since_one : {T E : Type 0} (r : Result T E) (b m : Machine) (t : Tree CellName) (n : ℕ) (f : Shoen CellName → Shoen CellName) → IsShift f → IsTree m.shoens → IsMachine m → OnOk r (t ≡ with_shoens (changed n f m.shoens.shoens) m.shoens) → OnErr r (t ≡ m.shoens) → Since b m → StillSince r b (record m { shoens = t; shifts = true })
since_one r b m t n f q tree i = since_shifting r b m t (changed n f m.shoens.shoens) (keeps_changed (outline 0) f n m.shoens.shoens q.outlines) tree i

-- one shoen that changes so that goals may step as before
pub since_quiet : {T E : Type 0} (r : Result T E) (b m : Machine) (t : Tree CellName) (n : ℕ) (f : Shoen CellName → Shoen CellName) → IsQuiet f → IsTree m.shoens → IsMachine m → OnOk r (t ≡ with_shoens (changed n f m.shoens.shoens) m.shoens) → OnErr r (t ≡ m.shoens) → Since b m → StillSince r b (record m { shoens = t })
since_quiet r b m t n f q tree i ok err =
    since_either r b m t (changed n f m.shoens.shoens) m.shifts m.told ok err (quiet_left b m n f q tree i)

-- ---- what is left of control streams

-- a monitor has the control stream before it that it had, with these shoens
abbrev KeepsBefore : List (Shoen CellName) → Machine → Goal CellName → Type 0
KeepsBefore hs m g = is_monitor g ≡ true → control_at hs g.shoen ≡ control_at m.shoens.shoens g.shoen

-- if all monitors that are there have, and goals may step as before, unless that is to be looked at
since_before : {T E : Type 0} (r : Result T E) (b m : Machine) (t : Tree CellName) (hs : List (Shoen CellName)) (shifts : Bool) → length hs ≡ length m.shoens.shoens → AllByRecursion (KeepsBefore hs m) m.goals.goals →
    (shifts ≡ false → (m.shifts ≡ false) × SameFlags m.shoens (with_shoens hs m.shoens)) → OnOk r (t ≡ with_shoens hs m.shoens) → OnErr r (t ≡ m.shoens) → Since b m → StillSince r b (record m { shoens = t; shifts = shifts })
since_before r b m t hs shifts same before flags ok err =
    since_either r b m t hs shifts m.told ok err
    (λ s. since_tree b m hs m.shoens.room m.goals.shoens shifts m.told (omega (arith, same))
    (each_both (KeepsBefore hs m) (KeepsControl b m) (KeepsControl b (having_shoens hs m)) (λ g stays k le monitor told. stays monitor ∙ k le monitor told) m.goals.goals before s.controls) flags s)

-- a shoen without a monitor leaves what is left of its control stream
left_before : (m : Machine) (n : ℕ) → AreNumbered 0 m.shoens.shoens → (gs : List (Goal CellName)) → AreOwned (length m.shoens.shoens) gs → HasNoMonitor n gs → AllByRecursion (KeepsBefore (changed n (leaving m.rules) m.shoens.shoens) m) gs
left_before m n numbered [] own none = tt
left_before m n numbered (g ∷ gs) own none = (one, left_before m n numbered gs own.1 none.1)
  where
    one : KeepsBefore (changed n (leaving m.rules) m.shoens.shoens) m g
    one monitor = elim (cases_Bool (g.shoen == n)) [
      | inl e ↦ let no : true ≡ false = rw (e, monitor) at none.0 in absurd (false≢true (sym no))
      | inr e ↦
          let low = own.0.low in
          let high = own.0.high in
          others_keep n m.shoens.shoens (changed n (leaving m.rules) m.shoens.shoens) numbered (outlines_leaving m.rules n m.shoens.shoens) g.shoen low (omega (arith, high)) (eqb-false g.shoen n e)
    ]

pub since_leaves : {T E : Type 0} (r : Result T E) (b m : Machine) (t : Tree CellName) (n : ℕ) → HasNoMonitor n m.goals.goals → IsTree m.shoens → IsMachine m → OnOk r (t ≡ with_shoens (changed n (leaving m.rules) m.shoens.shoens) m.shoens) → OnErr r (t ≡ m.shoens) → Since b m →
    StillSince r b (record m { shoens = t })
since_leaves r b m t n none tree i ok err =
    let hs = changed n (leaving m.rules) m.shoens.shoens in
    let u = with_shoens hs m.shoens in
    let calm : IsCalm m.shoens u = record { shoens = keeps_changed plain (leaving m.rules) n m.shoens.shoens (λ h. refl); work = refl } in
    since_before r b m t hs m.shifts (changed_count n (leaving m.rules) m.shoens.shoens) (left_before m n tree.numbered m.goals.goals i.inside.owned none)
    (λ e. (e, same_flags m.shoens u tree.numbered tree.lower tree.worked calm)) ok err

-- by rules by which nothing is let go all of it stays
pub unleaving : (rules : Rules) (n : ℕ) → left_by rules ≡ None → (ss : List (Shoen CellName)) → changed n (leaving rules) ss ≡ ss
unleaving rules n none [] = refl
unleaving rules n none (h ∷ hs) = ap₂ (λ (x : Shoen CellName) (xs : List (Shoen CellName)). x ∷ xs) one (unleaving rules n none hs)
  where
    kept : leaving rules h ≡ h
    kept = ap (λ (left : Option (Cell CellName)). let z : Shoen CellName = record h { control = control_left left h.origin h.control } in z) none

    one : (if has_number n h then leaving rules h else h) ≡ h
    one = elim (cases_Bool (has_number n h)) [ inl p ↦ rw p kept | inr p ↦ rw p ]

-- an abort changes no control stream but of shoens below the one
aborted_beside : (left : Option (Cell CellName)) (all : List (Shoen CellName)) (n k : ℕ) → is_on_path_in all n k ≡ false → (xs : List (Shoen CellName)) → control_at (map (aborted_below_in left all n) xs) k ≡ control_at xs k
aborted_beside left all n k off [] = refl
aborted_beside left all n k off (x ∷ xs) = elim (cases_Bool (is_living x.life)) [
  | inr dead ↦ rw dead (same (aborted_beside left all n k off xs))
  | inl lives ↦ rw lives (elim (cases_Bool (is_on_path_in all n x.number)) [
    | inr beside ↦ rw beside (same (aborted_beside left all n k off xs))
    | inl below ↦ rw below (elim (cases_Bool (x.number == k)) [
      | inl is ↦ absurd (false≢true (sym off ∙ ap (is_on_path_in all n) (sym (eqb-true x.number k is)) ∙ below))
      | inr other ↦ rw other (aborted_beside left all n k off xs)
    ])
  ])
]
  where
    same : control_at (map (aborted_below_in left all n) xs) k ≡ control_at xs k → control_at (x ∷ map (aborted_below_in left all n) xs) k ≡ control_at (x ∷ xs) k
    same rest = elim (cases_Bool (x.number == k)) [ inl is ↦ rw is | inr other ↦ rw other rest ]

aborted_before : (m : Machine) (left : Option (Cell CellName)) (n : ℕ) (gs : List (Goal CellName)) → AreElsewhere m.shoens.shoens n gs → AllByRecursion (KeepsBefore (map (aborted_below_in left m.shoens.shoens n) m.shoens.shoens) m) gs
aborted_before m left n gs elsewhere =
    all_then (λ g. is_on_path_in m.shoens.shoens n g.shoen ≡ false) (KeepsBefore (map (aborted_below_in left m.shoens.shoens n) m.shoens.shoens) m) (λ g off monitor. aborted_beside left m.shoens.shoens n g.shoen off m.shoens.shoens) gs elsewhere

pub since_aborts : {T E : Type 0} (r : Result T E) (b m : Machine) (t : Tree CellName) (left : Option (Cell CellName)) (n : ℕ) → AreElsewhere m.shoens.shoens n m.goals.goals → OnOk r (t ≡ with_shoens (map (aborted_below_in left m.shoens.shoens n) m.shoens.shoens) m.shoens) → OnErr r (t ≡ m.shoens) → Since b m →
    StillSince r b (record m { shoens = t; shifts = true })
since_aborts r b m t left n elsewhere ok err =
    since_before r b m t (map (aborted_below_in left m.shoens.shoens n) m.shoens.shoens) true (length-map m.shoens.shoens (aborted_below_in left m.shoens.shoens n)) (aborted_before m left n m.goals.goals elsewhere) (λ e. absurd (cc)) ok err

-- ---- another control stream

told_last : (k : ℕ) (ns : List ℕ) → is_among k (ns ++ k ∷ []) ≡ true
told_last k ns = list_any-append (λ i. k == i) ns (k ∷ []) ∙ ap (λ c. is_among k ns || (c || false)) (eq-eqb k k refl) ∙ or-true (is_among k ns)

-- a monitor was told that the control stream of its shoen is another one
record IsTold (k n : ℕ) (hs : List (Shoen CellName)) (v : Vec ℕ) (m : Machine) : Type 0 where
  others : KeepsOthers n m.shoens.shoens hs
  items : v.items ≡ m.told.items ++ k ∷ []

control_told : (b m : Machine) (hs : List (Shoen CellName)) (v : Vec ℕ) (k n : ℕ) (g : Goal CellName) → IsTold k n hs v m → IsOwned (length m.shoens.shoens) g → (is_monitor_of n g ≡ true → g.number ≡ k) → KeepsControl b m g → KeepsControl b (telling hs v m) g
control_told b m hs v k n g t own only c le monitor untold =
    let told = rw t.items at untold in
    elim (cases_Bool (g.shoen == n)) [
      | inl e ↦
          let number = only (rw (e, monitor)) in
          let no : is_among k (m.told.items ++ k ∷ []) ≡ false = rw number at told in
          absurd (let yes = told_last k m.told.items in cc)
      | inr e ↦
          let low = own.low in
          let high = own.high in
          let before = or_parts (is_among g.number m.told.items) (is_among g.number (k ∷ [])) (sym (list_any-append (λ i. g.number == i) m.told.items (k ∷ [])) ∙ told) in
          t.others g.shoen low (omega (arith, high)) (eqb-false g.shoen n e) ∙ c le monitor before.0
    ]

controls_told : (b m : Machine) (hs : List (Shoen CellName)) (v : Vec ℕ) (k n : ℕ) → IsTold k n hs v m → (gs : List (Goal CellName)) → AreOwned (length m.shoens.shoens) gs → IsOnlyMonitor k n gs → AllByRecursion (KeepsControl b m) gs → AllByRecursion (KeepsControl b (telling hs v m)) gs
controls_told b m hs v k n t [] own only c = tt
controls_told b m hs v k n t (g ∷ gs) own only c = (control_told b m hs v k n g t own.0 only.0 c.0, controls_told b m hs v k n t gs own.1 only.1 c.1)

pub since_told : (b m : Machine) (v : Vec ℕ) (k n : ℕ) (x : Cell CellName) → IsTree m.shoens → IsMachine m → IsOnlyMonitor k n m.goals.goals → v.items ≡ m.told.items ++ k ∷ [] → Since b m → Since b (record m { shoens = record m.shoens { shoens = changed n (λ h. record h { control = x }) m.shoens.shoens }; told = v })
since_told b m v k n x tree i only told s =
    let hs = changed n (λ (h : Shoen CellName). record h { control = x }) m.shoens.shoens in
    let u : Tree CellName = record m.shoens { shoens = hs } in
    let same = changed_count n (λ (h : Shoen CellName). record h { control = x }) m.shoens.shoens in
    since_tree b m hs m.shoens.room m.goals.shoens m.shifts v (omega (arith, same))
    (controls_told b m hs v k n (record { others = others_keep n m.shoens.shoens hs tree.numbered (outlines_controlled n x m.shoens u refl); items = told }) m.goals.goals i.inside.owned only s.controls)
    (λ e. (e, same_flags m.shoens u tree.numbered tree.lower tree.worked (calm_controlled n x m.shoens u refl))) s

-- ---- one shoen more

pub opened_machine : (m : Machine) (x : Shoen CellName) (room : ℕ) → IsShoenIn m.store.held x → IsMachine m → IsMachine (with_shoen x room m)
opened_machine m x room inside i =
    let w = i.inside in
    let more = length-append m.shoens.shoens (x ∷ []) in
    let known = i.known in
    record {
      inside = record {
        some = w.some;
        goals = w.goals;
        shoens = all_append (IsShoenIn m.store.held) m.shoens.shoens (x ∷ []) w.shoens (inside, tt);
        owned =
            all_then (IsOwned (length m.shoens.shoens)) (IsOwned (length (m.shoens.shoens ++ x ∷ [])))
            (λ g o. record { low = o.low; high = let high = o.high in omega (arith, high, more) }) m.goals.goals w.owned;
      };
      last = i.last;
      placed = i.placed;
      known = ap (λ n. n + 1) known ∙ sym more;
    }

pub since_opened : (b m : Machine) (x : Shoen CellName) (room : ℕ) → IsTree m.shoens → IsMachine m → Since b m → Since b (with_shoen x room m)
since_opened b m x room tree i s =
    let hs = m.shoens.shoens ++ x ∷ [] in
    let u : Tree CellName = record m.shoens { shoens = hs } in
    let more = length-append m.shoens.shoens (x ∷ []) in
    let calm : IsCalm m.shoens u = record { shoens = keeps_more plain m.shoens.shoens (x ∷ []); work = refl } in
    since_tree b m hs room (m.goals.shoens + 1) m.shifts m.told (omega (arith, more))
    (controls_kept b m hs tree.numbered i (keeps_more (outline 0) m.shoens.shoens (x ∷ [])) s.controls)
    (λ e. (e, same_flags m.shoens u tree.numbered tree.lower tree.worked calm)) s

-- ---- changes of one kind

pub origin_kept : (h : Held CellName) (o : Option (Origin CellName)) (x : Cell CellName) → IsIn h x → IsOriginIn h o → IsOriginIn h (option_map (with_control x) o)
origin_kept h None x inside i = tt
origin_kept h (Some o) x inside i = record { goal = i.goal; reports = i.reports; control = inside }

-- so is one with this left of its reports
pub origin_left : (h : Held CellName) (o : Option (Origin CellName)) (count : ℕ) (x : Cell CellName) → IsIn h x → IsOriginIn h o → IsOriginIn h (option_map (reports_left count x) o)
origin_left h None count x inside i = tt
origin_left h (Some o) count x inside i = record { goal = i.goal; reports = inside; control = i.control }

-- one shoen that has changed so that goals may step as before, and another count of reports
pub since_changed : (b m : Machine) (n reports : ℕ) (f : Shoen CellName → Shoen CellName) → IsQuiet f → IsTree m.shoens → IsMachine m → Since b m → Since b (record m { shoens = with_shoens (changed n f m.shoens.shoens) m.shoens; counts = record m.counts { reports = reports } })
since_changed b m n reports f q tree i s =
    let u = with_shoens (changed n f m.shoens.shoens) m.shoens in
    since_counts b (record m { shoens = u }) m.counts.variables m.counts.nodes reports (quiet_left b m n f q tree i s)

-- ---- room for a shoen

-- a tree made room, and took one shoen in; a table knows one more
pub record IsOpened (m : Machine) (x : Shoen CellName) (t u : Tree CellName) (r : Tabled CellName) : Type 0 where
  pub shoens : t.shoens ≡ m.shoens.shoens
  pub work : t.work ≡ m.shoens.work
  pub kept : t.kept ≡ m.shoens.kept
  pub kept_work : t.kept_work ≡ m.shoens.kept_work
  pub tree : u ≡ record t { shoens = t.shoens ++ x ∷ []; room = t.room - 1 }
  pub row : r ≡ record m.goals { shoens = r.shoens }
  pub count : r.shoens ≡ m.goals.shoens + 1

pub opened : (m : Machine) (x : Shoen CellName) (t u : Tree CellName) (r : Tabled CellName) → IsMachine m → IsShoenIn m.store.held x → IsOpened m x t u r → Becomes (with_shoen x u.room m) (record m { shoens = u; goals = r })
opened m x t u r i inside o =
    rw (o.row, o.count, o.tree, o.shoens, o.work, o.kept, o.kept_work) (record { is = refl; machine = opened_machine m x (t.room - 1) inside i })

pub since_with_shoen : (b m n : Machine) (x : Shoen CellName) (room : ℕ) → IsTree m.shoens → IsMachine m → Becomes (with_shoen x room m) n → Since b m → Since b n
since_with_shoen b m n x room tree i o s = rw o.is (since_opened b m x room tree i s)

-- ---- a charge

now_reached : (m : Machine) (t : Tree CellName) (n : ℕ) (reached : Bool) → t ≡ record m.shoens { work = n ∷ m.shoens.work } → reached ≡ any_reached n t.shoens t.work → any_reached n m.shoens.shoens (n ∷ m.shoens.work) ≡ reached
now_reached m t n reached is e = sym (e ∙ ap (λ (v : Tree CellName). any_reached n v.shoens v.work) is)

pub charges : (m : Machine) (t : Tree CellName) (n : ℕ) (reached : Bool) → IsMachine m → t ≡ record m.shoens { work = n ∷ m.shoens.work } → reached ≡ any_reached n t.shoens t.work → Charges n m (record m { shoens = t; shifts = m.shifts || reached }) reached
charges m t n reached i is e =
    let machine : IsMachine (record m { shoens = record m.shoens { work = n ∷ m.shoens.work }; shifts = m.shifts || reached }) = search rules in
    rw is (record { reached_is = now_reached m t n reached is e; is = refl; turns = λ ms. record { inside = machine.inside; states = λ f knows s. refl }; machine = machine })

pub charged_since : (b m : Machine) (t : Tree CellName) (n : ℕ) (reached : Bool) → t ≡ record m.shoens { work = n ∷ m.shoens.work } → reached ≡ any_reached n t.shoens t.work → length m.shoens.work ≤ length b.shoens.work → Since b m → Since b (record m { shoens = t; shifts = m.shifts || reached })
charged_since b m t n reached is e few s =
    let now = now_reached m t n reached is e in
    rw is (record {
      keeps = record { grown = s.keeps.grown; trail = s.keeps.trail };
      hooks = s.hooks;
      come = record { left = s.come.left; added = s.come.added; goals = s.come.goals; above = s.come.above; last = s.come.last };
      shoens = s.shoens;
      controls = s.controls;
      flags = flags_then b m (record m.shoens { work = n ∷ m.shoens.work }) (m.shifts || reached) (λ no. let p = or_parts m.shifts reached no in (p.0, charge_flags m.shoens n (now ∙ p.1))) s;
      work = omega (arith, few);
    })
