-- Shoens that the console lets go: who is told, and what an event has done with their places emptied.
use Rattle.kl1_machine.proofs.Words.{◌≡◌, ℕ, ◌+◌, ◌<◌, ◌≤◌, ◌==◌, ◌&&◌, ◌||◌, not, Bool, true, false, List, [], ◌∷◌, ◌++◌, length, map, take, get_or, take_more, take_all, refl, sym, ap, ap₂, ◌∙◌, arith, Vec, Option, Some, OnOk, OnErr, Result, Ok, Err, AllByRecursion, filter, list_any, list_any-append, or-true, inl, inr, cases_Bool, false≢true, eq-eqb, eqb-true, length-map, is_among, path_within, is_living, CellName, Cell, Held, IsIn, Goal, is_monitor_of, number_of, is_of_any, Shoen, Tree, has_number, AreBelow, IsShoenIn, AreShoensIn, parents_in, is_on_path_in, charged_in, is_exhausted_in, is_blocking_in, is_blocking_at, is_enabled_at, below_tells, all_then, all_of, control_at, Machine, IsMachine, Becomes, having_shoens, KeepsControl, Since, StillSince}
use Rattle.std.specs.Prelude.{option_to_list, count_by, nat_le, IsErr}
use Rattle.kl1_shoen.specs.Shoens.{emptied_below, empty_with}
use Rattle.kl1_shoen.proofs.Meaning.{any_same}
use Rattle.kl1_user_effects.proofs.Lists.{found_by}
use Rattle.kl1_machine.specs.Forgetting.{none_left, IsToldOf, AreToldOf}
use Rattle.kl1_machine.proofs.Sincing.{each_both}
use Rattle.kl1_machine.proofs.Shoens.{since_tree, since_either, becomes_so}

-- ---- who is told

-- a machine that has told these numbers
abbrev pub telling_only : Vec ℕ → Machine → Machine
telling_only v m = record m { told = v }

-- a goal that passes a test is of those that do, by its number
abbrev AmongThose : (Goal CellName → Bool) → List (Goal CellName) → Goal CellName → Type 0
AmongThose p gs g = p g ≡ true → is_among g.number (map number_of (filter p gs)) ≡ true

numbers_of : (p : Goal CellName → Bool) (gs : List (Goal CellName)) → AllByRecursion (AmongThose p gs) gs
numbers_of p [] = tt
numbers_of p (g ∷ gs) = elim (cases_Bool (p g)) [
  | inl is ↦ (
    (λ e. rw is (ap (λ b. b || is_among g.number (map number_of (filter p gs))) (eq-eqb g.number g.number refl))),
    all_then (AmongThose p gs) (AmongThose p (g ∷ gs)) (λ k among e. rw is (ap (λ b. (k.number == g.number) || b) (among e) ∙ or-true (k.number == g.number))) gs (numbers_of p gs),
  )
  | inr off ↦ (
    (λ e. absurd (false≢true (sym off ∙ e))),
    all_then (AmongThose p gs) (AmongThose p (g ∷ gs)) (λ k among e. rw off (among e)) gs (numbers_of p gs),
  )
]

-- it was among them, and more came after them
still_among : (k : ℕ) (ns more : List ℕ) → is_among k ns ≡ true → is_among k (ns ++ more) ≡ true
still_among k ns more e = list_any-append (λ i. k == i) ns more ∙ ap (λ b. b || is_among k more) e

among_more : (k : ℕ) (ns more : List ℕ) → is_among k more ≡ true → is_among k (ns ++ more) ≡ true
among_more k ns more e = list_any-append (λ i. k == i) ns more ∙ ap (λ b. is_among k ns || b) e ∙ or-true (is_among k ns)

-- the monitor of one shoen was told, if there is one
pub tells_one : (n : ℕ) (o : Option ℕ) (m : Machine) (v : Vec ℕ) → map number_of (filter (is_monitor_of n) m.goals.goals) ≡ option_to_list o → v.items ≡ m.told.items ++ option_to_list o → AreToldOf (n ∷ []) m (telling_only v m)
tells_one n o m v monitors items = record {
  before = λ k e. ap (is_among k) items ∙ still_among k m.told.items (option_to_list o) e;
  each = all_then (λ g. is_monitor_of n g ≡ true → is_among g.number (map number_of (filter (is_monitor_of n) m.goals.goals)) ≡ true) (IsToldOf (n ∷ []) (telling_only v m)) one m.goals.goals (numbers_of (is_monitor_of n) m.goals.goals);
}
  where
    one : (g : Goal CellName) → (is_monitor_of n g ≡ true → is_among g.number (map number_of (filter (is_monitor_of n) m.goals.goals)) ≡ true) → IsToldOf (n ∷ []) (telling_only v m) g
    one g among monitor of = elim (cases_Bool (g.shoen == n)) [
      | inl is ↦
          let so : is_monitor_of n g ≡ true = rw (is, monitor) in
          ap (is_among g.number) items ∙ among_more g.number m.told.items (option_to_list o) (ap (is_among g.number) (sym monitors) ∙ among so)
      | inr other ↦ let never : false ≡ true = rw other at of in absurd (false≢true never)
    ]

-- nobody was to be told as yet
pub tells_none : (m : Machine) → AreToldOf [] m m
tells_none m = record { before = λ k e. e; each = all_of (IsToldOf [] m) (λ g monitor of. absurd (false≢true of)) m.goals.goals }

-- of the shoens up to a place the monitors were told, and nothing else has changed
pub record HasTold (ns : List ℕ) (i : ℕ) (m u : Machine) : Type 0 where
  pub rest : u ≡ telling_only u.told m
  pub told : AreToldOf (take i ns) m u

pub next_told : (ns : List ℕ) (i : ℕ) (m u v : Machine) → i < length ns → HasTold ns i m u → v ≡ telling_only v.told u → AreToldOf (get_or ns i 0 ∷ []) u v → HasTold ns (i + 1) m v
next_told ns i m u v lt r rest told =
    let n = get_or ns i 0 in
    let same : u.goals.goals ≡ m.goals.goals = ap (λ (x : Machine). x.goals.goals) r.rest in
    let each : AllByRecursion (IsToldOf (n ∷ []) v) m.goals.goals = rw same at told.each in
    record {
      rest = rest ∙ ap (telling_only v.told) r.rest;
      told = record {
        before = λ k e. told.before k (r.told.before k e);
        each = each_both (IsToldOf (take i ns) u) (IsToldOf (n ∷ []) v) (IsToldOf (take (i + 1) ns) v) (λ g a b. joined g a b) m.goals.goals r.told.each each;
      };
    }
  where
    joined : (g : Goal CellName) → IsToldOf (take i ns) u g → IsToldOf (get_or ns i 0 ∷ []) v g → IsToldOf (take (i + 1) ns) v g
    joined g a b monitor of =
        let parts : (is_of_any (take i ns) g || is_of_any (get_or ns i 0 ∷ []) g) ≡ true = sym (list_any-append (λ k. g.shoen == k) (take i ns) (get_or ns i 0 ∷ [])) ∙ ap (is_among g.shoen) (sym (take_more ns i 0 lt)) ∙ of in
        elim (cases_Bool (is_of_any (take i ns) g)) [
          | inl y ↦ told.before g.number (a monitor y)
          | inr off ↦ b monitor (rw off at parts)
        ]

pub last_told : (ns : List ℕ) (i : ℕ) (m u : Machine) → length ns ≤ i → HasTold ns i m u → AreToldOf ns m u
last_told ns i m u le r = rw (take_all i ns le) at r.told

-- ---- places that are emptied

module _ (x : Cell CellName) (all : List (Shoen CellName)) (n : ℕ) where
  abbrev emptied : Shoen CellName → Shoen CellName
  emptied = emptied_below x all n

  -- its number, its parent and its allowance stay
  number_stays : (h : Shoen CellName) → (emptied h).number ≡ h.number
  number_stays h = elim (cases_Bool (not (is_living h.life) && is_on_path_in all n h.number)) [ inl y ↦ rw y | inr off ↦ rw off ]

  parent_stays : (h : Shoen CellName) → (emptied h).parent ≡ h.parent
  parent_stays h = elim (cases_Bool (not (is_living h.life) && is_on_path_in all n h.number)) [ inl y ↦ rw y | inr off ↦ rw off ]

  parents_stay : (ss : List (Shoen CellName)) → parents_in (map emptied ss) ≡ parents_in ss
  parents_stay [] = refl
  parents_stay (h ∷ hs) = ap₂ (λ (p : ℕ) (ps : List ℕ). p ∷ ps) (parent_stays h) (parents_stay hs)

  -- what each is charged
  charges_stay : (ss : List (Shoen CellName)) (work : List ℕ) (a : ℕ) → charged_in (map emptied ss) work a ≡ charged_in ss work a
  charges_stay ss work a = ap (λ (ps : List ℕ). count_by (λ w. is_among a (path_within w ps w)) work) (parents_stay ss)

  -- one that lives or is elsewhere stays
  living_stays : (h : Shoen CellName) → is_living h.life ≡ true → emptied h ≡ h
  living_stays h lives = rw lives refl

  pub stays_beside : (h : Shoen CellName) → is_on_path_in all n h.number ≡ false → emptied h ≡ h
  stays_beside h beside = elim (cases_Bool (is_living h.life)) [ inl lives ↦ living_stays h lives | inr dead ↦ rw (dead, beside) refl ]

  ended_below : (h : Shoen CellName) → is_living h.life ≡ false → is_on_path_in all n h.number ≡ true → emptied h ≡ empty_with x h
  ended_below h dead below = rw (dead, below) refl

  -- a shoen that has ended holds back what is below it, emptied or not
  ended_blocks : (ss : List (Shoen CellName)) (work : List ℕ) (h : Shoen CellName) → is_living h.life ≡ false → is_blocking_in ss work h ≡ true
  ended_blocks ss work h dead = ap (λ b. h.is_stopped || not b || is_exhausted_in ss work h) dead ∙ ap (λ b. b || is_exhausted_in ss work h) (or-true h.is_stopped)

  as_charged : (ss : List (Shoen CellName)) (work : List ℕ) (h : Shoen CellName) → emptied h ≡ h → is_blocking_in (map emptied ss) work (emptied h) ≡ is_blocking_in ss work h
  as_charged ss work h same = ap (is_blocking_in (map emptied ss) work) same ∙ ap (λ c. h.is_stopped || not (is_living h.life) || nat_le h.allowance c) (charges_stay ss work h.number)

  blocks_still : (ss : List (Shoen CellName)) (work : List ℕ) (h : Shoen CellName) → is_blocking_in (map emptied ss) work (emptied h) ≡ is_blocking_in ss work h
  blocks_still ss work h = elim (cases_Bool (is_living h.life)) [
    | inl lives ↦ as_charged ss work h (living_stays h lives)
    | inr dead ↦ elim (cases_Bool (is_on_path_in all n h.number)) [
      | inl below ↦ ap (is_blocking_in (map emptied ss) work) (ended_below h dead below) ∙ sym (ended_blocks ss work h dead)
      | inr beside ↦ as_charged ss work h (stays_beside h beside)
    ]
  ]

  holds_still : (ss : List (Shoen CellName)) (work : List ℕ) (a : ℕ) → is_blocking_at (map emptied ss) work a ≡ is_blocking_at ss work a
  holds_still ss work a = found_by emptied (has_number a) (is_blocking_in (map emptied ss) work) (has_number a) (is_blocking_in ss work) (λ h. ap (λ (k : ℕ). k == a) (number_stays h)) (λ h. blocks_still ss work h) ss

  -- goals may step as before
  pub emptied_flags : (ss : List (Shoen CellName)) (work : List ℕ) (k : ℕ) → is_enabled_at (map emptied ss) work k ≡ is_enabled_at ss work k
  emptied_flags ss work k =
      ap (λ (ps : List ℕ). not (list_any (is_blocking_at (map emptied ss) work) (path_within k ps k))) (parents_stay ss)
      ∙ ap (λ b. not b) (any_same (is_blocking_at (map emptied ss) work) (is_blocking_at ss work) (holds_still ss work) (path_within k (parents_in ss) k))

  -- a shoen elsewhere has the control stream that it had
  pub emptied_beside : (k : ℕ) → is_on_path_in all n k ≡ false → (ss : List (Shoen CellName)) → control_at (map emptied ss) k ≡ control_at ss k
  emptied_beside k beside [] = refl
  emptied_beside k beside (h ∷ hs) = elim (cases_Bool (h.number == k)) [
    | inl is ↦
        let here : is_on_path_in all n h.number ≡ false = ap (is_on_path_in all n) (eqb-true h.number k is) ∙ beside in
        rw (number_stays h, is) (ap (λ (y : Shoen CellName). Some y.control) (stays_beside h here))
    | inr other ↦ rw (number_stays h, other) (emptied_beside k beside hs)
  ]

  -- cells are the store's
  empties_in : (h : Held CellName) → IsIn h x → (ss : List (Shoen CellName)) → AreShoensIn h ss → AreShoensIn h (map emptied ss)
  empties_in h inside [] a = tt
  empties_in h inside (s ∷ ss) a = (one, empties_in h inside ss a.1)
    where
      one : IsShoenIn h (emptied s)
      one = elim (cases_Bool (not (is_living s.life) && is_on_path_in all n s.number)) [
        | inl y ↦ rw y (record { control = inside; tail = inside; origin = tt; low = omega arith; high = omega arith })
        | inr off ↦ rw off a.0
      ]

-- ---- what is so when a shoen was let go

-- the shoens of a machine, those emptied that have ended and are shoen `n` or below it
abbrev pub left_after : ℕ → Machine → List (Shoen CellName)
left_after n m = map (emptied_below none_left m.shoens.shoens n) m.shoens.shoens

-- monitors that aren't told have the control streams before them that they had
emptied_controls : (b m : Machine) (v : Vec ℕ) (n : ℕ) (below : List ℕ) → AreBelow m.shoens.shoens n below → IsMachine m → AreToldOf below m (telling_only v m) → AllByRecursion (KeepsControl b m) m.goals.goals →
    AllByRecursion (KeepsControl b (telling_only v (having_shoens (left_after n m) m))) m.goals.goals
emptied_controls b m v n below are i told a =
    each_both (λ g. (is_on_path_in m.shoens.shoens n g.shoen ≡ is_of_any below g) × IsToldOf below (telling_only v m) g) (KeepsControl b m) (KeepsControl b (telling_only v (having_shoens (left_after n m) m))) (λ g both k. one g both.0 both.1 k) m.goals.goals
    (each_both (λ g. is_on_path_in m.shoens.shoens n g.shoen ≡ is_of_any below g) (IsToldOf below (telling_only v m)) (λ g. (is_on_path_in m.shoens.shoens n g.shoen ≡ is_of_any below g) × IsToldOf below (telling_only v m) g) (λ g p q. (p, q)) m.goals.goals (below_tells n m.shoens.shoens below m.goals.goals are i.inside.owned) told.each) a
  where
    one : (g : Goal CellName) → is_on_path_in m.shoens.shoens n g.shoen ≡ is_of_any below g → IsToldOf below (telling_only v m) g → KeepsControl b m g → KeepsControl b (telling_only v (having_shoens (left_after n m) m)) g
    one g path tells k le monitor untold = elim (cases_Bool (is_of_any below g)) [
      | inl of ↦ absurd (false≢true (sym untold ∙ tells monitor of))
      | inr beside ↦ elim (cases_Bool (is_among g.number m.told.items)) [
        | inl was ↦ absurd (false≢true (sym untold ∙ told.before g.number was))
        | inr off ↦ emptied_beside none_left m.shoens.shoens n g.shoen (path ∙ beside) m.shoens.shoens ∙ k le monitor off
      ]
    ]

pub since_emptied : (b m : Machine) (v : Vec ℕ) (n : ℕ) (below : List ℕ) → AreBelow m.shoens.shoens n below → IsMachine m → AreToldOf below m (telling_only v m) → Since b m → Since b (record (having_shoens (left_after n m) m) { shifts = m.shifts; told = v })
since_emptied b m v n below are i told s =
    let hs = left_after n m in
    let same = length-map m.shoens.shoens (emptied_below none_left m.shoens.shoens n) in
    since_tree b m hs m.shoens.room m.goals.shoens m.shifts v (omega (arith, same))
    (emptied_controls b m v n below are i told s.controls)
    (λ e. (e, λ k le. emptied_flags none_left m.shoens.shoens n m.shoens.shoens m.shoens.work k)) s

-- a tree of which only the shoens are others
abbrev with_emptied : ℕ → Machine → Tree CellName
with_emptied n m = record m.shoens { shoens = left_after n m }

-- what is left of a machine, if memory isn't refused
pub emptied_becomes : {T E : Type 0} (r : Result T E) (m u : Machine) (t : Tree CellName) (n : ℕ) → IsMachine m → u ≡ telling_only u.told m → OnOk r (t ≡ record u.shoens { shoens = map (emptied_below none_left u.shoens.shoens n) u.shoens.shoens }) →
    OnOk r (Becomes (record (having_shoens (left_after n m) m) { told = u.told }) (record u { shoens = t }))
emptied_becomes r m u t n i rest =
    λ ok. let trees : u.shoens ≡ m.shoens = ap (λ (x : Machine). x.shoens) rest in
    rw rest (becomes_so r m t (left_after n m) m.shifts u.told (empties_in none_left m.shoens.shoens n m.store.held tt m.shoens.shoens i.inside.shoens) (length-map m.shoens.shoens (emptied_below none_left m.shoens.shoens n)) i (rw trees at ok))

-- and what an event has done
pub emptied_since : {T E : Type 0} (r : Result T E) (b m u : Machine) (t : Tree CellName) (n : ℕ) (below : List ℕ) → AreBelow m.shoens.shoens n below → IsMachine m → u ≡ telling_only u.told m → AreToldOf below m u →
    OnOk r (t ≡ record u.shoens { shoens = map (emptied_below none_left u.shoens.shoens n) u.shoens.shoens }) → OnErr r (t ≡ u.shoens) → Since b m → StillSince r b (record u { shoens = t })
emptied_since r b m u t n below are i rest told ok err s =
    let trees : u.shoens ≡ m.shoens = ap (λ (x : Machine). x.shoens) rest in
    rw rest (since_either r b m t (left_after n m) m.shifts u.told (rw trees at ok) (rw trees at err) (λ q. since_emptied b m u.told n below are i (record { before = told.before; each = told.each }) q) s)

-- monitors were told, and memory was refused
pub told_refused : {T E : Type 0} (r : Result T E) (b m u : Machine) → IsErr r → u ≡ telling_only u.told m → Since b m → StillSince r b u
told_refused (Ok x) b m u refused rest s = absurd (false≢true refused)
told_refused (Err e) b m u refused rest s = rw rest (record { grown = s.keeps.grown; trail = s.keeps.trail })
