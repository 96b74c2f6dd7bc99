-- Reductions by which goals make moves.
use Rattle.kl1_machine.proofs.Words.{most_names, ◌≡◌, ℕ, ◌<◌, ◌||◌, true, List, [], ◌∷◌, ◌++◌, length, map, refl, sym, ap, ◌∙◌, subst, find, AllByRecursion, Term, atom, State, charge, after_reduction, Action, moves, moved, names, task_action, CellName, Known, number_by, Cell, Held, IsFormed, Predicate, Place, Move, MoveIn, Goal, is_other, is_enabled_at, Numbered, contents, Program, Reading, Fits, Means, meaning, task_with, goal_with, aim, IsEnabled, IsOwned, AreSmall, keeps_names, name_of, IsNewName, name_for, Knows, worked, others_read, Machine, PlannedMove, made, having_goals, IsRested, Making, ReadsText, ReadsAll, CanPublish, ReadsNew, IsNamed, StepsAs, Reschedules, Judges, CanDo, MovesBy, IsSteppable, ReadsAlike, IsAtomAt, atom_at, otherwise, otherwise_fits, otherwise_other, both_read, second_read, as_modules, fits_modules, modules_fit, same_text, inl, inr}
use Rattle.std.proofs.Common.{Option, Some, None}
use Rattle.std.proofs.lemmas.Bool.{cases_Bool}
use Rattle.std.specs.Prelude.{filter}
use Rattle.kl1_model.specs.State as model
use Rattle.kl1_model.specs.State.{fresh}
use Rattle.kl1_atoms.specs.Knowing.{option_cases}
use Rattle.kl1_model.specs.Reduction as reduction
use Rattle.kl1_goals_moves.specs.declared.moves.Move.TheVariants as made_move
use Rattle.kl1_goals.specs.Lists.{has_number}
use Rattle.kl1_machine.specs.Reducing.{Reduces}
use Rattle.kl1_machine.proofs.Planned.{found_holds, rested_judges}
use Rattle.kl1_machine.proofs.Resting.{looked_state}

-- ---- what a goal is for two readings

each_same : (t u : Means) (gs : List (Goal CellName)) → map (goal_with t) gs ≡ map (goal_with u) gs → AllByRecursion (λ g. goal_with t g ≡ goal_with u g) gs
each_same t u [] e = tt
each_same t u (g ∷ gs) e =
    let first : goal_with t g ≡ goal_with u g = cc in
    let rest : map (goal_with t) gs ≡ map (goal_with u) gs = cc in
    (first, each_same t u gs rest)

-- two readings of the names of a machine of which all read the same, and goal `n` of it
pub record ReadBoth (m : Machine) (n : ℕ) (g : Goal CellName) (f h : Reading) : Type 0 where
  pub alike : ReadsAlike m
  pub found : find (has_number n) m.goals.goals ≡ Some g
  pub first : Fits m.names.names f
  pub second : Fits m.names.names h

-- a state with nothing but modules
abbrev pub bare : Program → State
bare program = record (fresh program.rules []) { modules = contents program.loaded }

-- a goal is the same for both
pub same_goal : (program : Program) (m : Machine) (n : ℕ) (g : Goal CellName) (f h : Reading) → ReadBoth m n g f h → goal_with (meaning f m.store.held) g ≡ goal_with (meaning h m.store.held) g
same_goal program m n g f h both =
    let t = meaning f m.store.held in
    let u = meaning h m.store.held in
    let all = each_same t u m.goals.goals (ap (λ (z : State). z.goals) (both.alike f h both.first both.second (bare program))) in
    found_holds (λ k. goal_with t k ≡ goal_with u k) n m.goals.goals g all both.found

-- and it can do the same
pub same_action : (program : Program) (m : Machine) (n c : ℕ) (g : Goal CellName) (f h : Reading) → ReadBoth m n g f h → (a b : Action) → CanDo program m.store.held (made m) g c f (Some a) → CanDo program m.store.held (made m) g c h (Some b) → a ≡ b
same_action program m n c g f h both a b one two =
    let z = bare program in
    let task : task_with (meaning f m.store.held) g.task ≡ task_with (meaning h m.store.held) g.task = ap (λ (k : model.Goal). k.task) (same_goal program m n g f h both) in
    let same : Some a ≡ Some b =
    sym (one z refl)
    ∙ ap (λ (y : State). task_action y g.shoen (task_with (meaning f m.store.held) g.task) c) (both.alike f h both.first both.second z)
    ∙ ap (λ k. task_action (worked h z m.store.held (made m)) g.shoen k c) task
    ∙ two z refl in
    cc

-- ---- how a name that comes is read

move_same : (t u : Term) (x y : reduction.Move) → moves t x ≡ moves u y → x ≡ y
move_same t u x y e = cc

named_same : (x y : reduction.Move) (s t : List ℕ) (u v : Term) → x ≡ y → Some x ≡ Some (names s u) → Some y ≡ Some (names t v) → u ≡ v
named_same x y s t u v e p q = cc

-- a machine is at rest, each reading of its names reads the same of it, and goal `n` of it, which may step, makes a move by clause `c`, with
-- what the variables of a clause's head are and the text that it uses as a name
pub record IsChosen (program : Program) (m : Machine) (n c : ℕ) : Type 0 where
  pub goal : Goal CellName
  pub places : List (Place CellName)
  pub text : List ℕ
  pub planned : PlannedMove
  pub rested : IsRested program m
  pub alike : ReadsAlike m
  pub formed : IsFormed m.store.held
  pub steppable : IsSteppable m.goals.goals n c goal
  pub makes : MovesBy program m.store.held (made m) goal c places text planned

-- the move, as it is made
abbrev pub making : (program : Program) (m : Machine) (n c : ℕ) → IsChosen program m n c → Making
making program m n c p = record { predicate = p.planned.located.predicate; move = p.planned.made; places = p.places; text = p.text }

module _ (program : Program) (m : Machine) (n c : ℕ) (p : IsChosen program m n c) where
  -- it was judged by readings of the names
  judged : (f : Reading) → Fits m.names.names f → Judges program m.store.held p.goal f
  judged f fits = rested_judges program m n p.goal f p.rested p.steppable.found fits

  -- it makes the same move for these
  same_move : (f h : Reading) → Fits m.names.names f → Fits m.names.names h → p.makes.move f ≡ p.makes.move h
  same_move f h fits other =
      let one = aim f m.store.held p.planned.cell in
      let two = aim h m.store.held p.planned.cell in
      let q = p.makes in
      move_same one two (q.move f) (q.move h)
      (same_action program m n c p.goal f h (record { alike = p.alike; found = p.steppable.found; first = fits; second = other }) (moves one (q.move f)) (moves two (q.move h)) (q.does f (judged f fits)) (q.does h (judged h other)))

  -- a cell that it may unify with a name that is new isn't this name
  not_yet : (y : Cell CellName) (f : Reading) → p.planned.made ≡ made_move.Names y → Fits m.names.names f → number_by m.names.names p.text ≡ None → meaning f m.store.held y ≡ atom p.text → ⊥
  not_yet y f is fits none e =
      let known = m.names.names in
      let q = p.makes in
      let text = p.text in
      let h = otherwise known text f in
      let other : Fits known h = otherwise_fits known text f none fits in
      let uses = rw is at q.runnable.inside in
      let at : IsAtomAt m.store.held y f text = atom_at f m.store.held y text p.formed uses.1 e in
      let one = rw is at (q.is f (judged f fits)) in
      let two = rw is at (q.is h (judged h other)) in
      let same : meaning f m.store.held y ≡ meaning h m.store.held y = named_same (q.move f) (q.move h) text text (meaning f m.store.held y) (meaning h m.store.held y) (same_move f h fits other) one two in
      otherwise_other known text f at.number at.read (same_text (h at.number) text (sym (at.means h) ∙ sym same ∙ e))

  name_read : (y : Cell CellName) (f : Reading) (key : CellName) (name : Option (List ℕ)) (o : Option ℕ) → p.planned.made ≡ made_move.Names y → Fits m.names.names f → ReadsNew f key name → number_by m.names.names p.text ≡ o → name ≡ name_of o (keeps_names (most_names m) m.names.names p.text) p.text → ReadsText (most_names m) f m.store.held m.names.names p.text y key o
  name_read y f key name None made_is fits reads e is =
      λ keeps. (
        (let P : Option (List ℕ) → Type 0 = λ z. ReadsNew f key z in subst P (is ∙ ap (λ b. name_of None b p.text) keeps) reads),
        not_yet y f made_is fits e,
      )
  name_read y f key name (Some k) made_is fits reads e is = fits.texts p.text k e

  -- if the move uses a text as a name, readings of the names that an account has then read it
  names_read : (ms : List Numbered) (more : List Known) (key : CellName) (name : Option (List ℕ)) → ((f : Reading) → Knows ms f → Fits more f) → IsNamed m.names.names more name key → name ≡ name_for (most_names m) p.planned.made m.names.names p.text → ReadsAll (most_names m) p.planned.made ms m.store.held m.names.names p.text key
  names_read ms more key name fits named is y made_is f knows =
      name_read y f key name (number_by m.names.names p.text) made_is (named.fits f (fits f knows)) (named.reads f (fits f knows)) refl (is ∙ ap (λ z. name_for (most_names m) z m.names.names p.text) made_is)

-- ---- the reduction

-- the goal has been removed and has made its move, which comes to machine `u`, and goals are looked at again
pub moved_reduces : (program : Program) (m u v : Machine) (n c : ℕ) (p : IsChosen program m n c) → StepsAs (making program m n c p) p.goal p.planned.cell (having_goals (filter (is_other p.goal.number) m.goals.goals) m) u → Reschedules u v → Reduces program n c m v
moved_reduces program m u v n c p steps r = record {
  goal = p.goal;
  steppable = p.steppable;
  action = λ f. moves (aim f m.store.held p.planned.cell) (p.makes.move f);
  does = p.makes.does;
  acts = λ more key last named patches f fits s.
      let g = p.goal in
      let ms = program.loaded ++ as_modules more in
      let fit : (q : Reading) → Knows ms q → Fits more q = λ q k. modules_fit q more k.reads (second_read q program.loaded (as_modules more) k.rows) in
      let knows : Knows ms f = record { reads = fits.reads; rows = both_read f program.loaded (as_modules more) (p.rested.rows f (named.fits f fits)) (fits_modules f more fits) } in
      let name : v.name ≡ name_for (most_names m) p.planned.made m.names.names p.text = ap (λ (x : Machine). x.name) r.rest ∙ steps.name in
      let spelled : v.spelled ≡ u.spelled = ap (λ (x : Machine). x.spelled) r.rest in
      let so = rw (spelled, r.held) at patches in
      let reads = names_read program m n c p ms more key v.name fit named name in
      let change : State → State = λ z. after_reduction g.shoen (moved (goal_with (meaning f m.store.held) g) (aim f m.store.held p.planned.cell) (p.makes.move f) (charge g.shoen z)) in
      ap (λ (gs : List model.Goal). change (let z : State = record (worked f s m.store.held (made m)) { goals = gs } in z)) (others_read (meaning f m.store.held) g.number m.goals.goals)
      ∙ (steps.turns ms p.makes.move key last reads so (λ q k. p.makes.is q (judged program m n c p q (named.fits q (fit q k))))).states f knows s ∙ looked_state f s last u v r;
  spare_last = (let spelled : v.spelled ≡ u.spelled = ap (λ (x : Machine). x.spelled) r.rest in rw (spelled, r.held) steps.spare_last);
}

-- ---- what is asked of a step

-- the shoen of a goal that makes a move is there
pub owned_by : (program : Program) (m : Machine) (n c : ℕ) (p : IsChosen program m n c) → IsOwned (length m.shoens.shoens) p.goal
owned_by program m n c p = found_holds (IsOwned (length m.shoens.shoens)) n m.goals.goals p.goal p.rested.machine.inside.owned p.steppable.found

-- and lets its goals step
pub let_by : (program : Program) (m : Machine) (n c : ℕ) (p : IsChosen program m n c) → is_enabled_at m.shoens.shoens m.shoens.work p.goal.shoen ≡ true
let_by program m n c p =
    ap (λ b. b || is_enabled_at m.shoens.shoens m.shoens.work p.goal.shoen) (sym p.makes.runnable.reduces)
    ∙ sym (found_holds (IsEnabled m.shoens.shoens m.shoens.work) n m.goals.goals p.goal p.rested.enabled p.steppable.found)
    ∙ p.steppable.enabled

-- ---- the name of a step can be published

-- a text that a move uses as a name is new, if it is to be published
is_new : (most : ℕ) (h : Held CellName) (p : Predicate CellName) (places : List (Place CellName)) (text : List ℕ) (m : Move CellName) (known : List Known) → MoveIn h p places text (Some m) → IsNewName most known (name_for most m known text)
is_new most h p places text (made_move.Names x) known i = elim (option_cases (number_by known text)) [
  | inl new ↦ elim (cases_Bool (keeps_names most known text)) [ inl keeps ↦ rw (new, keeps) (i.0, (new, keeps)) | inr full ↦ rw (new, full) tt ]
  | inr old ↦ rw old.1 tt
]
is_new most h p places text y known i = tt

-- the machine can publish the name of a step, if there is one
pub stepped_publishes : (program : Program) (m u v : Machine) (n c : ℕ) (p : IsChosen program m n c) → AreSmall m.names.names → 0 < m.names.room → u.names ≡ m.names → u.rules ≡ m.rules →
    StepsAs (making program m n c p) p.goal p.planned.cell (having_goals (filter (is_other p.goal.number) m.goals.goals) m) u → Reschedules u v → CanPublish v
stepped_publishes program m u v n c p small room same ruled steps r =
    let x = p.planned.made in
    let known = m.names.names in
    let same_names : v.names ≡ m.names = ap (λ (x : Machine). x.names) r.rest ∙ same in
    let rules_same : v.rules ≡ m.rules = ap (λ (x : Machine). x.rules) r.rest ∙ ruled in
    let name : v.name ≡ name_for (most_names m) x known p.text = ap (λ (x : Machine). x.name) r.rest ∙ steps.name in
    let spelled : v.spelled ≡ u.spelled = ap (λ (x : Machine). x.spelled) r.rest in
    let new : IsNewName (most_names m) known (name_for (most_names m) x known p.text) = is_new (most_names m) m.store.held p.planned.located.predicate p.places p.text x known p.makes.runnable.inside in
    record {
      name = rw (rules_same, same_names, name) new;
      last = rw (spelled, r.held) steps.last;
      has = λ e. spelled ∙ steps.has (sym (ap (λ (x : Machine). x.name) r.rest) ∙ e);
      small = rw same_names small;
      room = rw same_names room;
    }
