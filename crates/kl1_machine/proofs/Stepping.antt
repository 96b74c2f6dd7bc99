-- A goal's move, or a name that is new and comes of it.
use Rattle.kl1_machine.proofs.Words.{most_names, ◌≡◌, ℕ, Bool, true, List, [], ◌∷◌, refl, sym, ap, ◌∙◌, subst, Option, None, Some, Term, variable, atom, mgu_within, mgu, State, replace_in_state, charge, after_reduction, moved, equation, unified, CellName, Qualified, Move, Goal, Spelled, Reading, meaning, aim, goal_with, worked, keeps_names, name_of, name_for, turns_then, Machine, made, TurnsAs, Making, IsMade, with_text, IsBoundLast, HoldsSpare, StepsAs, arith, Atom, with_binding, spare, settle_charged_late, settles_late, grown_made, Grown-binding, LateAs, SparesLast}
use Rattle.kl1_goals_moves.specs.declared.moves.Move.TheVariants as move
use Rattle.kl1_user_effects.specs.Works as works
use Rattle.kl1_machine.proofs.Moving.{RunsAs}
use Rattle.kl1_machine.proofs.Naming.{room_is, names_by, bound_state, Marks}

-- ---- a move by which no variable becomes a name

-- with what comes after it
pub steps_run : (a : Making) (goal : Goal CellName) (x : Qualified CellName) (m u v : Machine) → m.spelled ≡ None → RunsAs a goal x m u → TurnsAs (λ f. after_reduction goal.shoen) u v → StepsAs a goal x m v
steps_run a goal x m u v unspelled runs ends =
    let none : v.spelled ≡ None = ends.named.spelled ∙ runs.spelled ∙ unspelled in
    record {
      turns = λ ms k key last reads patches is.
          let same : last ≡ v.store.held = rw none at patches in
          let move_of : Reading → State → State = λ f s. moved (goal_with (meaning f m.store.held) goal) (aim f m.store.held x) (k f) (charge goal.shoen s) in
          rw same (turns_then ms move_of (λ f. after_reduction goal.shoen) m.store.held u.store.held v.store.held (made m) (made u) (made v) (runs.turns ms k key reads is) (ends.turns ms));
      machine = ends.machine;
      name = ends.named.name ∙ runs.name;
      last = subst (λ (o : Option Spelled). IsBoundLast o v.store.held) (sym none) tt;
      spare_last = subst (λ (o : Option Spelled). HoldsSpare o v.store.held) (sym none) tt;
      has = λ e. none;
    }

-- ---- a variable that becomes a name

variable_solved : (v : ℕ) (text : List ℕ) → mgu (equation (variable v) (atom text)) ≡ Some (record { number = v; by = atom text } ∷ [])
unfolding mgu_within
variable_solved v text = refl

-- a move has made variable `v` a name, which is its text and new to the account: whatever number the name gets, if the variable is bound to
-- it, the goal's shoen was charged, the variable was replaced, and shoens of its path have reported that they are exhausted, or have
-- terminated; the spare number stands for the name as yet
pub steps_bound : (a : Making) (goal : Goal CellName) (x : Qualified CellName) (m d e u : Machine) (v : ℕ) → Marks a goal.shoen v m d → LateAs (Some v) (λ f. settle_charged_late (Some v) goal.shoen) d e → SparesLast v e u → StepsAs a goal x m u
steps_bound a goal x m d e u v marks late spares =
    let n = goal.shoen in
    let text = a.text in
    let can = marks.can in
    let h = m.store.held in
    let k = e.store.held in
    let known = m.names.names in
    let spelled : u.spelled ≡ Some (record { variable = v; before = spares.point }) = ap (λ (y : Machine). y.spelled) spares.rest in
    let name : u.name ≡ Some text = ap (λ (y : Machine). y.name) spares.rest ∙ late.does.named.name ∙ marks.name in
    record {
      turns = λ ms j key last reads patches is_made.
          let number : (f : Reading) → works.Knows ms f → f key ≡ text = λ f knows. (let read = rw can.new at (reads marks.target marks.uses f knows) in (read can.keeps).0) in
          let is : IsMade (record a { move = move.Names marks.target }) ms m j = rw marks.uses at is_made in
          let rebinds = rw spelled at patches in
          let last_is : last ≡ with_binding k v (Atom key) = rebinds k (Atom spare) spares.marked spares.bound in
          let before = turns_then ms (λ f s. with_text text (charge n s)) (λ f. settle_charged_late (Some v) n) h d.store.held k (made m) (made d) (made e) (marks.turns ms) (late.does.turns ms) in
          let within = can.within in
          rw (last_is, spares.rest) (record {
            inside = grown_made k (with_binding k v (Atom key)) (made e) (Grown-binding k v (Atom key)) before.inside;
            states = λ f knows s.
                let S = charge n (worked f s h (made m)) in
                let g = goal_with (meaning f h) goal in
                let t = aim f h x in
                ap (after_reduction n)
                (names_by true text (meaning f h marks.target) (j f) g t S (room_is m text true marks.none can.keeps) (is f knows)
                ∙ ap (λ (r : Term). unified g t (mgu (equation r (atom text))) (with_text text S)) (can.means f)
                ∙ ap (λ o. unified g t o (with_text text S)) (variable_solved v text))
                ∙ settles_late n v text (with_text text S) (omega (arith, within))
                ∙ ap (replace_in_state v (atom text)) (before.states f knows s)
                ∙ bound_state f s k (made e) v key text (number f knows) before.inside;
          });
      machine = spares.machine;
      name =
          name
          ∙ sym (ap (λ (c : Bool). name_of None c text) can.keeps)
          ∙ sym (ap (λ (o : Option ℕ). name_of o (keeps_names (most_names m) known text) text) can.new)
          ∙ sym (ap (λ (y : Move CellName). name_for (most_names m) y known text) marks.uses);
      last =
          subst (λ (o : Option Spelled). IsBoundLast o u.store.held) (sym spelled)
          (record { before = k; constant = Atom spare; is = tt; marked = spares.marked; formed = spares.formed; within = spares.within; unbound = spares.unbound; bound = spares.bound });
      spare_last = subst (λ (o : Option Spelled). HoldsSpare o u.store.held) (sym spelled) (record { before = k; bound = spares.bound });
      has = λ none. absurd (let two : Some text ≡ None = sym name ∙ none in cc);
    }
