-- Names that goals make.
use Rattle.kl1_machine.proofs.Words.{◌≡◌, ℕ, suc, ◌<◌, ◌-◌, ◌||◌, not, Bool, true, false, if◌then◌else◌, List, [], ◌∷◌, ◌++◌, length, refl, sym, ap, ◌∙◌, arith, ℤ, Option, None, Some, nat_le, IsTrue, bytes_eq, bytes_eq-Decides, limits_of, most_names, Failure, Exhaustion, is_text, Term, Terms, integer, atom, structure, sizes, replace, Replacement, Equation, highest_among, mgu_within, mgu, remains, conflicts, equations_size, after, State, replace_in_state, with_name, charge, exhaustion, failure, moved, equation, names, raises, unifies, or_exhaustion, unified, named_by, CellName, Known, number_by, no_names, Cell, Variable, Atom, Held, IsIn, IsWalked, is_bound, with_binding, IsFormed, term_of-unbound, term_of-Atom, term_of-binding, Predicate, Place, Move, Reading, reading_of, reading_fits, meaning, texts_of, Made, worked, IsMadeIn, names_with, keeps_names, name_of, name_for, StaysFree, replaced_state, base, rereads, turns_then, unbound_by, known_named, new_named, named_turns, Machine, Named, made, IsMachine, Turns, Charges, Making, CanBecome, IsNameless, with_text, StandsFor, Spells, UsesName, IsFree, inl, inr}
use Rattle.std.proofs.lemmas.Bool.{cases_Bool}
use Rattle.kl1_model.specs.State.{Goal}
use Rattle.kl1_atoms.specs.Knowing.{option_cases}
use Rattle.kl1_stream.proofs.Tails.{BreaksOff, off_is}
use Rattle.kl1_model.specs.Reduction as model
use Rattle.kl1_goals_moves.specs.declared.moves.Move.TheVariants as move
use Rattle.kl1_user_effects.specs.Works as works
use Rattle.kl1_machine.proofs.Sincing.{named_machine}

-- ---- which variable becomes a name

-- what a cell was dereferenced to
pub record Walks (h : Held CellName) (a x : Cell CellName) : Type 0 where
  pub inside : IsIn h x
  pub walked : IsWalked h x
  pub means : (f : Reading) → meaning f h x ≡ meaning f h a

-- a cell that is no variable breaks a stream
pub breaks_unless : (x : Cell CellName) → ((v : ℕ) → x ≡ Variable v → ⊥) → BreaksOff x
breaks_unless (Variable v) never = absurd (never v refl)
breaks_unless x never = tt

integer_unsolved : (i : ℤ) (b : List ℕ) → mgu (equation (integer i) (atom b)) ≡ None
unfolding mgu_within
integer_unsolved i b = refl

structure_unsolved : (g : List ℕ) (ts : Terms) (b : List ℕ) → mgu (equation (structure g ts) (atom b)) ≡ None
unfolding mgu_within
structure_unsolved g ts b =
    let es : List Equation = equation (structure g ts) (atom b) in
    let count : equations_size es ≡ suc (suc (sizes ts)) = omega arith in
    ap (λ m. mgu_within (suc (suc (highest_among es))) m es) count

atom_unsolved : (a b : List ℕ) → (a ≡ b → ⊥) → mgu (equation (atom a) (atom b)) ≡ None
unfolding mgu_within
atom_unsolved a b other =
    let apart : bytes_eq a b ≡ false =
    elim (cases_Bool (bytes_eq a b)) [ inl same ↦ absurd (other ((bytes_eq-Decides a b).0 same)) | inr apart ↦ apart ] in
    ap (λ (c : Bool). after (mgu_within 2 1) (λ to. mgu_within 1 (equations_size to) to) (if c then remains [] else conflicts)) apart

-- an unbound variable becomes a name that is new, if the account may use it
pub variable_can : (most : ℕ) (h : Held CellName) (known : List Known) (text : List ℕ) (a : Cell CellName) (v : ℕ) → Walks h a (Variable v) → IsTrue (is_text text) → number_by known text ≡ None → keeps_names most known text ≡ true → CanBecome most h known text a v
variable_can most h known text a v to is_text new keeps =
    record { is_text = is_text; new = new; keeps = keeps; within = to.inside; unbound = to.walked; means = λ f. sym (to.means f) ∙ term_of-unbound f h v to.walked }

-- ---- moves that use names

-- the names of a machine that has made none yet
pub names_are : (m : Machine) → m.name ≡ None → (made m).names ≡ texts_of m.names.names
names_are m none = ap (names_with (texts_of m.names.names)) none

-- what is found of a move is the move
pub found_is : (m n : model.Move) (o : Option model.Move) → o ≡ Some m → o ≡ Some n → m ≡ n
found_is m n o a b = cc

-- what comes of a move that is another by a text that is another
pub used_as : (y z : Move CellName) (text bytes : List ℕ) (m n : Machine) (r : Named) → z ≡ y → text ≡ bytes → UsesName y text m n r → UsesName z bytes m n r
used_as y z text bytes m n r e same u = rw (e, ← same) u

-- by a move that uses no name no name is used
pub unnamed : (most : ℕ) (y : Move CellName) (known : List Known) (text : List ℕ) → IsNameless y → name_for most y known text ≡ None
unnamed most (move.Names a) known text never = absurd (never a refl)
unnamed most y known text never = refl

-- whether there is room for a name, as the definitions have it
pub room_is : (m : Machine) (text : List ℕ) (c : Bool) → m.name ≡ None → keeps_names (most_names m) m.names.names text ≡ c → nat_le (length (with_name (made m).names text)) (most_names m) ≡ c
room_is m text c none keeps = ap (λ (ns : List (List ℕ)). nat_le (length (with_name ns text)) (most_names m)) (names_are m none) ∙ keeps

-- what the definitions make of a text that is used as a name, if there is room for it, or if there isn't
pub names_by : (c : Bool) (text : List ℕ) (b : Term) (k : model.Move) (g : Goal) (t : Term) (s : State) → nat_le (length (with_name s.names text)) (limits_of s.rules).names ≡ c → Some k ≡ Some (names text b) → moved g t k s ≡ or_exhaustion (not (not c)) g t (named_by g t text b s) s
names_by c text b k g t s room is = ap (λ (x : model.Move). moved g t x s) (found_is k (names text b) (Some k) refl is) ∙ ap (λ e. or_exhaustion (not (not e)) g t (named_by g t text b s) s) room

module _ (p : Predicate CellName) (places : List (Place CellName)) (text : List ℕ) (a : Cell CellName) (m : Machine) (i : IsMachine m) (none : m.name ≡ None) where
  -- a name too many is an exception
  pub full_stands : keeps_names (most_names m) m.names.names text ≡ false → StandsFor (move.Raises Exhaustion) (record { predicate = p; move = move.Names a; places = places; text = text }) m m
  full_stands full =
      let unused : None ≡ name_of (number_by m.names.names text) (keeps_names (most_names m) m.names.names text) text =
      elim (option_cases (number_by m.names.names text)) [ inl new ↦ rw (new, full) | inr old ↦ rw old.1 ] in
      record {
        is = ap (λ (o : Option (List ℕ)). let z : Machine = record m { name = o } in z) (none ∙ unused);
        machine = i;
        nameless = λ b e. absurd (cc);
        inside = λ j. tt;
        by = λ k f. raises exhaustion;
        made_by = λ ms k is f knows. refl;
        does = λ ms k key reads is f knows g t s. names_by false text (meaning f m.store.held a) (k f) g t (worked f s m.store.held (made m)) (room_is m text false none full) (is f knows);
      }

  -- a name that is known is unified with the term
  pub known_stands : (k : CellName) → keeps_names (most_names m) m.names.names text ≡ true → number_by m.names.names text ≡ Some k.number → StandsFor (move.Unifies a (Atom k)) (record { predicate = p; move = move.Names a; places = places; text = text }) m m
  known_stands k room number =
      let h = m.store.held in
      let known = m.names.names in
      record {
        is = ap (λ (o : Option (List ℕ)). let z : Machine = record m { name = o } in z) (none ∙ sym (ap (λ o. name_of o (keeps_names (most_names m) known text) text) number));
        machine = i;
        nameless = λ b e. absurd (cc);
        inside = λ j. (j.1, tt);
        by = λ l f. unifies (meaning f h a) (meaning f h (Atom k));
        made_by = λ ms l is f knows. refl;
        does = λ ms l key reads is f knows g t s.
            let S = worked f s h (made m) in
            let read : f k ≡ text = rw number at (reads a refl f knows) in
            let same : with_name (made m).names text ≡ (made m).names = ap (λ (ns : List (List ℕ)). with_name ns text) (names_are m none) ∙ known_named known text k.number number ∙ sym (names_are m none) in
            names_by true text (meaning f h a) (l f) g t S (room_is m text true none room) (is f knows)
            ∙ ap (λ (ns : List (List ℕ)). unified g t (mgu (equation (meaning f h a) (atom text))) (let z : State = record S { names = ns } in z)) same
            ∙ ap (λ (b : Term). unified g t (mgu (equation (meaning f h a) b)) S) (sym (term_of-Atom f h k ∙ ap atom read));
      }

  -- one that is new is used, and the goal fails: what is no variable becomes no name, unless it is it
  pub new_stands : (x : Cell CellName) → keeps_names (most_names m) m.names.names text ≡ true → number_by m.names.names text ≡ None → IsFormed m.store.held → Walks m.store.held a x → ((v : ℕ) → x ≡ Variable v → ⊥) →
      StandsFor (move.Raises Failure) (record { predicate = p; move = move.Names a; places = places; text = text }) m (record m { name = Some text })
  new_stands x room number formed to never =
      let h = m.store.held in
      let known = m.names.names in
      let cannot : (f : Reading) → (meaning f h a ≡ atom text → ⊥) → mgu (equation (meaning f h a) (atom text)) ≡ None = λ f.
      off_is f (λ t. (t ≡ atom text → ⊥) → mgu (equation t (atom text)) ≡ None) h a x formed to.inside (breaks_unless x never) (to.means f)
      (λ i other. integer_unsolved i text) (λ b other. atom_unsolved b text (λ e. other (ap atom e))) (λ g ts other. structure_unsolved g ts text) in
      record {
        is = ap (λ (o : Option (List ℕ)). let z : Machine = record m { name = o } in z) (sym (ap (λ c. name_of None c text) room) ∙ sym (ap (λ o. name_of o (keeps_names (most_names m) known text) text) number));
        machine = (named_machine m text i).machine;
        nameless = λ b e. absurd (cc);
        inside = λ j. tt;
        by = λ k f. raises failure;
        made_by = λ ms k is f knows. refl;
        does = λ ms k key reads is f knows g t s.
            let S = worked f s h (made m) in
            let read : keeps_names (most_names m) known text ≡ true → (f key ≡ text) × (meaning f h a ≡ atom text → ⊥) = rw number at (reads a refl f knows) in
            let used : with_name (made m).names text ≡ texts_of known ++ text ∷ [] = ap (λ (ns : List (List ℕ)). with_name ns text) (names_are m none) ∙ new_named known text number in
            names_by true text (meaning f h a) (k f) g t S (room_is m text true none room) (is f knows)
            ∙ ap (λ (ns : List (List ℕ)). unified g t (mgu (equation (meaning f h a) (atom text))) (let z : State = record S { names = ns } in z)) used
            ∙ ap (λ (o : Option (List Replacement)). unified g t o (worked f s h (made (record m { name = Some text })))) (cannot f (read room).1);
      }

-- ---- a variable that becomes a name

-- a variable that means itself is unbound
pub free_unbound : (v : ℕ) (h : Held CellName) → IsFree v h → IsFormed h → v < h.variables → is_bound v h.bindings ≡ false
free_unbound v h free formed within = let f = reading_of [] in unbound_by h f v formed within (free f (reading_fits [] no_names).reads)

-- an unbound variable means itself as long as it stays so
pub still_free : (v : ℕ) (m c d : Machine) → is_bound v m.store.held.bindings ≡ false → c.store.held ≡ m.store.held → StaysFree v c.store.held d.store.held → IsFree v d.store.held
still_free v m c d unbound same stays f reads = stays f reads (ap (λ (h : Held CellName). meaning f h (Variable v)) same ∙ term_of-unbound f m.store.held v unbound)

-- if a variable is bound to a number that is read as a text, it is replaced by this text
pub bound_state : (f : Reading) (s : State) (h : Held CellName) (w : Made) (v : ℕ) (n : CellName) (text : List ℕ) → f n ≡ text → IsMadeIn h w → replace_in_state v (atom text) (worked f s h w) ≡ worked f s (with_binding h v (Atom n)) w
bound_state f s h w v n text is i =
    let k = with_binding h v (Atom n) in
    let agree : (x : Cell CellName) → replace v (atom text) (meaning f h x) ≡ meaning f k x = λ x. sym (term_of-binding f h v (Atom n) x ∙ ap (λ (t : Term). replace v t (meaning f h x)) (term_of-Atom f h n ∙ ap atom is)) in
    replaced_state (base s w) v (atom text) (meaning f h) (h.variables - 1) w.goals w.shoens
    ∙ rereads s (λ x. replace v (atom text) (meaning f h x)) (meaning f k) (h.variables - 1) h w (λ x j. agree x) i

-- shoen `n` was charged, and the text that a move uses is used as a name that is new, which the move's cell, that is variable `v`, becomes
pub record Marks (a : Making) (n v : ℕ) (m d : Machine) : Type 0 where
  pub target : Cell CellName
  pub uses : a.move ≡ move.Names target
  pub none : m.name ≡ None
  pub turns : Turns (λ f s. with_text a.text (charge n s)) m d
  pub name : d.name ≡ Some a.text
  pub can : CanBecome (most_names m) m.store.held m.names.names a.text target v

pub marked : (a : Making) (n v : ℕ) (m c d : Machine) (reached : Bool) → m.name ≡ None → IsMachine m → Charges n m c reached → Spells v a.move a.text c d → Marks a n v m d
marked a n v m c d reached none i charges p =
    let h = m.store.held in
    let known = m.names.names in
    let text = a.text in
    let can : CanBecome (most_names m) m.store.held m.names.names text p.target v = rw charges.is at p.can in
    let x : Machine = record m { shoens = record m.shoens { work = n ∷ m.shoens.work }; shifts = m.shifts || reached } in
    let turns : Turns (λ f s. with_text text (charge n s)) m (record x { name = Some text }) = λ ms.
    let first : works.Turns ms (λ f. charge n) h h (made m) (made x) = record { inside = record { some = i.inside.some; goals = i.inside.goals; shoens = i.inside.shoens; owned = i.inside.owned }; states = λ f knows s. refl } in
    let naming = named_turns ms h (made x) text (names_with (texts_of known) (Some text)) first.inside (ap (λ (ns : List (List ℕ)). with_name ns text) (names_are m none) ∙ new_named known text can.new) in
    turns_then ms (λ f. charge n) (λ f. with_text text) h h h (made m) (made x) (made (record x { name = Some text })) first naming in
    let is : d ≡ record x { name = Some text } = p.is ∙ ap (λ (y : Machine). let z : Machine = record y { name = Some text } in z) charges.is in
    record { target = p.target; uses = p.uses; none = none; turns = rw is turns; name = ap (λ (y : Machine). y.name) is; can = can }
