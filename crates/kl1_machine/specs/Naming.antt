-- Names that goals make: the text that is used, the variable that becomes the name, and the number that the name gets when it is
-- published.
use Rattle.std.specs.Prelude.{◌≡◌, ℕ, ◌<◌, true, false, List, Option, Some, None, IsTrue}
use Rattle.kl1_model.specs.Text.{is_text}
use Rattle.kl1_model.specs.Term.{Term, atom, variable}
use Rattle.kl1_model.specs.State.{Goal, State, with_name}
use Rattle.kl1_model.specs.Reduction as model
use Rattle.kl1_model.specs.Reduction.{moved}
use Rattle.kl1_text.specs.Reading.{Reads}
use Rattle.kl1_text.specs.declared.cell_name.CellName.{CellName}
use Rattle.kl1_atoms.specs.declared.known.Known.{Known}
use Rattle.kl1_atoms.specs.Names.{number_by}
use Rattle.kl1_store.specs.declared.cell.Cell.{Cell}
use Rattle.kl1_store.specs.declared.cell.Cell.TheVariants.{Variable, Atom}
use Rattle.kl1_store.specs.declared.point.Point.{Point}
use Rattle.kl1_store.specs.Held.{Held, IsIn, is_bound, sizes_of, with_binding}
use Rattle.kl1_store.specs.Sound.{IsFormed}
use Rattle.kl1_store.specs.Constants.{HasJustBound, Rebinds}
use Rattle.kl1_clause.specs.declared.predicate.Predicate.{Predicate}
use Rattle.kl1_match.specs.declared.place.Place.{Place}
use Rattle.kl1_goals_moves.specs.Moves.{MoveIn}
use Rattle.kl1_goals_moves.specs.declared.moves.Move.{Move}
use Rattle.kl1_goals_moves.specs.declared.moves.Move.TheVariants as move
use Rattle.kl1_codes.specs.Numbered.{Numbered}
use Rattle.kl1_user_effects.specs.declared.spelled.Spelled.{Spelled}
use Rattle.kl1_user_effects.specs.Fitting.{Reading, Fits, built}
use Rattle.kl1_user_effects.specs.Account.{texts_of, meaning}
use Rattle.kl1_user_effects.specs.Works.{Knows, worked}
use Rattle.kl1_user_effects.specs.Drafts.{names_with}
use Rattle.kl1_user_effects.specs.Naming.{AreSmall}
use Rattle.kl1_user_effects.specs.Calling.{spare, keeps_names, IsNewName}
use Rattle.kl1_user_effects.specs.Moving.{name_for}
use Rattle.kl1_user_effects.specs.Late.{KeepsLate}
use Rattle.kl1_machine.specs.declared.machine.Machine.{Machine}
use Rattle.kl1_machine.specs.Machines.{made, most_names, IsMachine}
use Rattle.kl1_machine.specs.declared.machine.naming.Named.{Named}
use Rattle.kl1_machine.specs.declared.machine.naming.Named.TheVariants as named
use Rattle.kl1_machine.specs.Effects.{TurnsAs}
use Rattle.kl1_machine.specs.Moving.{Making, IsMade}

-- ---- which variable becomes a name

-- a text that is new to an account with these names, which may use it, and a cell that is this unbound variable
pub record CanBecome (most : ℕ) (h : Held CellName) (known : List Known) (text : List ℕ) (a : Cell CellName) (v : ℕ) : Type 0 where
  pub is_text : IsTrue (is_text text)
  pub new : number_by known text ≡ None
  pub keeps : keeps_names most known text ≡ true
  pub within : v < h.variables
  pub unbound : is_bound v h.bindings ≡ false
  pub means : (f : Reading) → meaning f h a ≡ variable v

-- what a move uses as a name, if it does that, is a text, and the term is of a store
abbrev pub NamesIn : Move CellName → Held CellName → List ℕ → Type 0
NamesIn y h text = (a : Cell CellName) → y ≡ move.Names a → IsTrue (is_text text) × IsIn h a

-- a move uses no name
abbrev pub IsNameless : Move CellName → Type 0
IsNameless y = (a : Cell CellName) → y ≡ move.Names a → ⊥

-- ---- texts that are used

-- a state that uses a text as a name
abbrev pub with_text : List ℕ → State → State
with_text text s = record s { names = with_name s.names text }

-- a reading reads a number by which an account knows a text as this text; if the account knows it by none and may use it, it reads the
-- number that the text gets as the text, and no other cell as it
abbrev pub ReadsText : ℕ → Reading → Held CellName → List Known → List ℕ → Cell CellName → CellName → Option ℕ → Type 0
ReadsText most f h known text a k None = keeps_names most known text ≡ true → (f k ≡ text) × (meaning f h a ≡ atom text → ⊥)
ReadsText most f h known text a k (Some n) = f (record { number = n }) ≡ text

-- if a move uses a text as a name, each reading that knows these modules does, if the name gets this number
abbrev pub ReadsAll : ℕ → Move CellName → List Numbered → Held CellName → List Known → List ℕ → CellName → Type 0
ReadsAll most y ms h known text k = (a : Cell CellName) → y ≡ move.Names a → (f : Reading) → Knows ms f → ReadsText most f h known text a k (number_by known text)

-- a goal does by the move `b`, which uses no name, what it does by another move, whose name, if it uses one that is new, is used before it
pub record StandsFor (b : Move CellName) (a : Making) (m n : Machine) : Type 0 where
  pub is : n ≡ record m { name = name_for (most_names m) a.move m.names.names a.text }
  pub machine : IsMachine n
  pub nameless : IsNameless b
  pub inside : MoveIn m.store.held a.predicate a.places a.text (Some a.move) → MoveIn n.store.held a.predicate a.places a.text (Some b)
  pub by : (Reading → model.Move) → Reading → model.Move
  pub made_by : (ms : List Numbered) (k : Reading → model.Move) → IsMade a ms m k → IsMade (record a { move = b }) ms n (by k)
  pub does : (ms : List Numbered) (k : Reading → model.Move) (key : CellName) → ReadsAll (most_names m) a.move ms m.store.held m.names.names a.text key → IsMade a ms m k → (f : Reading) → Knows ms f → (g : Goal) (t : Term) (s : State) →
      moved g t (k f) (worked f s m.store.held (made m)) ≡ moved g t (by k f) (worked f s m.store.held (made n))

-- a move uses a text as a name that is new, and unifies a term with it, which is the unbound variable `v`; the machine has the name
pub record Spells (v : ℕ) (y : Move CellName) (text : List ℕ) (m n : Machine) : Type 0 where
  pub target : Cell CellName
  pub uses : y ≡ move.Names target
  pub can : CanBecome (most_names m) m.store.held m.names.names text target v
  pub is : n ≡ record m { name = Some text }
  pub machine : IsMachine n

-- what comes of a move when the text that it uses as a name, if it does that, has been looked up
abbrev pub UsesName : Move CellName → List ℕ → Machine → Machine → Named → Type 0
UsesName y text m n (named.Does b) = (p : Predicate CellName) (places : List (Place CellName)) → StandsFor b (record { predicate = p; move = y; places = places; text = text }) m n
UsesName y text m n (named.Becomes v) = Spells v y text m n

-- ---- what comes while the variable is still unbound

-- a machine has come on by this change of states, by which the variable that becomes a name at the end, if one does, stays as it is
pub record LateAs (v : Option ℕ) (change : Reading → State → State) (m n : Machine) : Type 0 where
  pub does : TurnsAs change m n
  pub free : KeepsLate v m.store.held n.store.held

-- ---- a variable that becomes a name

-- if a variable becomes a name, it was bound last, to a constant
abbrev pub IsBoundLast : Option Spelled → Held CellName → Type 0
IsBoundLast None h = Unit {0}
IsBoundLast (Some s) h = HasJustBound s.before.sizes s.variable h

-- in a store a variable was bound last, to the spare number
pub record BindsSpare (v : ℕ) (h : Held CellName) : Type 0 where
  pub before : Held CellName
  pub bound : h ≡ with_binding before v (Atom spare)

-- if a variable becomes a name, the spare number stands for it
abbrev pub HoldsSpare : Option Spelled → Held CellName → Type 0
HoldsSpare None h = Unit {0}
HoldsSpare (Some s) h = BindsSpare s.variable h

-- the cells of a store when a name has this number: the variable that becomes the name, if one does, is bound to it
abbrev pub Patches : Option Spelled → CellName → Held CellName → Held CellName → Type 0
Patches None k h last = last ≡ h
Patches (Some s) k h last = Rebinds s.before.sizes s.variable (Atom k) h last

-- variable `v` means itself
abbrev pub IsFree : ℕ → Held CellName → Type 0
IsFree v h = (f : Reading) → Reads built f → meaning f h (Variable v) ≡ variable v

-- variable `v`, which was unbound, is bound to the spare number, and nothing else has changed but that this is noted
pub record SparesLast (v : ℕ) (m n : Machine) : Type 0 where
  pub point : Point
  pub marked : point.sizes ≡ sizes_of m.store.held
  pub formed : IsFormed m.store.held
  pub within : v < m.store.held.variables
  pub unbound : is_bound v m.store.held.bindings ≡ false
  pub bound : n.store.held ≡ with_binding m.store.held v (Atom spare)
  pub hooks : n.store.hooks ≡ m.store.hooks
  pub rest : n ≡ record m { store = n.store; spelled = Some (record { variable = v; before = point }) }
  pub machine : IsMachine n

-- ---- names that are published

-- a variable becomes a name only if there is one
abbrev pub HasName : Option Spelled → Option (List ℕ) → Type 0
HasName s name = name ≡ None → s ≡ None

-- a machine's name, if there is one, can be published: there is room
pub record CanPublish (m : Machine) : Type 0 where
  pub name : IsNewName (most_names m) m.names.names m.name
  pub last : IsBoundLast m.spelled m.store.held
  pub has : HasName m.spelled m.name
  pub small : AreSmall m.names.names
  pub room : 0 < m.names.room

-- a reading reads the number that a name got as its text
abbrev pub ReadsNew : Reading → CellName → Option (List ℕ) → Type 0
ReadsNew f k None = Unit {0}
ReadsNew f k (Some text) = f k ≡ text

-- an account has these names if it had those before and there was a name more, which got this number, be it a spare one
pub record IsNamed (known more : List Known) (name : Option (List ℕ)) (k : CellName) : Type 0 where
  pub texts : texts_of more ≡ names_with (texts_of known) name
  pub fits : (f : Reading) → Fits more f → Fits known f
  pub reads : (f : Reading) → Fits more f → ReadsNew f k name

-- a machine's name, if there was one, has a number: the account knows it, and it stands where the spare number stood; nothing else has
-- changed
pub record Publishes (m n : Machine) : Type 0 where
  pub number : CellName
  pub named : IsNamed m.names.names n.names.names m.name number
  pub small : AreSmall n.names.names
  pub patches : Patches m.spelled number m.store.held n.store.held
  pub hooks : n.store.hooks ≡ m.store.hooks
  pub rest : n ≡ record m { store = n.store; names = n.names; name = None; spelled = None }
