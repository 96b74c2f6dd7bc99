-- The terms of a clause's tests, as they stand in a row, with cells in place of the variables of its head.
use Rattle.std.specs.Prelude.{ℕ, suc, ◌+◌, ◌<◌, ◌≤◌, max, ◌==◌, if◌then◌else◌, List, [], ◌∷◌, length, map, drop, slice_index_or, Option, Some, None}
use Rattle.std.proofs.Common.{inl, inr}
use Rattle.kl1_model.specs.declared.built_in.BuiltIn.{BuiltIn}
use Rattle.kl1_model.specs.declared.built_in.BuiltIn.TheVariants.{EmptyList}
use Rattle.kl1_model.specs.Term.{Term, variable, substituted, Terms, each_substituted}
use Rattle.kl1_model.specs.code.TermCode.{NodeCode, first_term, front_of, read_nodes}
use Rattle.kl1_model.specs.Match.{beside, test_variable}
use Rattle.kl1_store.specs.declared.cell.Cell.{Cell}
use Rattle.kl1_store.specs.Held.{Held, IsIn, arguments_of}
use Rattle.kl1_store.specs.Meaning.{term_of, terms_of}
use Rattle.kl1_clause.specs.declared.name.Name.{Name}
use Rattle.kl1_clause.specs.declared.name.Name.TheVariants as name
use Rattle.kl1_clause.specs.declared.instruction.Instruction.{Instruction}
use Rattle.kl1_clause.specs.declared.instruction.Instruction.TheVariants as instruction
use Rattle.kl1_clause.specs.Instructions.{AreNamed}
use Rattle.kl1_match_guard.specs.declared.form.Form.{Form}
use Rattle.kl1_match_guard.specs.declared.form.Form.TheVariants as form
use Rattle.kl1_match.specs.declared.place.Place.{Place}
use Rattle.kl1_match.specs.declared.test_view.TestAt.{TestAt}
use Rattle.kl1_match.specs.declared.test_view.TestAt.TheVariants as at
use Rattle.kl1_match.specs.declared.test_view.TestVariable.{TestVariable}
use Rattle.kl1_match.specs.declared.test_view.TestVariable.TheVariants.{Own, Goal}
use Rattle.kl1_match.specs.declared.test_view.TestStructure.{TestStructure}
use Rattle.kl1_match.specs.declared.test_view.TestStructure.TheVariants as structure
use Rattle.kl1_match.specs.declared.test_view.TestView.{TestView}
use Rattle.kl1_match.specs.Instances.{AreThere, replacements_of}
use Rattle.kl1_match.specs.Matching.{arguments_after}
use Rattle.kl1_match.specs.Waiting.{IsUnbound}

-- ---- rows

-- the account's name for a name of a code
abbrev pub name_of : {N : Type 0} → (BuiltIn → N) → List N → Name → N
name_of built names (name.Language b) = built b
name_of built names (name.Place k) = slice_index_or names k (built EmptyList)

-- an instruction as a node of a term, if names are read so
abbrev pub coded : (Name → List ℕ) → Instruction → NodeCode
coded named (instruction.Variable n) = inl (inl n)
coded named (instruction.Integer i) = inl (inr i)
coded named (instruction.Atom a) = inr (inl (named a))
coded named (instruction.Structure a n) = inr (inr (named a, n))

-- the terms of a row, one after another
abbrev pub terms_from : (Name → List ℕ) → List Instruction → List Term
terms_from named row = read_nodes (map (coded named) row) []

-- the instruction at a place, or a variable if there is none
abbrev pub instruction_in : List Instruction → ℕ → Instruction
instruction_in row place = slice_index_or row place (instruction.Variable 0)

-- the greatest variable of a row
abbrev pub highest_of : Instruction → ℕ
highest_of (instruction.Variable n) = n
highest_of (instruction.Integer i) = 0
highest_of (instruction.Atom a) = 0
highest_of (instruction.Structure a n) = 0

abbrev pub highest_among : List Instruction → ℕ
highest_among [] = 0
highest_among (i ∷ is) = max (highest_of i) (highest_among is)

-- the cell at the first place of a variable
abbrev pub first_cell : {N : Type 0} → List (Place N) → ℕ → Option (Cell N)
first_cell [] v = None
first_cell (p ∷ ps) v = if p.variable == v then Some p.cell else first_cell ps v

-- ---- tests

-- what the tests of a clause stand in
pub record Tests (N : Type 0) : Type 0 where
  pub held : Held N
  pub names : List N
  pub row : List Instruction
  pub places : List (Place N)

abbrev pub tests_of : {N : Type 0} → TestView N → Tests N
tests_of view = record { held = view.store.now.held; names = view.names.now; row = view.row.now; places = view.places.now }

abbrev pub tests_with : {N : Type 0} → Held N → List N → List Instruction → List (Place N) → Tests N
tests_with h names row places = record { held = h; names = names; row = row; places = places }

-- the places are of the store, and the names of the code
pub record AreSound {N : Type 0} (t : Tests N) : Type 0 where
  pub there : AreThere t.held t.places
  pub named : AreNamed (length t.names) t.row

-- the greatest variable of the tests
abbrev pub last_of : {N : Type 0} → Tests N → ℕ
last_of t = highest_among t.row

-- names as they are read
abbrev pub named_in : {N : Type 0} → (BuiltIn → N) → (N → List ℕ) → Tests N → Name → List ℕ
named_in built f t a = f (name_of built t.names a)

-- what stands in place of a variable of the clause
abbrev pub value_in : {N : Type 0} → (N → List ℕ) → Tests N → ℕ → Term
value_in f t = test_variable (last_of t) (replacements_of f t.held t.places)

-- the term that stands somewhere: a cell's, after the variables of the tests, or one of the row
abbrev pub test_term : {N : Type 0} → (BuiltIn → N) → (N → List ℕ) → Tests N → TestAt N → Term
test_term built f t (at.Cell x) = beside (last_of t) (term_of f t.held x)
test_term built f t (at.Row q) = substituted (value_in f t) (first_term (terms_from (named_in built f t) (drop q t.row)))

-- how many arguments a structure has
abbrev pub test_count : {N : Type 0} → Tests N → TestStructure → ℕ
test_count t (structure.Cell s) = length (arguments_of t.held s)
test_count t (structure.Row q) = arguments_after (instruction_in t.row q)

-- the arguments of a structure
abbrev pub test_arguments : {N : Type 0} → (BuiltIn → N) → (N → List ℕ) → Tests N → TestStructure → Terms
test_arguments built f t (structure.Cell s) = each_substituted (λ v. variable (suc (last_of t + v))) (terms_of f t.held (arguments_of t.held s))
test_arguments built f t (structure.Row q) = each_substituted (value_in f t) (front_of (arguments_after (instruction_in t.row q)) (terms_from (named_in built f t) (drop (suc q) t.row)))

-- the number of a variable: those of the goal go after the clause's own
abbrev pub test_number : {N : Type 0} → Tests N → TestVariable → ℕ
test_number t (Own v) = v
test_number t (Goal w) = suc (last_of t + w)

-- the variable, if it is the goal's
abbrev pub goal_of : TestVariable → List ℕ
goal_of (Own v) = []
goal_of (Goal w) = w ∷ []

-- an unbound variable: one of the tests, or of the store
abbrev pub IsFreeIn : {N : Type 0} → Tests N → TestVariable → Type 0
IsFreeIn t (Own v) = v ≤ last_of t
IsFreeIn t (Goal w) = IsUnbound t.held w

-- a term stands there
abbrev pub IsTermAt : {N : Type 0} → Tests N → TestAt N → Type 0
IsTermAt t (at.Cell x) = IsIn t.held x
IsTermAt t (at.Row q) = AreSound t

-- a structure stands there
abbrev pub IsStructureAt : {N : Type 0} → Tests N → TestStructure → Type 0
IsStructureAt t (structure.Cell s) = s < length t.held.structures
IsStructureAt t (structure.Row q) = (q < length t.row) × AreSound t

-- what stands there is a cell
abbrev pub IsCellAt : {N : Type 0} → Tests N → TestAt N → Type 0
IsCellAt t (at.Cell x) = IsIn t.held x
IsCellAt t (at.Row q) = ⊥

-- the form of a cell's term after the variables of the tests
abbrev pub moved_form : {N : Type 0} → Form N ℕ ℕ → Form N TestVariable TestStructure
moved_form (form.Variable v) = form.Variable (Goal v)
moved_form (form.Integer i) = form.Integer i
moved_form (form.Atom a) = form.Atom a
moved_form (form.Structure a n s) = form.Structure a n (structure.Cell s)
