-- What a pattern beside a cell comes to.
use Rattle.std.specs.Prelude.{◌≡◌, ℕ, ℤ, Bool, true, List, [], ◌∷◌, ◌++◌, map}
use Rattle.kl1_model.specs.declared.built_in.BuiltIn.{BuiltIn}
use Rattle.kl1_model.specs.Term.{Term, integer, atom, structure, Terms, none, more, count_of, Replacement}
use Rattle.kl1_model.specs.code.TermCode.{NodeCode, nodes_of, nodes_of_all}
use Rattle.kl1_model.specs.Answer.{Answer, yes, no, wait}
use Rattle.kl1_model.specs.Match.{with_answer, match_both, match_pattern, match_patterns}
use Rattle.kl1_text.specs.Reading.{Reads}
use Rattle.kl1_store.specs.declared.cell.Cell.{Cell}
use Rattle.kl1_store.specs.declared.cell.Cell.TheVariants as cell
use Rattle.kl1_store.specs.Held.{Held}
use Rattle.kl1_store.specs.Meaning.{term_of, terms_of}
use Rattle.kl1_clause.specs.declared.instruction.Instruction.{Instruction}
use Rattle.kl1_clause.specs.declared.instruction.Instruction.TheVariants.{Variable, Integer, Atom, Structure}
use Rattle.kl1_clause.specs.Instructions.{code_in}
use Rattle.kl1_match.specs.declared.place.Place.{Place}
use Rattle.kl1_match.specs.declared.met.Met.{Met}
use Rattle.kl1_match.specs.declared.met.Met.TheVariants.{Agrees, Waits, Clashes}
use Rattle.kl1_match.specs.Instances.{AreThere, replacements_of}
use Rattle.kl1_match.specs.Waiting.{IsUnbound}

-- terms, and then others
abbrev pub joined : Terms → Terms → Terms
joined none us = us
joined (more t ts) us = more t (joined ts us)

-- how many arguments follow an instruction
abbrev pub arguments_after : Instruction → ℕ
arguments_after (Variable n) = 0
arguments_after (Integer i) = 0
arguments_after (Atom a) = 0
arguments_after (Structure a n) = n

-- the outcome of a pattern without arguments
abbrev pub outcome_of : Met → Answer
outcome_of Agrees = yes
outcome_of (Waits v) = wait (v ∷ [])
outcome_of Clashes = no

-- a pattern waits for the variable that the cell is
abbrev pub WaitsAt : {N : Type 0} → Cell N → Met → Type 0
WaitsAt x Agrees = Unit {0}
WaitsAt x (Waits v) = x ≡ cell.Variable v
WaitsAt x Clashes = Unit {0}

-- the variable that a pattern waits for is unbound
abbrev pub MetUnbound : {N : Type 0} → Held N → Met → Type 0
MetUnbound h Agrees = Unit {0}
MetUnbound h (Waits v) = IsUnbound h v
MetUnbound h Clashes = Unit {0}

-- what an integer as a pattern beside a cell comes to
abbrev pub IntegerMeets : {N : Type 0} → (BuiltIn → N) → Held N → ℤ → Cell N → Met → Type 0
IntegerMeets {N = N} built h i x met = (f : N → List ℕ) → match_pattern (integer i) (term_of f h x) ≡ with_answer (outcome_of met)

-- what an atom as a pattern beside a cell comes to
abbrev pub AtomMeets : {N : Type 0} → (BuiltIn → N) → Held N → N → Cell N → Met → Type 0
AtomMeets {N = N} built h a x met = (f : N → List ℕ) → Reads built f → match_pattern (atom (f a)) (term_of f h x) ≡ with_answer (outcome_of met)

-- a structure of this name and number of arguments beside a pattern of these: its arguments stand before the cells that are left
pub record IsOpened {N : Type 0} (f : N → List ℕ) (h : Held N) (name : N) (count : ℕ) (t : Term) (cells now : List (Cell N)) : Type 0 where
  pub arguments : Terms
  pub counted : count_of arguments ≡ count
  pub matched : (ps : Terms) → count_of ps ≡ count → match_pattern (structure (f name) ps) t ≡ match_patterns ps arguments
  pub cells_are : terms_of f h now ≡ joined arguments (terms_of f h cells)

-- the term of a cell is such a structure, however names are read
pub record Opens {N : Type 0} (built : BuiltIn → N) (h : Held N) (name : N) (count : ℕ) (x : Cell N) (cells now : List (Cell N)) : Type 0 where
  pub opened : (f : N → List ℕ) → Reads built f → IsOpened f h name count (term_of f h x) cells now

-- a structure as a pattern beside a cell with this outcome, if the cells that are left stay
pub record Stays {N : Type 0} (built : BuiltIn → N) (h : Held N) (name : N) (count : ℕ) (x : Cell N) (cells now : List (Cell N)) (outcome : Answer) : Type 0 where
  pub cells_are : now ≡ cells
  pub matched : (f : N → List ℕ) → Reads built f → (ps : Terms) → count_of ps ≡ count → match_pattern (structure (f name) ps) (term_of f h x) ≡ with_answer outcome

-- what a structure as a pattern beside a cell comes to
abbrev pub StructureMeets : {N : Type 0} → (BuiltIn → N) → Held N → N → ℕ → Cell N → List (Cell N) → List (Cell N) → Met → Type 0
StructureMeets built h name count x cells now Agrees = Opens built h name count x cells now
StructureMeets built h name count x cells now (Waits v) = Stays built h name count x cells now (wait (v ∷ []))
StructureMeets built h name count x cells now Clashes = Stays built h name count x cells now no

-- a pattern begins with a node
pub record Begins (c : NodeCode) (p : Term) : Type 0 where
  pub behind : List NodeCode
  pub nodes : nodes_of p ≡ c ∷ behind

-- a pattern agrees with a term if its arguments do, which stand beside those that are put before the cells that are left
pub record GoesInto {N : Type 0} (f : N → List ℕ) (h : Held N) (c : NodeCode) (p t : Term) (cells now : List (Cell N)) (places longer : List (Place N)) : Type 0 where
  pub inner : Terms
  pub arguments : Terms
  pub taken : List Replacement
  pub nodes : nodes_of p ≡ c ∷ nodes_of_all inner
  pub counted : count_of inner ≡ count_of arguments
  pub matched : match_pattern p t ≡ match_both (record { answer = yes; places = taken }) (match_patterns inner arguments)
  pub cells_are : terms_of f h now ≡ joined arguments (terms_of f h cells)
  pub places_are : replacements_of f h longer ≡ replacements_of f h places ++ taken

-- an instruction's pattern agrees so with the term of a cell, however names are read, and the places are of the store
pub record Continues {N : Type 0} (built : BuiltIn → N) (h : Held N) (names : List N) (i : Instruction) (x : Cell N) (cells now : List (Cell N)) (places longer : List (Place N)) : Type 0 where
  pub places_in : AreThere h longer
  pub goes_into : (f : N → List ℕ) → Reads built f → (p : Term) → Begins (code_in (map f names) i) p → GoesInto f h (code_in (map f names) i) p (term_of f h x) cells now places longer

-- a pattern has this outcome beside a cell, and nothing is put anywhere
pub record Decides {N : Type 0} (built : BuiltIn → N) (h : Held N) (names : List N) (i : Instruction) (x : Cell N) (cells now : List (Cell N)) (places longer : List (Place N)) (outcome : Answer) : Type 0 where
  pub cells_are : now ≡ cells
  pub places_are : longer ≡ places
  pub matched : (f : N → List ℕ) → Reads built f → (p : Term) → Begins (code_in (map f names) i) p → match_pattern p (term_of f h x) ≡ with_answer outcome

-- what a pattern that begins with an instruction comes to beside a cell
abbrev pub MeetsAs : {N : Type 0} → (BuiltIn → N) → Held N → List N → Instruction → Cell N → List (Cell N) → List (Cell N) → List (Place N) → List (Place N) → Met → Type 0
MeetsAs built h names i x cells now places longer Agrees = Continues built h names i x cells now places longer
MeetsAs built h names i x cells now places longer (Waits v) = Decides built h names i x cells now places longer (wait (v ∷ []))
MeetsAs built h names i x cells now places longer Clashes = Decides built h names i x cells now places longer no

-- places, and the one that a pattern's variable takes
abbrev pub with_place : {N : Type 0} → List (Place N) → Instruction → Cell N → List (Place N)
with_place places (Variable v) x = places ++ record { variable = v; cell = x } ∷ []
with_place places (Integer i) x = places
with_place places (Atom a) x = places
with_place places (Structure a n) x = places

-- a pattern that begins with an instruction is met by the first of cells; its place is kept if places are
pub record MeetsFirst {N : Type 0} (built : BuiltIn → N) (h : Held N) (names : List N) (i : Instruction) (keeps : Bool) (cells now : List (Cell N)) (places longer : List (Place N)) (met : Met) : Type 0 where
  pub first : Cell N
  pub rest : List (Cell N)
  pub cells_are : cells ≡ first ∷ rest
  pub kept : keeps ≡ true → longer ≡ with_place places i first
  pub meets : (ps : List (Place N)) → AreThere h ps → MeetsAs built h names i first rest now ps (with_place ps i first) met

-- a fact of places, which are these if places are kept
pub record Keeps {N : Type 0} (keeps : Bool) (places : List (Place N)) (Fact : List (Place N) → Type 0) : Type 0 where
  pub taken : List (Place N)
  pub kept : keeps ≡ true → places ≡ taken
  pub holds : Fact taken
