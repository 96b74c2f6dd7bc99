-- What the verdict of a compiled clause on the goal of a cell is.
use Rattle.std.specs.Prelude.{◌≡◌, ℕ, Bool, true, false, List, [], ◌++◌, map}
use Rattle.kl1_model.specs.declared.built_in.BuiltIn.{BuiltIn}
use Rattle.kl1_model.specs.Term.{Term, variable, integer, atom, structure, Terms, none}
use Rattle.kl1_model.specs.Module.{Clause}
use Rattle.kl1_model.specs.code.Verdicts as model
use Rattle.kl1_model.specs.Match.{Match, match_patterns}
use Rattle.kl1_model.specs.Answer.{yes, no, wait}
use Rattle.kl1_model.specs.code.Verdicts.{named_verdict, accepts, rejects, suspends}
use Rattle.kl1_text.specs.Reading.{Reads}
use Rattle.kl1_store.specs.declared.cell.Cell.{Cell}
use Rattle.kl1_store.specs.Held.{Held}
use Rattle.kl1_store.specs.Meaning.{term_of}
use Rattle.kl1_clause.specs.declared.compiled_clause.CompiledClause.{CompiledClause}
use Rattle.kl1_clause.specs.Clauses.{IsCompiled}
use Rattle.kl1_match.specs.declared.place.Place.{Place}
use Rattle.kl1_match.specs.declared.verdict.Verdict.{Verdict}
use Rattle.kl1_match.specs.declared.verdict.Verdict.TheVariants.{Accepts, Rejects, Suspends}
use Rattle.kl1_match.specs.Instances.{AreThere, replacements_of}
use Rattle.kl1_match.specs.Waiting.{AreUnbound, AreSame}

-- the arguments of a goal; one that is no structure has none
abbrev pub arguments_of_goal : Term → Terms
arguments_of_goal (variable n) = none
arguments_of_goal (integer i) = none
arguments_of_goal (atom a) = none
arguments_of_goal (structure p ts) = ts

-- whether a verdict rejects
abbrev pub is_rejection : Verdict → Bool
is_rejection Accepts = false
is_rejection Rejects = true
is_rejection Suspends = false

-- a verdict as in the definitions: it accepts with the terms at these places, or rejects or suspends and names these variables
abbrev pub verdict_with_places : {N : Type 0} → (N → List ℕ) → Held N → List (Place N) → List ℕ → Verdict → model.Verdict
verdict_with_places f h places named Accepts = accepts (replacements_of f h places)
verdict_with_places f h places named Rejects = rejects named
verdict_with_places f h places named Suspends = suspends named

-- this is a verdict of the definitions, which names the same variables
pub record GivesVerdict {N : Type 0} (f : N → List ℕ) (h : Held N) (places : List (Place N)) (named : List ℕ) (given : Verdict) (v : model.Verdict) : Type 0 where
  pub defined : List ℕ
  pub same : AreSame named defined
  pub verdict_is : v ≡ verdict_with_places f h places defined given

-- a clause that suspends names a variable, and one that accepts names none
abbrev pub NamesAs : Verdict → List ℕ → Type 0
NamesAs Accepts named = named ≡ []
NamesAs Rejects named = Unit {0}
NamesAs Suspends named = named ≡ [] → ⊥

-- this is the verdict of the clause on the goal, for each reading of the names, and the variables that it names are added to
-- those before
pub record IsVerdict {N : Type 0} (built : BuiltIn → N) (names : List N) (compiled : CompiledClause) (h : Held N) (goal : Cell N) (places : List (Place N)) (before after : List ℕ) (given : Verdict) : Type 0 where
  pub inside : AreThere h places
  pub named : List ℕ
  pub named_as : NamesAs given named
  pub unbound : AreUnbound h named
  pub awaited : after ≡ before ++ named
  pub gives : (f : N → List ℕ) → Reads built f → (clause : Clause) → IsCompiled (map f names) compiled clause → GivesVerdict f h places named given (named_verdict clause (arguments_of_goal (term_of f h goal)))

-- the verdict of a match alone: it agrees, with the terms at these places, or clashes, or waits for these variables, with the
-- terms at the places that were reached
abbrev pub GivesMatch : {N : Type 0} → (N → List ℕ) → Held N → List (Place N) → List ℕ → Verdict → Match → Type 0
GivesMatch f h places named Accepts m = (m.answer ≡ yes) × (m.places ≡ replacements_of f h places)
GivesMatch f h places named Rejects m = m.answer ≡ no
GivesMatch f h places named Suspends m = (m.answer ≡ wait named) × (m.places ≡ replacements_of f h places)

-- this is the verdict of the match of the clause with the goal alone, for each reading of the names, and the variables for which
-- it waits are added to those before; one that clashes may have added some too
pub record IsTried {N : Type 0} (built : BuiltIn → N) (names : List N) (compiled : CompiledClause) (h : Held N) (goal : Cell N) (places : List (Place N)) (before after : List ℕ) (given : Verdict) : Type 0 where
  pub inside : AreThere h places
  pub named : List ℕ
  pub named_as : NamesAs given named
  pub unbound : AreUnbound h named
  pub awaited : after ≡ before ++ named
  pub gives : (f : N → List ℕ) → Reads built f → (clause : Clause) → IsCompiled (map f names) compiled clause → GivesMatch f h places named given (match_patterns clause.patterns (arguments_of_goal (term_of f h goal)))
