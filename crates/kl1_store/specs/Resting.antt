-- What is left of comparisons that stayed open.
use Rattle.std.specs.Prelude.{◌≡◌, ℕ, ◌<◌, ◌↔◌, List, [], ◌∷◌, length, map, get_or}
use Rattle.std.specs.List.{All}
use Rattle.kl1_model.specs.declared.built_in.BuiltIn.{BuiltIn}
use Rattle.kl1_model.specs.Term.{Replacement}
use Rattle.kl1_model.specs.Unify.{Equation}
use Rattle.kl1_model.specs.code.Unifying.{replaced}
use Rattle.kl1_text.specs.Reading.{Reads}
use Rattle.kl1_store.specs.declared.frame.Frame.{Frame}
use Rattle.kl1_store.specs.declared.rest.Rest.{Rest}
use Rattle.kl1_store.specs.declared.cell.Cell.TheVariants.{Structure}
use Rattle.kl1_store.specs.Held.{Held, arguments_of}
use Rattle.kl1_store.specs.Meaning.{term_of}
use Rattle.kl1_store.specs.Sound.{IsFormed, Grown}
use Rattle.kl1_store.specs.Compares.{clash_among, awaited_among}
use Rattle.kl1_store.specs.Done.{IsOf}
use Rattle.kl1_store.specs.Waiting.{IsPair}

-- equations after replacements
abbrev pub replaced_among : List Replacement → List Equation → List Equation
replaced_among rs es = map (λ e. record { left = replaced rs e.left; right = replaced rs e.right }) es

-- whatever is replaced, some of these equations clash just if some of others do, and they wait for the same variables
pub record StandFor (es others : List Equation) : Type 0 where
  pub clash : (rs : List Replacement) → clash_among (replaced_among rs es) ≡ clash_among (replaced_among rs others)
  pub awaited : (rs : List Replacement) (v : ℕ) → IsOf v (awaited_among (replaced_among rs es)) ↔ IsOf v (awaited_among (replaced_among rs others))

-- the equation of the arguments in turn of a pair
abbrev pub turn_of : {N : Type 0} → (N → List ℕ) → Held N → Frame → Equation
turn_of f h p = record { left = term_of f h (get_or (arguments_of h p.left) p.next (Structure p.left)); right = term_of f h (get_or (arguments_of h p.right) p.next (Structure p.right)) }

-- the equations of the arguments in turn of pairs
abbrev pub turns_of : {N : Type 0} → (N → List ℕ) → Held N → List Frame → List Equation
turns_of f h ps = map (turn_of f h) ps

-- the equation of two structures, by number
abbrev pub heads_of : {N : Type 0} → ℕ → ℕ → (N → List ℕ) → Held N → List Equation
heads_of l r f h = record { left = term_of f h (Structure l); right = term_of f h (Structure r) } ∷ []

-- a pair with an argument in turn
pub record IsOpen {N : Type 0} (h : Held N) (p : Frame) : Type 0 where
  pub pair : IsPair h p
  pub more : p.next < p.count

-- of the comparison of two structures the arguments in turn of these pairs are left
pub record IsLeft {N : Type 0} (built : BuiltIn → N) (h : Held N) (l r : ℕ) (ps : List Frame) : Type 0 where
  pub left : l < length h.structures
  pub right : r < length h.structures
  pub each : All (IsOpen h) ps
  pub stand : (f : N → List ℕ) → Reads built f → StandFor (heads_of l r f h) (turns_of f h ps)

-- what was left of two structures when a store held less
pub record IsRestIn {N : Type 0} (built : BuiltIn → N) (h : Held N) (r : Rest) : Type 0 where
  pub past : Held N
  pub formed : IsFormed past
  pub grown : Grown past h
  pub is : IsLeft built past r.left r.right r.pairs.items

-- each is what was left of two structures when the store held no more than now
abbrev pub AreRests : {N : Type 0} → (BuiltIn → N) → Held N → List Rest → Type 0
AreRests built h rs = All (IsRestIn built h) rs
