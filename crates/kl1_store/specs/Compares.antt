-- What comparing two cells promises, by the definition of passive equality.
use Rattle.std.specs.Prelude.{◌≡◌, ℕ, ◌+◌, ◌≤◌, Bool, true, false, ◌||◌, List, [], ◌∷◌, ◌++◌, length, ◌⊎◌, ◌↔◌}
use Rattle.kl1_model.specs.declared.built_in.BuiltIn.{BuiltIn}
use Rattle.kl1_model.specs.Term.{size}
use Rattle.kl1_model.specs.Unify.{Equation, equations_size}
use Rattle.kl1_model.specs.code.Comparing.{clash, awaited}
use Rattle.kl1_text.specs.Reading.{Reads}
use Rattle.kl1_store.specs.declared.cell.Cell.{Cell}
use Rattle.kl1_store.specs.declared.frame.Frame.{Frame}
use Rattle.kl1_store.specs.Held.{Held}
use Rattle.kl1_store.specs.Meaning.{term_of, unread}
use Rattle.kl1_store.specs.Meets.{Opens}
use Rattle.kl1_store.specs.Done.{IsOf}
use Rattle.kl1_store.specs.Waiting.{waiting, ArePairs}

-- whether the sides of some equation clash
abbrev pub clash_among : List Equation → Bool
clash_among [] = false
clash_among (e ∷ es) = clash e.left e.right || clash_among es

-- the variables for which the sides of the equations wait
abbrev pub awaited_among : List Equation → List ℕ
awaited_among [] = []
awaited_among (e ∷ es) = awaited e.left e.right ++ awaited_among es

-- two cells were compared at once, and nothing is left of them
pub record LooksDone {N : Type 0} (built : BuiltIn → N) (h : Held N) (x y : Cell N) (before now : List Frame) (waits longer : List ℕ) : Type 0 where
  pub same : now ≡ before
  pub clash : (f : N → List ℕ) → Reads built f → clash (term_of f h x) (term_of f h y) ≡ false
  pub awaited : (f : N → List ℕ) → Reads built f → longer ≡ waits ++ awaited (term_of f h x) (term_of f h y)

-- two structures are to be compared
pub record LooksOpen {N : Type 0} (h : Held N) (x y : Cell N) (before now : List Frame) (waits longer : List ℕ) : Type 0 where
  pub frame : Frame
  pub opens : Opens h x y frame
  pub pushed : now ≡ before ++ frame ∷ []
  pub same : longer ≡ waits

-- two cells were looked at: nothing clashed at once, and the rest waits
pub record Compares {N : Type 0} (built : BuiltIn → N) (h : Held N) (x y : Cell N) (before now : List Frame) (waits longer : List ℕ) : Type 0 where
  pub pairs : ArePairs h now
  pub clash : (f : N → List ℕ) → Reads built f → clash_among (waiting f h [] now) ≡ (clash (term_of f h x) (term_of f h y) || clash_among (waiting f h [] before))
  pub awaited : (f : N → List ℕ) → Reads built f → longer ++ awaited_among (waiting f h [] now) ≡ waits ++ (awaited (term_of f h x) (term_of f h y) ++ awaited_among (waiting f h [] before))
  pub less : equations_size (waiting unread h [] now) + length now ≤ size (term_of unread h x) + (equations_size (waiting unread h [] before) + length before)
  pub either : LooksDone built h x y before now waits longer ⊎ LooksOpen h x y before now waits longer

-- two cells were looked at, or they clash, if the answer is no
abbrev pub ComparesAs : {N : Type 0} → (BuiltIn → N) → Held N → Cell N → Cell N → List Frame → List Frame → List ℕ → List ℕ → Bool → Type 0
ComparesAs built h x y before now waits longer true = Compares built h x y before now waits longer
ComparesAs built h x y before now waits longer false = (f : _) → Reads built f → clash (term_of f h x) (term_of f h y) ≡ true

-- two cells were compared to the end
pub record Compared {N : Type 0} (f : N → List ℕ) (h : Held N) (x y : Cell N) (waits longer : List ℕ) : Type 0 where
  pub clash : clash (term_of f h x) (term_of f h y) ≡ false
  pub awaited : (v : ℕ) → IsOf v longer ↔ (IsOf v waits ⊎ IsOf v (awaited (term_of f h x) (term_of f h y)))

-- two cells were compared to the end, or they clash, if the answer is no
abbrev pub ComparedAs : {N : Type 0} → (BuiltIn → N) → Held N → Cell N → Cell N → List ℕ → List ℕ → Bool → Type 0
ComparedAs built h x y waits longer true = (f : _) → Reads built f → Compared f h x y waits longer
ComparedAs built h x y waits longer false = (f : _) → Reads built f → clash (term_of f h x) (term_of f h y) ≡ true
