-- What an equation of two cells leads to, by the definition of unification.
use Rattle.std.specs.Prelude.{◌≡◌, ℕ, suc, ◌≤◌, ◌⊎◌, false, List}
use Rattle.kl1_model.specs.declared.built_in.BuiltIn.{BuiltIn}
use Rattle.kl1_model.specs.Unify.{Equation, remains, conflicts, transformed}
use Rattle.kl1_model.specs.code.Unifying.{bound_to}
use Rattle.kl1_text.specs.Reading.{Reads}
use Rattle.kl1_store.specs.declared.cell.Cell.{Cell}
use Rattle.kl1_store.specs.declared.cell.Cell.TheVariants.{Variable, Structure}
use Rattle.kl1_store.specs.declared.frame.Frame.{Frame}
use Rattle.kl1_store.specs.declared.meeting.Meeting.{Meeting}
use Rattle.kl1_store.specs.declared.meeting.Meeting.TheVariants.{Same, Clash, Bind, Open}
use Rattle.kl1_store.specs.Held.{Held, is_bound, IsIn, IsLower, IsWalked}
use Rattle.kl1_store.specs.Meaning.{term_of}
use Rattle.kl1_store.specs.Value.{IsNoVariable}
use Rattle.kl1_store.specs.Waiting.{rest_of, IsPair}

-- a variable that may take a cell, if it isn't in it
pub record CanTake {N : Type 0} (h : Held N) (v : ℕ) (x : Cell N) : Type 0 where
  pub inside : suc v ≤ h.variables
  pub unbound : is_bound v h.bindings ≡ false
  pub known : IsIn h x
  pub walked : IsWalked h x
  pub lower : IsLower v x

-- one side of an equation is a variable that may take the other, and the equation leads to that if the variable isn't in it
pub record Takes {N : Type 0} (h : Held N) (l r : Cell N) (v : ℕ) (x : Cell N) : Type 0 where
  pub can : CanTake h v x
  pub one : IsNoVariable l → IsNoVariable r → ⊥
  pub sides : ((l ≡ Variable v) × (x ≡ r)) ⊎ ((r ≡ Variable v) × (x ≡ l))
  pub leads : (f : N → List ℕ) (es : List Equation) → transformed (term_of f h l) (term_of f h r) es ≡ bound_to v (term_of f h x) es

-- the sides of an equation are structures of one name and one number of arguments, and it leads to those of the arguments
pub record Opens {N : Type 0} (h : Held N) (l r : Cell N) (p : Frame) : Type 0 where
  pub left : l ≡ Structure p.left
  pub right : r ≡ Structure p.right
  pub start : p.next ≡ 0
  pub is : IsPair h p
  pub leads : (f : N → List ℕ) (es : List Equation) → transformed (term_of f h l) (term_of f h r) es ≡ remains (rest_of f h p es)

-- what a meeting promises
abbrev pub MeetsAs : {N : Type 0} → (BuiltIn → N) → Held N → Cell N → Cell N → Meeting N → Type 0
MeetsAs built h l r Same = (f : _) → term_of f h l ≡ term_of f h r
MeetsAs built h l r Clash = (f : _) → Reads built f → (es : List Equation) → transformed (term_of f h l) (term_of f h r) es ≡ conflicts
MeetsAs built h l r (Bind v x) = Takes h l r v x
MeetsAs built h l r (Open p) = Opens h l r p
