-- The equations that wait, as pairs of structures stand for them.
use Rattle.std.specs.Prelude.{◌≡◌, ℕ, suc, ◌≤◌, List, [], ◌∷◌, length, drop, Some, slice_get}
use Rattle.kl1_model.specs.Unify.{Equation, argument_equations}
use Rattle.kl1_store.specs.declared.frame.Frame.{Frame}
use Rattle.kl1_store.specs.Held.{Held, IsIn, IsWalked, arguments_of}
use Rattle.kl1_store.specs.Meaning.{term_of, terms_of}
use Rattle.kl1_store.specs.Sound.{IsFormed}
use Rattle.kl1_store.specs.declared.cell.Cell.{Cell}

-- the equations of the arguments from some number on, in front of others
abbrev pub rest_of : {N : Type 0} → (N → List ℕ) → Held N → Frame → List Equation → List Equation
rest_of f h p es = argument_equations (terms_of f h (drop p.next (arguments_of h p.left))) (terms_of f h (drop p.next (arguments_of h p.right))) es

-- the equations that wait, those of the last pair in front
unfoldable pub waiting : {N : Type 0} → (N → List ℕ) → Held N → List Equation → List Frame → List Equation
waiting f h es [] = es
waiting f h es (p ∷ ps) = waiting f h (rest_of f h p es) ps

-- two structures of one name and one number of arguments
pub record IsPair {N : Type 0} (h : Held N) (p : Frame) : Type 0 where
  pub left : suc p.left ≤ length h.structures
  pub right : suc p.right ≤ length h.structures
  pub left_count : length (arguments_of h p.left) ≡ p.count
  pub right_count : length (arguments_of h p.right) ≡ p.count
  pub next : p.next ≤ p.count
  pub name : N
  pub left_shape : slice_get h.structures p.left ≡ Some (record { name = name; arguments = arguments_of h p.left })
  pub right_shape : slice_get h.structures p.right ≡ Some (record { name = name; arguments = arguments_of h p.right })

-- pairs, each of two structures of one name and one number of arguments
abbrev pub ArePairs : {N : Type 0} → Held N → List Frame → Type 0
ArePairs h [] = Unit {0}
ArePairs h (p ∷ ps) = IsPair h p × ArePairs h ps

-- the arguments in turn of a pair, and the cells that they stand for
pub record Turn {N : Type 0} (h : Held N) (p : Frame) (l r x y : Cell N) : Type 0 where
  pub formed : IsFormed h
  pub pair : IsPair h p
  pub left : slice_get (arguments_of h p.left) p.next ≡ Some l
  pub right : slice_get (arguments_of h p.right) p.next ≡ Some r
  pub left_in : IsIn h x
  pub right_in : IsIn h y
  pub left_means : (f : N → List ℕ) → term_of f h x ≡ term_of f h l
  pub right_means : (f : N → List ℕ) → term_of f h y ≡ term_of f h r

-- the cells that the arguments in turn of a pair stand for
pub record IsTurn {N : Type 0} (h : Held N) (p : Frame) (x y : Cell N) : Type 0 where
  pub left : Cell N
  pub right : Cell N
  pub turn : Turn h p left right x y
  pub left_walked : IsWalked h x
  pub right_walked : IsWalked h y
