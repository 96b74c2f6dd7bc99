-- Constants as cells, and variables that are bound to them.
use Rattle.std.specs.Prelude.{◌≡◌, ◌<◌, ℕ, false}
use Rattle.kl1_store.specs.declared.mark.Mark.{Mark}
use Rattle.kl1_store.specs.declared.cell.Cell.{Cell}
use Rattle.kl1_store.specs.declared.cell.Cell.TheVariants.{Variable, Integer, Atom, Structure}
use Rattle.kl1_store.specs.Held.{Held, sizes_of, with_binding, is_bound}
use Rattle.kl1_store.specs.Sound.{IsFormed}

-- a cell that is an integer or an atom
abbrev pub IsConstant : {N : Type 0} → Cell N → Type 0
IsConstant (Variable v) = ⊥
IsConstant (Integer i) = Unit {0}
IsConstant (Atom a) = Unit {0}
IsConstant (Structure s) = ⊥

-- since a mark nothing but this variable has come to what is held, bound to a constant
pub record HasJustBound {N : Type 0} (mark : Mark) (v : ℕ) (now : Held N) : Type 0 where
  pub before : Held N
  pub constant : Cell N
  pub is : IsConstant constant
  pub marked : mark ≡ sizes_of before
  pub formed : IsFormed before
  pub within : v < before.variables
  pub unbound : is_bound v before.bindings ≡ false
  pub bound : now ≡ with_binding before v constant

-- the variable that was bound since a mark is bound to this cell in place of what it was bound to
abbrev pub Rebinds : {N : Type 0} → Mark → ℕ → Cell N → Held N → Held N → Type 0
Rebinds {N = N} mark v x old new = (before : Held N) (y : Cell N) → mark ≡ sizes_of before → old ≡ with_binding before v y → new ≡ with_binding before v x
