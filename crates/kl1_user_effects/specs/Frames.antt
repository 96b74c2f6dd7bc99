-- What stays of shoens through what goals do and monitors read.
use Rattle.std.specs.Prelude.{◌≡◌, ℕ, ◌≤◌, false, List, [], ◌∷◌, length, None}
use Rattle.kl1_text.specs.declared.cell_name.CellName.{CellName}
use Rattle.kl1_store.specs.declared.cell.Cell.TheVariants.{Variable}
use Rattle.kl1_shoen_paths.specs.declared.shoen.Shoen.{Shoen}
use Rattle.kl1_shoen.specs.Shoens.{Tree, is_enabled_at}

-- of each of the shoens that were there this stays; more may have come after them
abbrev pub KeepsBy : (Shoen CellName → Shoen CellName) → List (Shoen CellName) → List (Shoen CellName) → Type 0
KeepsBy f [] rs = Unit {0}
KeepsBy f (h ∷ hs) [] = ⊥
KeepsBy f (h ∷ hs) (r ∷ rs) = (f r ≡ f h) × KeepsBy f hs rs

-- goals of the shoens that were there may step as before
abbrev pub SameFlags : Tree CellName → Tree CellName → Type 0
SameFlags t u = (n : ℕ) → n ≤ length t.shoens → is_enabled_at u.shoens u.work n ≡ is_enabled_at t.shoens t.work n

-- a shoen without what reports change, without what the console keeps and without what is left of its control stream
abbrev pub plain : Shoen CellName → Shoen CellName
plain h = record h { tail = Variable 0; is_broken = false; origin = None; control = Variable 0 }

-- in a tree all stays of the shoens that were there by which goals may step, and what was charged stays
pub record IsCalm (t u : Tree CellName) : Type 0 where
  pub shoens : KeepsBy plain t.shoens u.shoens
  pub work : u.work ≡ t.work
