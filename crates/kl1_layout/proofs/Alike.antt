-- A text that is its own layout.
use Rattle.std.specs.Prelude.{◌≡◌, ℕ, List}
use Rattle.std.proofs.Common.{subst}
use Rattle.kl1_layout.specs.Layouts.{IsLayoutOf}

-- a layout that is the text itself
pub own_layout : (source layout : List ℕ) → layout ≡ source → IsLayoutOf source layout → IsLayoutOf source source
own_layout source layout same is = subst (IsLayoutOf source) same is
