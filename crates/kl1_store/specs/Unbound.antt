-- Variables of a store that wait for a binding.
use Rattle.std.specs.Prelude.{◌≡◌, ℕ, ◌<◌, false, List, [], ◌∷◌}
use Rattle.kl1_store.specs.Held.{Held, is_bound}

-- a variable of the store that nothing was bound to
pub record IsUnbound {N : Type 0} (h : Held N) (v : ℕ) : Type 0 where
  pub within : v < h.variables
  pub unbound : is_bound v h.bindings ≡ false

-- variables of the store that nothing was bound to
abbrev pub AreUnbound : {N : Type 0} → Held N → List ℕ → Type 0
AreUnbound h [] = Unit {0}
AreUnbound h (v ∷ vs) = IsUnbound h v × AreUnbound h vs
