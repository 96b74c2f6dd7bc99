-- Variables of a store that goals wait for.
use Rattle.std.specs.Prelude.{ℕ, ◌↔◌, List, Contains}
pub use Rattle.kl1_store.specs.Unbound.{IsUnbound, AreUnbound}

-- both lists hold the same variables, in whatever order and however often
pub record AreSame (vs ws : List ℕ) : Type 0 where
  pub each : (v : ℕ) → Contains vs v ↔ Contains ws v
