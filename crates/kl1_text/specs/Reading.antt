-- How names of any type are read as texts.
use Rattle.std.specs.Prelude.{◌≡◌, ℕ, List}
use Rattle.kl1_model.specs.declared.built_in.BuiltIn.{BuiltIn}
use Rattle.kl1_model.specs.Text.{text_of}

-- a reading of names as texts: one text a name, and the right one for each built-in
pub record Reads {N : Type 0} (built : BuiltIn → N) (reading : N → List ℕ) : Type 0 where
  pub once : (a b : N) → reading a ≡ reading b → a ≡ b
  pub texts : (b : BuiltIn) → reading (built b) ≡ text_of b
