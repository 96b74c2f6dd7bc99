-- What cells mean after a store has grown, whatever was done: the bindings since then are replacements of their variables.
use Rattle.std.specs.Prelude.{◌≡◌, ℕ, List, length, drop, map}
use Rattle.kl1_model.specs.Term.{Replacement}
use Rattle.kl1_model.specs.code.Unifying.{replaced}
use Rattle.kl1_store.specs.declared.cell.Cell.{Cell}
use Rattle.kl1_store.specs.Held.{Held, IsIn}
use Rattle.kl1_store.specs.Meaning.{term_of}

-- the variables that were bound since then, in order
abbrev pub bound_since : {N : Type 0} → Held N → Held N → List ℕ
bound_since old new = map (λ b. b.variable) (drop (length old.bindings) new.bindings)

-- each cell that was there means what it meant, with these variables replaced and no others
pub record IsLater {N : Type 0} (f : N → List ℕ) (old new : Held N) : Type 0 where
  pub replacements : List Replacement
  pub numbers : map (λ r. r.number) replacements ≡ bound_since old new
  pub means : (x : Cell N) → IsIn old x → term_of f new x ≡ replaced replacements (term_of f old x)
