-- Goals of a store that has changed.
use Rattle.std.specs.Prelude.{◌≡◌, ℕ, List}
use Rattle.kl1_model.specs.declared.rules.Rules.{Rules}
use Rattle.kl1_model.specs.Term.{Term, substituted}
use Rattle.kl1_model.specs.Module.{Module}
use Rattle.kl1_model.specs.code.Waits.{term_clause, awaited_by_term}
use Rattle.kl1_store.specs.declared.cell.Cell.{Cell}
use Rattle.kl1_store.specs.Held.{Held, IsIn}
use Rattle.kl1_store.specs.Meaning.{term_of}

-- in a later store each cell means what it meant, with terms in place of variables
pub record Becomes {N : Type 0} (f : N → List ℕ) (old new : Held N) : Type 0 where
  pub by : ℕ → Term
  pub means : (x : Cell N) → IsIn old x → term_of f new x ≡ substituted by (term_of f old x)

-- the clause by which a goal can step, and the variables that it waits for, are as they were
pub record IsAsItWas (rules : Rules) (modules : List Module) (before after : Term) : Type 0 where
  pub clause : term_clause rules modules after ≡ term_clause rules modules before
  pub awaited : awaited_by_term rules modules after ≡ awaited_by_term rules modules before
