-- Clauses of a module whose tests have variables of their heads alone.
use Rattle.std.proofs.Common.{◌≡◌, ℕ, zero, suc, ◌<◌, true, List, [], ◌∷◌, length, map, get_or, arith}
use Rattle.std.specs.List.{list_all}
use Rattle.std.proofs.lemmas.Bool.{and_parts}
use Rattle.kl1_model.specs.laws.WaitsLaws.{is_guarded}
use Rattle.kl1_read.specs.declared.clause_parts.ClauseParts.{ClauseParts}
use Rattle.kl1_read.specs.Sources.{clause_of_parts}

pub guarded_at : (parts : List ClauseParts) (place : ℕ) (x : ClauseParts) → list_all is_guarded (map clause_of_parts parts) ≡ true → place < length parts → is_guarded (clause_of_parts (get_or parts place x)) ≡ true
guarded_at [] place x all lt = absurd (omega arith)
guarded_at (p ∷ ps) zero x all lt = (and_parts (is_guarded (clause_of_parts p)) (list_all is_guarded (map clause_of_parts ps)) all).0
guarded_at (p ∷ ps) (suc place) x all lt = guarded_at ps place x (and_parts (is_guarded (clause_of_parts p)) (list_all is_guarded (map clause_of_parts ps)) all).1 (omega arith)
