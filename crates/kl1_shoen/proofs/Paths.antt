-- Paths of shoens that are lent, and of shoens among more.
use Rattle.std.proofs.Common.{◌≡◌, ℕ, ◌<◌, List, [], ◌∷◌, refl, sym, ap, ◌∙◌}
use Rattle.std.specs.Prelude.{Option, Some, None, IfSome, find, option_copied, option_map, unwrap_or}
use Rattle.std.specs.Borrow.{Bor}
use Rattle.kl1_shoen_paths.specs.declared.shoen.Shoen.{Shoen}
use Rattle.kl1_shoen.specs.Shoens.{has_number, AreNumbered, AreLower, path_in}
use Rattle.kl1_shoen_paths.proofs.Paths.{path_zero, parent_below, path_parent}
pub use Rattle.kl1_shoen_paths.proofs.Paths.{path_among, zero_off_path}

-- the parent that is found, 0 if there is no shoen
abbrev parent_found : {N : Type 0} → Option (Shoen N) → ℕ
parent_found {N = N} o = unwrap_or (option_map (λ (h : Shoen N). h.parent) o) 0

-- of a shoen that is lent the parent has a lesser number
pub lent_below : {N : Type 0} (n : ℕ) (ss : List (Shoen N)) (o : Option (Bor (Shoen N))) → AreNumbered 0 ss → AreLower ss → option_copied o ≡ find (has_number n) ss → 0 < n → IfSome o (λ s. s.now.parent < n)
lent_below n ss None a lower e lt = tt
lent_below n ss (Some s) a lower e lt = parent_below n s.now.parent ss a lower (ap (λ o. parent_found o) e) lt

-- and the path goes on with the parent's
pub lent_path : {N : Type 0} (n : ℕ) (ss : List (Shoen N)) (o : Option (Bor (Shoen N))) → AreNumbered 0 ss → AreLower ss → option_copied o ≡ find (has_number n) ss → 0 < n → IfSome o (λ s. path_in ss n ≡ n ∷ path_in ss s.now.parent)
lent_path n ss None a lower e lt = tt
lent_path n ss (Some s) a lower e lt = path_parent n s.now.parent ss a lower (ap (λ o. parent_found o) e) lt

-- if no shoen is lent the path ends
pub lent_end : {N : Type 0} (n : ℕ) (ss : List (Shoen N)) (o : Option (Bor (Shoen N))) → AreNumbered 0 ss → AreLower ss → option_copied o ≡ find (has_number n) ss → 0 < n → o ≡ None → path_in ss n ≡ n ∷ []
lent_end {N = N} n ss o a lower e lt z =
    path_parent n 0 ss a lower (ap (λ (b : Option (Bor (Shoen N))). parent_found (option_copied b)) (sym z) ∙ ap (λ o. parent_found o) e) lt
    ∙ ap (λ (ns : List ℕ). n ∷ ns) (path_zero 0 ss refl)
