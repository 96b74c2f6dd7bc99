-- The modules of an account, in order of loading.
use Rattle.std.specs.Prelude.{◌≡◌, ℕ, List, [], ◌∷◌, ◌++◌, refl}
use Rattle.kl1_model.specs.declared.rules.Rules.{Rules}
use Rattle.std.specs.Coded.{Coded, code_by, coded×, coded_list, coded_ℕ}
use Rattle.kl1_codes.specs.Numbered.{Numbered, numbered_code, number_of}

-- modules in order of loading, and how many more there is room for
pub record Shelf : Type 0 where
  pub loaded : List Numbered
  pub room : ℕ

-- how those are stored
abbrev pub shelf_code : Coded Shelf
shelf_code =
    code_by (List Numbered × ℕ) (coded× (coded_list numbered_code) coded_ℕ) (λ s. (s.loaded, s.room)) (λ p. record { loaded = p.0; room = p.1 }) (λ s. refl)

-- what the goals of an account are reduced by: its rules, and its modules in order of loading
pub record Program : Type 0 where
  pub rules : Rules
  pub loaded : List Numbered

-- a program with one module more
abbrev pub with_last : Program → Numbered → Program
with_last program m = record program { loaded = program.loaded ++ m ∷ [] }

-- each entry stands under the number of its module
abbrev pub AreKeyed : List (ℕ × Numbered) → Type 0
AreKeyed [] = Unit {0}
AreKeyed (e ∷ es) = (e.0 ≡ (number_of e.1).number) × AreKeyed es
