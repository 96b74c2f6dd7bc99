-- Modules with the numbers of their names.
use Rattle.std.specs.Prelude.{◌≡◌, ℕ, List, [], ◌∷◌, map, refl, Option, Some, None}
use Rattle.std.specs.List.{AllByRecursion}
use Rattle.std.specs.Coded.{Coded, code_by, coded×, coded_list, coded_ℕ}
use Rattle.kl1_model.specs.Module.{Module}
use Rattle.kl1_model.specs.State.{names_of_module, with_names}
use Rattle.kl1_model.specs.declared.built_in.BuiltIn.{BuiltIn}
use Rattle.kl1_text.specs.BuiltIns.{place_of, built_in_of}
use Rattle.kl1_text.specs.declared.cell_name.CellName.{CellName}
use Rattle.kl1_clause.specs.ModuleCode.{module_code}

-- a module, the number of each of its names that is not built in, in order of first use, and where its code stands
pub record Numbered : Type 0 where
  pub content : Module
  pub row : List CellName
  pub place : ℕ × ℕ

-- how a name's number is stored
abbrev pub number_code : Coded CellName
number_code = code_by ℕ coded_ℕ (λ c. c.number) (λ n. record { number = n }) (λ c. refl)

-- how a module with its numbers is stored
abbrev pub numbered_code : Coded Numbered
numbered_code =
    code_by (Module × (List CellName × (ℕ × ℕ))) (coded× module_code (coded× (coded_list number_code) (coded× coded_ℕ coded_ℕ)))
    (λ l. (l.content, (l.row, l.place)))
    (λ p. record { content = p.0; row = p.1.0; place = p.1.1 })
    (λ l. refl)

-- the names of a module that are not built in, in order of first use
abbrev pub own_names : Module → List (List ℕ)
own_names m = with_names [] (names_of_module m)

-- the numbers are read as the names of the module
abbrev pub IsRead : (CellName → List ℕ) → Numbered → Type 0
IsRead f l = map f l.row ≡ own_names l.content

-- the numbers of each are read as its names
abbrev pub AreRead : (CellName → List ℕ) → List Numbered → Type 0
AreRead f [] = Unit {0}
AreRead f (l ∷ ls) = IsRead f l × AreRead f ls

-- the number of a built-in name
abbrev pub built : BuiltIn → CellName
built b = record { number = place_of b }

-- the first of numbers, or 0 if there is none
abbrev pub first_number : List CellName → CellName
first_number [] = record { number = 0 }
first_number (n ∷ ns) = n

-- the number of a module's own name, which is the first of its names unless it is built in
abbrev pub number_by : List CellName → Option BuiltIn → CellName
number_by row None = first_number row
number_by row (Some b) = built b

-- the number of a module's name
abbrev pub number_of : Numbered → CellName
number_of l = number_by l.row (built_in_of l.content.name)

-- the code of each stands at one of these places
abbrev pub ArePlaced : (ℕ × ℕ → Type 0) → List Numbered → Type 0
ArePlaced has ls = AllByRecursion (λ l. has l.place) ls
