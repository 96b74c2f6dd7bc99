-- Hooks in chains: for each variable the place of its newest hook, and for each hook that of the one before it.
use Rattle.std.specs.Prelude.{◌≡◌, ℕ, zero, suc, ◌<◌, ◌==◌, if◌then◌else◌, List, length, map, get_or}
use Rattle.kl1_store.specs.declared.link.Link.{Link}
use Rattle.kl1_store.specs.Hooks.{Hook}

-- the hook that a link stands for
abbrev pub hook_in : Link → Hook
hook_in l = record { variable = l.variable; number = l.number }

-- the hooks that links stand for
abbrev pub hooks_in : List Link → List Hook
hooks_in ls = map hook_in ls

-- a link that is nowhere
abbrev pub no_link : Link
no_link = record { number = 0; variable = 0; before = 0 }

-- the place, counted from 1, of the newest link on a variable among the first `n`; 0 if there is none
abbrev pub newest_place : ℕ → List Link → ℕ → ℕ
newest_place v ls zero = 0
newest_place v ls (suc n) = if (get_or ls n no_link).variable == v then suc n else newest_place v ls n

-- each head is the place of the newest link, and each link has the place of the one before it
pub record AreChained (hs : List ℕ) (ls : List Link) : Type 0 where
  pub heads : (v : ℕ) → get_or hs v 0 ≡ newest_place v ls (length ls)
  pub before : (i : ℕ) → i < length ls → (get_or ls i no_link).before ≡ newest_place (get_or ls i no_link).variable ls i

-- the hooks on variables, how many variables there are heads for, for how many memory serves, and how many more hooks fit
pub record Hung : Type 0 where
  pub hooks : List Hook
  pub covered : ℕ
  pub memory : ℕ
  pub room : ℕ
