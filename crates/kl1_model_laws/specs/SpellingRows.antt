-- Rows of `atom_from` by each of the rules.
use Rattle.std.specs.Prelude.{◌≡◌, ℕ, zero, suc, List, [], ◌∷◌, codes, Option, Some, pos}
use Rattle.kl1_model.specs.declared.rules.Rules.{Rules}
use Rattle.kl1_model.specs.declared.rules.Rules.TheVariants.{One, Two, Three}
use Rattle.kl1_model.specs.Term.{Term, variable, integer, structure, none, more}
use Rattle.kl1_model.specs.Meaning.{nil, cell}
use Rattle.kl1_model.specs.Report.{illegal_input}
use Rattle.kl1_model.specs.Reduction.{Move, raises, names, built_in_move}
use Rattle.kl1_model.specs.code.Waits.{awaited_by_built_in}

-- a name of `n` times the letter a
abbrev pub bytes : ℕ → List ℕ
bytes zero = []
bytes (suc n) = 97 ∷ bytes n

-- a list of `n` codes of the letter a, with this rest
abbrev pub letters : ℕ → Term → Term
letters zero rest = rest
letters (suc n) rest = cell (integer (pos 97)) (letters n rest)

-- the goal that makes of variable 1 the name of a list of codes
abbrev pub from_codes : Term → Term
from_codes t = structure (codes "atom_from") (more t (more (variable 1) none))

-- what that goal does for `n` codes, by these rules
abbrev pub spelled_by : Rules → ℕ → Option Move
spelled_by rules n = built_in_move rules (from_codes (letters n nil))

-- what it waits for, if after `n` codes the list isn't known
abbrev pub awaited_by_spelled : Rules → ℕ → List ℕ
awaited_by_spelled rules n = awaited_by_built_in rules (from_codes (letters n (variable 2)))

-- what becomes of codes by each of the rules
pub record SpellingRowsHold : Type 0 where
  -- 63 codes by the first rules
  pub name_of_63_codes_by_the_first_rules : spelled_by One 63 ≡ Some (names (bytes 63) (variable 1))
  -- and one more
  pub name_of_64_codes_by_the_first_rules : spelled_by One 64 ≡ Some (raises illegal_input)
  -- and all that a name can have
  pub name_of_127_codes_by_the_first_rules : spelled_by One 127 ≡ Some (raises illegal_input)
  -- 63 codes whose rest is unbound wait for it
  pub rest_after_63_codes_by_the_first_rules : awaited_by_spelled One 63 ≡ 2 ∷ []
  -- and with one more for nothing
  pub rest_after_64_codes_by_the_first_rules : awaited_by_spelled One 64 ≡ []
  -- 63 codes by the second rules
  pub name_of_63_codes_by_the_second_rules : spelled_by Two 63 ≡ Some (names (bytes 63) (variable 1))
  -- and one more
  pub name_of_64_codes_by_the_second_rules : spelled_by Two 64 ≡ Some (raises illegal_input)
  -- and all that a name can have
  pub name_of_127_codes_by_the_second_rules : spelled_by Two 127 ≡ Some (raises illegal_input)
  -- 63 codes whose rest is unbound wait for it
  pub rest_after_63_codes_by_the_second_rules : awaited_by_spelled Two 63 ≡ 2 ∷ []
  -- and with one more for nothing
  pub rest_after_64_codes_by_the_second_rules : awaited_by_spelled Two 64 ≡ []
  -- 64 codes by the third rules
  pub name_of_64_codes_by_the_third_rules : spelled_by Three 64 ≡ Some (names (bytes 64) (variable 1))
  -- 126
  pub name_of_126_codes_by_the_third_rules : spelled_by Three 126 ≡ Some (names (bytes 126) (variable 1))
  -- 127, as many as a name can have bytes
  pub name_of_127_codes_by_the_third_rules : spelled_by Three 127 ≡ Some (names (bytes 127) (variable 1))
  -- and one more
  pub name_of_128_codes_by_the_third_rules : spelled_by Three 128 ≡ Some (raises illegal_input)
  -- 64 codes whose rest is unbound wait for it
  pub rest_after_64_codes_by_the_third_rules : awaited_by_spelled Three 64 ≡ 2 ∷ []
  -- and so do 127
  pub rest_after_127_codes_by_the_third_rules : awaited_by_spelled Three 127 ≡ 2 ∷ []
  -- and with one more for nothing
  pub rest_after_128_codes_by_the_third_rules : awaited_by_spelled Three 128 ≡ []
