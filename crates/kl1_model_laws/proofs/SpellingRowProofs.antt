-- The rows of `atom_from` by each of the rules, computed from the definitions.
use Rattle.std.specs.Prelude.{refl}
use Rattle.kl1_model_laws.specs.SpellingRows.{SpellingRowsHold}

-- all of them
pub spelling_rows_hold : SpellingRowsHold
spelling_rows_hold = record { name_of_63_codes_by_the_first_rules = refl; name_of_64_codes_by_the_first_rules = refl; name_of_127_codes_by_the_first_rules = refl; rest_after_63_codes_by_the_first_rules = refl; rest_after_64_codes_by_the_first_rules = refl; name_of_63_codes_by_the_second_rules = refl; name_of_64_codes_by_the_second_rules = refl; name_of_127_codes_by_the_second_rules = refl; rest_after_63_codes_by_the_second_rules = refl; rest_after_64_codes_by_the_second_rules = refl; name_of_64_codes_by_the_third_rules = refl; name_of_126_codes_by_the_third_rules = refl; name_of_127_codes_by_the_third_rules = refl; name_of_128_codes_by_the_third_rules = refl; rest_after_64_codes_by_the_third_rules = refl; rest_after_127_codes_by_the_third_rules = refl; rest_after_128_codes_by_the_third_rules = refl }
