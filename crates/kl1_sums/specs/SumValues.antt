-- What a sum is.
use Rattle.std.specs.Prelude.{ℕ, List, [], Some, None}
use Rattle.kl1_sums.specs.declared.sum.Sum.{Sum}

-- its digits, of which there are 16 or none
abbrev pub digits_of : Sum → List ℕ
digits_of s = elim s.digits [ None ↦ [] | Some digits ↦ digits ]
