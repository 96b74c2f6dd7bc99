-- What holds of comparisons when variables are replaced, and of their parts.
use Rattle.std.specs.Prelude.{◌≡◌, ℕ, []}
use Rattle.kl1_model.specs.Term.{Term, substituted}
use Rattle.kl1_model.specs.Answer.{Answer, wait, awaited_in}
use Rattle.kl1_model.specs.Same.{compare}
use Rattle.kl1_model.specs.code.Waits.{LeavesEach}
use Rattle.kl1_model.specs.code.Comparing.{clash, awaited, answer_of_parts}

-- an answer stays until a variable that it waits for is replaced
abbrev pub Stays : (ℕ → Term) → Answer → Answer → Type 0
Stays s a b = LeavesEach s (awaited_in a) → b ≡ a

-- what a comparison answers stays: yes and no for good
abbrev pub CompareStays : Type 0
CompareStays = (s : ℕ → Term) (t u : Term) → Stays s (compare t u) (compare (substituted s t) (substituted s u))

-- one that waits does so for some variable
abbrev pub CompareWaits : Type 0
CompareWaits = (t u : Term) → compare t u ≡ wait [] → ⊥

-- a comparison is that of its parts
abbrev pub CompareIsParts : Type 0
CompareIsParts = (t u : Term) → compare t u ≡ answer_of_parts (clash t u) (awaited t u)
