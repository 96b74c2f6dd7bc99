-- What answers come to whose variables are those that an answer doesn't tell.
use Rattle.std.specs.Prelude.{◌≡◌, ℕ, ◌<◌, ◌≤◌, false, Option, IsTrue}
use Rattle.kl1_model.specs.declared.limits.TheConstants.{FIRST_UNTOLD}
use Rattle.kl1_model.specs.Term.{Term}
use Rattle.kl1_model.specs.Meaning.{is_numbered, highest}
use Rattle.kl1_model.specs.Opening.{with_next_variables}
use Rattle.kl1_model.specs.Telling.{Asked, stands_at, given_told, is_told_term}
use Rattle.kl1_term.specs.Telling.{untold}

-- A goal whose variables are numbered from 1, as the answer of rules by which all are new, comes to the same by rules whose answers tell
-- variables, if they are those that it doesn't tell: the goal has the account's next variables, as many are new, and none is told that is
-- gone. The exception shows no variable from 2 ^ 62 on, and the account has made none.
abbrev pub UntoldAreNew : Type 0
UntoldAreNew =
    (a : Option Asked) (last : ℕ) (t : Term) → IsTrue (is_numbered t) → last < FIRST_UNTOLD → ((n : ℕ) → FIRST_UNTOLD ≤ n → stands_at a n ≡ false) →
    given_told a last (untold t) ≡ record { goal = with_next_variables last t; new = highest t; tells_gone = false }

-- and it is a goal as the text of such an answer tells it, if it hasn't more than 2 ^ 62 variables
abbrev pub UntoldAreTold : Type 0
UntoldAreTold = (t : Term) → IsTrue (is_numbered t) → highest t ≤ FIRST_UNTOLD → IsTrue (is_told_term (untold t))

pub record UntoldHold : Type 0 where
  pub new : UntoldAreNew
  pub told : UntoldAreTold
