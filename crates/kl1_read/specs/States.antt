-- What reading still gives.
use Rattle.std.specs.Prelude.{◌≡◌, ℕ, ◌<◌, List, length, reverse, map, Option, Some, None}
use Rattle.kl1_model.specs.Term.{Term}
use Rattle.kl1_model.specs.Grammar as grammar
use Rattle.kl1_model.specs.reader.Reader.{Answer}
use Rattle.kl1_read.specs.declared.left.Left.{Left}
use Rattle.kl1_read.specs.declared.frame.Frame.{Frame}
use Rattle.kl1_read.specs.declared.state.State.{State}
use Rattle.kl1_read.specs.declared.state.Step.{Step}
use Rattle.kl1_read.specs.declared.state.Step.TheVariants.{Bad, On, Finished}
use Rattle.kl1_read.specs.Views.{numbered_token}
use Rattle.kl1_read.specs.Meanings.{Going, after_primary, after_expression, primary_then}

-- reads on, after a primary if one was read
abbrev pub read_on : Option Term → Left → Going → List grammar.Numbered → Answer (List Term)
read_on None left k ts = primary_then left k ts
read_on (Some p) left k ts = after_primary left k p ts

-- the terms that come of a state, if these were opened, these terms are done and this stands to the left
abbrev pub state_answer : List Frame → List Term → Left → State → Answer (List Term)
state_answer frames done left s = read_on s.read left (after_expression (reverse frames) done) (map numbered_token s.rest.now)

-- the terms that come of a step
abbrev pub step_answer : List Frame → List Term → Left → Step → Answer (List Term)
step_answer frames done left Bad = None
step_answer frames done left (On s) = state_answer frames done left s
step_answer frames done left (Finished rest) = Some (done, map numbered_token rest.now)

-- fewer tokens than these are left
abbrev pub StepLess : ℕ → Step → Type 0
StepLess n Bad = Unit {0}
StepLess n (On s) = length s.rest.now < n
StepLess n (Finished rest) = Unit {0}

-- more is to be read, and `n` tokens are left
abbrev pub GoesTo : ℕ → Step → Type 0
GoesTo n Bad = ⊥
GoesTo n (On s) = length s.rest.now ≡ n
GoesTo n (Finished rest) = ⊥
