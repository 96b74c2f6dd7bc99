-- What going on with a comparison promises.
use Rattle.std.specs.Prelude.{◌≡◌, ℕ, ◌+◌, ◌≤◌, Bool, true, false, List, [], ◌∷◌, ◌++◌, length}
use Rattle.std.specs.List.{All}
use Rattle.kl1_model.specs.declared.built_in.BuiltIn.{BuiltIn}
use Rattle.kl1_model.specs.Term.{size}
use Rattle.kl1_model.specs.Unify.{Equation, equations_size}
use Rattle.kl1_model.specs.code.Comparing.{clash}
use Rattle.kl1_text.specs.Reading.{Reads}
use Rattle.kl1_store.specs.declared.frame.Frame.{Frame}
use Rattle.kl1_store.specs.declared.progress.Progress.{Progress}
use Rattle.kl1_store.specs.declared.progress.Progress.TheVariants.{Ends, Clashes, Tires}
use Rattle.kl1_store.specs.Held.{Held}
use Rattle.kl1_store.specs.Meaning.{unread}
use Rattle.kl1_store.specs.Waiting.{waiting, ArePairs}
use Rattle.kl1_store.specs.Compares.{clash_among, awaited_among}
use Rattle.kl1_store.specs.Unbound.{AreUnbound}
use Rattle.kl1_store.specs.Resting.{StandFor, turn_of, turns_of, IsOpen}

-- nothing of what is left clashes, and it waits for just these variables, all unbound
pub record IsOnCourse {N : Type 0} (built : BuiltIn → N) (h : Held N) (ps : List Frame) (waits : List ℕ) : Type 0 where
  pub each : All (IsOpen h) ps
  pub clash : (f : N → List ℕ) → Reads built f → clash_among (turns_of f h ps) ≡ false
  pub awaited : (f : N → List ℕ) → Reads built f → waits ≡ awaited_among (turns_of f h ps)
  pub unbound : AreUnbound h waits

-- the arguments in turn of a pair were looked at: what is left now and what waits now stand for them, for what was left and for what waited
pub record Looks {N : Type 0} (built : BuiltIn → N) (h : Held N) (p : Frame) (before now left rest : List Frame) : Type 0 where
  pub pairs : ArePairs h now
  pub stand : (f : N → List ℕ) → Reads built f → StandFor (turns_of f h left ++ turn_of f h p ∷ waiting f h [] before) (turns_of f h rest ++ waiting f h [] now)
  pub less : equations_size (waiting unread h [] now) + length now ≤ size (turn_of unread h p).left + (equations_size (waiting unread h [] before) + length before)

-- the arguments in turn of a pair were looked at, or they clash, if the answer is no
abbrev pub LooksAs : {N : Type 0} → (BuiltIn → N) → Held N → Frame → List Frame → List Frame → List Frame → List Frame → List ℕ → Bool → Type 0
LooksAs built h p before now left rest waits true = Looks built h p before now left rest × IsOnCourse built h rest waits
LooksAs built h p before now left rest waits false = (f : _) → Reads built f → clash (turn_of f h p).left (turn_of f h p).right ≡ true

-- what is left now stands for these equations; or some of them clash; or the comparison tired
abbrev pub ComesToRest : {N : Type 0} → (BuiltIn → N) → Held N → ((N → List ℕ) → List Equation) → List Frame → List ℕ → Progress → Type 0
ComesToRest built h es rest waits Ends = IsOnCourse built h rest waits × ((f : _) → Reads built f → StandFor (es f) (turns_of f h rest))
ComesToRest built h es rest waits Clashes = (f : _) → Reads built f → clash_among (es f) ≡ true
ComesToRest built h es rest waits Tires = Unit {0}
