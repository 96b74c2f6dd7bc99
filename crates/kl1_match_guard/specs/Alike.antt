-- Passive equality of two terms, step by step.
use Rattle.std.specs.Prelude.{◌≡◌, ℕ, suc, ◌+◌, ◌*◌, ◌==◌, ◌||◌, Bool, true, false, List, [], ◌∷◌, map, drop}
use Rattle.std.specs.List.{list_any}
use Rattle.kl1_model.specs.declared.built_in.BuiltIn.{BuiltIn}
use Rattle.kl1_model.specs.Term.{Term, Terms, count_of, size, sizes}
use Rattle.kl1_model.specs.Unify.{Equation, argument_equations}
use Rattle.kl1_model.specs.code.Comparing.{clash, any_clash, awaited, all_awaited}
use Rattle.kl1_text.specs.Reading.{Reads}
use Rattle.kl1_match_guard.specs.declared.pair.Pair.{Pair}
use Rattle.kl1_match_guard.specs.declared.frame.Frame.{Frame}
use Rattle.kl1_match_guard.specs.declared.meeting.Met.{Met}
use Rattle.kl1_match_guard.specs.declared.meeting.Met.TheVariants.{Same, Clash, Waits, WaitsBoth, Open}

-- whether a number is among these
abbrev pub is_among : ℕ → List ℕ → Bool
is_among v ws = list_any (λ w. v == w) ws

-- whether two terms wait for a variable
abbrev pub wait_for : ℕ → Term → Term → Bool
wait_for v t u = is_among v (awaited t u)

-- whether something holds of the sides of some equation
abbrev pub some_equation : (Term → Term → Bool) → List Equation → Bool
some_equation p [] = false
some_equation p (e ∷ es) = p e.left e.right || some_equation p es

-- the arguments of two structures that are still to be looked at, side by side
abbrev pub equations_left : {S : Type 0} → (S → Terms) → Frame S → List Equation
equations_left arguments x = drop x.next (argument_equations (arguments x.left) (arguments x.right) [])

-- whether something holds of some of them
abbrev pub some_frame : {S : Type 0} → (S → Terms) → (Term → Term → Bool) → List (Frame S) → Bool
some_frame arguments p [] = false
some_frame arguments p (x ∷ xs) = some_equation p (equations_left arguments x) || some_frame arguments p xs

-- whether something holds of some two terms side by side
abbrev pub some_pair : {A : Type 0} → (A → Term) → (Term → Term → Bool) → List (Pair A) → Bool
some_pair term p [] = false
some_pair term p (x ∷ xs) = p (term x.left) (term x.right) || some_pair term p xs

-- whether a clash is left
abbrev pub clash_left : {S A : Type 0} → (S → Terms) → (A → Term) → List (Frame S) → List (Pair A) → Bool
clash_left arguments term frames rest = some_frame arguments clash frames || some_pair term clash rest

-- whether a variable is waited for, by what is left or what was found
abbrev pub await_left : {V S A : Type 0} → (V → ℕ) → (S → Terms) → (A → Term) → ℕ → List (Frame S) → List V → List (Pair A) → Bool
await_left number arguments term v frames waits rest = some_frame arguments (wait_for v) frames || (is_among v (map number waits) || some_pair term (wait_for v) rest)

-- how much is left, a measure: twice the sizes of the left sides, and one for each frame
abbrev pub sides_size : List Equation → ℕ
sides_size [] = 0
sides_size (e ∷ es) = size e.left + sides_size es

abbrev pub work_left : {S : Type 0} → (S → Terms) → List (Frame S) → ℕ
work_left arguments [] = 0
work_left arguments (x ∷ xs) = suc (2 * sides_size (equations_left arguments x)) + work_left arguments xs

-- what comes of two terms at the top, for one reading of the names
abbrev pub MeetsAs : {V S : Type 0} → (V → ℕ) → (S → Terms) → Term → Term → Met V S → Type 0
MeetsAs number arguments t u Same = (clash t u ≡ false) × (awaited t u ≡ [])
MeetsAs number arguments t u Clash = clash t u ≡ true
MeetsAs number arguments t u (Waits v) = (clash t u ≡ false) × (awaited t u ≡ number v ∷ [])
MeetsAs number arguments t u (WaitsBoth v w) = (clash t u ≡ false) × (awaited t u ≡ number v ∷ number w ∷ [])
MeetsAs number arguments t u (Open s r n) = (clash t u ≡ any_clash (arguments s) (arguments r)) × (awaited t u ≡ all_awaited (arguments s) (arguments r))

-- two structures that are to be looked at: the left one's arguments are as many as the number says, and smaller than it
abbrev pub OpensAs : {V S : Type 0} → (S → Terms) → Term → Met V S → Type 0
OpensAs arguments t Same = Unit {0}
OpensAs arguments t Clash = Unit {0}
OpensAs arguments t (Waits v) = Unit {0}
OpensAs arguments t (WaitsBoth v w) = Unit {0}
OpensAs arguments t (Open s r n) = (count_of (arguments s) ≡ n) × (size t ≡ suc (sizes (arguments s)))

-- variables that are unbound, and structures that are there and have as many arguments as the number says
abbrev pub IsMetIn : {V S : Type 0} → (V → Type 0) → (S → Type 0) → (S → ℕ) → Met V S → Type 0
IsMetIn IsFree IsThere count Same = Unit {0}
IsMetIn IsFree IsThere count Clash = Unit {0}
IsMetIn IsFree IsThere count (Waits v) = IsFree v
IsMetIn IsFree IsThere count (WaitsBoth v w) = IsFree v × IsFree w
IsMetIn IsFree IsThere count (Open s r n) = IsThere s × IsThere r × (n ≡ count s) × (n ≡ count r)

-- two structures that are there and have as many arguments as the frame says
pub record IsFrameOf {N S : Type 0} (IsThere : S → Type 0) (count : S → ℕ) (arguments : (N → List ℕ) → S → Terms) (x : Frame S) : Type 0 where
  pub left : IsThere x.left
  pub right : IsThere x.right
  pub left_count : x.count ≡ count x.left
  pub right_count : x.count ≡ count x.right
  pub counted : (f : N → List ℕ) → count_of (arguments f x.left) ≡ x.count

-- two terms that stand there and are kept as a whole
pub record IsPairOf {A : Type 0} (IsAt IsShared : A → Type 0) (x : Pair A) : Type 0 where
  pub left : IsAt x.left
  pub right : IsAt x.right
  pub left_shared : IsShared x.left
  pub right_shared : IsShared x.right

-- two terms were taken up, for one reading of the names
pub record TakesUp {V S A : Type 0} (number : V → ℕ) (arguments : S → Terms) (term : A → Term) (pair : Pair A) (frames : List (Frame S)) (waits : List V) (rest : List (Pair A)) (frames_after : List (Frame S)) (waits_after : List V) (rest_after : List (Pair A)) : Type 0 where
  pub clash : clash_left arguments term frames_after rest_after ≡ (clash (term pair.left) (term pair.right) || clash_left arguments term frames rest)
  pub awaited : (v : ℕ) → await_left number arguments term v frames_after waits_after rest_after ≡ (wait_for v (term pair.left) (term pair.right) || await_left number arguments term v frames waits rest)

-- two terms were taken up, or they clash, if the answer is no
abbrev pub TakesUpAs : {N V S A : Type 0} → (BuiltIn → N) → (V → ℕ) → ((N → List ℕ) → S → Terms) → ((N → List ℕ) → A → Term) → Pair A → List (Frame S) → List V → List (Pair A) → List (Frame S) → List V → List (Pair A) → Bool → Type 0
TakesUpAs {N = N} built number arguments term pair frames waits rest frames_after waits_after rest_after true = (f : N → List ℕ) → Reads built f → TakesUp number (arguments f) (term f) pair frames waits rest frames_after waits_after rest_after
TakesUpAs {N = N} built number arguments term pair frames waits rest frames_after waits_after rest_after false = (f : N → List ℕ) → Reads built f → clash (term f pair.left) (term f pair.right) ≡ true

-- what is left of two terms: nothing clashes but what is kept as a whole, and these variables are waited for beside what those wait for
pub record Parts {V A : Type 0} (number : V → ℕ) (term : A → Term) (t u : Term) (waits : List V) (rest : List (Pair A)) : Type 0 where
  pub clash : clash t u ≡ some_pair term clash rest
  pub awaited : (v : ℕ) → wait_for v t u ≡ (is_among v (map number waits) || some_pair term (wait_for v) rest)

-- that, or the terms clash, if the answer is no
abbrev pub PartsAs : {N V A : Type 0} → (BuiltIn → N) → (V → ℕ) → ((N → List ℕ) → A → Term) → A → A → List V → List (Pair A) → Bool → Type 0
PartsAs {N = N} built number term left right waits rest true = (f : N → List ℕ) → Reads built f → Parts number (term f) (term f left) (term f right) waits rest
PartsAs {N = N} built number term left right waits rest false = (f : N → List ℕ) → Reads built f → clash (term f left) (term f right) ≡ true

-- what is left of two terms while frames are on the way, for one reading of the names
pub record SidesLeft {V S A : Type 0} (number : V → ℕ) (arguments : S → Terms) (term : A → Term) (t u : Term) (frames : List (Frame S)) (waits : List V) (rest : List (Pair A)) : Type 0 where
  pub clash : clash t u ≡ clash_left arguments term frames rest
  pub awaited : (v : ℕ) → wait_for v t u ≡ await_left number arguments term v frames waits rest

-- that, however names are read
abbrev pub SidesLeftAs : {N V S A : Type 0} → (BuiltIn → N) → (V → ℕ) → ((N → List ℕ) → S → Terms) → ((N → List ℕ) → A → Term) → A → A → List (Frame S) → List V → List (Pair A) → Type 0
SidesLeftAs {N = N} built number arguments term left right frames waits rest = (f : N → List ℕ) → Reads built f → SidesLeft number (arguments f) (term f) (term f left) (term f right) frames waits rest
