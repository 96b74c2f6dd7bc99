-- Answers to whether something holds of terms, as far as their variables are bound.
use Rattle.std.specs.Prelude.{ℕ, Bool, true, false, if◌then◌else◌, List, [], ◌++◌}

-- yes, no, or not before one of these variables is bound
pub data Answer : Type 0 where
  yes : Answer
  no : Answer
  wait : List ℕ → Answer

-- two answers together, which is Kleene's conjunction: no if one of them is no, or else wait if one of them is wait, for the variables of
-- both, or else yes
abbrev pub together : Answer → Answer → Answer
together yes a = a
together no a = no
together (wait vs) yes = wait vs
together (wait vs) no = no
together (wait vs) (wait ws) = wait (vs ++ ws)

-- the other answer
abbrev pub opposite : Answer → Answer
opposite yes = no
opposite no = yes
opposite (wait vs) = wait vs

-- an answer that is known
abbrev pub known : Bool → Answer
known b = if b then yes else no

-- the variables that an answer waits for
abbrev pub awaited_in : Answer → List ℕ
awaited_in (wait vs) = vs
awaited_in a = []

-- whether an answer is no
abbrev pub is_no : Answer → Bool
is_no no = true
is_no a = false
