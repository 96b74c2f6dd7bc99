-- Worked texts, with what each of them is.
use Rattle.std.specs.Prelude.{◌≡◌, ℕ, ◌++◌, List, [], ◌∷◌, length, pos, negsuc, codes, replicate}
use Rattle.kl1_model.specs.Term.{variable, integer, atom, structure, none, more}
use Rattle.kl1_model.specs.Meaning.{pair, nil, cell}
use Rattle.kl1_model.specs.Module.{Clause, good, bad, true_goal, without_priority, read_module, read_goal}

-- the clauses that join two lists, with no last line feed
abbrev pub app_text : List ℕ
app_text = codes ":- module app.\napp([],Y,Z) :- true | Z = Y.\napp([A|X],Y,Z) :- true | Z = [A|W], app(X,Y,W)."

-- its length
abbrev pub AppHasBytes : Type 0
AppHasBytes = length app_text ≡ 91

-- the empty list in front
abbrev pub app_of_none : Clause
app_of_none = record { name = codes "app"; patterns = more nil (more (variable 1) (more (variable 2) none)); tests = true_goal ∷ []; section = 0; body = without_priority (pair (codes "=") (variable 2) (variable 1)) ∷ [] }

-- an element in front
abbrev pub app_of_more : Clause
app_of_more = record { name = codes "app"; patterns = more (cell (variable 1) (variable 2)) (more (variable 3) (more (variable 4) none)); tests = true_goal ∷ []; section = 0; body = without_priority (pair (codes "=") (variable 4) (cell (variable 1) (variable 5))) ∷ without_priority (pair (codes ":") (atom (codes "app")) (structure (codes "app") (more (variable 2) (more (variable 3) (more (variable 5) none))))) ∷ [] }

-- the text is a module of two clauses
abbrev pub AppIsRead : Type 0
AppIsRead = read_module app_text ≡ good (record { name = codes "app"; source = app_text; clauses = app_of_none ∷ app_of_more ∷ [] })

-- a test of a variable that isn't the head's makes its line bad
abbrev pub TestIsBad : Type 0
TestIsBad = read_module (codes ":- module z.\np(X) :- Y > 0 | true.") ≡ bad 2

-- a name of `n` bytes
abbrev pub long_name : ℕ → List ℕ
long_name n = replicate n 97

-- a module of one clause with a name of `n` bytes
abbrev pub long_text : ℕ → List ℕ
long_text n = codes ":- module z.\n" ++ long_name n ++ codes "."

-- a name of 127 bytes is one
abbrev pub LongNameIsRead : Type 0
LongNameIsRead = read_module (long_text 127) ≡ good (record { name = codes "z"; source = long_text 127; clauses = record { name = long_name 127; patterns = none; tests = []; section = 0; body = without_priority true_goal ∷ [] } ∷ [] })

-- a name of 128 bytes makes its line bad
abbrev pub LongerNameIsBad : Type 0
LongerNameIsBad = read_module (long_text 128) ≡ bad 2

-- a variable of 63 bytes is one
abbrev pub LongVariableIsRead : Type 0
LongVariableIsRead = read_goal (replicate 63 88 ++ codes " = 1") ≡ good (pair (codes "=") (variable 1) (integer (pos 1)))

-- a variable of 64 bytes makes its line bad
abbrev pub LongerVariableIsBad : Type 0
LongerVariableIsBad = read_goal (replicate 64 88 ++ codes " = 1") ≡ bad 1

-- a dot before a letter is no end and no sign
abbrev pub DotInsideIsBad : Type 0
DotInsideIsBad = read_module (codes ":- module z.\np.q.") ≡ bad 2

-- comments alone are no module
abbrev pub CommentsAreBad : Type 0
CommentsAreBad = read_module (codes "% one\n% two\n") ≡ bad 1

-- a goal with a variable, which has the number 1
abbrev pub GoalIsRead : Type 0
GoalIsRead = read_goal (codes "f(X,a) = f(1,b)") ≡ good (pair (codes "=") (structure (codes "f") (more (variable 1) (more (atom (codes "a")) none))) (structure (codes "f") (more (integer (pos 1)) (more (atom (codes "b")) none))))

-- the least integer is one
abbrev pub LeastIsRead : Type 0
LeastIsRead = read_goal (codes "X = -9223372036854775808") ≡ good (pair (codes "=") (variable 1) (integer (negsuc 9223372036854775807)))

-- one more than the greatest integer is none
abbrev pub TooLargeIsBad : Type 0
TooLargeIsBad = read_goal (codes "X = 9223372036854775808") ≡ bad 1

-- a blank after `-` makes it no integer
abbrev pub LooseMinusIsBad : Type 0
LooseMinusIsBad = read_goal (codes "X = - 1") ≡ bad 1
