-- How nodes begin their text.
use Rattle.std.specs.Prelude.{ℕ, ◌==◌, List, codes, bytes_eq, if◌then◌else◌, Bool, true, false}
use Rattle.kl1_term.specs.declared.node.Node.{Node}
use Rattle.kl1_term.specs.declared.node.Node.TheVariants.{Variable, Integer, Atom, Structure}
use Rattle.kl1_term.specs.declared.opening.Opening.{Opening}
use Rattle.kl1_term.specs.declared.opening.Opening.TheVariants.{Cell, Colon, Call}
use Rattle.kl1_term.specs.declared.opening.RestForm.{RestForm}
use Rattle.kl1_term.specs.declared.opening.RestForm.TheVariants.{End, Element, Bar}

-- how the text of a structure with name `f` and `n` arguments begins
abbrev pub opening_of : List ℕ → ℕ → Opening
opening_of f n = if n == 2 then (if bytes_eq f (codes ".") then Cell else if bytes_eq f (codes ":") then Colon else Call) else Call

-- how the rest of a list begins with a structure
abbrev pub rest_by : Opening → RestForm
rest_by Cell = Element
rest_by Colon = Bar
rest_by Call = Bar

-- how a term's text begins as the rest of a list
abbrev pub rest_form_of : Node → RestForm
rest_form_of (Variable n) = Bar
rest_form_of (Integer i) = Bar
rest_form_of (Atom a) = if bytes_eq a (codes "[]") then End else Bar
rest_form_of (Structure f n) = rest_by (opening_of f n)

-- whether a structure may stand after the colon
abbrev pub is_behind_by : Opening → Bool
is_behind_by Cell = true
is_behind_by Colon = false
is_behind_by Call = true
