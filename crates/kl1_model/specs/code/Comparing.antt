-- Passive equality in parts, for code that goes along terms: whether they clash, and the variables for which they wait; and of a list of terms.
use Rattle.std.specs.Prelude.{ℕ, ◌==◌, ◌&&◌, ◌||◌, not, Bool, true, false, if◌then◌else◌, List, [], ◌∷◌, ◌++◌, bytes_eq}
use Rattle.std.specs.List.{list_all, list_any}
use Rattle.std.specs.Ordering.{int_eq}
use Rattle.kl1_model.specs.Term.{Term, variable, integer, atom, structure, Terms, more, count_of, same_term}
use Rattle.kl1_model.specs.Answer.{Answer, yes, no, wait}

-- whether at one place of both terms stand constants or structures that differ in kind, name, number of arguments or value
abbrev mutual
  pub clash : Term → Term → Bool
  clash (variable v) u = false
  clash t (variable w) = false
  clash (integer i) (integer j) = not (int_eq i j)
  clash (atom a) (atom b) = not (bytes_eq a b)
  clash (structure f ts) (structure g us) = if bytes_eq f g && count_of ts == count_of us then any_clash ts us else true
  clash t u = true

  pub any_clash : Terms → Terms → Bool
  any_clash (more t ts) (more u us) = clash t u || any_clash ts us
  any_clash ts us = false

-- the variables for which two terms wait, if they don't clash: those that stand beside another term
abbrev mutual
  pub awaited : Term → Term → List ℕ
  awaited (variable v) (variable w) = if v == w then [] else v ∷ w ∷ []
  awaited (variable v) u = v ∷ []
  awaited t (variable w) = w ∷ []
  awaited (structure f ts) (structure g us) = all_awaited ts us
  awaited t u = []

  pub all_awaited : Terms → Terms → List ℕ
  all_awaited (more t ts) (more u us) = awaited t u ++ all_awaited ts us
  all_awaited ts us = []

-- the answer by these parts, which is that of `compare`
abbrev pub answer_of_parts : Bool → List ℕ → Answer
answer_of_parts true vs = no
answer_of_parts false [] = yes
answer_of_parts false (v ∷ vs) = wait (v ∷ vs)

-- the answer without the variables
pub data Passive : Type 0 where
  same : Passive
  differs : Passive
  unknown : Passive

-- two terms are the same, or clash, or neither
abbrev pub passive : Term → Term → Passive
passive t u = if same_term t u then same else if clash t u then differs else unknown

-- whether a term is the same as all of these
abbrev pub same_as_all : Term → List Term → Bool
same_as_all t us = list_all (λ u. same_term t u) us

-- whether each two of the terms are the same
abbrev pub all_same : List Term → Bool
all_same [] = true
all_same (t ∷ ts) = same_as_all t ts && all_same ts

-- whether a term clashes with some of these
abbrev pub clashes_with_some : Term → List Term → Bool
clashes_with_some t us = list_any (λ u. clash t u) us

-- whether some two of the terms clash
abbrev pub some_clash : List Term → Bool
some_clash [] = false
some_clash (t ∷ ts) = clashes_with_some t ts || some_clash ts

-- the variables for which a term and these wait
abbrev pub awaited_with : Term → List Term → List ℕ
awaited_with t [] = []
awaited_with t (u ∷ us) = awaited t u ++ awaited_with t us

-- the variables for which each two of the terms wait
abbrev pub awaited_by : List Term → List ℕ
awaited_by [] = []
awaited_by (t ∷ ts) = awaited_with t ts ++ awaited_by ts

-- passive equality of a list of terms: all the same, or some two clash, or neither
abbrev pub passive_each : List Term → Passive
passive_each ts = if all_same ts then same else if some_clash ts then differs else unknown
