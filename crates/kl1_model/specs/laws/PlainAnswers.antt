-- Answers without the variables that they wait for, and verdicts by them, as they were defined before answers named variables. They stand here
-- so that a law can say that nothing changed.
use Rattle.std.specs.Prelude.{ℕ, suc, ◌+◌, ◌==◌, ◌&&◌, Bool, if◌then◌else◌, List, [], ◌∷◌, ◌++◌, bytes_eq, Option, Some, None}
use Rattle.std.specs.Ordering.{int_eq}
use Rattle.kl1_model.specs.declared.comparison.Comparison.{Comparison}
use Rattle.kl1_model.specs.declared.number.Number.{Number}
use Rattle.kl1_model.specs.declared.number.Number.TheVariants.{Value}
use Rattle.kl1_model.specs.Term.{Term, variable, integer, atom, structure, Terms, none, more, count_of, Replacement}
use Rattle.kl1_model.specs.Meaning.{highest_in}
use Rattle.kl1_model.specs.Found.{Found, found, awaits, wrong, then_found, found_map}
use Rattle.kl1_model.specs.Arithmetic.{evaluated}
use Rattle.kl1_model.specs.Answer.{Answer, yes, no, wait}
use Rattle.kl1_model.specs.code.Comparing.{Passive, same, differs, unknown, passive}
use Rattle.kl1_model.specs.Guard.{Test, holds, looks, is_same, is_other, compares, test_of, test_substituted, is_found, compared}
use Rattle.kl1_model.specs.Module.{Clause}
use Rattle.kl1_model.specs.Match.{term_at}

-- yes, no, or not yet
pub data Plain : Type 0 where
  surely : Plain
  never : Plain
  not_yet : Plain

-- an answer without the variables that it waits for
abbrev pub plain : Answer → Plain
plain yes = surely
plain no = never
plain (wait vs) = not_yet

-- two answers together: never if one of them is, or else not yet if one of them is, or else surely
abbrev pub plain_together : Plain → Plain → Plain
plain_together surely a = a
plain_together never a = never
plain_together not_yet never = never
plain_together not_yet a = not_yet

-- an answer that is known
abbrev pub plain_known : Bool → Plain
plain_known b = if b then surely else never

-- the answer of `=`, by passive equality
abbrev pub plain_same : Passive → Plain
plain_same same = surely
plain_same differs = never
plain_same unknown = not_yet

-- the answer of `\=`, by passive equality
abbrev pub plain_other : Passive → Plain
plain_other same = never
plain_other differs = surely
plain_other unknown = not_yet

-- a comparison of what two expressions come to
abbrev pub plain_numbers : Comparison → Number → Number → Plain
plain_numbers c (Value x) (Value y) = plain_known (compared c x y)
plain_numbers c a b = never

-- a comparison by its sides
abbrev pub plain_sides : Comparison → Found Number → Found Number → Plain
plain_sides c x y = elim (then_found x (λ a. found_map (plain_numbers c a) y)) [ found a ↦ a | awaits v ↦ not_yet | wrong ↦ never ]

-- the answer of a test
abbrev pub plain_test : Test → Plain
plain_test holds = surely
plain_test (looks i (variable v)) = not_yet
plain_test (looks i t) = plain_known (is_found i t)
plain_test (is_same t u) = plain_same (passive t u)
plain_test (is_other t u) = plain_other (passive t u)
plain_test (compares c t u) = plain_sides c (evaluated t) (evaluated u)

-- a match: its answer, and the term at each place of a head's variable that was reached, in order
pub record PlainMatch : Type 0 where
  pub answer : Plain
  pub places : List Replacement

-- an answer without places
abbrev pub plain_with : Plain → PlainMatch
plain_with a = record { answer = a; places = [] }

-- two parts of a match
abbrev pub plain_both : PlainMatch → PlainMatch → PlainMatch
plain_both a b = record { answer = plain_together a.answer b.answer; places = a.places ++ b.places }

-- a pattern beside a term
abbrev mutual
  pub plain_pattern : Term → Term → PlainMatch
  plain_pattern (variable v) t = record { answer = surely; places = record { number = v; by = t } ∷ [] }
  plain_pattern p (variable w) = plain_with not_yet
  plain_pattern (integer i) (integer j) = plain_with (plain_known (int_eq i j))
  plain_pattern (atom a) (atom b) = plain_with (plain_known (bytes_eq a b))
  plain_pattern (structure f ps) (structure g ts) = if bytes_eq f g && count_of ps == count_of ts then plain_patterns ps ts else plain_with never
  plain_pattern p t = plain_with never

  pub plain_patterns : Terms → Terms → PlainMatch
  plain_patterns none none = plain_with surely
  plain_patterns (more p ps) (more t ts) = plain_both (plain_pattern p t) (plain_patterns ps ts)
  plain_patterns ps ts = plain_with never

-- the term at a place and the term at each of these places of its variable
abbrev pub plain_one : Replacement → List Replacement → Plain
plain_one p [] = surely
plain_one p (q ∷ qs) = plain_together (if p.number == q.number then plain_same (passive p.by q.by) else surely) (plain_one p qs)

-- each two of the terms at the places of a variable
abbrev pub plain_each : List Replacement → Plain
plain_each [] = surely
plain_each (p ∷ ps) = plain_together (plain_one p ps) (plain_each ps)

-- what stands in a test for a variable: the term at its first place, or if no place was reached a variable that differs from all others
abbrev pub guard_term : ℕ → List Replacement → ℕ → Term
guard_term top places v = term_at places v (variable (suc (top + v)))

-- the answer of what may be a test, with these terms in place of its variables
abbrev pub plain_by : (ℕ → Term) → Option Test → Plain
plain_by s x = elim x [ None ↦ never | Some test ↦ plain_test (test_substituted s test) ]

-- the answer of all tests, with these terms in place of their variables
abbrev pub plain_tests : (ℕ → Term) → List Term → Plain
plain_tests s [] = surely
plain_tests s (t ∷ ts) = plain_together (plain_by s (test_of t)) (plain_tests s ts)

-- the answer of a match, of its places, and of tests over a goal whose greatest variable this is
abbrev pub plain_whole : List Term → ℕ → PlainMatch → Plain
plain_whole tests top m = plain_together (plain_together m.answer (plain_each m.places)) (plain_tests (guard_term top m.places) tests)

-- the verdict of a clause on a goal's arguments
abbrev pub plain_verdict : Clause → Terms → Plain
plain_verdict c ts = plain_whole c.tests (highest_in ts) (plain_patterns c.patterns ts)
