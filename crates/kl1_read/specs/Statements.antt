-- A clause as terms, before it is known whether they may stand there.
use Rattle.std.specs.Prelude.{ℕ, nat_le, ◌&&◌, Bool, true, false, if◌then◌else◌, List, [], ◌∷◌, map, Option, Some, None, option_map, option_and_then}
use Rattle.std.specs.Borrow.{Bor}
use Rattle.kl1_model.specs.Term.{Term, atom, structure, more, terms_of}
use Rattle.kl1_model.specs.Token.{name_token}
use Rattle.kl1_model.specs.Grammar as grammar
use Rattle.kl1_model.specs.reader.Reader.{Answer, then_read, then_skip, if_there, behind_open, behind_close, behind_neck, behind_bar}
use Rattle.kl1_model.specs.Meaning.{is_writable, highest, highest_in}
use Rattle.kl1_model.specs.Goal.{is_head, is_test, body_goal}
use Rattle.kl1_model.specs.Module.{BodyGoal, Clause, each_of, without_priority, may_name, true_goal}
use Rattle.kl1_read.specs.declared.numbered.Numbered.{Numbered}
use Rattle.kl1_read.specs.declared.clause_terms.ClauseTerms.{ClauseTerms}
use Rattle.kl1_read.specs.declared.role.Role.{Role}
use Rattle.kl1_read.specs.declared.role.Role.TheVariants.{Pattern, Test}
use Rattle.kl1_read.specs.Views.{numbered_token}
use Rattle.kl1_read.specs.Meanings.{answer_map, series_read, fit}
use Rattle.kl1_read.specs.BodyGoals.{goal_of_term, terms_after, written_goals}

-- the head of a clause: its name and its arguments
pub record Heading : Type 0 where
  pub name : List ℕ
  pub arguments : List Term

-- a head, tests, and the goals of a body with the priorities that they name
pub record Statement : Type 0 where
  pub heading : Heading
  pub tests : List Term
  pub body : List BodyGoal

-- what was put, if something was
abbrev pub given : {A : Type 0} → Bool → A → Option A
given put x = if put then Some x else None

-- the clause of a head, tests and a body
abbrev pub statement_by : Heading → List Term → List BodyGoal → Statement
statement_by h tests body = record { heading = h; tests = tests; body = body }

-- a clause that was read: its head, its tests and its body in lists
abbrev pub statement_of : ClauseTerms → Statement
statement_of c = statement_by (record { name = c.name; arguments = c.arguments.items }) c.tests.items (map goal_of_term c.body.items)

-- terms that were read, with what is after them
abbrev pub left_view : Option (Bor (List Numbered)) → List Term → Answer (List Term)
left_view None ts = None
left_view (Some rest) ts = Some (ts, map numbered_token rest.now)

-- a clause that was read, with what is after it
abbrev pub statement_view : Option (Bor (List Numbered)) → Statement → Answer Statement
statement_view None s = None
statement_view (Some rest) s = Some (s, map numbered_token rest.now)

-- the name and the arguments of a head that were read, with what is after them
abbrev pub heading_view : Option (Bor (List Numbered)) → List ℕ → List Term → Answer Heading
heading_view None p ts = None
heading_view (Some rest) p ts = Some (record { name = p; arguments = ts }, map numbered_token rest.now)

-- the terms of expressions parted by commas, if a text can write each
abbrev pub written_series : List grammar.Numbered → Answer (List Term)
written_series ts = fit (series_read ts)

-- arguments in parentheses after the name of a head
abbrev pub arguments_read : List ℕ → List grammar.Numbered → Answer Heading
arguments_read p ts = then_skip (behind_open ts) (λ us. then_read (written_series us) (λ s vs. then_skip (behind_close vs) (λ ws. Some (record { name = p; arguments = s }, ws))))

-- a head, if one is in front whose arguments a text can write
abbrev pub heading_read : List grammar.Numbered → Answer Heading
heading_read (name_token p quotes false ∷ ts) = Some (record { name = p; arguments = [] }, ts)
heading_read (name_token p quotes true ∷ ts) = arguments_read p ts
heading_read _ = None

-- the clause of a head, tests and the goals of a body that was read
abbrev pub with_body : Heading → List Term → Answer (List BodyGoal) → Answer Statement
with_body h tests x = answer_map (statement_by h tests) x

-- a body after a neck, or tests, a bar and a body
abbrev pub guarded_read : Heading → List grammar.Numbered → Answer Statement
guarded_read h ts = then_read (written_series ts) (λ s us. if_there (behind_bar us) (with_body h [] (terms_after written_goals s us)) (λ vs. with_body h s (written_goals vs)))

-- what is after a head: nothing, or a neck with a body
abbrev pub body_read : Heading → List grammar.Numbered → Answer Statement
body_read h us = if_there (behind_neck us) (Some (record { heading = h; tests = []; body = without_priority true_goal ∷ [] }, us)) (λ vs. guarded_read h vs)

-- a clause as terms
abbrev pub statement_read : List grammar.Numbered → Answer Statement
statement_read ts = then_read (heading_read ts) (λ h us. body_read h us)

-- a head as a term
abbrev pub heading_term : List ℕ → List Term → Term
heading_term p [] = atom p
heading_term p (t ∷ ts) = structure p (more t (terms_of ts))

-- whether a name may be the head of these arguments, and a text can write it with them
abbrev pub is_fit_name : List ℕ → List Term → Bool
is_fit_name p ts = is_writable (heading_term p ts) && is_head (heading_term p ts)

-- the patterns of a head that may stand there
abbrev pub fit_patterns : List ℕ → List Term → Option (List Term)
fit_patterns p ts = if is_fit_name p ts then Some ts else None

-- a test, whose variables have numbers up to this one
abbrev pub fit_test_upto : ℕ → Term → Option Term
fit_test_upto most t = if is_writable t && is_test t && nat_le (highest t) most then Some t else None

-- whether a goal may name this priority, if it names one
abbrev pub may_have : Option ℕ → Term → Bool
may_have None t = true
may_have (Some n) t = may_name n t

-- the goal of the body that a term is, in a module of this name, with the priority that it names, if any
abbrev pub fit_named : List ℕ → BodyGoal → Option BodyGoal
fit_named m g = if is_writable g.goal && may_have g.priority g.goal then option_map (λ t. record { goal = t; priority = g.priority }) (body_goal m g.goal) else None

-- the clause of patterns, tests and a body, in a module of this name
abbrev pub clause_behind : List ℕ → Statement → List Term → Option Clause
clause_behind m s ps =
    option_and_then (λ ts. option_map (λ gs. record { name = s.heading.name; patterns = terms_of ps; tests = ts; section = 0; body = gs }) (each_of (fit_named m) s.body)) (each_of (fit_test_upto (highest_in (terms_of ps))) s.tests)

-- the clause of a head, tests and a body, in a module of this name
abbrev pub clause_of_statement : List ℕ → Statement → Option Clause
clause_of_statement m s = option_and_then (clause_behind m s) (fit_patterns s.heading.name s.heading.arguments)

-- what stands in the head or the guard of a clause
abbrev pub fit_as : Role → Term → Option Term
fit_as Pattern t = Some t
fit_as (Test most) t = fit_test_upto most t
