-- How modules are stored: their clauses by parts, and the terms of those by their nodes.
use Rattle.std.specs.Prelude.{◌≡◌, ℕ, List, Option, refl}
use Rattle.std.proofs.Common.{ap}
use Rattle.std.specs.Coded.{Coded, code_by, coded×, coded_list, coded_option, coded_ℕ}
use Rattle.kl1_model.specs.Term.{Term, Terms, none, more, list_of, terms_of}
use Rattle.kl1_model.specs.code.TermCode.{term_code}
use Rattle.kl1_model.specs.Module.{BodyGoal, Clause, Module}

-- terms as a list, and back
pub terms_of-list_of : (ts : Terms) → terms_of (list_of ts) ≡ ts
terms_of-list_of none = refl
terms_of-list_of (more t ts) = ap (more t) (terms_of-list_of ts)

-- how a goal of a body is stored
abbrev pub goal_code : Coded BodyGoal
goal_code =
    code_by (Term × Option ℕ) (coded× term_code (coded_option coded_ℕ))
    (λ g. (g.goal, g.priority))
    (λ p. record { goal = p.0; priority = p.1 })
    (λ g. refl)

-- how a clause is stored
abbrev pub clause_code : Coded Clause
clause_code =
    code_by (List ℕ × (List Term × (List Term × (ℕ × List BodyGoal)))) (coded× (coded_list coded_ℕ) (coded× (coded_list term_code) (coded× (coded_list term_code) (coded× coded_ℕ (coded_list goal_code)))))
    (λ c. (c.name, (list_of c.patterns, (c.tests, (c.section, c.body)))))
    (λ p. record { name = p.0; patterns = terms_of p.1.0; tests = p.1.1.0; section = p.1.1.1.0; body = p.1.1.1.1 })
    (λ c. ap (λ (ts : Terms). let d : Clause = record { name = c.name; patterns = ts; tests = c.tests; section = c.section; body = c.body } in d) (terms_of-list_of c.patterns))

-- how a module is stored
abbrev pub module_code : Coded Module
module_code =
    code_by (List ℕ × (List ℕ × List Clause)) (coded× (coded_list coded_ℕ) (coded× (coded_list coded_ℕ) (coded_list clause_code)))
    (λ m. (m.name, (m.source, m.clauses)))
    (λ p. record { name = p.0; source = p.1.0; clauses = p.1.1 })
    (λ m. refl)
