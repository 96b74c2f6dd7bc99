-- The variables of a term are those of its nodes.
use Rattle.std.proofs.Common.{◌≡◌, ℕ, max, List, [], ◌++◌, append_assoc, append-nil, refl, ap, sym, ◌∙◌, arith}
use Rattle.kl1_model.specs.Term.{Term, variable, integer, atom, structure, Terms, none, more}
use Rattle.kl1_model.specs.code.TermCode.{NodeCode, nodes_of, nodes_of_all}
use Rattle.kl1_model.specs.Meaning.{highest, highest_in as highest_of_all, variables_of, variables_in as variables_of_all, numbered_after, is_numbered}
use Rattle.kl1_term.specs.Variables.{highest_in, variables_in}

mutual
  pub variables_one : (t : Term) (cs : List NodeCode) → variables_in (nodes_of t ++ cs) ≡ variables_of t ++ variables_in cs
  variables_one (variable n) cs = refl
  variables_one (integer i) cs = refl
  variables_one (atom a) cs = refl
  variables_one (structure f ts) cs = variables_all ts cs

  pub variables_all : (ts : Terms) (cs : List NodeCode) → variables_in (nodes_of_all ts ++ cs) ≡ variables_of_all ts ++ variables_in cs
  variables_all none cs = refl
  variables_all (more t ts) cs =
      ap variables_in (append_assoc (nodes_of t) (nodes_of_all ts) cs)
      ∙ (variables_one t (nodes_of_all ts ++ cs)
      ∙ (ap (λ (x : List ℕ). variables_of t ++ x) (variables_all ts cs) ∙ sym (append_assoc (variables_of t) (variables_of_all ts) (variables_in cs))))

mutual
  pub highest_one : (t : Term) (cs : List NodeCode) → highest_in (nodes_of t ++ cs) ≡ max (highest t) (highest_in cs)
  highest_one (variable n) cs = refl
  highest_one (integer i) cs = omega arith
  highest_one (atom a) cs = omega arith
  highest_one (structure f ts) cs = highest_all ts cs

  pub highest_all : (ts : Terms) (cs : List NodeCode) → highest_in (nodes_of_all ts ++ cs) ≡ max (highest_of_all ts) (highest_in cs)
  highest_all none cs = omega arith
  highest_all (more t ts) cs =
      ap highest_in (append_assoc (nodes_of t) (nodes_of_all ts) cs)
      ∙ (highest_one t (nodes_of_all ts ++ cs) ∙ omega (arith, highest_all ts cs))

pub highest_is : (cs : List NodeCode) (t : Term) → cs ≡ nodes_of t → highest_in cs ≡ highest t
highest_is cs t e = ap highest_in (e ∙ sym (append-nil (nodes_of t))) ∙ (highest_one t [] ∙ omega arith)

pub numbered_is : (cs : List NodeCode) (t : Term) → cs ≡ nodes_of t → numbered_after 0 (variables_in cs) ≡ is_numbered t
numbered_is cs t e = ap (λ (x : List NodeCode). numbered_after 0 (variables_in x)) (e ∙ sym (append-nil (nodes_of t))) ∙ ap (numbered_after 0) (variables_one t [] ∙ append-nil (variables_of t))

pub next_highest : (m n k : ℕ) → max (max m n) k ≡ max m (max n k)
next_highest m n k = omega arith
