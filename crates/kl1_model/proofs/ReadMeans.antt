-- The variables of a tree's tokens are those of the term that the tree means.
use Rattle.std.specs.Prelude.{◌≡◌, ℕ, true, List, [], ◌∷◌, ◌++◌, codes}
use Rattle.std.proofs.Common.{refl, ap, sym, ◌∙◌}
use Rattle.std.proofs.lemmas.List.{append_assoc, append-nil}
use Rattle.kl1_model.specs.declared.sign.Sign.TheVariants.{Colon, Comma, Bar, Open, Close, CloseList, At}
use Rattle.kl1_model.specs.declared.relation.Relation.{Relation}
use Rattle.kl1_model.specs.Term.{Term, Terms, none, more}
use Rattle.kl1_model.specs.Token.{sign_token, variable_token, name_token, digits_token, spelling_of}
use Rattle.kl1_model.specs.Grammar.{Numbered, relation_sign, Adding, by_plus, by_minus, Multiplying, by_star, by_slash, by_mod, Expression, alone, related, Sum, summand, added, Product, factor, multiplied, Part, single, qualified, Primary, numbered, positive, negative, constant, call, empty_list, list, group, Series, last, another, closed, tail, GoalTree, plain_goal, urgent_goal, Body, last_goal, another_goal, Head, bare_head, head_with, expression_tokens, sum_tokens, product_tokens, part_tokens, primary_tokens, series_tokens, goal_tokens, body_tokens, head_tokens}
use Rattle.kl1_model.specs.Module.{head_patterns}
use Rattle.kl1_model.specs.Meaning.{nil, pair, cells, expression_term, sum_term, product_term, part_term, primary_term, series_terms, variables_of, variables_in}
use Rattle.kl1_model.proofs.ReadRows.{adding_token, multiplying_token, added_row, multiplied_row}

-- the numbers of the variables among tokens
abbrev pub numbers_of : List Numbered → List ℕ
numbers_of [] = []
numbers_of (variable_token v ∷ ts) = v ∷ numbers_of ts
numbers_of (_ ∷ ts) = numbers_of ts

-- the variables of a pair, in front of others
two_variables : (f : List ℕ) (a b : Term) (ns : List ℕ) → variables_of (pair f a b) ++ ns ≡ variables_of a ++ (variables_of b ++ ns)
two_variables f a b ns = ap (λ x. (variables_of a ++ x) ++ ns) (append-nil (variables_of b)) ∙ append_assoc (variables_of a) (variables_of b) ns

-- the variables of cells are those of the elements and of what is after them
cells_variables : (es : Terms) (t : Term) (ns : List ℕ) → variables_of (cells es t) ++ ns ≡ variables_in es ++ (variables_of t ++ ns)
cells_variables none t ns = refl
cells_variables (more e es) t ns =
    two_variables (codes ".") e (cells es t) ns
    ∙ ap (λ x. variables_of e ++ x) (cells_variables es t ns)
    ∙ sym (append_assoc (variables_of e) (variables_in es) (variables_of t ++ ns))

-- a relation's token, and an operator's, names no variable
relation_no_variable : (r : Relation) (ts : List Numbered) → numbers_of (sign_token (relation_sign r) ∷ ts) ≡ numbers_of ts
relation_no_variable r ts = refl

adding_no_variable : (o : Adding) (ts : List Numbered) → numbers_of (adding_token o ∷ ts) ≡ numbers_of ts
adding_no_variable by_plus ts = refl
adding_no_variable (by_minus digit) ts = refl

multiplying_no_variable : (o : Multiplying) (ts : List Numbered) → numbers_of (multiplying_token o ∷ ts) ≡ numbers_of ts
multiplying_no_variable by_star ts = refl
multiplying_no_variable by_slash ts = refl
multiplying_no_variable (by_mod applied) ts = refl

-- the name of an operator of sums
abbrev adding_name : Adding → List ℕ
adding_name by_plus = codes "+"
adding_name (by_minus digit) = codes "-"

adding_term : (s : Sum) (o : Adding) (p : Product) → sum_term (added s o p) ≡ pair (adding_name o) (sum_term s) (product_term p)
adding_term s by_plus p = refl
adding_term s (by_minus digit) p = refl

-- the name of an operator of products
abbrev multiplying_name : Multiplying → List ℕ
multiplying_name by_star = codes "*"
multiplying_name by_slash = codes "/"
multiplying_name (by_mod applied) = codes "mod"

multiplying_term : (p : Product) (o : Multiplying) (q : Part) → product_term (multiplied p o q) ≡ pair (multiplying_name o) (product_term p) (part_term q)
multiplying_term p by_star q = refl
multiplying_term p by_slash q = refl
multiplying_term p (by_mod applied) q = refl

mutual
  pub expression_variables : (e : Expression) (ts : List Numbered) → numbers_of (expression_tokens e ts) ≡ variables_of (expression_term e) ++ numbers_of ts
  expression_variables (alone s) ts = sum_variables s ts
  expression_variables (related s r q) ts =
      sum_variables s (sign_token (relation_sign r) ∷ sum_tokens q ts)
      ∙ ap (λ x. variables_of (sum_term s) ++ x) (relation_no_variable r (sum_tokens q ts) ∙ sum_variables q ts)
      ∙ sym (two_variables (spelling_of (relation_sign r)) (sum_term s) (sum_term q) (numbers_of ts))

  sum_variables : (s : Sum) (ts : List Numbered) → numbers_of (sum_tokens s ts) ≡ variables_of (sum_term s) ++ numbers_of ts
  sum_variables (summand p) ts = product_variables p ts
  sum_variables (added s o p) ts =
      ap numbers_of (added_row s o p ts)
      ∙ sum_variables s (adding_token o ∷ product_tokens p ts)
      ∙ ap (λ x. variables_of (sum_term s) ++ x) (adding_no_variable o (product_tokens p ts) ∙ product_variables p ts)
      ∙ sym (two_variables (adding_name o) (sum_term s) (product_term p) (numbers_of ts))
      ∙ ap (λ t. variables_of t ++ numbers_of ts) (sym (adding_term s o p))

  product_variables : (p : Product) (ts : List Numbered) → numbers_of (product_tokens p ts) ≡ variables_of (product_term p) ++ numbers_of ts
  product_variables (factor p) ts = part_variables p ts
  product_variables (multiplied p o q) ts =
      ap numbers_of (multiplied_row p o q ts)
      ∙ product_variables p (multiplying_token o ∷ part_tokens q ts)
      ∙ ap (λ x. variables_of (product_term p) ++ x) (multiplying_no_variable o (part_tokens q ts) ∙ part_variables q ts)
      ∙ sym (two_variables (multiplying_name o) (product_term p) (part_term q) (numbers_of ts))
      ∙ ap (λ t. variables_of t ++ numbers_of ts) (sym (multiplying_term p o q))

  pub part_variables : (p : Part) (ts : List Numbered) → numbers_of (part_tokens p ts) ≡ variables_of (part_term p) ++ numbers_of ts
  part_variables (single p) ts = primary_variables p ts
  part_variables (qualified p q) ts =
      primary_variables p (sign_token Colon ∷ primary_tokens q ts)
      ∙ ap (λ x. variables_of (primary_term p) ++ x) (primary_variables q ts)
      ∙ sym (two_variables (codes ":") (primary_term p) (primary_term q) (numbers_of ts))

  primary_variables : (p : Primary) (ts : List Numbered) → numbers_of (primary_tokens p ts) ≡ variables_of (primary_term p) ++ numbers_of ts
  primary_variables (numbered v) ts = refl
  primary_variables (positive n) ts = refl
  primary_variables (negative n) ts = refl
  primary_variables (constant a quotes) ts = refl
  primary_variables (call f quotes s) ts = series_variables s (sign_token Close ∷ ts)
  primary_variables empty_list ts = refl
  primary_variables (list s closed) ts = series_variables s (sign_token CloseList ∷ ts) ∙ sym (cells_variables (series_terms s) nil (numbers_of ts))
  primary_variables (list s (tail e)) ts =
      series_variables s (sign_token Bar ∷ expression_tokens e (sign_token CloseList ∷ ts))
      ∙ ap (λ x. variables_in (series_terms s) ++ x) (expression_variables e (sign_token CloseList ∷ ts))
      ∙ sym (cells_variables (series_terms s) (expression_term e) (numbers_of ts))
  primary_variables (group e) ts = expression_variables e (sign_token Close ∷ ts)

  pub series_variables : (s : Series) (ts : List Numbered) → numbers_of (series_tokens s ts) ≡ variables_in (series_terms s) ++ numbers_of ts
  series_variables (last e) ts = expression_variables e ts ∙ ap (λ x. x ++ numbers_of ts) (sym (append-nil (variables_of (expression_term e))))
  series_variables (another e s) ts =
      expression_variables e (sign_token Comma ∷ series_tokens s ts)
      ∙ ap (λ x. variables_of (expression_term e) ++ x) (series_variables s ts)
      ∙ sym (append_assoc (variables_of (expression_term e)) (variables_in (series_terms s)) (numbers_of ts))

-- the term of a goal, apart from its priority
abbrev pub tree_term : GoalTree → Term
tree_term (plain_goal e) = expression_term e
tree_term (urgent_goal e quotes n) = expression_term e

-- the terms of a body's goals
abbrev pub body_terms : Body → Terms
body_terms (last_goal g) = more (tree_term g) none
body_terms (another_goal g b) = more (tree_term g) (body_terms b)

goal_variables : (g : GoalTree) (ts : List Numbered) → numbers_of (goal_tokens g ts) ≡ variables_of (tree_term g) ++ numbers_of ts
goal_variables (plain_goal e) ts = expression_variables e ts
goal_variables (urgent_goal e quotes n) ts = expression_variables e (sign_token At ∷ name_token (codes "priority") quotes true ∷ sign_token Open ∷ digits_token n ∷ sign_token Close ∷ ts)

pub body_variables : (b : Body) (ts : List Numbered) → numbers_of (body_tokens b ts) ≡ variables_in (body_terms b) ++ numbers_of ts
body_variables (last_goal g) ts = goal_variables g ts ∙ ap (λ x. x ++ numbers_of ts) (sym (append-nil (variables_of (tree_term g))))
body_variables (another_goal g b) ts =
    goal_variables g (sign_token Comma ∷ body_tokens b ts)
    ∙ ap (λ x. variables_of (tree_term g) ++ x) (body_variables b ts)
    ∙ sym (append_assoc (variables_of (tree_term g)) (variables_in (body_terms b)) (numbers_of ts))

-- the variables of a head's tokens are those of its patterns
pub head_variables : (h : Head) (ts : List Numbered) → numbers_of (head_tokens h ts) ≡ variables_in (head_patterns h) ++ numbers_of ts
head_variables (bare_head p quotes) ts = refl
head_variables (head_with p quotes s) ts = series_variables s (sign_token Close ∷ ts)
