-- The tokens of each tree are read as that tree.
use Rattle.std.specs.Prelude.{◌≡◌, ℕ, zero, suc, ◌+◌, ◌-◌, ◌≤◌, ◌&&◌, true, if◌then◌else◌, List, [], ◌∷◌, length, codes, Option, Some, None, option_map, option_and_then}
use Rattle.std.proofs.Common.{refl, ap, sym, ◌∙◌, arith}
use Rattle.std.proofs.lemmas.Bool.{and_parts}
use Rattle.kl1_model.specs.declared.sign.Sign.TheVariants.{Neck, Colon, At, Bar, Comma, Open, Close, CloseList}
use Rattle.kl1_model.specs.declared.relation.Relation.{Relation}
use Rattle.kl1_model.specs.declared.relation.Relation.TheVariants.{Equal, NotEqual, Assign, Less, Greater, AtMost, AtLeast, SameNumber, OtherNumber}
use Rattle.kl1_model.specs.Token.{name_token, digits_token, sign_token}
use Rattle.kl1_model.specs.Grammar.{Numbered, relation_sign, Adding, by_plus, by_minus, Multiplying, by_star, by_slash, by_mod, Expression, alone, related, Sum, summand, added, Product, factor, multiplied, Part, single, qualified, Primary, numbered, positive, negative, constant, call, empty_list, list, group, Series, last, another, Rest, closed, tail, Head, bare_head, head_with, GoalTree, plain_goal, urgent_goal, Body, last_goal, another_goal, ClauseTree, fact, rule, guarded, expression_tokens, sum_tokens, product_tokens, part_tokens, primary_tokens, series_tokens, head_tokens, goal_tokens, body_tokens, clause_tokens}
use Rattle.kl1_model.specs.reader.Reader.{Answer, then_read, if_there, behind_comma, behind_close_list, behind_colon, behind_at, relation_in_front, adding_in_front, multiplying_in_front, parted_by, series_at, rest_at, arguments_at, primary_at, part_at, grouped_by, product_at, sum_at, expression_at, all_read, expression_tree, head_at, goal_at, body_at, tests_of, behind_neck_at, clause_at, clause_tree}
use Rattle.kl1_model.specs.laws.ReadLaws.{grouped_on, related_at, is_sound_expression, is_sound_sum, is_sound_product, is_sound_part, is_sound_primary, is_sound_series, is_sound_rest, is_sound_head, is_sound_goal, is_sound_body, is_sound_clause}
use Rattle.kl1_model.proofs.ReadRows.{adding_token, multiplying_token, rest_tokens, added_row, multiplied_row, list_row}

-- how many steps of the reader a tree takes at most, each deeper than the one before
abbrev mutual
  pub steps_of : Expression → ℕ
  steps_of (alone s) = suc (sum_steps s)
  steps_of (related s r q) = suc (sum_steps s + sum_steps q)

  pub sum_steps : Sum → ℕ
  sum_steps (summand p) = product_steps p
  sum_steps (added s o p) = sum_steps s + product_steps p

  pub product_steps : Product → ℕ
  product_steps (factor p) = part_steps p
  product_steps (multiplied p o q) = product_steps p + part_steps q

  pub part_steps : Part → ℕ
  part_steps (single p) = primary_steps p
  part_steps (qualified p q) = primary_steps p + primary_steps q

  pub primary_steps : Primary → ℕ
  primary_steps (numbered v) = 0
  primary_steps (positive n) = 0
  primary_steps (negative n) = 0
  primary_steps (constant a quotes) = 0
  primary_steps (call f quotes s) = series_steps s
  primary_steps empty_list = 0
  primary_steps (list s r) = series_steps s + rest_steps r
  primary_steps (group e) = steps_of e

  pub series_steps : Series → ℕ
  series_steps (last e) = steps_of e
  series_steps (another e s) = steps_of e + series_steps s

  pub rest_steps : Rest → ℕ
  rest_steps closed = 0
  rest_steps (tail e) = steps_of e

-- no tree takes more steps than it has tokens
mutual
  pub steps_of_few : (e : Expression) (ts : List Numbered) → steps_of e + length ts ≤ length (expression_tokens e ts)
  steps_of_few (alone s) ts = omega (arith, sum_steps_few s ts)
  steps_of_few (related s r q) ts = omega (arith, sum_steps_few s (sign_token (relation_sign r) ∷ sum_tokens q ts), sum_steps_few q ts)

  pub sum_steps_few : (s : Sum) (ts : List Numbered) → suc (sum_steps s + length ts) ≤ length (sum_tokens s ts)
  sum_steps_few (summand p) ts = product_steps_few p ts
  sum_steps_few (added s o p) ts = omega (arith, ap (length {A = Numbered}) (added_row s o p ts), sum_steps_few s (adding_token o ∷ product_tokens p ts), product_steps_few p ts)

  pub product_steps_few : (p : Product) (ts : List Numbered) → suc (product_steps p + length ts) ≤ length (product_tokens p ts)
  product_steps_few (factor p) ts = part_steps_few p ts
  product_steps_few (multiplied p o q) ts = omega (arith, ap (length {A = Numbered}) (multiplied_row p o q ts), product_steps_few p (multiplying_token o ∷ part_tokens q ts), part_steps_few q ts)

  pub part_steps_few : (p : Part) (ts : List Numbered) → suc (part_steps p + length ts) ≤ length (part_tokens p ts)
  part_steps_few (single p) ts = primary_steps_few p ts
  part_steps_few (qualified p q) ts = omega (arith, primary_steps_few p (sign_token Colon ∷ primary_tokens q ts), primary_steps_few q ts)

  pub primary_steps_few : (p : Primary) (ts : List Numbered) → suc (primary_steps p + length ts) ≤ length (primary_tokens p ts)
  primary_steps_few (numbered v) ts = omega arith
  primary_steps_few (positive n) ts = omega arith
  primary_steps_few (negative n) ts = omega arith
  primary_steps_few (constant a quotes) ts = omega arith
  primary_steps_few (call f quotes s) ts = omega (arith, series_steps_few s (sign_token Close ∷ ts))
  primary_steps_few empty_list ts = omega arith
  primary_steps_few (list s r) ts = omega (arith, ap (length {A = Numbered}) (list_row s r ts), series_steps_few s (rest_tokens r (sign_token CloseList ∷ ts)), rest_steps_few r (sign_token CloseList ∷ ts))
  primary_steps_few (group e) ts = omega (arith, steps_of_few e (sign_token Close ∷ ts))

  pub series_steps_few : (s : Series) (ts : List Numbered) → series_steps s + length ts ≤ length (series_tokens s ts)
  series_steps_few (last e) ts = steps_of_few e ts
  series_steps_few (another e s) ts = omega (arith, steps_of_few e (sign_token Comma ∷ series_tokens s ts), series_steps_few s ts)

  rest_steps_few : (r : Rest) (ts : List Numbered) → rest_steps r + length ts ≤ length (rest_tokens r ts)
  rest_steps_few closed ts = omega arith
  rest_steps_few (tail e) ts = omega (arith, steps_of_few e ts)

-- what may stand after an expression: no colon, no operator and no relation
pub record Ends (ts : List Numbered) : Type 0 where
  pub no_colon : behind_colon ts ≡ None
  pub no_multiplying : multiplying_in_front ts ≡ None
  pub no_adding : adding_in_front ts ≡ None
  pub no_relation : relation_in_front ts ≡ None

-- what may stand after a sum
record EndsSum (ts : List Numbered) : Type 0 where
  no_colon : behind_colon ts ≡ None
  no_multiplying : multiplying_in_front ts ≡ None
  no_adding : adding_in_front ts ≡ None

-- what may stand after a product
record EndsProduct (ts : List Numbered) : Type 0 where
  no_colon : behind_colon ts ≡ None
  no_multiplying : multiplying_in_front ts ≡ None

relation_ends : (r : Relation) (ts : List Numbered) → EndsSum (sign_token (relation_sign r) ∷ ts)
relation_ends Equal ts = record { no_colon = refl; no_multiplying = refl; no_adding = refl }
relation_ends NotEqual ts = record { no_colon = refl; no_multiplying = refl; no_adding = refl }
relation_ends Assign ts = record { no_colon = refl; no_multiplying = refl; no_adding = refl }
relation_ends Less ts = record { no_colon = refl; no_multiplying = refl; no_adding = refl }
relation_ends Greater ts = record { no_colon = refl; no_multiplying = refl; no_adding = refl }
relation_ends AtMost ts = record { no_colon = refl; no_multiplying = refl; no_adding = refl }
relation_ends AtLeast ts = record { no_colon = refl; no_multiplying = refl; no_adding = refl }
relation_ends SameNumber ts = record { no_colon = refl; no_multiplying = refl; no_adding = refl }
relation_ends OtherNumber ts = record { no_colon = refl; no_multiplying = refl; no_adding = refl }

relation_front : (r : Relation) (ts : List Numbered) → relation_in_front (sign_token (relation_sign r) ∷ ts) ≡ Some (r, ts)
relation_front Equal ts = refl
relation_front NotEqual ts = refl
relation_front Assign ts = refl
relation_front Less ts = refl
relation_front Greater ts = refl
relation_front AtMost ts = refl
relation_front AtLeast ts = refl
relation_front SameNumber ts = refl
relation_front OtherNumber ts = refl

adding_ends : (o : Adding) (ts : List Numbered) → EndsProduct (adding_token o ∷ ts)
adding_ends by_plus ts = record { no_colon = refl; no_multiplying = refl }
adding_ends (by_minus digit) ts = record { no_colon = refl; no_multiplying = refl }

adding_front : (o : Adding) (ts : List Numbered) → adding_in_front (adding_token o ∷ ts) ≡ Some (o, ts)
adding_front by_plus ts = refl
adding_front (by_minus digit) ts = refl

multiplying_ends : (o : Multiplying) (ts : List Numbered) → behind_colon (multiplying_token o ∷ ts) ≡ None
multiplying_ends by_star ts = refl
multiplying_ends by_slash ts = refl
multiplying_ends (by_mod applied) ts = refl

multiplying_front : (o : Multiplying) (ts : List Numbered) → multiplying_in_front (multiplying_token o ∷ ts) ≡ Some (o, ts)
multiplying_front by_star ts = refl
multiplying_front by_slash ts = refl
multiplying_front (by_mod applied) ts = refl

-- going on after what was read
then_read_is : {A B : Type 0} (x : Answer A) (a : A) (us : List Numbered) (go : A → List Numbered → Option B) → x ≡ Some (a, us) → then_read x go ≡ go a us
then_read_is x a us go h = ap (λ y. then_read y go) h

-- going on if a token isn't there
not_there : {B : Type 0} (x : Option (List Numbered)) (otherwise : Option B) (go : List Numbered → Option B) → x ≡ None → if_there x otherwise go ≡ otherwise
not_there x otherwise go h = ap (λ y. if_there y otherwise go) h

-- each expression takes a step
pub some_steps : (e : Expression) → 1 ≤ steps_of e
some_steps (alone s) = omega arith
some_steps (related s r q) = omega arith

-- no tree begins with the end of a list
primary_begins : (p : Primary) (ts : List Numbered) → behind_close_list (primary_tokens p ts) ≡ None
primary_begins (numbered v) ts = refl
primary_begins (positive n) ts = refl
primary_begins (negative n) ts = refl
primary_begins (constant a quotes) ts = refl
primary_begins (call f quotes s) ts = refl
primary_begins empty_list ts = refl
primary_begins (list s r) ts = ap behind_close_list (list_row s r ts)
primary_begins (group e) ts = refl

part_begins : (p : Part) (ts : List Numbered) → behind_close_list (part_tokens p ts) ≡ None
part_begins (single p) ts = primary_begins p ts
part_begins (qualified p q) ts = primary_begins p (sign_token Colon ∷ primary_tokens q ts)

product_begins : (p : Product) (ts : List Numbered) → behind_close_list (product_tokens p ts) ≡ None
product_begins (factor p) ts = part_begins p ts
product_begins (multiplied p o q) ts = ap behind_close_list (multiplied_row p o q ts) ∙ product_begins p (multiplying_token o ∷ part_tokens q ts)

sum_begins : (s : Sum) (ts : List Numbered) → behind_close_list (sum_tokens s ts) ≡ None
sum_begins (summand p) ts = product_begins p ts
sum_begins (added s o p) ts = ap behind_close_list (added_row s o p ts) ∙ sum_begins s (adding_token o ∷ product_tokens p ts)

expression_begins : (e : Expression) (ts : List Numbered) → behind_close_list (expression_tokens e ts) ≡ None
expression_begins (alone s) ts = sum_begins s ts
expression_begins (related s r q) ts = sum_begins s (sign_token (relation_sign r) ∷ sum_tokens q ts)

series_begins : (s : Series) (ts : List Numbered) → behind_close_list (series_tokens s ts) ≡ None
series_begins (last e) ts = expression_begins e ts
series_begins (another e s) ts = expression_begins e (sign_token Comma ∷ series_tokens s ts)

-- what follows the elements of a list ends an expression, and is no comma
rest_ends : (r : Rest) (ts : List Numbered) → Ends (rest_tokens r (sign_token CloseList ∷ ts))
rest_ends closed ts = record { no_colon = refl; no_multiplying = refl; no_adding = refl; no_relation = refl }
rest_ends (tail e) ts = record { no_colon = refl; no_multiplying = refl; no_adding = refl; no_relation = refl }

rest_no_comma : (r : Rest) (ts : List Numbered) → behind_comma (rest_tokens r (sign_token CloseList ∷ ts)) ≡ None
rest_no_comma closed ts = refl
rest_no_comma (tail e) ts = refl

-- the first product of a sum, what is after it, and how many operators are there
abbrev first_product : Sum → Product
first_product (summand p) = p
first_product (added s o p) = first_product s

abbrev behind_product : Sum → List Numbered → List Numbered
behind_product (summand p) ts = ts
behind_product (added s o p) ts = behind_product s (adding_token o ∷ product_tokens p ts)

abbrev sum_operators : Sum → ℕ
sum_operators (summand p) = 0
sum_operators (added s o p) = suc (sum_operators s)

sum_operators_few : (s : Sum) (ts : List Numbered) → sum_operators s + length ts ≤ length (behind_product s ts)
sum_operators_few (summand p) ts = omega arith
sum_operators_few (added s o p) ts = omega (arith, sum_operators_few s (adding_token o ∷ product_tokens p ts), product_steps_few p ts)

-- the first part of a product, what is after it, and how many operators are there
abbrev first_part : Product → Part
first_part (factor p) = p
first_part (multiplied p o q) = first_part p

abbrev behind_part : Product → List Numbered → List Numbered
behind_part (factor p) ts = ts
behind_part (multiplied p o q) ts = behind_part p (multiplying_token o ∷ part_tokens q ts)

abbrev product_operators : Product → ℕ
product_operators (factor p) = 0
product_operators (multiplied p o q) = suc (product_operators p)

product_operators_few : (p : Product) (ts : List Numbered) → product_operators p + length ts ≤ length (behind_part p ts)
product_operators_few (factor p) ts = omega arith
product_operators_few (multiplied p o q) ts = omega (arith, product_operators_few p (multiplying_token o ∷ part_tokens q ts), part_steps_few q ts)

-- nothing goes on if no operator is in front
grouped_end : {S O A : Type 0} (operator : List Numbered → Answer O) (operand : List Numbered → Answer A) (join : S → O → A → S) (m : ℕ) (s : S) (ts : List Numbered) → operator ts ≡ None → grouped_by operator operand join (suc m) s ts ≡ Some (s, ts)
unfolding grouped_by
grouped_end operator operand join m s ts h = ap (grouped_on operand join (grouped_by operator operand join m) s ts) h

-- one operator and its operand
grouped_step : {S O A : Type 0} (operator : List Numbered → Answer O) (operand : List Numbered → Answer A) (join : S → O → A → S) (m : ℕ) (s : S) (ts : List Numbered) (o : O) (us : List Numbered) (a : A) (vs : List Numbered) → operator ts ≡ Some (o, us) → operand us ≡ Some (a, vs) → grouped_by operator operand join (suc m) s ts ≡ grouped_by operator operand join m (join s o a) vs
unfolding grouped_by
grouped_step operator operand join m s ts o us a vs h j =
    ap (grouped_on operand join (grouped_by operator operand join m) s ts) h ∙ ap (λ y. then_read y (λ a us. grouped_by operator operand join m (join s o a) us)) j

-- a sum, from its first product and the operators after it
sum_done : (n : ℕ) (s : Sum) (ts : List Numbered) → product_at (expression_at n) (sum_tokens s ts) ≡ Some (first_product s, behind_product s ts) →
    ((m : ℕ) → grouped_by adding_in_front (product_at (expression_at n)) added (sum_operators s + m) (summand (first_product s)) (behind_product s ts) ≡ grouped_by adding_in_front (product_at (expression_at n)) added m s ts) →
    adding_in_front ts ≡ None → sum_at (expression_at n) (sum_tokens s ts) ≡ Some (s, ts)
sum_done n s ts first grouped no_adding =
    let next = behind_product s ts in
    let left = length next - sum_operators s in
    let enough : suc (length next) ≡ sum_operators s + suc left = omega (arith, sum_operators_few s ts) in
    then_read_is _ (first_product s) next _ first
    ∙ ap (λ m. grouped_by adding_in_front (product_at (expression_at n)) added m (summand (first_product s)) next) enough
    ∙ grouped (suc left)
    ∙ grouped_end adding_in_front (product_at (expression_at n)) added left s ts no_adding

-- a product, from its first part and the operators after it
product_done : (n : ℕ) (p : Product) (ts : List Numbered) → part_at (expression_at n) (product_tokens p ts) ≡ Some (first_part p, behind_part p ts) →
    ((m : ℕ) → grouped_by multiplying_in_front (part_at (expression_at n)) multiplied (product_operators p + m) (factor (first_part p)) (behind_part p ts) ≡ grouped_by multiplying_in_front (part_at (expression_at n)) multiplied m p ts) →
    multiplying_in_front ts ≡ None → product_at (expression_at n) (product_tokens p ts) ≡ Some (p, ts)
product_done n p ts first grouped no_multiplying =
    let next = behind_part p ts in
    let left = length next - product_operators p in
    let enough : suc (length next) ≡ product_operators p + suc left = omega (arith, product_operators_few p ts) in
    then_read_is _ (first_part p) next _ first
    ∙ ap (λ m. grouped_by multiplying_in_front (part_at (expression_at n)) multiplied m (factor (first_part p)) next) enough
    ∙ grouped (suc left)
    ∙ grouped_end multiplying_in_front (part_at (expression_at n)) multiplied left p ts no_multiplying

-- no operator
no_more_sum : (n m : ℕ) (p : Product) (ts : List Numbered) → grouped_by adding_in_front (product_at (expression_at n)) added (0 + m) (summand p) ts ≡ grouped_by adding_in_front (product_at (expression_at n)) added m (summand p) ts
no_more_sum n m p ts = let same : 0 + m ≡ m = omega arith in ap (λ k. grouped_by adding_in_front (product_at (expression_at n)) added k (summand p) ts) same

no_more_product : (n m : ℕ) (p : Part) (ts : List Numbered) → grouped_by multiplying_in_front (part_at (expression_at n)) multiplied (0 + m) (factor p) ts ≡ grouped_by multiplying_in_front (part_at (expression_at n)) multiplied m (factor p) ts
no_more_product n m p ts = let same : 0 + m ≡ m = omega arith in ap (λ k. grouped_by multiplying_in_front (part_at (expression_at n)) multiplied k (factor p) ts) same

-- one operator more, if the operand after it is read
sum_more : (n m : ℕ) (s : Sum) (o : Adding) (p : Product) (ts : List Numbered) →
    ((k : ℕ) → grouped_by adding_in_front (product_at (expression_at n)) added (sum_operators s + k) (summand (first_product s)) (behind_product s (adding_token o ∷ product_tokens p ts)) ≡ grouped_by adding_in_front (product_at (expression_at n)) added k s (adding_token o ∷ product_tokens p ts)) →
    product_at (expression_at n) (product_tokens p ts) ≡ Some (p, ts) →
    grouped_by adding_in_front (product_at (expression_at n)) added (suc (sum_operators s) + m) (summand (first_product s)) (behind_product s (adding_token o ∷ product_tokens p ts)) ≡ grouped_by adding_in_front (product_at (expression_at n)) added m (added s o p) ts
sum_more n m s o p ts grouped read =
    let next = adding_token o ∷ product_tokens p ts in
    let same : suc (sum_operators s) + m ≡ sum_operators s + suc m = omega arith in
    ap (λ k. grouped_by adding_in_front (product_at (expression_at n)) added k (summand (first_product s)) (behind_product s next)) same
    ∙ grouped (suc m)
    ∙ grouped_step adding_in_front (product_at (expression_at n)) added m s next o (product_tokens p ts) p ts (adding_front o (product_tokens p ts)) read

product_more : (n m : ℕ) (p : Product) (o : Multiplying) (q : Part) (ts : List Numbered) →
    ((k : ℕ) → grouped_by multiplying_in_front (part_at (expression_at n)) multiplied (product_operators p + k) (factor (first_part p)) (behind_part p (multiplying_token o ∷ part_tokens q ts)) ≡ grouped_by multiplying_in_front (part_at (expression_at n)) multiplied k p (multiplying_token o ∷ part_tokens q ts)) →
    part_at (expression_at n) (part_tokens q ts) ≡ Some (q, ts) →
    grouped_by multiplying_in_front (part_at (expression_at n)) multiplied (suc (product_operators p) + m) (factor (first_part p)) (behind_part p (multiplying_token o ∷ part_tokens q ts)) ≡ grouped_by multiplying_in_front (part_at (expression_at n)) multiplied m (multiplied p o q) ts
product_more n m p o q ts grouped read =
    let next = multiplying_token o ∷ part_tokens q ts in
    let same : suc (product_operators p) + m ≡ product_operators p + suc m = omega arith in
    ap (λ k. grouped_by multiplying_in_front (part_at (expression_at n)) multiplied k (factor (first_part p)) (behind_part p next)) same
    ∙ grouped (suc m)
    ∙ grouped_step multiplying_in_front (part_at (expression_at n)) multiplied m p next o (part_tokens q ts) q ts (multiplying_front o (part_tokens q ts)) read

mutual
  unfolding expression_at parted_by

  pub expression_complete : (e : Expression) (n : ℕ) (ts : List Numbered) → steps_of e ≤ n → is_sound_expression e ≡ true → Ends ts → expression_at n (expression_tokens e ts) ≡ Some (e, ts)
  expression_complete (alone s) zero ts few sound ends = absurd (omega arith)
  expression_complete (related s r q) zero ts few sound ends = absurd (omega arith)
  expression_complete (alone s) (suc n) ts few sound ends =
      then_read_is _ s ts _ (sum_complete s n ts (omega arith) sound (record { no_colon = ends.no_colon; no_multiplying = ends.no_multiplying; no_adding = ends.no_adding })) ∙ ap (related_at (expression_at n) s ts) ends.no_relation
  expression_complete (related s r q) (suc n) ts few sound ends =
      let both = and_parts (is_sound_sum s) (is_sound_sum q) sound in
      then_read_is _ s (sign_token (relation_sign r) ∷ sum_tokens q ts) _ (sum_complete s n (sign_token (relation_sign r) ∷ sum_tokens q ts) (omega arith) both.0 (relation_ends r (sum_tokens q ts)))
      ∙ ap (related_at (expression_at n) s (sign_token (relation_sign r) ∷ sum_tokens q ts)) (relation_front r (sum_tokens q ts))
      ∙ then_read_is _ q ts _ (sum_complete q n ts (omega arith) both.1 (record { no_colon = ends.no_colon; no_multiplying = ends.no_multiplying; no_adding = ends.no_adding }))

  sum_complete : (s : Sum) (n : ℕ) (ts : List Numbered) → sum_steps s ≤ n → is_sound_sum s ≡ true → EndsSum ts → sum_at (expression_at n) (sum_tokens s ts) ≡ Some (s, ts)
  sum_complete (summand p) n ts few sound ends =
      let ends_here : EndsProduct ts = record { no_colon = ends.no_colon; no_multiplying = ends.no_multiplying } in
      sum_done n (summand p) ts (product_complete p n ts few sound ends_here) (λ m. no_more_sum n m p ts) ends.no_adding
  sum_complete (added s o p) n ts few sound ends =
      let both = and_parts (is_sound_sum s) (is_sound_product p) sound in
      let next = adding_token o ∷ product_tokens p ts in
      let ends_here : EndsProduct ts = record { no_colon = ends.no_colon; no_multiplying = ends.no_multiplying } in
      sum_done n (added s o p) ts (ap (product_at (expression_at n)) (added_row s o p ts) ∙ sum_first s n next (omega arith) both.0 (adding_ends o (product_tokens p ts)))
      (λ m. sum_more n m s o p ts (λ k. sum_grouped s n k next (omega arith) both.0 (adding_ends o (product_tokens p ts))) (product_complete p n ts (omega arith) both.1 ends_here))
      ends.no_adding

  sum_first : (s : Sum) (n : ℕ) (ts : List Numbered) → sum_steps s ≤ n → is_sound_sum s ≡ true → EndsProduct ts → product_at (expression_at n) (sum_tokens s ts) ≡ Some (first_product s, behind_product s ts)
  sum_first (summand p) n ts few sound ends = product_complete p n ts few sound ends
  sum_first (added s o p) n ts few sound ends =
      let both = and_parts (is_sound_sum s) (is_sound_product p) sound in
      ap (product_at (expression_at n)) (added_row s o p ts) ∙ sum_first s n (adding_token o ∷ product_tokens p ts) (omega arith) both.0 (adding_ends o (product_tokens p ts))

  sum_grouped : (s : Sum) (n m : ℕ) (ts : List Numbered) → sum_steps s ≤ n → is_sound_sum s ≡ true → EndsProduct ts →
      grouped_by adding_in_front (product_at (expression_at n)) added (sum_operators s + m) (summand (first_product s)) (behind_product s ts) ≡ grouped_by adding_in_front (product_at (expression_at n)) added m s ts
  sum_grouped (summand p) n m ts few sound ends = no_more_sum n m p ts
  sum_grouped (added s o p) n m ts few sound ends =
      let both = and_parts (is_sound_sum s) (is_sound_product p) sound in
      let next = adding_token o ∷ product_tokens p ts in
      sum_more n m s o p ts (λ k. sum_grouped s n k next (omega arith) both.0 (adding_ends o (product_tokens p ts))) (product_complete p n ts (omega arith) both.1 ends)

  product_complete : (p : Product) (n : ℕ) (ts : List Numbered) → product_steps p ≤ n → is_sound_product p ≡ true → EndsProduct ts → product_at (expression_at n) (product_tokens p ts) ≡ Some (p, ts)
  product_complete (factor p) n ts few sound ends = product_done n (factor p) ts (part_complete p n ts few sound ends.no_colon) (λ m. no_more_product n m p ts) ends.no_multiplying
  product_complete (multiplied p o q) n ts few sound ends =
      let both = and_parts (is_sound_product p) (is_sound_part q) sound in
      let next = multiplying_token o ∷ part_tokens q ts in
      product_done n (multiplied p o q) ts (ap (part_at (expression_at n)) (multiplied_row p o q ts) ∙ product_first p n next (omega arith) both.0 (multiplying_ends o (part_tokens q ts)))
      (λ m. product_more n m p o q ts (λ k. product_grouped p n k next (omega arith) both.0 (multiplying_ends o (part_tokens q ts))) (part_complete q n ts (omega arith) both.1 ends.no_colon))
      ends.no_multiplying

  product_first : (p : Product) (n : ℕ) (ts : List Numbered) → product_steps p ≤ n → is_sound_product p ≡ true → behind_colon ts ≡ None → part_at (expression_at n) (product_tokens p ts) ≡ Some (first_part p, behind_part p ts)
  product_first (factor p) n ts few sound no_colon = part_complete p n ts few sound no_colon
  product_first (multiplied p o q) n ts few sound no_colon =
      let both = and_parts (is_sound_product p) (is_sound_part q) sound in
      ap (part_at (expression_at n)) (multiplied_row p o q ts) ∙ product_first p n (multiplying_token o ∷ part_tokens q ts) (omega arith) both.0 (multiplying_ends o (part_tokens q ts))

  product_grouped : (p : Product) (n m : ℕ) (ts : List Numbered) → product_steps p ≤ n → is_sound_product p ≡ true → behind_colon ts ≡ None →
      grouped_by multiplying_in_front (part_at (expression_at n)) multiplied (product_operators p + m) (factor (first_part p)) (behind_part p ts) ≡ grouped_by multiplying_in_front (part_at (expression_at n)) multiplied m p ts
  product_grouped (factor p) n m ts few sound no_colon = no_more_product n m p ts
  product_grouped (multiplied p o q) n m ts few sound no_colon =
      let both = and_parts (is_sound_product p) (is_sound_part q) sound in
      let next = multiplying_token o ∷ part_tokens q ts in
      product_more n m p o q ts (λ k. product_grouped p n k next (omega arith) both.0 (multiplying_ends o (part_tokens q ts))) (part_complete q n ts (omega arith) both.1 no_colon)

  part_complete : (p : Part) (n : ℕ) (ts : List Numbered) → part_steps p ≤ n → is_sound_part p ≡ true → behind_colon ts ≡ None → part_at (expression_at n) (part_tokens p ts) ≡ Some (p, ts)
  part_complete (single p) n ts few sound no_colon =
      then_read_is _ p ts _ (primary_complete p n ts few sound) ∙ not_there _ _ _ no_colon
  part_complete (qualified p q) n ts few sound no_colon =
      let both = and_parts (is_sound_primary p) (is_sound_primary q) sound in
      then_read_is _ p (sign_token Colon ∷ primary_tokens q ts) _ (primary_complete p n (sign_token Colon ∷ primary_tokens q ts) (omega arith) both.0)
      ∙ then_read_is _ q ts _ (primary_complete q n ts (omega arith) both.1)

  primary_complete : (p : Primary) (n : ℕ) (ts : List Numbered) → primary_steps p ≤ n → is_sound_primary p ≡ true → primary_at (expression_at n) (primary_tokens p ts) ≡ Some (p, ts)
  primary_complete (numbered v) n ts few sound = refl
  primary_complete (positive k) n ts few sound = ap (λ b. if◌then◌else◌ {A = Answer Primary} b (Some (positive k, ts)) None) sound
  primary_complete (negative k) n ts few sound = refl
  primary_complete (constant a quotes) n ts few sound = refl
  primary_complete (call f quotes s) n ts few sound =
      then_read_is _ s ts _ (then_read_is _ s (sign_token Close ∷ ts) _ (series_complete s n (suc (length (series_tokens s (sign_token Close ∷ ts)))) (sign_token Close ∷ ts) few (omega (arith, series_steps_few s (sign_token Close ∷ ts))) sound (record { no_colon = refl; no_multiplying = refl; no_adding = refl; no_relation = refl }) refl))
  primary_complete empty_list n ts few sound = refl
  primary_complete (list s r) n ts few sound =
      let both = and_parts (is_sound_series s) (is_sound_rest r) sound in
      ap (primary_at (expression_at n)) (list_row s r ts)
      ∙ not_there _ _ _ (series_begins s (rest_tokens r (sign_token CloseList ∷ ts)))
      ∙ then_read_is _ s (rest_tokens r (sign_token CloseList ∷ ts)) _ (series_complete s n (suc (length (series_tokens s (rest_tokens r (sign_token CloseList ∷ ts))))) (rest_tokens r (sign_token CloseList ∷ ts)) (omega arith) (omega (arith, series_steps_few s (rest_tokens r (sign_token CloseList ∷ ts)))) both.0 (rest_ends r ts) (rest_no_comma r ts))
      ∙ then_read_is _ r ts _ (rest_complete r n ts (omega arith) both.1)
  primary_complete (group e) n ts few sound =
      then_read_is _ e (sign_token Close ∷ ts) _ (expression_complete e n (sign_token Close ∷ ts) few sound (record { no_colon = refl; no_multiplying = refl; no_adding = refl; no_relation = refl }))

  pub series_complete : (s : Series) (n m : ℕ) (ts : List Numbered) → series_steps s ≤ n → series_steps s ≤ m → is_sound_series s ≡ true → Ends ts → behind_comma ts ≡ None → parted_by (expression_at n) last another m (series_tokens s ts) ≡ Some (s, ts)
  series_complete (last e) n zero ts few enough sound ends no_comma = absurd (omega (arith, some_steps e))
  series_complete (another e s) n zero ts few enough sound ends no_comma = absurd (omega (arith, some_steps e))
  series_complete (last e) n (suc m) ts few enough sound ends no_comma =
      then_read_is _ e ts _ (expression_complete e n ts few sound ends) ∙ not_there _ _ _ no_comma
  series_complete (another e s) n (suc m) ts few enough sound ends no_comma =
      let both = and_parts (is_sound_expression e) (is_sound_series s) sound in
      then_read_is _ e (sign_token Comma ∷ series_tokens s ts) _ (expression_complete e n (sign_token Comma ∷ series_tokens s ts) (omega arith) both.0 (record { no_colon = refl; no_multiplying = refl; no_adding = refl; no_relation = refl }))
      ∙ then_read_is _ s ts _ (series_complete s n m ts (omega arith) (omega (arith, some_steps e)) both.1 ends no_comma)

  rest_complete : (r : Rest) (n : ℕ) (ts : List Numbered) → rest_steps r ≤ n → is_sound_rest r ≡ true → rest_at (expression_at n) (rest_tokens r (sign_token CloseList ∷ ts)) ≡ Some (r, ts)
  rest_complete closed n ts few sound = refl
  rest_complete (tail e) n ts few sound =
      then_read_is _ e (sign_token CloseList ∷ ts) _ (expression_complete e n (sign_token CloseList ∷ ts) few sound (record { no_colon = refl; no_multiplying = refl; no_adding = refl; no_relation = refl }))

-- the tokens of a tree are read as that tree
pub expression_trees_complete : (e : Expression) → is_sound_expression e ≡ true → expression_tree (expression_tokens e []) ≡ Some e
expression_trees_complete e sound = ap all_read (expression_complete e (suc (length (expression_tokens e []))) [] (omega (arith, steps_of_few e [])) sound (record { no_colon = refl; no_multiplying = refl; no_adding = refl; no_relation = refl }))

-- arguments in parentheses
arguments_complete : (s : Series) (n : ℕ) (ts : List Numbered) → series_steps s ≤ n → is_sound_series s ≡ true → arguments_at (expression_at n) (sign_token Open ∷ series_tokens s (sign_token Close ∷ ts)) ≡ Some (s, ts)
arguments_complete s n ts few sound =
    then_read_is _ s (sign_token Close ∷ ts) _ (series_complete s n (suc (length (series_tokens s (sign_token Close ∷ ts)))) (sign_token Close ∷ ts) few (omega (arith, series_steps_few s (sign_token Close ∷ ts))) sound (record { no_colon = refl; no_multiplying = refl; no_adding = refl; no_relation = refl }) refl)

-- a whole series in front
whole_series : (s : Series) (n : ℕ) (ts : List Numbered) → series_steps s ≤ n → is_sound_series s ≡ true → Ends ts → behind_comma ts ≡ None → series_at (expression_at n) (series_tokens s ts) ≡ Some (s, ts)
whole_series s n ts few sound ends no_comma = series_complete s n (suc (length (series_tokens s ts))) ts few (omega (arith, series_steps_few s ts)) sound ends no_comma

-- how many steps a head takes at most
abbrev pub head_steps : Head → ℕ
head_steps (bare_head p quotes) = 0
head_steps (head_with p quotes s) = series_steps s

-- no head takes more steps than it has tokens
pub head_steps_few : (h : Head) (ts : List Numbered) → head_steps h + length ts ≤ length (head_tokens h ts)
head_steps_few (bare_head p quotes) ts = omega arith
head_steps_few (head_with p quotes s) ts = omega (arith, series_steps_few s (sign_token Close ∷ ts))

head_complete : (h : Head) (n : ℕ) (ts : List Numbered) → head_steps h ≤ n → is_sound_head h ≡ true → head_at (expression_at n) (head_tokens h ts) ≡ Some (h, ts)
head_complete (bare_head p quotes) n ts few sound = refl
head_complete (head_with p quotes s) n ts few sound = then_read_is _ s ts _ (arguments_complete s n ts few sound)

-- how many steps a goal takes at most
abbrev pub goal_steps : GoalTree → ℕ
goal_steps (plain_goal e) = steps_of e
goal_steps (urgent_goal e quotes n) = steps_of e

-- how many steps a body takes at most
abbrev pub body_steps : Body → ℕ
body_steps (last_goal g) = goal_steps g
body_steps (another_goal g b) = goal_steps g + body_steps b

-- no goal takes more steps than it has tokens
pub goal_steps_few : (g : GoalTree) (ts : List Numbered) → goal_steps g + length ts ≤ length (goal_tokens g ts)
goal_steps_few (plain_goal e) ts = steps_of_few e ts
goal_steps_few (urgent_goal e quotes n) ts = omega (arith, steps_of_few e (sign_token At ∷ name_token (codes "priority") quotes true ∷ sign_token Open ∷ digits_token n ∷ sign_token Close ∷ ts))

-- no body takes more steps than it has tokens
pub body_steps_few : (b : Body) (ts : List Numbered) → body_steps b + length ts ≤ length (body_tokens b ts)
body_steps_few (last_goal g) ts = goal_steps_few g ts
body_steps_few (another_goal g b) ts = omega (arith, goal_steps_few g (sign_token Comma ∷ body_tokens b ts), body_steps_few b ts)

-- each goal takes a step
pub some_goal_steps : (g : GoalTree) → 1 ≤ goal_steps g
some_goal_steps (plain_goal e) = some_steps e
some_goal_steps (urgent_goal e quotes n) = some_steps e

goal_complete : (g : GoalTree) (n : ℕ) (ts : List Numbered) → goal_steps g ≤ n → is_sound_goal g ≡ true → Ends ts → behind_at ts ≡ None → goal_at (expression_at n) (goal_tokens g ts) ≡ Some (g, ts)
goal_complete (plain_goal e) n ts few sound ends no_at = then_read_is _ e ts _ (expression_complete e n ts few sound ends) ∙ not_there _ _ _ no_at
goal_complete (urgent_goal e quotes k) n ts few sound ends no_at =
    let next = name_token (codes "priority") quotes true ∷ sign_token Open ∷ digits_token k ∷ sign_token Close ∷ ts in
    then_read_is _ e (sign_token At ∷ next) _ (expression_complete e n (sign_token At ∷ next) few sound (record { no_colon = refl; no_multiplying = refl; no_adding = refl; no_relation = refl }))

pub body_complete : (b : Body) (n m : ℕ) (ts : List Numbered) → body_steps b ≤ n → body_steps b ≤ m → is_sound_body b ≡ true → Ends ts → behind_at ts ≡ None → behind_comma ts ≡ None → parted_by (goal_at (expression_at n)) last_goal another_goal m (body_tokens b ts) ≡ Some (b, ts)
unfolding parted_by
body_complete (last_goal g) n zero ts few enough sound ends no_at no_comma = absurd (omega (arith, some_goal_steps g))
body_complete (another_goal g b) n zero ts few enough sound ends no_at no_comma = absurd (omega (arith, some_goal_steps g))
body_complete (last_goal g) n (suc m) ts few enough sound ends no_at no_comma =
    then_read_is _ g ts _ (goal_complete g n ts few sound ends no_at) ∙ not_there _ _ _ no_comma
body_complete (another_goal g b) n (suc m) ts few enough sound ends no_at no_comma =
    let both = and_parts (is_sound_goal g) (is_sound_body b) sound in
    then_read_is _ g (sign_token Comma ∷ body_tokens b ts) _ (goal_complete g n (sign_token Comma ∷ body_tokens b ts) (omega arith) both.0 (record { no_colon = refl; no_multiplying = refl; no_adding = refl; no_relation = refl }) refl)
    ∙ then_read_is _ b ts _ (body_complete b n m ts (omega arith) (omega (arith, some_goal_steps g)) both.1 ends no_at no_comma)

-- a whole body in front
whole_body : (b : Body) (n : ℕ) (ts : List Numbered) → body_steps b ≤ n → is_sound_body b ≡ true → Ends ts → behind_at ts ≡ None → behind_comma ts ≡ None → body_at (expression_at n) (body_tokens b ts) ≡ Some (b, ts)
whole_body b n ts few sound ends no_at no_comma = body_complete b n (suc (length (body_tokens b ts))) ts few (omega (arith, body_steps_few b ts)) sound ends no_at no_comma

-- tests as goals without priorities
abbrev plainly : Series → Body
plainly (last e) = last_goal (plain_goal e)
plainly (another e s) = another_goal (plain_goal e) (plainly s)

plainly_row : (s : Series) (ts : List Numbered) → body_tokens (plainly s) ts ≡ series_tokens s ts
plainly_row (last e) ts = refl
plainly_row (another e s) ts = ap (λ w. expression_tokens e (sign_token Comma ∷ w)) (plainly_row s ts)

plainly_tests : (s : Series) → tests_of (plainly s) ≡ Some s
plainly_tests (last e) = refl
plainly_tests (another e s) = ap (option_map (λ t. another e t)) (plainly_tests s)

plainly_sound : (s : Series) → is_sound_body (plainly s) ≡ is_sound_series s
plainly_sound (last e) = refl
plainly_sound (another e s) = ap (λ x. is_sound_expression e && x) (plainly_sound s)

plainly_steps : (s : Series) → body_steps (plainly s) ≡ series_steps s
plainly_steps (last e) = refl
plainly_steps (another e s) = ap (λ k. steps_of e + k) (plainly_steps s)

rule_complete : (h : Head) (body : Body) (n : ℕ) → head_steps h ≤ n → body_steps body ≤ n → is_sound_head h ≡ true → is_sound_body body ≡ true → clause_at (expression_at n) (clause_tokens (rule h body)) ≡ Some (rule h body, [])
rule_complete h body n few less sound right =
    then_read_is _ h (sign_token Neck ∷ body_tokens body []) _ (head_complete h n _ few sound)
    ∙ then_read_is _ body [] _ (whole_body body n [] less right (record { no_colon = refl; no_multiplying = refl; no_adding = refl; no_relation = refl }) refl refl)

guarded_complete : (h : Head) (tests : Series) (body : Body) (n : ℕ) → head_steps h ≤ n → series_steps tests ≤ n → body_steps body ≤ n → is_sound_head h ≡ true → is_sound_series tests ≡ true → is_sound_body body ≡ true → clause_at (expression_at n) (clause_tokens (guarded h tests body)) ≡ Some (guarded h tests body, [])
guarded_complete h tests body n few less least sound well right =
    let next = sign_token Bar ∷ body_tokens body [] in
    then_read_is _ h (sign_token Neck ∷ series_tokens tests next) _ (head_complete h n _ few sound)
    ∙ ap (behind_neck_at (expression_at n) h) (sym (plainly_row tests next))
    ∙ then_read_is _ (plainly tests) next _ (whole_body (plainly tests) n next (omega (arith, plainly_steps tests)) (plainly_sound tests ∙ well) (record { no_colon = refl; no_multiplying = refl; no_adding = refl; no_relation = refl }) refl refl)
    ∙ ap (option_and_then {U = ClauseTree × List Numbered} (λ s. then_read (body_at (expression_at n) (body_tokens body [])) (λ b ws. Some (guarded h s b, ws)))) (plainly_tests tests)
    ∙ then_read_is _ body [] _ (whole_body body n [] least right (record { no_colon = refl; no_multiplying = refl; no_adding = refl; no_relation = refl }) refl refl)

-- the tokens of a clause's tree are read as that tree
pub clause_trees_complete : (c : ClauseTree) → is_sound_clause c ≡ true → clause_tree (clause_tokens c) ≡ Some c
clause_trees_complete (fact h) sound =
    ap all_read (then_read_is _ h [] _ (head_complete h (suc (length (head_tokens h []))) [] (omega (arith, head_steps_few h [])) sound))
clause_trees_complete (rule h body) sound =
    let both = and_parts (is_sound_head h) (is_sound_body body) sound in
    let behind = body_tokens body [] in
    let few = head_steps_few h (sign_token Neck ∷ behind) in
    ap all_read (rule_complete h body (suc (length (clause_tokens (rule h body)))) (omega arith) (omega (arith, body_steps_few body [])) both.0 both.1)
clause_trees_complete (guarded h tests body) sound =
    let both = and_parts (is_sound_head h && is_sound_series tests) (is_sound_body body) sound in
    let front = and_parts (is_sound_head h) (is_sound_series tests) both.0 in
    let behind = body_tokens body [] in
    let few = head_steps_few h (sign_token Neck ∷ series_tokens tests (sign_token Bar ∷ behind)) in
    let less = series_steps_few tests (sign_token Bar ∷ behind) in
    ap all_read (guarded_complete h tests body (suc (length (clause_tokens (guarded h tests body)))) (omega arith) (omega arith) (omega (arith, body_steps_few body [])) front.0 front.1 both.1)
