-- The reader without counts of steps.
use Rattle.std.specs.Prelude.{◌≡◌, ℕ, zero, suc, ◌≤◌, ◌<◌, true, List, ◌∷◌, length, Option, Some, None, option_and_then}
use Rattle.std.proofs.Common.{refl, ap, sym, ◌∙◌, arith}
use Rattle.kl1_model.specs.declared.sign.Sign.TheVariants.{Open, OpenList}
use Rattle.kl1_model.specs.declared.relation.Relation.{Relation}
use Rattle.kl1_model.specs.Token.{name_token, digits_token, minus_token, sign_token}
use Rattle.kl1_model.specs.Grammar.{Numbered, Adding, Multiplying, Expression, Sum, summand, added, Product, factor, multiplied, Part, Primary, Series, last, another, Head, GoalTree, Body, last_goal, another_goal, ClauseTree, guarded}
use Rattle.kl1_model.specs.reader.Reader.{Answer, Inner, then_read, then_skip, if_there, behind_comma, behind_open, behind_close_list, behind_bar, behind_colon, behind_neck, relation_in_front, adding_in_front, multiplying_in_front, parted_by, series_at, rest_at, list_at, arguments_at, primary_at, part_at, grouped_by, grouped_at, product_at, sum_at, expression_at, inner_of, all_read, head_at, goal_at, body_at, tests_of, behind_neck_at, clause_at, clause_tree}
use Rattle.kl1_model.specs.laws.ReadLaws.{whole_expression, grouped_on, related_at, SumsGoOn, ProductsGoOn, BodiesGoOn}
use Rattle.kl1_model.proofs.ReadSound.{IsSound, comma_is, bar_is, open_is, colon_is, neck_is, relation_is, adding_is, multiplying_is, series_sound, primary_sound, part_sound, product_sound, sum_sound, goal_sound, body_sound, head_sound, expressions_sound}
use Rattle.kl1_model.proofs.ReadComplete.{steps_of_few, sum_steps_few, product_steps_few, part_steps_few, primary_steps_few, series_steps_few, some_steps, head_steps_few, goal_steps_few, body_steps_few, some_goal_steps}

then_read_same : {A B : Type 0} (x y : Answer A) (go other : A → List Numbered → Option B) → x ≡ y → ((a : A) (us : List Numbered) → x ≡ Some (a, us) → go a us ≡ other a us) → then_read x go ≡ then_read y other
then_read_same None y go other same on = ap (λ z. then_read z other) same
then_read_same (Some r) y go other same on = on r.0 r.1 refl ∙ ap (λ z. then_read z other) same

then_skip_same : {B : Type 0} (x : Option (List Numbered)) (go other : List Numbered → Option B) → ((us : List Numbered) → x ≡ Some us → go us ≡ other us) → then_skip x go ≡ then_skip x other
then_skip_same None go other on = refl
then_skip_same (Some us) go other on = on us refl

if_there_same : {B : Type 0} (x : Option (List Numbered)) (a b : Option B) (go other : List Numbered → Option B) → a ≡ b → ((us : List Numbered) → x ≡ Some us → go us ≡ other us) → if_there x a go ≡ if_there x b other
if_there_same None a b go other same on = same
if_there_same (Some us) a b go other same on = on us refl

-- what is after an expression is less
behind_expression : (inner : Inner) → IsSound inner → (ts us : List Numbered) (e : Expression) → inner ts ≡ Some (e, us) → length us < length ts
behind_expression inner sound ts us e read = omega (arith, ap (length {A = Numbered}) (sound ts e us read), steps_of_few e us, some_steps e)

behind_primary : (inner : Inner) → IsSound inner → (ts us : List Numbered) (p : Primary) → primary_at inner ts ≡ Some (p, us) → length us < length ts
behind_primary inner sound ts us p read = omega (arith, ap (length {A = Numbered}) (primary_sound inner sound ts p us read), primary_steps_few p us)

behind_part : (inner : Inner) → IsSound inner → (ts us : List Numbered) (p : Part) → part_at inner ts ≡ Some (p, us) → length us < length ts
behind_part inner sound ts us p read = omega (arith, ap (length {A = Numbered}) (part_sound inner sound ts p us read), part_steps_few p us)

behind_product : (inner : Inner) → IsSound inner → (ts us : List Numbered) (p : Product) → product_at inner ts ≡ Some (p, us) → length us < length ts
behind_product inner sound ts us p read = omega (arith, ap (length {A = Numbered}) (product_sound inner sound ts p us read), product_steps_few p us)

behind_sum : (inner : Inner) → IsSound inner → (ts us : List Numbered) (s : Sum) → sum_at inner ts ≡ Some (s, us) → length us < length ts
behind_sum inner sound ts us s read = omega (arith, ap (length {A = Numbered}) (sum_sound inner sound ts s us read), sum_steps_few s us)

behind_goal : (inner : Inner) → IsSound inner → (ts us : List Numbered) (g : GoalTree) → goal_at inner ts ≡ Some (g, us) → length us < length ts
behind_goal inner sound ts us g read = omega (arith, ap (length {A = Numbered}) (goal_sound inner sound ts g us read), goal_steps_few g us, some_goal_steps g)

behind_body : (inner : Inner) → IsSound inner → (m : ℕ) (ts us : List Numbered) (b : Body) → parted_by (goal_at inner) last_goal another_goal m ts ≡ Some (b, us) → length us ≤ length ts
behind_body inner sound m ts us b read = omega (arith, ap (length {A = Numbered}) (body_sound inner sound m ts b us read), body_steps_few b us)

adding_less : (ts us : List Numbered) (o : Adding) → adding_in_front ts ≡ Some (o, us) → length us < length ts
adding_less ts us o h = omega (arith, ap (length {A = Numbered}) (adding_is ts us o h))

multiplying_less : (ts us : List Numbered) (o : Multiplying) → multiplying_in_front ts ≡ Some (o, us) → length us < length ts
multiplying_less ts us o h = omega (arith, ap (length {A = Numbered}) (multiplying_is ts us o h))

behind_series : (inner : Inner) → IsSound inner → (m : ℕ) (ts us : List Numbered) (s : Series) → parted_by inner last another m ts ≡ Some (s, us) → length us ≤ length ts
behind_series inner sound m ts us s read = omega (arith, ap (length {A = Numbered}) (series_sound inner sound m ts s us read), series_steps_few s us)

behind_head : (inner : Inner) → IsSound inner → (ts us : List Numbered) (h : Head) → head_at inner ts ≡ Some (h, us) → length us ≤ length ts
behind_head inner sound ts us h read = omega (arith, ap (length {A = Numbered}) (head_sound inner sound ts h us read), head_steps_few h us)

-- operands that are read in two ways, which agree on at most `most` tokens
module _ {S O A : Type 0} (operator : List Numbered → Answer O) (f g : List Numbered → Answer A) (join : S → O → A → S)
    (operator_less : (ts us : List Numbered) (o : O) → operator ts ≡ Some (o, us) → length us < length ts)
    (operand_less : (ts us : List Numbered) (a : A) → f ts ≡ Some (a, us) → length us < length ts)
    (most : ℕ) (same : (ts : List Numbered) → length ts ≤ most → f ts ≡ g ts) where
  grouped_on_same : (next other : S → List Numbered → Answer S) → ((s : S) (ts : List Numbered) → length ts ≤ most → next s ts ≡ other s ts) → (s : S) (ts : List Numbered) (x : Answer O) → operator ts ≡ x → length ts ≤ most → grouped_on f join next s ts x ≡ grouped_on g join other s ts x
  grouped_on_same next other agree s ts None found within = refl
  grouped_on_same next other agree s ts (Some o) found within =
      then_read_same (f o.1) (g o.1) _ _ (same o.1 (omega (arith, operator_less ts o.1 o.0 found))) (λ a us read.
      agree (join s o.0 a) us (omega (arith, operator_less ts o.1 o.0 found, operand_less o.1 us a read)))

  grouped_same : (m : ℕ) (s : S) (ts : List Numbered) → length ts ≤ most → grouped_by operator f join m s ts ≡ grouped_by operator g join m s ts
  unfolding grouped_by
  grouped_same zero s ts within = refl
  grouped_same (suc m) s ts within = grouped_on_same (grouped_by operator f join m) (grouped_by operator g join m) (grouped_same m) s ts (operator ts) refl within

-- more steps than tokens group the same operands
module _ {S O A : Type 0} (operator : List Numbered → Answer O) (operand : List Numbered → Answer A) (join : S → O → A → S)
    (operator_less : (ts us : List Numbered) (o : O) → operator ts ≡ Some (o, us) → length us < length ts)
    (operand_less : (ts us : List Numbered) (a : A) → operand ts ≡ Some (a, us) → length us < length ts) where
  next_enough : (next other : S → List Numbered → Answer S) (s : S) (ts : List Numbered) (x : Answer O) → operator ts ≡ x → ((s : S) (us : List Numbered) → length us < length ts → next s us ≡ other s us) → grouped_on operand join next s ts x ≡ grouped_on operand join other s ts x
  next_enough next other s ts None found agree = refl
  next_enough next other s ts (Some o) found agree =
      then_read_same (operand o.1) (operand o.1) _ _ refl (λ a us read.
      agree (join s o.0 a) us (omega (arith, operator_less ts o.1 o.0 found, operand_less o.1 us a read)))

  grouped_enough : (m n : ℕ) (s : S) (ts : List Numbered) → length ts < m → length ts < n → grouped_by operator operand join m s ts ≡ grouped_by operator operand join n s ts
  unfolding grouped_by
  grouped_enough zero n s ts h j = absurd (omega arith)
  grouped_enough (suc m) zero s ts h j = absurd (omega arith)
  grouped_enough (suc m) (suc n) s ts h j =
      next_enough (grouped_by operator operand join m) (grouped_by operator operand join n) s ts (operator ts) refl (λ r us less. grouped_enough m n r us (omega arith) (omega arith))

  pub grouped_goes_on : (s : S) (ts : List Numbered) → grouped_at operator operand join s ts ≡ grouped_on operand join (grouped_at operator operand join) s ts (operator ts)
  unfolding grouped_by
  grouped_goes_on s ts =
      next_enough (grouped_by operator operand join (length ts)) (grouped_at operator operand join) s ts (operator ts) refl (λ r us less. grouped_enough (length ts) (suc (length us)) r us less (omega arith))

-- two ways to read inner expressions that agree on fewer than `most` tokens
module _ (f g : Inner) (sound : IsSound f) (most : ℕ) (same : (ts : List Numbered) → length ts < most → f ts ≡ g ts) where
  series_same : (m : ℕ) (ts : List Numbered) → length ts < most → parted_by f last another m ts ≡ parted_by g last another m ts
  unfolding parted_by
  series_same zero ts less = refl
  series_same (suc m) ts less =
      then_read_same (f ts) (g ts) _ _ (same ts less) (λ e us read.
      if_there_same (behind_comma us) _ _ _ _ refl (λ vs comma.
      then_read_same (parted_by f last another m vs) (parted_by g last another m vs) _ _
      (series_same m vs (omega (arith, behind_expression f sound ts us e read, ap (length {A = Numbered}) (comma_is us vs comma))))
      (λ s ws more_read. refl)))

  rest_same : (ts : List Numbered) → length ts ≤ most → rest_at f ts ≡ rest_at g ts
  rest_same ts within =
      if_there_same (behind_bar ts) _ _ _ _ refl (λ us bar.
      then_read_same (f us) (g us) _ _ (same us (omega (arith, ap (length {A = Numbered}) (bar_is ts us bar)))) (λ e vs read. refl))

  list_same : (ts : List Numbered) → length ts < most → list_at f ts ≡ list_at g ts
  list_same ts less =
      if_there_same (behind_close_list ts) _ _ _ _
      (then_read_same (series_at f ts) (series_at g ts) _ _ (series_same _ ts less) (λ s us read.
      then_read_same (rest_at f us) (rest_at g us) _ _ (rest_same us (omega (arith, behind_series f sound (suc (length ts)) ts us s read))) (λ r vs rest. refl)))
      (λ us end. refl)

  arguments_same : (ts : List Numbered) → length ts ≤ most → arguments_at f ts ≡ arguments_at g ts
  arguments_same ts within =
      then_skip_same (behind_open ts) _ _ (λ us open_there.
      then_read_same (series_at f us) (series_at g us) _ _ (series_same _ us (omega (arith, ap (length {A = Numbered}) (open_is ts us open_there)))) (λ s vs read. refl))

  primary_same : (ts : List Numbered) → length ts ≤ most → primary_at f ts ≡ primary_at g ts
  primary_same (name_token p quotes true ∷ ts) within = then_read_same (arguments_at f ts) (arguments_at g ts) _ _ (arguments_same ts (omega arith)) (λ s us read. refl)
  primary_same (minus_token true ∷ digits_token n ∷ ts) within = refl
  primary_same (sign_token OpenList ∷ ts) within = list_same ts within
  primary_same (sign_token Open ∷ ts) within = then_read_same (f ts) (g ts) _ _ (same ts within) (λ e us read. refl)
  primary_same _ within = refl

  part_same : (ts : List Numbered) → length ts ≤ most → part_at f ts ≡ part_at g ts
  part_same ts within =
      then_read_same (primary_at f ts) (primary_at g ts) _ _ (primary_same ts within) (λ p us read.
      if_there_same (behind_colon us) _ _ _ _ refl (λ vs colon.
      then_read_same (primary_at f vs) (primary_at g vs) _ _
      (primary_same vs (omega (arith, behind_primary f sound ts us p read, ap (length {A = Numbered}) (colon_is us vs colon))))
      (λ q ws more_read. refl)))

  product_same : (ts : List Numbered) → length ts ≤ most → product_at f ts ≡ product_at g ts
  product_same ts within =
      then_read_same (part_at f ts) (part_at g ts) _ _ (part_same ts within) (λ p us read.
      grouped_same multiplying_in_front (part_at f) (part_at g) multiplied multiplying_less (λ vs ws q more_read. behind_part f sound vs ws q more_read) most part_same (suc (length us)) (factor p) us (omega (arith, behind_part f sound ts us p read)))

  sum_same : (ts : List Numbered) → length ts ≤ most → sum_at f ts ≡ sum_at g ts
  sum_same ts within =
      then_read_same (product_at f ts) (product_at g ts) _ _ (product_same ts within) (λ p us read.
      grouped_same adding_in_front (product_at f) (product_at g) added adding_less (λ vs ws q more_read. behind_product f sound vs ws q more_read) most product_same (suc (length us)) (summand p) us (omega (arith, behind_product f sound ts us p read)))

  related_same : (s : Sum) (ts : List Numbered) (x : Answer Relation) → x ≡ relation_in_front ts → length ts ≤ most → related_at f s ts x ≡ related_at g s ts x
  related_same s ts None found within = refl
  related_same s ts (Some r) found within =
      then_read_same (sum_at f r.1) (sum_at g r.1) _ _ (sum_same r.1 (omega (arith, ap (length {A = Numbered}) (relation_is ts r.1 r.0 (sym found))))) (λ q us read. refl)

  expression_same : (ts : List Numbered) → length ts ≤ most → then_read (sum_at f ts) (λ s us. related_at f s us (relation_in_front us)) ≡ then_read (sum_at g ts) (λ s us. related_at g s us (relation_in_front us))
  expression_same ts within =
      then_read_same (sum_at f ts) (sum_at g ts) _ _ (sum_same ts within) (λ s us read.
      related_same s us (relation_in_front us) refl (omega (arith, behind_sum f sound ts us s read)))

  goal_same : (ts : List Numbered) → length ts < most → goal_at f ts ≡ goal_at g ts
  goal_same ts less = then_read_same (f ts) (g ts) _ _ (same ts less) (λ e us read. refl)

  body_same : (m : ℕ) (ts : List Numbered) → length ts < most → parted_by (goal_at f) last_goal another_goal m ts ≡ parted_by (goal_at g) last_goal another_goal m ts
  unfolding parted_by
  body_same zero ts less = refl
  body_same (suc m) ts less =
      then_read_same (goal_at f ts) (goal_at g ts) _ _ (goal_same ts less) (λ e us read.
      if_there_same (behind_comma us) _ _ _ _ refl (λ vs comma.
      then_read_same (parted_by (goal_at f) last_goal another_goal m vs) (parted_by (goal_at g) last_goal another_goal m vs) _ _
      (body_same m vs (omega (arith, behind_goal f sound ts us e read, ap (length {A = Numbered}) (comma_is us vs comma))))
      (λ s ws more_read. refl)))

  tests_same : (h : Head) (vs : List Numbered) (x : Option Series) → length vs < most →
      option_and_then {U = ClauseTree × List Numbered} (λ s. then_read (body_at f vs) (λ body ws. Some (guarded h s body, ws))) x ≡ option_and_then {U = ClauseTree × List Numbered} (λ s. then_read (body_at g vs) (λ body ws. Some (guarded h s body, ws))) x
  tests_same h vs None less = refl
  tests_same h vs (Some s) less = then_read_same (body_at f vs) (body_at g vs) _ _ (body_same _ vs less) (λ body ws more_read. refl)

  head_same : (ts : List Numbered) → length ts ≤ most → head_at f ts ≡ head_at g ts
  head_same (name_token p quotes true ∷ ts) within = then_read_same (arguments_at f ts) (arguments_at g ts) _ _ (arguments_same ts (omega arith)) (λ s us read. refl)
  head_same _ within = refl

  behind_neck_same : (h : Head) (ts : List Numbered) → length ts < most → behind_neck_at f h ts ≡ behind_neck_at g h ts
  behind_neck_same h ts less =
      then_read_same (body_at f ts) (body_at g ts) _ _ (body_same _ ts less) (λ b us read.
      if_there_same (behind_bar us) _ _ _ _ refl (λ vs bar.
      tests_same h vs (tests_of b) (omega (arith, behind_body f sound (suc (length ts)) ts us b read, ap (length {A = Numbered}) (bar_is us vs bar)))))

  clause_same : (ts : List Numbered) → length ts ≤ most → clause_at f ts ≡ clause_at g ts
  clause_same ts within =
      then_read_same (head_at f ts) (head_at g ts) _ _ (head_same ts within) (λ h us read.
      if_there_same (behind_neck us) _ _ _ _ refl (λ vs neck.
      behind_neck_same h vs (omega (arith, behind_head f sound ts us h read, ap (length {A = Numbered}) (neck_is us vs neck)))))

-- more steps than tokens read the same
pub reader_steps_are_enough : (m n : ℕ) (ts : List Numbered) → length ts < m → length ts < n → expression_at m ts ≡ expression_at n ts
unfolding expression_at
reader_steps_are_enough zero n ts h j = absurd (omega arith)
reader_steps_are_enough (suc m) zero ts h j = absurd (omega arith)
reader_steps_are_enough (suc m) (suc n) ts h j =
    expression_same (expression_at m) (expression_at n) (expressions_sound m) (length ts) (λ us less. reader_steps_are_enough m n us (omega arith) (omega arith)) ts (omega arith)

-- whole expressions are read from their tokens
pub whole_sound : IsSound whole_expression
whole_sound ts e us read = expressions_sound (suc (length ts)) ts e us read

-- fewer tokens are after an expression
pub expressions_leave_less : (ts : List Numbered) (e : Expression) (us : List Numbered) → whole_expression ts ≡ Some (e, us) → length us < length ts
expressions_leave_less ts e us read = behind_expression whole_expression whole_sound ts us e read

one_step : (n : ℕ) (ts : List Numbered) → expression_at (suc n) ts ≡ then_read (sum_at (expression_at n) ts) (λ s us. related_at (expression_at n) s us (relation_in_front us))
unfolding expression_at
one_step n ts = refl

-- an expression is its first sum and what is after it
pub expressions_go_on : (ts : List Numbered) → whole_expression ts ≡ then_read (sum_at whole_expression ts) (λ s us. related_at whole_expression s us (relation_in_front us))
expressions_go_on ts =
    one_step (length ts) ts
    ∙ expression_same (expression_at (length ts)) whole_expression (expressions_sound (length ts)) (length ts) (λ us less. reader_steps_are_enough (length ts) (suc (length us)) us less (omega arith)) ts (omega arith)

-- a sum is what was read of it and, after an operator, the next product
pub sums_go_on : SumsGoOn
sums_go_on s ts = grouped_goes_on adding_in_front (product_at whole_expression) added adding_less (λ vs ws q read. behind_product whole_expression whole_sound vs ws q read) s ts

-- a product is what was read of it and, after an operator, the next part
pub products_go_on : ProductsGoOn
products_go_on p ts = grouped_goes_on multiplying_in_front (part_at whole_expression) multiplied multiplying_less (λ vs ws q read. behind_part whole_expression whole_sound vs ws q read) p ts

-- more steps than tokens read the same series
series_enough : (m n : ℕ) (ts : List Numbered) → length ts < m → length ts < n → parted_by whole_expression last another m ts ≡ parted_by whole_expression last another n ts
unfolding parted_by
series_enough zero n ts h j = absurd (omega arith)
series_enough (suc m) zero ts h j = absurd (omega arith)
series_enough (suc m) (suc n) ts h j =
    then_read_same (whole_expression ts) (whole_expression ts) _ _ refl (λ e us read.
    if_there_same (behind_comma us) _ _ _ _ refl (λ vs comma.
    let less = expressions_leave_less ts e us read in
    let one = ap (length {A = Numbered}) (comma_is us vs comma) in
    then_read_same (parted_by whole_expression last another m vs) (parted_by whole_expression last another n vs) _ _ (series_enough m n vs (omega arith) (omega arith)) (λ s ws more_read. refl)))

-- a series is its first expression and, after a comma, another series
pub series_go_on : (ts : List Numbered) → series_at whole_expression ts ≡ then_read (whole_expression ts) (λ e us. if_there (behind_comma us) (Some (last e, us)) (λ vs. then_read (series_at whole_expression vs) (λ s ws. Some (another e s, ws))))
unfolding parted_by
series_go_on ts =
    then_read_same (whole_expression ts) (whole_expression ts) _ _ refl (λ e us read.
    if_there_same (behind_comma us) _ _ _ _ refl (λ vs comma.
    let less = expressions_leave_less ts e us read in
    let one = ap (length {A = Numbered}) (comma_is us vs comma) in
    then_read_same (parted_by whole_expression last another (length ts) vs) (series_at whole_expression vs) _ _ (series_enough (length ts) (suc (length vs)) vs (omega arith) (omega arith)) (λ s ws more_read. refl)))

-- more steps than tokens read the same body
body_enough : (m n : ℕ) (ts : List Numbered) → length ts < m → length ts < n → parted_by (goal_at whole_expression) last_goal another_goal m ts ≡ parted_by (goal_at whole_expression) last_goal another_goal n ts
unfolding parted_by
body_enough zero n ts h j = absurd (omega arith)
body_enough (suc m) zero ts h j = absurd (omega arith)
body_enough (suc m) (suc n) ts h j =
    then_read_same (goal_at whole_expression ts) (goal_at whole_expression ts) _ _ refl (λ g us read.
    if_there_same (behind_comma us) _ _ _ _ refl (λ vs comma.
    let less = behind_goal whole_expression whole_sound ts us g read in
    let one = ap (length {A = Numbered}) (comma_is us vs comma) in
    then_read_same (parted_by (goal_at whole_expression) last_goal another_goal m vs) (parted_by (goal_at whole_expression) last_goal another_goal n vs) _ _ (body_enough m n vs (omega arith) (omega arith)) (λ b ws more_read. refl)))

-- a body is its first goal and, after a comma, another body
pub bodies_go_on : BodiesGoOn
unfolding parted_by
bodies_go_on ts =
    then_read_same (goal_at whole_expression ts) (goal_at whole_expression ts) _ _ refl (λ g us read.
    if_there_same (behind_comma us) _ _ _ _ refl (λ vs comma.
    let less = behind_goal whole_expression whole_sound ts us g read in
    let one = ap (length {A = Numbered}) (comma_is us vs comma) in
    then_read_same (parted_by (goal_at whole_expression) last_goal another_goal (length ts) vs) (body_at whole_expression vs) _ _ (body_enough (length ts) (suc (length vs)) vs (omega arith) (omega arith)) (λ b ws more_read. refl)))

-- a clause is read with whole expressions inside it
pub clauses_go_on : (ts : List Numbered) → clause_tree ts ≡ all_read (clause_at whole_expression ts)
clauses_go_on ts =
    ap all_read (clause_same (inner_of ts) whole_expression (expressions_sound (suc (length ts))) (length ts) (λ us less. reader_steps_are_enough (suc (length ts)) (suc (length us)) us (omega arith) (omega arith)) ts (omega arith))
