-- What the reader reads are the tokens of the tree that it gives.
use Rattle.std.specs.Prelude.{◌≡◌, ℕ, zero, suc, nat_lt, not, ◌&&◌, Bool, true, false, if◌then◌else◌, List, [], ◌∷◌, length, codes, bytes_eq, Option, Some, None, option_map}
use Rattle.std.proofs.Common.{refl, ap, ap₂, sym, ◌∙◌}
use Rattle.std.proofs.lemmas.Bool.{and_parts, not-true}
use Rattle.std.proofs.lemmas.Option.{none-some, same_Some, some_pair_parts, option_and_then_some}
use Rattle.std.proofs.lemmas.Slice.Eq.{bytes_eq-Decides}
use Rattle.kl1_model.specs.declared.limits.TheConstants.{NUMBER_LIMIT}
use Rattle.kl1_model.specs.declared.sign.Sign.TheVariants.{Neck, Becomes, SameValue, OtherValue, NotOver, Differs, NotUnder, Colon, Equals, Under, Over, Plus, Star, Slash, At, Bar, Comma, Open, Close, OpenList, CloseList}
use Rattle.kl1_model.specs.declared.relation.Relation.{Relation}
use Rattle.kl1_model.specs.declared.relation.Relation.TheVariants.{Equal, NotEqual, Assign, Less, Greater, AtMost, AtLeast, SameNumber, OtherNumber}
use Rattle.kl1_model.specs.Token.{name_token, variable_token, digits_token, minus_token, sign_token}
use Rattle.kl1_model.specs.Grammar.{Numbered, relation_sign, Adding, by_plus, by_minus, Multiplying, by_star, by_slash, by_mod, Expression, alone, related, Sum, summand, added, Product, factor, multiplied, Part, single, qualified, Primary, numbered, positive, negative, constant, call, empty_list, list, group, Series, last, another, Rest, closed, tail, Head, bare_head, head_with, GoalTree, plain_goal, urgent_goal, Body, last_goal, another_goal, ClauseTree, fact, rule, guarded, expression_tokens, sum_tokens, product_tokens, part_tokens, primary_tokens, series_tokens, head_tokens, goal_tokens, body_tokens, clause_tokens}
use Rattle.kl1_model.specs.reader.Reader.{Answer, Inner, then_read, then_skip, if_there, behind_comma, behind_close, behind_open, behind_close_list, behind_bar, behind_colon, behind_neck, behind_at, digits_in_front, priority_in_front, relation_in_front, adding_in_front, multiplying_in_front, parted_by, series_at, rest_at, list_at, arguments_at, primary_at, part_at, grouped_by, product_at, sum_at, expression_at, inner_of, all_read, expression_tree, head_at, priority_at, goal_at, body_at, tests_of, behind_neck_at, clause_at, clause_tree}
use Rattle.kl1_model.specs.laws.ReadLaws.{grouped_on, related_at}
use Rattle.kl1_model.proofs.ReadRows.{adding_token, multiplying_token, rest_tokens, added_row, multiplied_row, list_row}

-- an answer that came from going on after another
pub then_read_some : {A B P : Type 0} (x : Answer A) (go : A → List Numbered → Option B) (b : B) → then_read x go ≡ Some b → ((a : A) (us : List Numbered) → x ≡ Some (a, us) → go a us ≡ Some b → P) → P
then_read_some None go b h k = absurd (none-some b h)
then_read_some (Some r) go b h k = k r.0 r.1 refl h

-- an answer that came from going on after a token
pub then_skip_some : {B P : Type 0} (x : Option (List Numbered)) (go : List Numbered → Option B) (b : B) → then_skip x go ≡ Some b → ((us : List Numbered) → x ≡ Some us → go us ≡ Some b → P) → P
then_skip_some None go b h k = absurd (none-some b h)
then_skip_some (Some us) go b h k = k us refl h

-- an answer that came in one of two ways
pub if_there_some : {B P : Type 0} (x : Option (List Numbered)) (otherwise : Option B) (go : List Numbered → Option B) (b : B) → if_there x otherwise go ≡ Some b → (otherwise ≡ Some b → P) → ((us : List Numbered) → x ≡ Some us → go us ≡ Some b → P) → P
if_there_some None otherwise go b h j k = j h
if_there_some (Some us) otherwise go b h j k = k us refl h

-- one answer, under a function of what was read and of what is after it
pub answered : {A : Type 0} (f : A → List Numbered → List Numbered) (a x : A) (us vs : List Numbered) → ◌≡◌ {A = Answer A} (Some (a, us)) (Some (x, vs)) → f x vs ≡ f a us
answered f a x us vs e = let p = some_pair_parts a x us vs e in cc (p.0, p.1)

-- what a sign in front is, with what is after it
pub comma_is : (ts us : List Numbered) → behind_comma ts ≡ Some us → sign_token Comma ∷ us ≡ ts
comma_is (sign_token Comma ∷ ts) us h = cc
comma_is _ us h = absurd (none-some us h)

pub close_is : (ts us : List Numbered) → behind_close ts ≡ Some us → sign_token Close ∷ us ≡ ts
close_is (sign_token Close ∷ ts) us h = cc
close_is _ us h = absurd (none-some us h)

pub open_is : (ts us : List Numbered) → behind_open ts ≡ Some us → sign_token Open ∷ us ≡ ts
open_is (sign_token Open ∷ ts) us h = cc
open_is _ us h = absurd (none-some us h)

pub close_list_is : (ts us : List Numbered) → behind_close_list ts ≡ Some us → sign_token CloseList ∷ us ≡ ts
close_list_is (sign_token CloseList ∷ ts) us h = cc
close_list_is _ us h = absurd (none-some us h)

pub bar_is : (ts us : List Numbered) → behind_bar ts ≡ Some us → sign_token Bar ∷ us ≡ ts
bar_is (sign_token Bar ∷ ts) us h = cc
bar_is _ us h = absurd (none-some us h)

pub colon_is : (ts us : List Numbered) → behind_colon ts ≡ Some us → sign_token Colon ∷ us ≡ ts
colon_is (sign_token Colon ∷ ts) us h = cc
colon_is _ us h = absurd (none-some us h)

pub neck_is : (ts us : List Numbered) → behind_neck ts ≡ Some us → sign_token Neck ∷ us ≡ ts
neck_is (sign_token Neck ∷ ts) us h = cc
neck_is _ us h = absurd (none-some us h)

pub at_is : (ts us : List Numbered) → behind_at ts ≡ Some us → sign_token At ∷ us ≡ ts
at_is (sign_token At ∷ ts) us h = cc
at_is _ us h = absurd (none-some us h)

pub digits_is : (ts us : List Numbered) (n : ℕ) → digits_in_front ts ≡ Some (n, us) → digits_token n ∷ us ≡ ts
digits_is (digits_token k ∷ ts) us n h = answered (λ n us. digits_token n ∷ us) k n ts us h
digits_is _ us n h = absurd (none-some (n, us) h)

priority_by : (word : List ℕ) (q : Bool) (ts : List Numbered) (b : Bool) → bytes_eq word (codes "priority") ≡ b → (us : List Numbered) (quotes : Bool) → if◌then◌else◌ {A = Answer Bool} b (Some (q, ts)) None ≡ Some (quotes, us) → name_token (codes "priority") quotes true ∷ us ≡ name_token word q true ∷ ts
priority_by word q ts true e us quotes h =
    answered (λ q us. name_token (codes "priority") q true ∷ us) q quotes ts us h ∙ ap (λ w. name_token w q true ∷ ts) (sym ((bytes_eq-Decides word (codes "priority")).0 e))
priority_by word q ts false e us quotes h = absurd (none-some (quotes, us) h)

pub priority_is : (ts us : List Numbered) (quotes : Bool) → priority_in_front ts ≡ Some (quotes, us) → name_token (codes "priority") quotes true ∷ us ≡ ts
priority_is (name_token word q true ∷ ts) us quotes h = priority_by word q ts (bytes_eq word (codes "priority")) refl us quotes h
priority_is _ us quotes h = absurd (none-some (quotes, us) h)

pub relation_is : (ts us : List Numbered) (r : Relation) → relation_in_front ts ≡ Some (r, us) → sign_token (relation_sign r) ∷ us ≡ ts
relation_is (sign_token Equals ∷ ts) us r h = answered (λ r us. sign_token (relation_sign r) ∷ us) Equal r ts us h
relation_is (sign_token Differs ∷ ts) us r h = answered (λ r us. sign_token (relation_sign r) ∷ us) NotEqual r ts us h
relation_is (sign_token Becomes ∷ ts) us r h = answered (λ r us. sign_token (relation_sign r) ∷ us) Assign r ts us h
relation_is (sign_token Under ∷ ts) us r h = answered (λ r us. sign_token (relation_sign r) ∷ us) Less r ts us h
relation_is (sign_token Over ∷ ts) us r h = answered (λ r us. sign_token (relation_sign r) ∷ us) Greater r ts us h
relation_is (sign_token NotOver ∷ ts) us r h = answered (λ r us. sign_token (relation_sign r) ∷ us) AtMost r ts us h
relation_is (sign_token NotUnder ∷ ts) us r h = answered (λ r us. sign_token (relation_sign r) ∷ us) AtLeast r ts us h
relation_is (sign_token SameValue ∷ ts) us r h = answered (λ r us. sign_token (relation_sign r) ∷ us) SameNumber r ts us h
relation_is (sign_token OtherValue ∷ ts) us r h = answered (λ r us. sign_token (relation_sign r) ∷ us) OtherNumber r ts us h
relation_is _ us r h = absurd (none-some (r, us) h)

pub adding_is : (ts us : List Numbered) (o : Adding) → adding_in_front ts ≡ Some (o, us) → adding_token o ∷ us ≡ ts
adding_is (sign_token Plus ∷ ts) us o h = answered (λ o us. adding_token o ∷ us) by_plus o ts us h
adding_is (minus_token digit ∷ ts) us o h = answered (λ o us. adding_token o ∷ us) (by_minus digit) o ts us h
adding_is _ us o h = absurd (none-some (o, us) h)

modulo_is : (f : List ℕ) (quotes applied : Bool) (ts : List Numbered) (b : Bool) → not quotes && bytes_eq f (codes "mod") ≡ b → (us : List Numbered) (o : Multiplying) → if◌then◌else◌ {A = Answer Multiplying} b (Some (by_mod applied, ts)) None ≡ Some (o, us) → multiplying_token o ∷ us ≡ name_token f quotes applied ∷ ts
modulo_is f quotes applied ts true e us o h =
    let both = and_parts (not quotes) (bytes_eq f (codes "mod")) e in
    answered (λ o us. multiplying_token o ∷ us) (by_mod applied) o ts us h
    ∙ ap₂ (λ g q. name_token g q applied ∷ ts) (sym ((bytes_eq-Decides f (codes "mod")).0 both.1)) (sym (not-true quotes both.0))
modulo_is f quotes applied ts false e us o h = absurd (none-some (o, us) h)

pub multiplying_is : (ts us : List Numbered) (o : Multiplying) → multiplying_in_front ts ≡ Some (o, us) → multiplying_token o ∷ us ≡ ts
multiplying_is (sign_token Star ∷ ts) us o h = answered (λ o us. multiplying_token o ∷ us) by_star o ts us h
multiplying_is (sign_token Slash ∷ ts) us o h = answered (λ o us. multiplying_token o ∷ us) by_slash o ts us h
multiplying_is (name_token f quotes applied ∷ ts) us o h = modulo_is f quotes applied ts (not quotes && bytes_eq f (codes "mod")) refl us o h
multiplying_is _ us o h = absurd (none-some (o, us) h)

-- what was read with the operands after it has the tokens of what was read, and then these
module _ {S O A : Type 0} (operator : List Numbered → Answer O) (operand : List Numbered → Answer A) (join : S → O → A → S) (rows : S → List Numbered → List Numbered) (mark : O → Numbered) (row : A → List Numbered → List Numbered)
    (joins : (s : S) (o : O) (a : A) (ts : List Numbered) → rows (join s o a) ts ≡ rows s (mark o ∷ row a ts))
    (operator_sound : (ts us : List Numbered) (o : O) → operator ts ≡ Some (o, us) → mark o ∷ us ≡ ts)
    (operand_sound : (ts : List Numbered) (a : A) (us : List Numbered) → operand ts ≡ Some (a, us) → row a us ≡ ts) where
  grouped_on_sound : (next : S → List Numbered → Answer S) → ((s : S) (ts : List Numbered) (r : S) (us : List Numbered) → next s ts ≡ Some (r, us) → rows r us ≡ rows s ts) → (s : S) (ts : List Numbered) (x : Answer O) → operator ts ≡ x → (r : S) (us : List Numbered) → grouped_on operand join next s ts x ≡ Some (r, us) → rows r us ≡ rows s ts
  grouped_on_sound next sound s ts None found r us h = answered rows s r ts us h
  grouped_on_sound next sound s ts (Some o) found r us h =
      then_read_some (operand o.1) _ (r, us) h (λ a vs read after.
      sound (join s o.0 a) vs r us after
      ∙ joins s o.0 a vs
      ∙ ap (λ w. rows s (mark o.0 ∷ w)) (operand_sound o.1 a vs read)
      ∙ ap (rows s) (operator_sound ts o.1 o.0 found))

  pub grouped_sound : (m : ℕ) (s : S) (ts : List Numbered) (r : S) (us : List Numbered) → grouped_by operator operand join m s ts ≡ Some (r, us) → rows r us ≡ rows s ts
  unfolding grouped_by
  grouped_sound zero s ts r us h = absurd (none-some (r, us) h)
  grouped_sound (suc m) s ts r us h = grouped_on_sound (grouped_by operator operand join m) (grouped_sound m) s ts (operator ts) refl r us h

-- what inner expressions are read from are their tokens
abbrev pub IsSound : Inner → Type 0
IsSound inner = (ts : List Numbered) (e : Expression) (us : List Numbered) → inner ts ≡ Some (e, us) → expression_tokens e us ≡ ts

module _ (inner : Inner) (sound : IsSound inner) where
  -- a series that is read from tokens has them
  pub series_sound : (m : ℕ) (ts : List Numbered) (s : Series) (us : List Numbered) → parted_by inner last another m ts ≡ Some (s, us) → series_tokens s us ≡ ts
  unfolding parted_by
  series_sound zero ts s us h = absurd (none-some (s, us) h)
  series_sound (suc m) ts s us h =
      then_read_some (inner ts) _ (s, us) h (λ e vs read after.
      if_there_some (behind_comma vs) _ _ (s, us) after
      (λ alone_is. answered series_tokens (last e) s vs us alone_is ∙ sound ts e vs read)
      (λ ws comma rest.
      then_read_some (parted_by inner last another m ws) _ (s, us) rest (λ t xs more_read is.
      answered series_tokens (another e t) s xs us is
      ∙ ap (λ w. expression_tokens e (sign_token Comma ∷ w)) (series_sound m ws t xs more_read)
      ∙ ap (expression_tokens e) (comma_is vs ws comma)
      ∙ sound ts e vs read)))

  rest_sound : (ts : List Numbered) (r : Rest) (us : List Numbered) → rest_at inner ts ≡ Some (r, us) → rest_tokens r (sign_token CloseList ∷ us) ≡ ts
  rest_sound ts r us h =
      if_there_some (behind_bar ts) _ _ (r, us) h
      (λ no_bar. then_skip_some (behind_close_list ts) _ (r, us) no_bar (λ vs end is.
      answered (λ r us. rest_tokens r (sign_token CloseList ∷ us)) closed r vs us is ∙ close_list_is ts vs end))
      (λ vs bar after. then_read_some (inner vs) _ (r, us) after (λ e ws read behind.
      then_skip_some (behind_close_list ws) _ (r, us) behind (λ xs end is.
      answered (λ r us. rest_tokens r (sign_token CloseList ∷ us)) (tail e) r xs us is
      ∙ ap (λ w. sign_token Bar ∷ expression_tokens e w) (close_list_is ws xs end)
      ∙ ap (λ w. sign_token Bar ∷ w) (sound vs e ws read)
      ∙ bar_is ts vs bar)))

  list_sound : (ts : List Numbered) (p : Primary) (us : List Numbered) → list_at inner ts ≡ Some (p, us) → primary_tokens p us ≡ sign_token OpenList ∷ ts
  list_sound ts p us h =
      if_there_some (behind_close_list ts) _ _ (p, us) h
      (λ not_empty. then_read_some (series_at inner ts) _ (p, us) not_empty (λ s vs read after.
      then_read_some (rest_at inner vs) _ (p, us) after (λ r ws rest is.
      answered primary_tokens (list s r) p ws us is
      ∙ list_row s r ws
      ∙ ap (λ w. sign_token OpenList ∷ series_tokens s w) (rest_sound vs r ws rest)
      ∙ ap (λ w. sign_token OpenList ∷ w) (series_sound _ ts s vs read))))
      (λ vs end is. answered primary_tokens empty_list p vs us is ∙ ap (λ w. sign_token OpenList ∷ w) (close_list_is ts vs end))

  arguments_sound : (ts : List Numbered) (s : Series) (us : List Numbered) → arguments_at inner ts ≡ Some (s, us) → sign_token Open ∷ series_tokens s (sign_token Close ∷ us) ≡ ts
  arguments_sound ts s us h =
      then_skip_some (behind_open ts) _ (s, us) h (λ vs open_there inside.
      then_read_some (series_at inner vs) _ (s, us) inside (λ t ws read after.
      then_skip_some (behind_close ws) _ (s, us) after (λ xs end is.
      answered (λ t us. sign_token Open ∷ series_tokens t (sign_token Close ∷ us)) t s xs us is
      ∙ ap (λ w. sign_token Open ∷ series_tokens t w) (close_is ws xs end)
      ∙ ap (λ w. sign_token Open ∷ w) (series_sound _ vs t ws read)
      ∙ open_is ts vs open_there)))

  positive_sound : (n : ℕ) (ts : List Numbered) (b : Bool) (p : Primary) (us : List Numbered) → if◌then◌else◌ {A = Answer Primary} b (Some (positive n, ts)) None ≡ Some (p, us) → primary_tokens p us ≡ digits_token n ∷ ts
  positive_sound n ts true p us h = answered primary_tokens (positive n) p ts us h
  positive_sound n ts false p us h = absurd (none-some (p, us) h)

  call_sound : (f : List ℕ) (quotes : Bool) (ts : List Numbered) (p : Primary) (us : List Numbered) → primary_at inner (name_token f quotes true ∷ ts) ≡ Some (p, us) → primary_tokens p us ≡ name_token f quotes true ∷ ts
  call_sound f quotes ts p us h =
      then_read_some (arguments_at inner ts) _ (p, us) h (λ s vs read is.
      answered primary_tokens (call f quotes s) p vs us is ∙ ap (λ w. name_token f quotes true ∷ w) (arguments_sound ts s vs read))

  group_sound : (ts : List Numbered) (p : Primary) (us : List Numbered) → primary_at inner (sign_token Open ∷ ts) ≡ Some (p, us) → primary_tokens p us ≡ sign_token Open ∷ ts
  group_sound ts p us h =
      then_read_some (inner ts) _ (p, us) h (λ e vs read after.
      then_skip_some (behind_close vs) _ (p, us) after (λ ws end is.
      answered primary_tokens (group e) p ws us is
      ∙ ap (λ w. sign_token Open ∷ expression_tokens e w) (close_is vs ws end)
      ∙ ap (λ w. sign_token Open ∷ w) (sound ts e vs read)))

  pub primary_sound : (ts : List Numbered) (p : Primary) (us : List Numbered) → primary_at inner ts ≡ Some (p, us) → primary_tokens p us ≡ ts
  primary_sound (variable_token v ∷ ts) p us h = answered primary_tokens (numbered v) p ts us h
  primary_sound (digits_token n ∷ ts) p us h = positive_sound n ts (nat_lt n NUMBER_LIMIT) p us h
  primary_sound (minus_token true ∷ digits_token n ∷ ts) p us h = answered primary_tokens (negative n) p ts us h
  primary_sound (name_token a quotes false ∷ ts) p us h = answered primary_tokens (constant a quotes) p ts us h
  primary_sound (name_token f quotes true ∷ ts) p us h = call_sound f quotes ts p us h
  primary_sound (sign_token OpenList ∷ ts) p us h = list_sound ts p us h
  primary_sound (sign_token Open ∷ ts) p us h = group_sound ts p us h
  primary_sound _ p us h = absurd (none-some (p, us) h)

  pub part_sound : (ts : List Numbered) (p : Part) (us : List Numbered) → part_at inner ts ≡ Some (p, us) → part_tokens p us ≡ ts
  part_sound ts p us h =
      then_read_some (primary_at inner ts) _ (p, us) h (λ a vs read after.
      if_there_some (behind_colon vs) _ _ (p, us) after
      (λ is. answered part_tokens (single a) p vs us is ∙ primary_sound ts a vs read)
      (λ ws colon rest. then_read_some (primary_at inner ws) _ (p, us) rest (λ b xs more_read is.
      answered part_tokens (qualified a b) p xs us is
      ∙ ap (λ w. primary_tokens a (sign_token Colon ∷ w)) (primary_sound ws b xs more_read)
      ∙ ap (primary_tokens a) (colon_is vs ws colon)
      ∙ primary_sound ts a vs read)))

  pub product_sound : (ts : List Numbered) (p : Product) (us : List Numbered) → product_at inner ts ≡ Some (p, us) → product_tokens p us ≡ ts
  product_sound ts p us h =
      then_read_some (part_at inner ts) _ (p, us) h (λ a vs read after.
      grouped_sound multiplying_in_front (part_at inner) multiplied product_tokens multiplying_token part_tokens multiplied_row multiplying_is part_sound (suc (length vs)) (factor a) vs p us after
      ∙ part_sound ts a vs read)

  pub sum_sound : (ts : List Numbered) (s : Sum) (us : List Numbered) → sum_at inner ts ≡ Some (s, us) → sum_tokens s us ≡ ts
  sum_sound ts s us h =
      then_read_some (product_at inner ts) _ (s, us) h (λ p vs read after.
      grouped_sound adding_in_front (product_at inner) added sum_tokens adding_token product_tokens added_row adding_is product_sound (suc (length vs)) (summand p) vs s us after
      ∙ product_sound ts p vs read)

  related_sound : (s : Sum) (ts : List Numbered) (x : Answer Relation) → x ≡ relation_in_front ts → (e : Expression) (us : List Numbered) → related_at inner s ts x ≡ Some (e, us) → expression_tokens e us ≡ sum_tokens s ts
  related_sound s ts None found e us h = answered expression_tokens (alone s) e ts us h
  related_sound s ts (Some r) found e us h =
      then_read_some (sum_at inner r.1) _ (e, us) h (λ q vs read is.
      answered expression_tokens (related s r.0 q) e vs us is
      ∙ ap (λ w. sum_tokens s (sign_token (relation_sign r.0) ∷ w)) (sum_sound r.1 q vs read)
      ∙ ap (sum_tokens s) (relation_is ts r.1 r.0 (sym found)))

  priority_sound : (e : Expression) (ts : List Numbered) (g : GoalTree) (us : List Numbered) → priority_at e ts ≡ Some (g, us) → goal_tokens g us ≡ expression_tokens e (sign_token At ∷ ts)
  priority_sound e ts g us h =
      then_read_some (priority_in_front ts) _ (g, us) h (λ quotes vs word after.
      then_skip_some (behind_open vs) _ (g, us) after (λ ws open_there inside.
      then_read_some (digits_in_front ws) _ (g, us) inside (λ n xs digits behind.
      then_skip_some (behind_close xs) _ (g, us) behind (λ ys end is.
      answered goal_tokens (urgent_goal e quotes n) g ys us is
      ∙ ap (λ w. expression_tokens e (sign_token At ∷ name_token (codes "priority") quotes true ∷ sign_token Open ∷ digits_token n ∷ w)) (close_is xs ys end)
      ∙ ap (λ w. expression_tokens e (sign_token At ∷ name_token (codes "priority") quotes true ∷ sign_token Open ∷ w)) (digits_is ws xs n digits)
      ∙ ap (λ w. expression_tokens e (sign_token At ∷ name_token (codes "priority") quotes true ∷ w)) (open_is vs ws open_there)
      ∙ ap (λ w. expression_tokens e (sign_token At ∷ w)) (priority_is ts vs quotes word)))))

  pub goal_sound : (ts : List Numbered) (g : GoalTree) (us : List Numbered) → goal_at inner ts ≡ Some (g, us) → goal_tokens g us ≡ ts
  goal_sound ts g us h =
      then_read_some (inner ts) _ (g, us) h (λ e vs read after.
      if_there_some (behind_at vs) _ _ (g, us) after
      (λ is. answered goal_tokens (plain_goal e) g vs us is ∙ sound ts e vs read)
      (λ ws at rest. priority_sound e ws g us rest ∙ ap (expression_tokens e) (at_is vs ws at) ∙ sound ts e vs read))

  -- goals that are read from tokens have them
  pub body_sound : (m : ℕ) (ts : List Numbered) (b : Body) (us : List Numbered) → parted_by (goal_at inner) last_goal another_goal m ts ≡ Some (b, us) → body_tokens b us ≡ ts
  unfolding parted_by
  body_sound zero ts b us h = absurd (none-some (b, us) h)
  body_sound (suc m) ts b us h =
      then_read_some (goal_at inner ts) _ (b, us) h (λ g vs read after.
      if_there_some (behind_comma vs) _ _ (b, us) after
      (λ alone_is. answered body_tokens (last_goal g) b vs us alone_is ∙ goal_sound ts g vs read)
      (λ ws comma rest.
      then_read_some (parted_by (goal_at inner) last_goal another_goal m ws) _ (b, us) rest (λ c xs more_read is.
      answered body_tokens (another_goal g c) b xs us is
      ∙ ap (λ w. goal_tokens g (sign_token Comma ∷ w)) (body_sound m ws c xs more_read)
      ∙ ap (goal_tokens g) (comma_is vs ws comma)
      ∙ goal_sound ts g vs read)))

  pub head_sound : (ts : List Numbered) (h : Head) (us : List Numbered) → head_at inner ts ≡ Some (h, us) → head_tokens h us ≡ ts
  head_sound (name_token p quotes false ∷ ts) h us is = answered head_tokens (bare_head p quotes) h ts us is
  head_sound (name_token p quotes true ∷ ts) h us is =
      then_read_some (arguments_at inner ts) _ (h, us) is (λ s vs read here.
      answered head_tokens (head_with p quotes s) h vs us here ∙ ap (λ w. name_token p quotes true ∷ w) (arguments_sound ts s vs read))
  head_sound _ h us is = absurd (none-some (h, us) is)

-- expressions nested to any depth are read from their tokens
pub expressions_sound : (n : ℕ) → IsSound (expression_at n)
unfolding expression_at
expressions_sound zero ts e us h = absurd (none-some (e, us) h)
expressions_sound (suc n) ts e us h =
    then_read_some (sum_at (expression_at n) ts) _ (e, us) h (λ s vs read after.
    related_sound (expression_at n) (expressions_sound n) s vs (relation_in_front vs) refl e us after ∙ sum_sound (expression_at n) (expressions_sound n) ts s vs read)

-- what was read with nothing after it
pub all_read_some : {A : Type 0} (x : Answer A) (a : A) → all_read x ≡ Some a → x ≡ Some (a, [])
all_read_some None a h = absurd (none-some a h)
all_read_some (Some (b, [])) a h = cc
all_read_some (Some (b, t ∷ ts)) a h = absurd (none-some a h)

-- tokens that are read as an expression are those of its tree
pub expression_trees_sound : (ts : List Numbered) (e : Expression) → expression_tree ts ≡ Some e → expression_tokens e [] ≡ ts
expression_trees_sound ts e h = expressions_sound (suc (length ts)) ts e [] (all_read_some (inner_of ts ts) e h)

-- the tokens of a clause, and then these
abbrev pub clause_row : ClauseTree → List Numbered → List Numbered
clause_row (fact h) ts = head_tokens h ts
clause_row (rule h body) ts = head_tokens h (sign_token Neck ∷ body_tokens body ts)
clause_row (guarded h tests body) ts = head_tokens h (sign_token Neck ∷ series_tokens tests (sign_token Bar ∷ body_tokens body ts))

-- the tokens of a clause with none after them
pub clause_row_alone : (c : ClauseTree) → clause_row c [] ≡ clause_tokens c
clause_row_alone (fact h) = refl
clause_row_alone (rule h body) = refl
clause_row_alone (guarded h tests body) = refl

another_test : (e : Expression) (x : Option Series) (s : Series) (ts us : List Numbered) → option_map (λ t. another e t) x ≡ Some s → ((t : Series) → x ≡ Some t → series_tokens t ts ≡ us) → series_tokens s ts ≡ expression_tokens e (sign_token Comma ∷ us)
another_test e None s ts us h k = absurd (none-some s h)
another_test e (Some t) s ts us h k = ap (λ x. series_tokens x ts) (sym (same_Some (another e t) s h)) ∙ ap (λ w. expression_tokens e (sign_token Comma ∷ w)) (k t refl)

-- goals that are tests have the tokens of these
tests_row : (b : Body) (s : Series) (ts : List Numbered) → tests_of b ≡ Some s → series_tokens s ts ≡ body_tokens b ts
tests_row (last_goal (plain_goal e)) s ts h = ap (λ x. series_tokens x ts) (sym (same_Some (last e) s h))
tests_row (last_goal (urgent_goal e quotes n)) s ts h = absurd (none-some s h)
tests_row (another_goal (plain_goal e) b) s ts h = another_test e (tests_of b) s ts (body_tokens b ts) h (λ t is. tests_row b t ts is)
tests_row (another_goal (urgent_goal e quotes n) b) s ts h = absurd (none-some s h)

module _ (inner : Inner) (sound : IsSound inner) where
  behind_neck_sound : (h : Head) (ts : List Numbered) (c : ClauseTree) (us : List Numbered) → behind_neck_at inner h ts ≡ Some (c, us) → clause_row c us ≡ head_tokens h (sign_token Neck ∷ ts)
  behind_neck_sound h ts c us is =
      then_read_some (body_at inner ts) _ (c, us) is (λ b vs read after.
      if_there_some (behind_bar vs) _ _ (c, us) after
      (λ here.
      answered clause_row (rule h b) c vs us here
      ∙ ap (λ w. head_tokens h (sign_token Neck ∷ w)) (body_sound inner sound _ ts b vs read))
      (λ ws bar rest. option_and_then_some _ (tests_of b) (c, us) rest (λ s tests behind.
      then_read_some (body_at inner ws) _ (c, us) behind (λ body xs more_read here.
      answered clause_row (guarded h s body) c xs us here
      ∙ ap (λ w. head_tokens h (sign_token Neck ∷ series_tokens s (sign_token Bar ∷ w))) (body_sound inner sound _ ws body xs more_read)
      ∙ ap (λ w. head_tokens h (sign_token Neck ∷ series_tokens s w)) (bar_is vs ws bar)
      ∙ ap (λ w. head_tokens h (sign_token Neck ∷ w)) (tests_row b s vs tests ∙ body_sound inner sound _ ts b vs read)))))

  clause_sound : (ts : List Numbered) (c : ClauseTree) (us : List Numbered) → clause_at inner ts ≡ Some (c, us) → clause_row c us ≡ ts
  clause_sound ts c us is =
      then_read_some (head_at inner ts) _ (c, us) is (λ h vs read after.
      if_there_some (behind_neck vs) _ _ (c, us) after
      (λ here. answered clause_row (fact h) c vs us here ∙ head_sound inner sound ts h vs read)
      (λ ws neck rest.
      behind_neck_sound h ws c us rest ∙ ap (head_tokens h) (neck_is vs ws neck) ∙ head_sound inner sound ts h vs read))

-- tokens that are read as a clause are those of its tree
pub clause_trees_sound : (ts : List Numbered) (c : ClauseTree) → clause_tree ts ≡ Some c → clause_tokens c ≡ ts
clause_trees_sound ts c h = sym (clause_row_alone c) ∙ clause_sound (inner_of ts) (expressions_sound (suc (length ts))) ts c [] (all_read_some (clause_at (inner_of ts) ts) c h)
