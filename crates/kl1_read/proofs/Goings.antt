-- What goes on after a term: by what stands in front, and that nothing comes of a term that no text can write.
use Rattle.std.proofs.Common.{◌≡◌, ℕ, zero, suc, List, [], ◌∷◌, ◌++◌, length, codes, Option, Some, None, refl, ap, sym, ◌∙◌, append_assoc}
use Rattle.kl1_model.specs.declared.built_in.BuiltIn.{BuiltIn}
use Rattle.kl1_model.specs.declared.relation.Relation.{Relation}
use Rattle.kl1_model.specs.declared.relation.Relation.TheVariants.{Equal, NotEqual, Assign, Less, Greater, AtMost, AtLeast, SameNumber, OtherNumber}
use Rattle.kl1_model.specs.Text.{text_of}
use Rattle.kl1_model.specs.Term.{Term, Terms, none, more, terms_of, list_of}
use Rattle.kl1_model.specs.Token.{spelling_of}
use Rattle.kl1_model.specs.Grammar.{Numbered, relation_sign, Adding, by_plus, by_minus, Multiplying, by_star, by_slash, by_mod, Expression, related, Sum, summand, added, Product, factor, multiplied, Part, single, qualified, Primary, last, another}
use Rattle.kl1_model.specs.Meaning.{pair, expression_term, sum_term, product_term, part_term, primary_term, series_terms}
use Rattle.kl1_model.specs.reader.Reader.{Answer, then_read, if_there, behind_comma, behind_colon, relation_in_front, adding_in_front, multiplying_in_front, series_at, primary_at, part_at, grouped_by, product_at, sum_at}
use Rattle.kl1_model.specs.laws.ReadLaws.{grouped_on, related_at}
use Rattle.kl1_model.proofs.ReadSteps.{expressions_go_on, series_go_on}
use Rattle.kl1_read.specs.declared.infix.Level.TheVariants.{Sums, Products}
use Rattle.kl1_read.specs.Infixes.{answer_map, relation_named, adding_named, multiplying_named}
use Rattle.kl1_read.specs.Waits.{no_left}
use Rattle.kl1_read.specs.Meanings.{reading, expression_read, sum_read, product_read, part_read, primary_read, series_read, operation, Going, after_relation, after_sum, after_operand, after_product, after_part, after_colon, primary_then}

-- the arguments as a list are the arguments
pub list_back : (ts : Terms) → terms_of (list_of ts) ≡ ts
list_back none = refl
list_back (more t ts) = ap (more t) (list_back ts)

-- goes on after an answer that is made of another
mapped_then : {A B C M R : Type 0} (m : A → M) (n : B → C) (x : Answer A) (go : A → List Numbered → Answer B) (k : C → List Numbered → Option R) (h : M → List Numbered → Option R) → ((a : A) (us : List Numbered) → then_read (answer_map n (go a us)) k ≡ h (m a) us) → then_read (answer_map n (then_read x go)) k ≡ then_read (answer_map m x) h
mapped_then m n None go k h same = refl
mapped_then m n (Some r) go k h same = same r.0 r.1

-- goes on in the same way
pub then_along : {A R : Type 0} (x : Answer A) (f g : A → List Numbered → Option R) → ((a : A) (us : List Numbered) → f a us ≡ g a us) → then_read x f ≡ then_read x g
then_along None f g same = refl
then_along (Some r) f g same = same r.0 r.1

-- a part is a primary, and then perhaps a colon and another primary
module _ (k : Going) where
  colon_goes : (p : Primary) (us : List Numbered) (x : Option (List Numbered)) → then_read (answer_map part_term (if_there x (Some (single p, us)) (λ vs. then_read (primary_at reading vs) (λ q ws. Some (qualified p q, ws))))) k ≡ if_there x (k (primary_term p) us) (λ vs. then_read (primary_read vs) (λ q ws. k (pair (codes ":") (primary_term p) q) ws))
  unfolding primary_read
  colon_goes p us None = refl
  colon_goes p us (Some vs) = mapped_then primary_term part_term (primary_at reading vs) _ k _ (λ q ws. refl)

  pub part_goes : (ts : List Numbered) → then_read (part_read ts) k ≡ then_read (primary_read ts) (after_colon None k)
  unfolding part_read primary_read
  part_goes ts = mapped_then primary_term part_term (primary_at reading ts) _ k _ (λ p us. colon_goes p us (behind_colon us))

-- operators and operands as the names and terms that they mean, grouped to the left
module _ {S O A : Type 0} (operator : List Numbered → Answer O) (operand : List Numbered → Answer A) (join : S → O → A → S) (named : O → BuiltIn) (whole : S → Term) (term : A → Term) (means : (s : S) (o : O) (a : A) → whole (join s o a) ≡ operation (whole s) (named o) (term a)) where
  behind_operator : (next : S → List Numbered → Answer S) (other : Term → List Numbered → Answer Term) → ((s : S) (ts : List Numbered) → answer_map whole (next s ts) ≡ other (whole s) ts) → (s : S) (o : O) (x : Answer A) → answer_map whole (then_read x (λ a us. next (join s o a) us)) ≡ then_read (answer_map term x) (λ b us. other (operation (whole s) (named o) b) us)
  behind_operator next other same s o None = refl
  behind_operator next other same s o (Some r) = same (join s o r.0) r.1 ∙ ap (λ t. other t r.1) (means s o r.0)

  grouped_once : (next : S → List Numbered → Answer S) (other : Term → List Numbered → Answer Term) → ((s : S) (ts : List Numbered) → answer_map whole (next s ts) ≡ other (whole s) ts) → (s : S) (ts : List Numbered) (x : Answer O) → answer_map whole (grouped_on operand join next s ts x) ≡ grouped_on (λ us. answer_map term (operand us)) operation other (whole s) ts (answer_map named x)
  grouped_once next other same s ts None = refl
  grouped_once next other same s ts (Some o) = behind_operator next other same s o.0 (operand o.1)

  grouped_terms : (m : ℕ) (s : S) (ts : List Numbered) → answer_map whole (grouped_by operator operand join m s ts) ≡ grouped_by (λ us. answer_map named (operator us)) (λ us. answer_map term (operand us)) operation m (whole s) ts
  unfolding grouped_by
  grouped_terms zero s ts = refl
  grouped_terms (suc m) s ts =
      grouped_once (grouped_by operator operand join m) (grouped_by (λ us. answer_map named (operator us)) (λ us. answer_map term (operand us)) operation m) (grouped_terms m) s ts (operator ts)

multiplying_means : (p : Product) (o : Multiplying) (q : Part) → product_term (multiplied p o q) ≡ operation (product_term p) (multiplying_named o) (part_term q)
multiplying_means p by_star q = refl
multiplying_means p by_slash q = refl
multiplying_means p (by_mod applied) q = refl

adding_means : (s : Sum) (o : Adding) (p : Product) → sum_term (added s o p) ≡ operation (sum_term s) (adding_named o) (product_term p)
adding_means s by_plus p = refl
adding_means s (by_minus digit) p = refl

relation_means : (r : Relation) → spelling_of (relation_sign r) ≡ text_of (relation_named r)
relation_means Equal = refl
relation_means NotEqual = refl
relation_means Assign = refl
relation_means Less = refl
relation_means Greater = refl
relation_means AtMost = refl
relation_means AtLeast = refl
relation_means SameNumber = refl
relation_means OtherNumber = refl

-- an expression is a sum and perhaps a relation and another sum; a sum is products, and a product is parts, each after an
-- operator
module _ (k : Going) where
  pub product_goes : (ts : List Numbered) → then_read (product_read ts) k ≡ then_read (part_read ts) (after_operand Products None k)
  unfolding product_read part_read
  product_goes ts =
      mapped_then part_term product_term (part_at reading ts) _ k _ (λ p us.
      ap (λ x. then_read x k) (grouped_terms multiplying_in_front (part_at reading) multiplied multiplying_named product_term part_term multiplying_means (suc (length us)) (factor p) us))

  pub sum_goes : (ts : List Numbered) → then_read (sum_read ts) k ≡ then_read (product_read ts) (after_operand Sums None k)
  unfolding sum_read product_read
  sum_goes ts =
      mapped_then product_term sum_term (product_at reading ts) _ k _ (λ p us.
      ap (λ x. then_read x k) (grouped_terms adding_in_front (product_at reading) added adding_named sum_term product_term adding_means (suc (length us)) (summand p) us))

  related_goes : (s : Sum) (r : Relation) (x : Answer Sum) → then_read (answer_map expression_term (then_read x (λ q us. Some (related s r q, us)))) k ≡ then_read (answer_map sum_term x) (λ q us. k (operation (sum_term s) (relation_named r) q) us)
  related_goes s r None = refl
  related_goes s r (Some q) = ap (λ f. k (pair f (sum_term s) (sum_term q.0)) q.1) (relation_means r)

  relation_goes : (s : Sum) (us : List Numbered) (x : Answer Relation) → then_read (answer_map expression_term (related_at reading s us x)) k ≡ after_relation k (sum_term s) us (answer_map relation_named x)
  unfolding sum_read
  relation_goes s us None = refl
  relation_goes s us (Some r) = related_goes s r.0 (sum_at reading r.1)

  expression_sums : (ts : List Numbered) → then_read (expression_read ts) k ≡ then_read (sum_read ts) (after_sum None k)
  unfolding expression_read sum_read
  expression_sums ts =
      ap (λ x. then_read (answer_map expression_term x) k) (expressions_go_on ts)
      ∙ mapped_then sum_term expression_term (sum_at reading ts) _ k _ (λ s us. relation_goes s us (relation_in_front us))

-- an expression is a primary, and what may follow it
pub expression_goes : (k : Going) (ts : List Numbered) → then_read (expression_read ts) k ≡ primary_then no_left k ts
expression_goes k ts =
    expression_sums k ts
    ∙ sum_goes (after_sum None k) ts
    ∙ product_goes (after_product None None k) ts
    ∙ part_goes (after_part None None None k) ts

-- expressions parted by commas are one, and then perhaps a comma and the others
module _ {R : Type 0} (k : List Term → List Numbered → Option R) where
  comma_goes : (e : Expression) (us : List Numbered) (x : Option (List Numbered)) → then_read (answer_map (λ s. list_of (series_terms s)) (if_there x (Some (last e, us)) (λ vs. then_read (series_at reading vs) (λ s ws. Some (another e s, ws))))) k ≡ if_there x (k (expression_term e ∷ []) us) (λ vs. then_read (series_read vs) (λ s ws. k (expression_term e ∷ s) ws))
  unfolding series_read
  comma_goes e us None = refl
  comma_goes e us (Some vs) = mapped_then (λ s. list_of (series_terms s)) (λ s. list_of (series_terms s)) (series_at reading vs) _ k _ (λ s ws. refl)

  pub series_goes : (ts : List Numbered) → then_read (series_read ts) k ≡ then_read (expression_read ts) (λ e us. if_there (behind_comma us) (k (e ∷ []) us) (λ vs. then_read (series_read vs) (λ s ws. k (e ∷ s) ws)))
  unfolding series_read expression_read
  series_goes ts =
      ap (λ x. then_read (answer_map (λ s. list_of (series_terms s)) x) k) (series_go_on ts)
      ∙ mapped_then expression_term (λ s. list_of (series_terms s)) (reading ts) _ k _ (λ e us. comma_goes e us (behind_comma us))

-- goes on after a series, with terms that were read before it
pub series_behind : {R : Type 0} (k : List Term → List Numbered → Option R) (before : List Term) (ts : List Numbered) → then_read (series_read ts) (λ s us. k (before ++ s) us) ≡ then_read (expression_read ts) (λ e us. if_there (behind_comma us) (k (before ++ e ∷ []) us) (λ vs. then_read (series_read vs) (λ s ws. k (before ++ e ∷ s) ws)))
series_behind k before ts = series_goes (λ s. k (before ++ s)) ts

-- one term more was read before
pub one_more : {R : Type 0} (k : List Term → List Numbered → Option R) (before : List Term) (e : Term) (ts : List Numbered) → then_read (series_read ts) (λ s us. k (before ++ e ∷ s) us) ≡ then_read (series_read ts) (λ s us. k ((before ++ e ∷ []) ++ s) us)
one_more k before e ts = then_along (series_read ts) _ _ (λ s us. ap (λ es. k es us) (sym (append_assoc before (e ∷ []) s)))
