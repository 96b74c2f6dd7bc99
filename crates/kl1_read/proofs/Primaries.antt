-- The primary in front of tokens, by its first token.
use Rattle.std.proofs.Common.{◌≡◌, ℕ, nat_lt, Bool, true, false, if◌then◌else◌, List, [], ◌∷◌, ◌++◌, Option, Some, None, Vec, pos, neg_ℤ, refl, ap, sym, ◌∙◌}
use Rattle.std.specs.Borrow.{Bor}
use Rattle.std.specs.declared.alloc.Global.{Global}
use Rattle.kl1_model.specs.declared.limits.TheConstants.{NUMBER_LIMIT}
use Rattle.kl1_model.specs.declared.sign.Sign.TheVariants.{Open, OpenList}
use Rattle.kl1_model.specs.Token.{name_token, variable_token, digits_token, minus_token, sign_token}
use Rattle.kl1_model.specs.Term.{Term, variable, integer, atom, structure, Terms, terms_of, list_of}
use Rattle.kl1_model.specs.Grammar.{Numbered, Expression, Primary, positive, call, list, group, empty_list, Series, closed, tail}
use Rattle.kl1_model.specs.Meaning.{nil, cells, expression_term, primary_term, series_terms}
use Rattle.kl1_model.specs.reader.Reader.{Answer, then_read, then_skip, if_there, behind_comma, behind_close, behind_open, behind_close_list, behind_bar, series_at, rest_at}
use Rattle.kl1_read.specs.declared.opened.Opened.TheVariants.{Group, Arguments, Elements, Tail}
use Rattle.kl1_read.specs.Meanings.{reading, answer_map, expression_read, primary_read, series_read, Going, after_elements, after_arguments, open_then}
use Rattle.kl1_read.proofs.Goings.{list_back, series_behind, one_more}

pub variable_reads : (v : ℕ) (ts : List Numbered) → primary_read (variable_token v ∷ ts) ≡ Some (variable v, ts)
unfolding primary_read
variable_reads v ts = refl

pub atom_reads : (a : List ℕ) (quotes : Bool) (ts : List Numbered) → primary_read (name_token a quotes false ∷ ts) ≡ Some (atom a, ts)
unfolding primary_read
atom_reads a quotes ts = refl

positive_by : (b : Bool) (n : ℕ) (ts : List Numbered) → answer_map primary_term (if◌then◌else◌ {A = Answer Primary} b (Some (positive n, ts)) None) ≡ if◌then◌else◌ {A = Answer Term} b (Some (integer (pos n), ts)) None
positive_by true n ts = refl
positive_by false n ts = refl

pub positive_reads : (n : ℕ) (ts : List Numbered) → primary_read (digits_token n ∷ ts) ≡ if◌then◌else◌ {A = Answer Term} (nat_lt n NUMBER_LIMIT) (Some (integer (pos n), ts)) None
unfolding primary_read
positive_reads n ts = positive_by (nat_lt n NUMBER_LIMIT) n ts

-- what is read after a `-` with a digit directly after it
abbrev pub negative_read : List Numbered → Answer Term
negative_read (digits_token n ∷ ts) = Some (integer (neg_ℤ (pos n)), ts)
negative_read _ = None

pub negative_reads : (ts : List Numbered) → primary_read (minus_token true ∷ ts) ≡ negative_read ts
unfolding primary_read
negative_reads (digits_token n ∷ ts) = refl
negative_reads _ = refl

-- an expression in parentheses
module _ (k : Going) where
  group_ends : (e : Expression) (us : List Numbered) (x : Option (List Numbered)) → then_read (answer_map primary_term (then_skip x (λ vs. Some (group e, vs)))) k ≡ then_skip x (λ vs. k (expression_term e) vs)
  group_ends e us None = refl
  group_ends e us (Some vs) = refl

  group_by : (x : Answer Expression) → then_read (answer_map primary_term (then_read x (λ e us. then_skip (behind_close us) (λ vs. Some (group e, vs))))) k ≡ then_read (answer_map expression_term x) (λ e us. then_skip (behind_close us) (λ vs. k e vs))
  group_by None = refl
  group_by (Some r) = group_ends r.0 r.1 (behind_close r.1)

  pub group_reads : (ts : List Numbered) → then_read (primary_read (sign_token Open ∷ ts)) k ≡ open_then Group k ts
  unfolding primary_read expression_read
  group_reads ts = group_by (reading ts)

  -- arguments
  call_ends : (f : List ℕ) (quotes : Bool) (s : Series) (x : Option (List Numbered)) → then_read (answer_map primary_term (then_read (then_skip x (λ ws. Some (s, ws))) (λ s us. Some (call f quotes s, us)))) k ≡ then_skip x (λ us. k (structure f (terms_of (list_of (series_terms s)))) us)
  call_ends f quotes s None = refl
  call_ends f quotes s (Some ws) = ap (λ (ts : Terms). k (structure f ts) ws) (sym (list_back (series_terms s)))

  call_by : (f : List ℕ) (quotes : Bool) (x : Answer Series) → then_read (answer_map primary_term (then_read (then_read x (λ s vs. then_skip (behind_close vs) (λ ws. Some (s, ws)))) (λ s us. Some (call f quotes s, us)))) k ≡ then_read (answer_map (λ s. list_of (series_terms s)) x) (after_arguments f k)
  call_by f quotes None = refl
  call_by f quotes (Some r) = call_ends f quotes r.0 (behind_close r.1)

  pub arguments_open : (f : Bor (List ℕ)) (v : Vec Term Global) (us : List Numbered) → v.items ≡ [] → then_read (series_read us) (after_arguments f.now k) ≡ open_then (Arguments f v) k us
  arguments_open f v us e =
      series_behind (after_arguments f.now k) [] us
      ∙ ap (λ (before : List Term). then_read (expression_read us) (λ e us. if_there (behind_comma us) (after_arguments f.now k (before ++ e ∷ []) us) (λ vs. then_read (series_read vs) (λ s ws. after_arguments f.now k (before ++ e ∷ s) ws)))) (sym e)

  call_here : (f : Bor (List ℕ)) (quotes : Bool) (v : Vec Term Global) (x : Option (List Numbered)) → v.items ≡ [] → then_read (answer_map primary_term (then_read (then_skip x (λ us. then_read (series_at reading us) (λ s vs. then_skip (behind_close vs) (λ ws. Some (s, ws))))) (λ s us. Some (call f.now quotes s, us)))) k ≡ then_skip x (λ us. open_then (Arguments f v) k us)
  unfolding series_read
  call_here f quotes v None e = refl
  call_here f quotes v (Some us) e = call_by f.now quotes (series_at reading us) ∙ arguments_open f v us e

  pub call_reads : (f : Bor (List ℕ)) (quotes : Bool) (v : Vec Term Global) (ts : List Numbered) → v.items ≡ [] → then_read (primary_read (name_token f.now quotes true ∷ ts)) k ≡ then_skip (behind_open ts) (λ us. open_then (Arguments f v) k us)
  unfolding primary_read
  call_reads f quotes v ts e = call_here f quotes v (behind_open ts) e

  -- lists
  tail_ends : (s : Series) (e : Expression) (x : Option (List Numbered)) → then_read (answer_map primary_term (then_read (then_skip x (λ ws. Some (tail e, ws))) (λ r vs. Some (list s r, vs)))) k ≡ then_skip x (λ ws. k (cells (terms_of (list_of (series_terms s))) (expression_term e)) ws)
  tail_ends s e None = refl
  tail_ends s e (Some ws) = ap (λ (ts : Terms). k (cells ts (expression_term e)) ws) (sym (list_back (series_terms s)))

  tail_by : (s : Series) (x : Answer Expression) → then_read (answer_map primary_term (then_read (then_read x (λ e vs. then_skip (behind_close_list vs) (λ ws. Some (tail e, ws)))) (λ r vs. Some (list s r, vs)))) k ≡ then_read (answer_map expression_term x) (λ t vs. then_skip (behind_close_list vs) (λ ws. k (cells (terms_of (list_of (series_terms s))) t) ws))
  tail_by s None = refl
  tail_by s (Some r) = tail_ends s r.0 (behind_close_list r.1)

  closed_by : (s : Series) (x : Option (List Numbered)) → then_read (answer_map primary_term (then_read (then_skip x (λ us. Some (closed, us))) (λ r vs. Some (list s r, vs)))) k ≡ then_skip x (λ us. k (cells (terms_of (list_of (series_terms s))) nil) us)
  closed_by s None = refl
  closed_by s (Some us) = ap (λ (ts : Terms). k (cells ts nil) us) (sym (list_back (series_terms s)))

  rest_by : (s : Series) (us : List Numbered) (x : Option (List Numbered)) → then_read (answer_map primary_term (then_read (if_there x (then_skip (behind_close_list us) (λ us. Some (closed, us))) (λ us. then_read (reading us) (λ e vs. then_skip (behind_close_list vs) (λ ws. Some (tail e, ws))))) (λ r vs. Some (list s r, vs)))) k ≡ if_there x (then_skip (behind_close_list us) (λ us. k (cells (terms_of (list_of (series_terms s))) nil) us)) (λ us. then_read (expression_read us) (λ t vs. then_skip (behind_close_list vs) (λ ws. k (cells (terms_of (list_of (series_terms s))) t) ws)))
  unfolding expression_read
  rest_by s us None = closed_by s (behind_close_list us)
  rest_by s us (Some vs) = tail_by s (reading vs)

  elements_by : (x : Answer Series) → then_read (answer_map primary_term (then_read x (λ s us. then_read (rest_at reading us) (λ r vs. Some (list s r, vs))))) k ≡ then_read (answer_map (λ s. list_of (series_terms s)) x) (after_elements k)
  elements_by None = refl
  elements_by (Some r) = rest_by r.0 r.1 (behind_bar r.1)

  pub elements_open : (v : Vec Term Global) (us : List Numbered) → v.items ≡ [] → then_read (series_read us) (after_elements k) ≡ open_then (Elements v) k us
  elements_open v us e =
      series_behind (after_elements k) [] us
      ∙ ap (λ (before : List Term). then_read (expression_read us) (λ e us. if_there (behind_comma us) (after_elements k (before ++ e ∷ []) us) (λ vs. then_read (series_read vs) (λ s ws. after_elements k (before ++ e ∷ s) ws)))) (sym e)

  list_here : (ts : List Numbered) (v : Vec Term Global) (x : Option (List Numbered)) → v.items ≡ [] → then_read (answer_map primary_term (if_there x (then_read (series_at reading ts) (λ s us. then_read (rest_at reading us) (λ r vs. Some (list s r, vs)))) (λ us. Some (empty_list, us)))) k ≡ if_there x (open_then (Elements v) k ts) (λ us. k nil us)
  unfolding series_read
  list_here ts v None e = elements_by (series_at reading ts) ∙ elements_open v ts e
  list_here ts v (Some us) e = refl

  pub list_reads : (v : Vec Term Global) (ts : List Numbered) → v.items ≡ [] → then_read (primary_read (sign_token OpenList ∷ ts)) k ≡ if_there (behind_close_list ts) (open_then (Elements v) k ts) (λ us. k nil us)
  unfolding primary_read
  list_reads v ts e = list_here ts v (behind_close_list ts) e

  -- one expression more in what was opened
  pub arguments_more : (f : Bor (List ℕ)) (before : List Term) (e : Term) (v : Vec Term Global) (us : List Numbered) → v.items ≡ before ++ e ∷ [] → then_read (series_read us) (λ s vs. after_arguments f.now k (before ++ e ∷ s) vs) ≡ open_then (Arguments f v) k us
  arguments_more f before e v us h =
      one_more (after_arguments f.now k) before e us
      ∙ series_behind (after_arguments f.now k) (before ++ e ∷ []) us
      ∙ ap (λ (es : List Term). then_read (expression_read us) (λ e us. if_there (behind_comma us) (after_arguments f.now k (es ++ e ∷ []) us) (λ vs. then_read (series_read vs) (λ s ws. after_arguments f.now k (es ++ e ∷ s) ws)))) (sym h)

  pub elements_more : (before : List Term) (e : Term) (v : Vec Term Global) (us : List Numbered) → v.items ≡ before ++ e ∷ [] → then_read (series_read us) (λ s vs. after_elements k (before ++ e ∷ s) vs) ≡ open_then (Elements v) k us
  elements_more before e v us h =
      one_more (after_elements k) before e us
      ∙ series_behind (after_elements k) (before ++ e ∷ []) us
      ∙ ap (λ (es : List Term). then_read (expression_read us) (λ e us. if_there (behind_comma us) (after_elements k (es ++ e ∷ []) us) (λ vs. then_read (series_read vs) (λ s ws. after_elements k (es ++ e ∷ s) ws)))) (sym h)

  -- a tail after elements
  pub tail_opens : (es : List Term) (v : Vec Term Global) (us : List Numbered) → v.items ≡ es → then_read (expression_read us) (λ t vs. then_skip (behind_close_list vs) (λ ws. k (cells (terms_of es) t) ws)) ≡ open_then (Tail v) k us
  tail_opens es v us h =
      ap (λ (xs : List Term). then_read (expression_read us) (λ t vs. then_skip (behind_close_list vs) (λ ws. k (cells (terms_of xs) t) ws))) (sym h)
