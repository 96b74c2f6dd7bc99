-- The tree of a printed term, in the shape in which terms are printed, and what the tree's parts are.
use Rattle.std.specs.Prelude.{◌≡◌, ℕ, suc, not, ◌&&◌, Bool, true, if◌then◌else◌, ℤ, pos, negsuc, List, [], ◌∷◌, Option, Some, None, codes, bytes_eq}
use Rattle.std.proofs.Common.{refl, ap, ◌∙◌}
use Rattle.std.proofs.lemmas.Bool.{and_parts, and_from}
use Rattle.kl1_model.specs.declared.pair_form.PairForm.{PairForm}
use Rattle.kl1_model.specs.declared.pair_form.PairForm.TheVariants.{Cell, Qualified, Call}
use Rattle.kl1_model.specs.declared.sign.Sign.TheVariants.{Comma, CloseList}
use Rattle.kl1_model.specs.Name.{is_bare}
use Rattle.kl1_model.specs.Term.{Term, variable, integer, atom, structure, Terms, none, more}
use Rattle.kl1_model.specs.Token.{sign_token}
use Rattle.kl1_model.specs.Grammar.{Numbered, Expression, alone, summand, factor, Part, single, qualified, Primary, numbered, positive, negative, constant, call, empty_list, list, group, Series, last, another, Rest, closed, tail, expression_tokens, series_tokens}
use Rattle.kl1_model.specs.Meaning.{pair, cell, expression_term, part_term, primary_term, series_terms}
use Rattle.kl1_model.specs.Print.{form_of}
use Rattle.kl1_model.specs.laws.ReadLaws.{is_sound_expression, is_sound_part, is_sound_series, is_sound_rest}
use Rattle.kl1_model.proofs.ReadRows.{rest_tokens}

-- the tree of a term alone, and the elements and the end that it is after an element of a list
pub record Planted : Type 0 where
  pub whole : Part
  pub following : Option Series
  pub ending : Rest

-- a part as an expression
abbrev pub plainly : Part → Expression
plainly p = alone (summand (factor p))

-- one element, with those that follow
abbrev pub series_of : Expression → Option Series → Series
series_of e None = last e
series_of e (Some s) = another e s

-- a term that is no list
abbrev pub planted_plain : Part → Planted
planted_plain p = record { whole = p; following = None; ending = tail (plainly p) }

-- an atom: the empty list ends a list
abbrev pub planted_atom : List ℕ → Planted
planted_atom a = if bytes_eq a (codes "[]") then record { whole = single empty_list; following = None; ending = closed } else planted_plain (single (constant a (not (is_bare a))))

-- an integer, with its digits after `-` if it is negative
abbrev pub planted_integer : ℤ → Primary
planted_integer (pos n) = positive n
planted_integer (negsuc n) = negative (suc n)

-- a list cell, one list with the elements after it
abbrev pub planted_cell : Planted → Planted → Planted
planted_cell h t = let s = series_of (plainly h.whole) t.following in record { whole = single (list s t.ending); following = Some s; ending = t.ending }

-- a part beside a colon
abbrev pub primary_of : Part → Primary
primary_of (single p) = p
primary_of (qualified p q) = group (plainly (qualified p q))

-- arguments, of which there is one at least
abbrev pub planted_series : Planted → List Planted → Series
planted_series p [] = last (plainly p.whole)
planted_series p (q ∷ qs) = another (plainly p.whole) (planted_series q qs)

-- a name with arguments
abbrev pub planted_call : List ℕ → List Planted → Planted
planted_call f [] = planted_plain (single (constant f (not (is_bare f))))
planted_call f (p ∷ ps) = planted_plain (single (call f (not (is_bare f)) (planted_series p ps)))

-- a structure of two arguments in its form
abbrev pub planted_pair : PairForm → List ℕ → Planted → Planted → Planted
planted_pair Cell f p q = planted_cell p q
planted_pair Qualified f p q = planted_plain (qualified (primary_of p.whole) (primary_of q.whole))
planted_pair Call f p q = planted_call f (p ∷ q ∷ [])

abbrev mutual
  pub planted : Term → Planted
  planted (variable n) = planted_plain (single (numbered n))
  planted (integer i) = planted_plain (single (planted_integer i))
  planted (atom a) = planted_atom a
  planted (structure f (more a (more b none))) = planted_pair (form_of f a b) f (planted a) (planted b)
  planted (structure f ts) = planted_call f (planted_each ts)

  pub planted_each : Terms → List Planted
  planted_each none = []
  planted_each (more t ts) = planted t ∷ planted_each ts

-- the tokens of elements that follow another
abbrev pub following_row : Option Series → List Numbered → List Numbered
following_row None ts = ts
following_row (Some s) ts = sign_token Comma ∷ series_tokens s ts

-- the tokens of what a term is after an element of a list
abbrev pub rest_row : Planted → List Numbered → List Numbered
rest_row q ts = following_row q.following (rest_tokens q.ending (sign_token CloseList ∷ ts))

-- the tokens of an element and those that follow
pub series_row : (e : Expression) (following : Option Series) (ts : List Numbered) → series_tokens (series_of e following) ts ≡ expression_tokens e (following_row following ts)
series_row e None ts = refl
series_row e (Some s) ts = refl

-- whether the integers of elements that follow another are sound
abbrev pub is_sound_following : Option Series → Bool
is_sound_following None = true
is_sound_following (Some s) = is_sound_series s

-- an element and those that follow are sound if they are
pub series_of_sound : (e : Expression) (following : Option Series) (r : Rest) → is_sound_expression e ≡ true → (is_sound_following following && is_sound_rest r) ≡ true → (is_sound_series (series_of e following) && is_sound_rest r) ≡ true
series_of_sound e None r first behind = and_from (is_sound_expression e) (is_sound_rest r) first behind
series_of_sound e (Some s) r first behind =
    let both = and_parts (is_sound_series s) (is_sound_rest r) behind in
    and_from (is_sound_expression e && is_sound_series s) (is_sound_rest r) (and_from (is_sound_expression e) (is_sound_series s) first both.0) both.1

-- what a part's tree means, apart from any text
pub record Bears (t : Term) (p : Part) : Type 0 where
  pub means : part_term p ≡ t
  pub sound : is_sound_part p ≡ true

-- what holds of the elements and the end that a term is after an element of a list, apart from any text
pub record BearsBehind (t : Term) (q : Planted) : Type 0 where
  pub means : (e : Expression) → primary_term (list (series_of e q.following) q.ending) ≡ cell (expression_term e) t
  pub sound : (is_sound_following q.following && is_sound_rest q.ending) ≡ true

-- what the trees of arguments mean, apart from any text
pub record BearsEach (ts : Terms) (s : Series) : Type 0 where
  pub means : series_terms s ≡ ts
  pub sound : is_sound_series s ≡ true

-- a term that is no list, after an element
pub plain_behind : (t : Term) (p : Part) → Bears t p → BearsBehind t (planted_plain p)
plain_behind t p h =
    record {
      means = λ e. ap (cell (expression_term e)) h.means;
      sound = h.sound;
    }

-- one argument
pub last_bears : (t : Term) (p : Part) → Bears t p → BearsEach (more t none) (last (plainly p))
last_bears t p h =
    record {
      means = ap (λ x. more x none) h.means;
      sound = h.sound;
    }

-- one more argument
pub another_bears : (t : Term) (p : Part) (ts : Terms) (s : Series) → Bears t p → BearsEach ts s → BearsEach (more t ts) (another (plainly p) s)
another_bears t p ts s h j =
    record {
      means = ap (λ x. more x (series_terms s)) h.means ∙ ap (more t) j.means;
      sound = and_from (is_sound_part p) (is_sound_series s) h.sound j.sound;
    }

-- a name with arguments
pub call_bears : (f : List ℕ) (quotes : Bool) (ts : Terms) (s : Series) → BearsEach ts s → Bears (structure f ts) (single (call f quotes s))
call_bears f quotes ts s h = record { means = ap (structure f) h.means; sound = h.sound }

-- a name of a module
pub qualified_bears : (a b : Term) (p q : Primary) → Bears a (single p) → Bears b (single q) → Bears (pair (codes ":") a b) (qualified p q)
qualified_bears a b p q h j =
    record {
      means = ap (λ x. pair (codes ":") x (primary_term q)) h.means ∙ ap (pair (codes ":") a) j.means;
      sound = and_from (is_sound_part (single p)) (is_sound_part (single q)) h.sound j.sound;
    }

-- a list with one more element in front
longer_means : (e : Expression) (s : Series) (r : Rest) → primary_term (list (another e s) r) ≡ cell (expression_term e) (primary_term (list s r))
longer_means e s closed = refl
longer_means e s (tail d) = refl

module _ (a b : Term) (p q : Planted) (h : Bears a p.whole) (j : BearsBehind b q) where
  cell_means : primary_term (list (series_of (plainly p.whole) q.following) q.ending) ≡ cell a b
  cell_means = j.means (plainly p.whole) ∙ ap (λ x. cell x b) h.means

  cell_sound : (is_sound_series (series_of (plainly p.whole) q.following) && is_sound_rest q.ending) ≡ true
  cell_sound = series_of_sound (plainly p.whole) q.following q.ending h.sound j.sound

  -- a list cell
  pub cell_bears : Bears (cell a b) (planted_cell p q).whole
  cell_bears = record { means = cell_means; sound = cell_sound }

  -- a list cell after an element
  pub cell_behind : BearsBehind (cell a b) (planted_cell p q)
  cell_behind = record { means = λ e. longer_means e (series_of (plainly p.whole) q.following) q.ending ∙ ap (cell (expression_term e)) cell_means; sound = cell_sound }
