-- The tokens of sums, products and lists, each in one line.
use Rattle.std.specs.Prelude.{◌≡◌, false, List, ◌∷◌, codes}
use Rattle.std.proofs.Common.{refl}
use Rattle.kl1_model.specs.declared.sign.Sign.TheVariants.{Plus, Star, Slash, Bar, OpenList, CloseList}
use Rattle.kl1_model.specs.Token.{name_token, minus_token, sign_token}
use Rattle.kl1_model.specs.Grammar.{Numbered, Adding, by_plus, by_minus, Multiplying, by_star, by_slash, by_mod, Sum, added, Product, multiplied, Part, list, Series, Rest, closed, tail, expression_tokens, sum_tokens, product_tokens, part_tokens, primary_tokens, series_tokens}

-- the token of an operator of sums
abbrev pub adding_token : Adding → Numbered
adding_token by_plus = sign_token Plus
adding_token (by_minus digit) = minus_token digit

-- the token of an operator of products
abbrev pub multiplying_token : Multiplying → Numbered
multiplying_token by_star = sign_token Star
multiplying_token by_slash = sign_token Slash
multiplying_token (by_mod applied) = name_token (codes "mod") false applied

-- the tokens of what follows the elements of a list, and then these
abbrev pub rest_tokens : Rest → List Numbered → List Numbered
rest_tokens closed ts = ts
rest_tokens (tail e) ts = sign_token Bar ∷ expression_tokens e ts

pub added_row : (s : Sum) (o : Adding) (p : Product) (ts : List Numbered) → sum_tokens (added s o p) ts ≡ sum_tokens s (adding_token o ∷ product_tokens p ts)
added_row s by_plus p ts = refl
added_row s (by_minus digit) p ts = refl

pub multiplied_row : (p : Product) (o : Multiplying) (q : Part) (ts : List Numbered) → product_tokens (multiplied p o q) ts ≡ product_tokens p (multiplying_token o ∷ part_tokens q ts)
multiplied_row p by_star q ts = refl
multiplied_row p by_slash q ts = refl
multiplied_row p (by_mod applied) q ts = refl

pub list_row : (s : Series) (r : Rest) (ts : List Numbered) → primary_tokens (list s r) ts ≡ sign_token OpenList ∷ series_tokens s (rest_tokens r (sign_token CloseList ∷ ts))
list_row s closed ts = refl
list_row s (tail e) ts = refl
