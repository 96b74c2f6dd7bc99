-- What follows a part, a product, a sum, arguments, elements and a tail.
use Rattle.std.proofs.Common.{◌≡◌, ℕ, List, [], ◌∷◌, ◌++◌, codes, Option, Some, None, Vec, ap, sym, ◌∙◌}
use Rattle.std.specs.Borrow.{Bor}
use Rattle.std.specs.declared.alloc.Global.{Global}
use Rattle.kl1_model.specs.declared.built_in.BuiltIn.{BuiltIn}
use Rattle.kl1_model.specs.Term.{Term, structure, terms_of}
use Rattle.kl1_model.specs.Grammar.{Numbered}
use Rattle.kl1_model.specs.Meaning.{pair, cells}
use Rattle.kl1_model.specs.reader.Reader.{Answer, then_read, then_skip, if_there, behind_comma, behind_close, behind_close_list}
use Rattle.kl1_read.specs.declared.infix.Level.TheVariants.{Relations, Sums, Products}
use Rattle.kl1_read.specs.declared.opened.Opened.TheVariants.{Arguments, Elements}
use Rattle.kl1_read.specs.declared.left.Left.{Left}
use Rattle.kl1_read.specs.Infixes.{infix_in_front}
use Rattle.kl1_read.specs.Pieces.{writable}
use Rattle.kl1_read.specs.Meanings.{series_read, joined, Going, Dooms, fit, after_relation, after_sum, after_product, after_part, after_colon, after_primary, after_arguments, after_elements, open_then, primary_then}
use Rattle.kl1_read.proofs.Goings.{sum_goes, product_goes, part_goes}
use Rattle.kl1_read.proofs.Levels.{operator_follows, operator_gone}
use Rattle.kl1_read.proofs.Primaries.{arguments_more, elements_more}
use Rattle.kl1_read.proofs.Doomed.{sum_dooms, product_dooms, part_dooms, operand_doomed}
use Rattle.kl1_read.proofs.Arguments.{writable_is, unwritable_is}

-- what follows a part with what stands to its left
module _ (relation sum product : Option (BuiltIn × Term)) (p : Term) (ts : List Numbered) (k : Going) (dooms : Dooms k) where
  pub part_follows : (whole : Term) (name : BuiltIn) (us : List Numbered) → Some whole ≡ writable (joined product p) → Some (name, us) ≡ infix_in_front Products ts → fit (primary_then (record { relation = relation; sum = sum; product = Some (name, whole); colon = None }) k us) ≡ fit (after_part relation sum product k p ts)
  part_follows whole name us w h =
      ap fit (sym (part_goes (after_part relation sum (Some (name, whole)) k) us)
      ∙ operator_follows Products product (after_product relation sum k) p whole ts (writable_is (joined product p) whole w) name us h)

  pub part_ends : (whole : Term) → Some whole ≡ writable (joined product p) → None ≡ infix_in_front Products ts → fit (after_product relation sum k whole ts) ≡ fit (after_part relation sum product k p ts)
  part_ends whole w h =
      ap fit (operator_gone Products product (after_product relation sum k) p whole ts (writable_is (joined product p) whole w) h)

  pub part_doomed : None ≡ writable (joined product p) → None ≡ fit (after_part relation sum product k p ts)
  part_doomed w =
      operand_doomed (after_product relation sum k) (product_dooms relation sum k dooms) Products product p ts w

-- what follows a primary with what stands to its left
module _ (left : Left) (m p : Term) (ts : List Numbered) (e : left.colon ≡ Some m) (k : Going) (dooms : Dooms k) where
  pub colon_ends : (whole : Term) → Some whole ≡ writable (pair (codes ":") m p) → fit (after_part left.relation left.sum left.product k whole ts) ≡ fit (after_primary left k p ts)
  colon_ends whole w =
      ap (λ u. fit (after_part left.relation left.sum left.product k u ts)) (writable_is (pair (codes ":") m p) whole w)
      ∙ ap (λ x. fit (after_colon x (after_part left.relation left.sum left.product k) p ts)) (sym e)

  pub colon_doomed : None ≡ writable (pair (codes ":") m p) → None ≡ fit (after_primary left k p ts)
  colon_doomed w =
      sym (ap (λ x. fit (after_colon x (after_part left.relation left.sum left.product k) p ts)) e
      ∙ part_dooms left.relation left.sum left.product k dooms (pair (codes ":") m p) ts (unwritable_is (pair (codes ":") m p) w))

-- what follows a product with what stands to its left
module _ (relation sum : Option (BuiltIn × Term)) (p : Term) (ts : List Numbered) (k : Going) (dooms : Dooms k) where
  pub product_follows : (whole : Term) (name : BuiltIn) (us : List Numbered) → Some whole ≡ writable (joined sum p) → Some (name, us) ≡ infix_in_front Sums ts → fit (primary_then (record { relation = relation; sum = Some (name, whole); product = None; colon = None }) k us) ≡ fit (after_product relation sum k p ts)
  product_follows whole name us w h =
      ap fit (sym (part_goes (after_part relation (Some (name, whole)) None k) us)
      ∙ sym (product_goes (after_product relation (Some (name, whole)) k) us)
      ∙ operator_follows Sums sum (after_sum relation k) p whole ts (writable_is (joined sum p) whole w) name us h)

  pub product_ends : (whole : Term) → Some whole ≡ writable (joined sum p) → None ≡ infix_in_front Sums ts → fit (after_sum relation k whole ts) ≡ fit (after_product relation sum k p ts)
  product_ends whole w h = ap fit (operator_gone Sums sum (after_sum relation k) p whole ts (writable_is (joined sum p) whole w) h)

  pub product_doomed : None ≡ writable (joined sum p) → None ≡ fit (after_product relation sum k p ts)
  product_doomed w = operand_doomed (after_sum relation k) (sum_dooms k dooms relation) Sums sum p ts w

-- a relation follows a sum
pub relation_follows : (s : Term) (name : BuiltIn) (ts us : List Numbered) → Some (name, us) ≡ infix_in_front Relations ts → (k : Going) → Dooms k → fit (primary_then (record { relation = Some (name, s); sum = None; product = None; colon = None }) k us) ≡ fit (after_sum None k s ts)
relation_follows s name ts us h k dooms =
    ap fit (sym (part_goes (after_part (Some (name, s)) None None k) us)
    ∙ sym (product_goes (after_product (Some (name, s)) None k) us)
    ∙ sym (sum_goes (after_sum (Some (name, s)) k) us)
    ∙ ap (after_relation k s ts) h)

-- a comma follows arguments
pub arguments_follow : (f : Bor (List ℕ)) (before : List Term) (e : Term) (v : Vec Term Global) (ts us : List Numbered) → v.items ≡ before ++ e ∷ [] → Some us ≡ behind_comma ts → (k : Going) → Dooms k → fit (open_then (Arguments f v) k us) ≡ fit (if_there (behind_comma ts) (after_arguments f.now k (before ++ e ∷ []) ts) (λ us. then_read (series_read us) (λ s vs. after_arguments f.now k (before ++ e ∷ s) vs)))
arguments_follow f before e v ts us i h k dooms =
    ap fit (sym (ap (λ x. if_there x (after_arguments f.now k (before ++ e ∷ []) ts) (λ us. then_read (series_read us) (λ s vs. after_arguments f.now k (before ++ e ∷ s) vs))) (sym h) ∙ arguments_more k f before e v us i))

-- arguments are closed
arguments_here : (f : List ℕ) (es : List Term) (ts us : List Numbered) (go : List Numbered → Answer (List Term)) (k : Going) → None ≡ behind_comma ts → Some us ≡ behind_close ts → if_there (behind_comma ts) (after_arguments f k es ts) go ≡ k (structure f (terms_of es)) us
arguments_here f es ts us go k h j =
    ap (λ x. if_there x (after_arguments f k es ts) go) (sym h) ∙ ap (λ x. then_skip x (λ us. k (structure f (terms_of es)) us)) (sym j)

pub arguments_end : (f : List ℕ) (es xs : List Term) (t : Term) (ts us : List Numbered) (k : Going) (go : List Numbered → Answer (List Term)) → xs ≡ es → Some t ≡ writable (structure f (terms_of xs)) → None ≡ behind_comma ts → Some us ≡ behind_close ts → fit (k t us) ≡ fit (if_there (behind_comma ts) (after_arguments f k es ts) go)
arguments_end f es xs t ts us k go e w h j =
    ap (λ u. fit (k u us)) (writable_is (structure f (terms_of xs)) t w ∙ ap (λ ys. structure f (terms_of ys)) e) ∙ ap fit (sym (arguments_here f es ts us go k h j))

pub arguments_doomed : (f : List ℕ) (es xs : List Term) (ts us : List Numbered) (k : Going) (go : List Numbered → Answer (List Term)) → Dooms k → xs ≡ es → None ≡ writable (structure f (terms_of xs)) → None ≡ behind_comma ts → Some us ≡ behind_close ts → None ≡ fit (if_there (behind_comma ts) (after_arguments f k es ts) go)
arguments_doomed f es xs ts us k go dooms e w h j =
    sym (ap fit (arguments_here f es ts us go k h j) ∙ dooms (structure f (terms_of es)) us (rw (← e) (unwritable_is (structure f (terms_of xs)) w)))

-- a comma follows elements
pub elements_follow : (before : List Term) (e : Term) (v : Vec Term Global) (ts us : List Numbered) → v.items ≡ before ++ e ∷ [] → Some us ≡ behind_comma ts → (k : Going) → Dooms k → fit (open_then (Elements v) k us) ≡ fit (if_there (behind_comma ts) (after_elements k (before ++ e ∷ []) ts) (λ us. then_read (series_read us) (λ s vs. after_elements k (before ++ e ∷ s) vs)))
elements_follow before e v ts us i h k dooms =
    ap fit (sym (ap (λ x. if_there x (after_elements k (before ++ e ∷ []) ts) (λ us. then_read (series_read us) (λ s vs. after_elements k (before ++ e ∷ s) vs))) (sym h) ∙ elements_more k before e v us i))

-- a tail is closed
pub tail_end : (es : List Term) (e t : Term) (ts us : List Numbered) → Some t ≡ writable (cells (terms_of es) e) → Some us ≡ behind_close_list ts → (k : Going) → Dooms k → fit (k t us) ≡ fit (then_skip (behind_close_list ts) (λ us. k (cells (terms_of es) e) us))
tail_end es e t ts us w h k dooms =
    ap (λ u. fit (k u us)) (writable_is (cells (terms_of es) e) t w) ∙ ap (λ x. fit (then_skip x (λ us. k (cells (terms_of es) e) us))) h
