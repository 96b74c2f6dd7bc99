-- Nothing comes of a term that no text can write, whatever goes on after it.
use Rattle.std.proofs.Common.{◌≡◌, ℕ, zero, suc, false, if◌then◌else◌, List, [], ◌∷◌, ◌++◌, length, codes, Option, Some, None, refl, ap, sym}
use Rattle.std.specs.List.{list_all}
use Rattle.kl1_model.specs.declared.built_in.BuiltIn.{BuiltIn}
use Rattle.kl1_model.specs.Text.{text_of}
use Rattle.kl1_model.specs.Term.{Term, structure, terms_of}
use Rattle.kl1_model.specs.Grammar.{Numbered}
use Rattle.kl1_model.specs.Meaning.{pair, nil, cells, is_writable}
use Rattle.kl1_model.specs.reader.Reader.{Answer, then_read, then_skip, if_there, behind_comma, behind_close, behind_close_list, behind_bar, behind_colon, grouped_by}
use Rattle.kl1_model.specs.laws.ReadLaws.{grouped_on}
use Rattle.kl1_read.specs.declared.infix.Level.{Level}
use Rattle.kl1_read.specs.declared.infix.Level.TheVariants.{Relations, Sums, Products}
use Rattle.kl1_read.specs.declared.opened.Opened.{Opened}
use Rattle.kl1_read.specs.declared.opened.Opened.TheVariants.{Group, Arguments, Elements, Tail}
use Rattle.kl1_read.specs.declared.left.Left.{Left}
use Rattle.kl1_read.specs.declared.frame.Frame.{Frame}
use Rattle.kl1_read.specs.Waits.{opened_of, left_of}
use Rattle.kl1_read.specs.Infixes.{infix_in_front}
use Rattle.kl1_read.specs.Pieces.{writable}
use Rattle.kl1_read.specs.Meanings.{expression_read, primary_read, series_read, operand_read, operation, joined, Going, after_relation, after_sum, after_operand, after_product, after_part, after_colon, after_primary, after_elements, after_arguments, after_opened, after_last, after_expression, fit, Dooms}
use Rattle.kl1_read.proofs.Arguments.{unwritable_is}
use Rattle.kl1_read.proofs.Unwritable.{structure_unwritable, first_unwritable, second_unwritable, tail_unwritable, element_unwritable, list_unwritable}

doomed_read : {A : Type 0} (x : Answer A) (go : A → List Numbered → Answer (List Term)) → ((a : A) (us : List Numbered) → fit (go a us) ≡ None) → fit (then_read x go) ≡ None
doomed_read None go h = refl
doomed_read (Some r) go h = h r.0 r.1

doomed_skip : (x : Option (List Numbered)) (go : List Numbered → Answer (List Term)) → ((us : List Numbered) → fit (go us) ≡ None) → fit (then_skip x go) ≡ None
doomed_skip None go h = refl
doomed_skip (Some us) go h = h us

doomed_there : (x : Option (List Numbered)) (otherwise : Answer (List Term)) (go : List Numbered → Answer (List Term)) → fit otherwise ≡ None → ((us : List Numbered) → fit (go us) ≡ None) → fit (if_there x otherwise go) ≡ None
doomed_there None otherwise go o h = o
doomed_there (Some us) otherwise go o h = h us

module _ (k : Going) (dooms : Dooms k) where
  relation_dooms : (t : Term) (ts : List Numbered) (x : Answer BuiltIn) → is_writable t ≡ false → fit (after_relation k t ts x) ≡ None
  relation_dooms t ts None h = dooms t ts h
  relation_dooms t ts (Some r) h =
      doomed_read (operand_read Relations r.1) _ (λ q us. dooms (operation t r.0 q) us (first_unwritable (text_of r.0) t q h))

  pub sum_dooms : (left : Option (BuiltIn × Term)) → Dooms (after_sum left k)
  sum_dooms None t ts h = relation_dooms t ts (infix_in_front Relations ts) h
  sum_dooms (Some before) t ts h = dooms (operation before.1 before.0 t) ts (second_unwritable (text_of before.0) before.1 t h)

  -- operands after one that no text can write
  operand_doomed_by : (level : Level) (next : Term → List Numbered → Answer Term) → ((t : Term) (us : List Numbered) → is_writable t ≡ false → fit (then_read (next t us) k) ≡ None) → (t : Term) (name : BuiltIn) (x : Answer Term) → is_writable t ≡ false → fit (then_read (then_read x (λ a us. next (operation t name a) us)) k) ≡ None
  operand_doomed_by level next doomed t name None h = refl
  operand_doomed_by level next doomed t name (Some r) h = doomed (operation t name r.0) r.1 (first_unwritable (text_of name) t r.0 h)

  grouped_doomed_by : (level : Level) (next : Term → List Numbered → Answer Term) → ((t : Term) (us : List Numbered) → is_writable t ≡ false → fit (then_read (next t us) k) ≡ None) → (t : Term) (ts : List Numbered) (x : Answer BuiltIn) → is_writable t ≡ false → fit (then_read (grouped_on (operand_read level) operation next t ts x) k) ≡ None
  grouped_doomed_by level next doomed t ts None h = dooms t ts h
  grouped_doomed_by level next doomed t ts (Some o) h = operand_doomed_by level next doomed t o.0 (operand_read level o.1) h

  grouped_dooms : (level : Level) (m : ℕ) (t : Term) (ts : List Numbered) → is_writable t ≡ false → fit (then_read (grouped_by (infix_in_front level) (operand_read level) operation m t ts) k) ≡ None
  unfolding grouped_by
  grouped_dooms level zero t ts h = refl
  grouped_dooms level (suc m) t ts h =
      grouped_doomed_by level (grouped_by (infix_in_front level) (operand_read level) operation m) (λ u us d. grouped_dooms level m u us d) t ts (infix_in_front level ts) h

  joined_unwritable : (left : Option (BuiltIn × Term)) (t : Term) → is_writable t ≡ false → is_writable (joined left t) ≡ false
  joined_unwritable None t h = h
  joined_unwritable (Some before) t h = second_unwritable (text_of before.0) before.1 t h

  pub operand_dooms : (level : Level) (left : Option (BuiltIn × Term)) → Dooms (after_operand level left k)
  operand_dooms level left t ts h = grouped_dooms level (suc (length ts)) (joined left t) ts (joined_unwritable left t h)

  -- an operand that no text can write with what stands to its left
  pub operand_doomed : (level : Level) (left : Option (BuiltIn × Term)) (t : Term) (ts : List Numbered) → None ≡ writable (joined left t) → None ≡ fit (after_operand level left k t ts)
  operand_doomed level left t ts h = sym (grouped_dooms level (suc (length ts)) (joined left t) ts (unwritable_is (joined left t) h))

  pub colon_dooms : (left : Option Term) → Dooms (after_colon left k)
  colon_dooms None t ts h =
      doomed_there (behind_colon ts) _ _ (dooms t ts h) (λ us.
      doomed_read (primary_read us) _ (λ q vs. dooms (pair (codes ":") t q) vs (first_unwritable (codes ":") t q h)))
  colon_dooms (Some m) t ts h = dooms (pair (codes ":") m t) ts (second_unwritable (codes ":") m t h)

  arguments_doom : (f : List ℕ) (before : List Term) (t : Term) (s : List Term) (ts : List Numbered) → is_writable t ≡ false → fit (after_arguments f k (before ++ t ∷ s) ts) ≡ None
  arguments_doom f before t s ts h =
      doomed_skip (behind_close ts) _ (λ us. dooms (structure f (terms_of (before ++ t ∷ s))) us (structure_unwritable f before t s h))

  elements_doom : (before : List Term) (t : Term) (s : List Term) (ts : List Numbered) → is_writable t ≡ false → fit (after_elements k (before ++ t ∷ s) ts) ≡ None
  elements_doom before t s ts h =
      doomed_there (behind_bar ts) _ _
      (doomed_skip (behind_close_list ts) _ (λ us. dooms (cells (terms_of (before ++ t ∷ s)) nil) us (element_unwritable before t s nil h)))
      (λ us. doomed_read (expression_read us) _ (λ u vs. doomed_skip (behind_close_list vs) _ (λ ws. dooms (cells (terms_of (before ++ t ∷ s)) u) ws (element_unwritable before t s u h))))

  pub opened_dooms : (opened : Opened) → Dooms (after_opened opened k)
  opened_dooms Group t ts h = doomed_skip (behind_close ts) _ (λ us. dooms t us h)
  opened_dooms (Arguments f before) t ts h =
      doomed_there (behind_comma ts) _ _ (arguments_doom f.now before.items t [] ts h) (λ us.
      doomed_read (series_read us) _ (λ s vs. arguments_doom f.now before.items t s vs h))
  opened_dooms (Elements before) t ts h =
      doomed_there (behind_comma ts) _ _ (elements_doom before.items t [] ts h) (λ us.
      doomed_read (series_read us) _ (λ s vs. elements_doom before.items t s vs h))
  opened_dooms (Tail elements) t ts h =
      doomed_skip (behind_close_list ts) _ (λ us. dooms (cells (terms_of elements.items) t) us (tail_unwritable elements.items t h))

-- nothing comes of a product or a part that no text can write
pub product_dooms : (relation sum : Option (BuiltIn × Term)) (k : Going) → Dooms k → Dooms (after_product relation sum k)
product_dooms relation sum k dooms = operand_dooms (after_sum relation k) (sum_dooms k dooms relation) Sums sum

pub part_dooms : (relation sum product : Option (BuiltIn × Term)) (k : Going) → Dooms k → Dooms (after_part relation sum product k)
part_dooms relation sum product k dooms = operand_dooms (after_product relation sum k) (product_dooms relation sum k dooms) Products product

pub primary_dooms : (left : Left) (k : Going) → Dooms k → Dooms (after_primary left k)
primary_dooms left k dooms =
    colon_dooms (after_part left.relation left.sum left.product k) (part_dooms left.relation left.sum left.product k dooms) left.colon

unfit : (es : List Term) (us : List Numbered) → list_all is_writable es ≡ false → fit (Some (es, us)) ≡ None
unfit es us h = ap (λ b. if◌then◌else◌ {A = Answer (List Term)} b (Some (es, us)) None) h

pub last_dooms : (done : List Term) → Dooms (after_last done)
last_dooms done t ts h =
    doomed_there (behind_comma ts) _ _ (unfit (done ++ t ∷ []) ts (list_unwritable done t [] h)) (λ us.
    doomed_read (series_read us) _ (λ s vs. unfit (done ++ t ∷ s) vs (list_unwritable done t s h)))

pub expression_dooms : (frames : List Frame) (done : List Term) → Dooms (after_expression frames done)
expression_dooms [] done = last_dooms done
expression_dooms (f ∷ fs) done =
    opened_dooms (after_primary (left_of f) (after_expression fs done)) (primary_dooms (left_of f) (after_expression fs done) (expression_dooms fs done)) (opened_of f)
