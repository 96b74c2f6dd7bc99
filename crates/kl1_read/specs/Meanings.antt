-- What is still to be read: expressions as their terms, and what waits for them.
use Rattle.std.specs.Prelude.{◌≡◌, ℕ, List, [], ◌∷◌, ◌++◌, codes, false, if◌then◌else◌, Option, Some, None}
use Rattle.std.specs.List.{list_all}
use Rattle.kl1_model.specs.Term.{Term, structure, terms_of, list_of}
use Rattle.kl1_model.specs.Grammar as grammar
use Rattle.kl1_model.specs.Text.{text_of}
use Rattle.kl1_model.specs.declared.built_in.BuiltIn.{BuiltIn}
use Rattle.kl1_model.specs.Meaning.{pair, nil, cells, expression_term, sum_term, product_term, part_term, primary_term, series_terms, is_writable}
use Rattle.kl1_model.specs.reader.Reader.{Answer, Inner, then_read, then_skip, if_there, behind_comma, behind_close, behind_close_list, behind_bar, behind_colon, series_at, primary_at, part_at, grouped_at, product_at, sum_at, inner_of}
use Rattle.kl1_read.specs.declared.infix.Level.{Level}
use Rattle.kl1_read.specs.declared.infix.Level.TheVariants.{Relations, Sums, Products}
use Rattle.kl1_read.specs.declared.opened.Opened.{Opened}
use Rattle.kl1_read.specs.declared.opened.Opened.TheVariants.{Group, Arguments, Elements, Tail}
use Rattle.kl1_read.specs.declared.left.Left.{Left}
use Rattle.kl1_read.specs.declared.frame.Frame.{Frame}
pub use Rattle.kl1_read.specs.Infixes.{answer_map}
use Rattle.kl1_read.specs.Infixes.{infix_in_front}
use Rattle.kl1_read.specs.Waits.{opened_of, left_of}

-- an expression in front of tokens, read with as many steps as it needs
abbrev pub reading : Inner
reading ts = inner_of ts ts

-- the term of the expression in front of tokens
unfoldable pub expression_read : List grammar.Numbered → Answer Term
expression_read ts = answer_map expression_term (reading ts)

-- the term of the sum in front of tokens
unfoldable pub sum_read : List grammar.Numbered → Answer Term
sum_read ts = answer_map sum_term (sum_at reading ts)

-- the term of the product in front of tokens
unfoldable pub product_read : List grammar.Numbered → Answer Term
product_read ts = answer_map product_term (product_at reading ts)

-- the term of the part in front of tokens
unfoldable pub part_read : List grammar.Numbered → Answer Term
part_read ts = answer_map part_term (part_at reading ts)

-- the term of the primary in front of tokens
unfoldable pub primary_read : List grammar.Numbered → Answer Term
primary_read ts = answer_map primary_term (primary_at reading ts)

-- the terms of the expressions in front of tokens, parted by commas
unfoldable pub series_read : List grammar.Numbered → Answer (List Term)
series_read ts = answer_map (λ s. list_of (series_terms s)) (series_at reading ts)

-- the term of what stands after a name of a level
abbrev pub operand_read : Level → List grammar.Numbered → Answer Term
operand_read Relations = sum_read
operand_read Sums = product_read
operand_read Products = part_read

-- the structure of a built-in name and the terms on both of its sides
abbrev pub operation : Term → BuiltIn → Term → Term
operation a name b = pair (text_of name) a b

-- a term with what stands to its left
abbrev pub joined : Option (BuiltIn × Term) → Term → Term
joined None t = t
joined (Some before) t = operation before.1 before.0 t

-- the term of what was read and of the operands after it, each after an operator of a level
abbrev pub grouped_read : Level → Term → List grammar.Numbered → Answer Term
grouped_read level t ts = grouped_at (infix_in_front level) (operand_read level) operation t ts

-- what goes on with a term that was read, and with the tokens after it
abbrev pub Going : Type 0
Going = Term → List grammar.Numbered → Answer (List Term)

-- goes on with a sum, or, if a relation was read, with the structure of it and the sum after
abbrev pub after_relation : Going → Term → List grammar.Numbered → Answer BuiltIn → Answer (List Term)
after_relation k s ts None = k s ts
after_relation k s ts (Some r) = then_read (operand_read Relations r.1) (λ q us. k (operation s r.0 q) us)

-- goes on with a sum after what stands to the left of a relation, or perhaps with a relation
abbrev pub after_sum : Option (BuiltIn × Term) → Going → Going
after_sum None k s ts = after_relation k s ts (infix_in_front Relations ts)
after_sum (Some before) k s ts = k (operation before.1 before.0 s) ts

-- goes on with an operand after what stands to its left, and with the operators of its level that follow
abbrev pub after_operand : Level → Option (BuiltIn × Term) → Going → Going
after_operand level left k t ts = then_read (grouped_read level (joined left t) ts) k

-- goes on with a product after what stands to its left
abbrev pub after_product : Option (BuiltIn × Term) → Option (BuiltIn × Term) → Going → Going
after_product relation sum k = after_operand Sums sum (after_sum relation k)

-- goes on with a part after what stands to its left
abbrev pub after_part : Option (BuiltIn × Term) → Option (BuiltIn × Term) → Option (BuiltIn × Term) → Going → Going
after_part relation sum product k = after_operand Products product (after_product relation sum k)

-- goes on with a primary after what stands to the left of a colon, or perhaps with a colon
abbrev pub after_colon : Option Term → Going → Going
after_colon None k p ts = if_there (behind_colon ts) (k p ts) (λ us. then_read (primary_read us) (λ q vs. k (pair (codes ":") p q) vs))
after_colon (Some m) k p ts = k (pair (codes ":") m p) ts

-- goes on with a primary after what stands to its left
abbrev pub after_primary : Left → Going → Going
after_primary left k = after_colon left.colon (after_part left.relation left.sum left.product k)

-- goes on after the elements of a list
abbrev pub after_elements : Going → List Term → List grammar.Numbered → Answer (List Term)
after_elements k es ts = if_there (behind_bar ts) (then_skip (behind_close_list ts) (λ us. k (cells (terms_of es) nil) us)) (λ us. then_read (expression_read us) (λ t vs. then_skip (behind_close_list vs) (λ ws. k (cells (terms_of es) t) ws)))

-- goes on after arguments
abbrev pub after_arguments : List ℕ → Going → List Term → List grammar.Numbered → Answer (List Term)
after_arguments f k es ts = then_skip (behind_close ts) (λ us. k (structure f (terms_of es)) us)

-- goes on after an expression in what was opened
abbrev pub after_opened : Opened → Going → Going
after_opened Group k e ts = then_skip (behind_close ts) (λ us. k e us)
after_opened (Arguments f before) k e ts = if_there (behind_comma ts) (after_arguments f.now k (before.items ++ e ∷ []) ts) (λ us. then_read (series_read us) (λ s vs. after_arguments f.now k (before.items ++ e ∷ s) vs))
after_opened (Elements before) k e ts = if_there (behind_comma ts) (after_elements k (before.items ++ e ∷ []) ts) (λ us. then_read (series_read us) (λ s vs. after_elements k (before.items ++ e ∷ s) vs))
after_opened (Tail elements) k e ts = then_skip (behind_close_list ts) (λ us. k (cells (terms_of elements.items) e) us)

-- goes on after an expression among others that are parted by commas, after these
abbrev pub after_last : List Term → Going
after_last done e ts = if_there (behind_comma ts) (Some (done ++ e ∷ [], ts)) (λ us. then_read (series_read us) (λ s vs. Some (done ++ e ∷ s, vs)))

-- goes on after an expression, if these were opened, the last one first
abbrev pub after_expression : List Frame → List Term → Going
after_expression [] done = after_last done
after_expression (f ∷ fs) done = after_opened (opened_of f) (after_primary (left_of f) (after_expression fs done))

-- reads an expression in what was opened, and goes on
abbrev pub open_then : Opened → Going → List grammar.Numbered → Answer (List Term)
open_then opened k ts = then_read (expression_read ts) (after_opened opened k)

-- reads a primary, and goes on
abbrev pub primary_then : Left → Going → List grammar.Numbered → Answer (List Term)
primary_then left k ts = then_read (primary_read ts) (after_primary left k)

-- terms that a text can write, with what is after them
abbrev pub fit : Answer (List Term) → Answer (List Term)
fit None = None
fit (Some r) = if list_all is_writable r.0 then Some r else None

-- nothing comes of a term that no text can write
abbrev pub Dooms : Going → Type 0
Dooms k = (t : Term) (ts : List grammar.Numbered) → is_writable t ≡ false → fit (k t ts) ≡ None
