-- The clauses of a module come of its tokens alone, on whatever lines they stand.
use Rattle.std.specs.Prelude.{◌≡◌, ℕ, Bool, true, false, ◌&&◌, not, if◌then◌else◌, List, [], ◌∷◌, ◌++◌, map, Option, Some, None, is_some, is_none, option_map, option_and_then}
use Rattle.std.proofs.Common.{refl, ap, sym, ◌∙◌}
use Rattle.std.proofs.lemmas.Option.{none-some, same_Some}
use Rattle.kl1_model.specs.Token.{Token, Placed, tokens_of_text}
use Rattle.kl1_model.specs.Module.{Clause, Reading, good, bad, Item, is_end, items_from, named_module, last_of, with_clause, clause_of, is_otherwise, clauses_from, module_of_items, bare_tokens}
use Rattle.kl1_layout.specs.Layouts.{unplaced, clauses_read, clauses_in}

-- what was read, if something was
abbrev pub if_good : {A : Type 0} → Reading A → Option A
if_good (good x) = Some x
if_good (bad line) = None

-- the tokens of each item, before which these tokens of the first stand if it has begun
abbrev pub spans : Bool → List (Token (List ℕ)) → List (Token (List ℕ)) → List (Option (List (Token (List ℕ))))
spans begun before [] = if begun then None ∷ [] else []
spans begun before (t ∷ ts) = elim (is_end t) [ true ↦ Some before ∷ spans false [] ts | false ↦ spans true (before ++ t ∷ []) ts ]

-- the tokens of items
abbrev pub tokens_of_items : List Item → List (Option (List (Token (List ℕ))))
tokens_of_items items = map (λ (i : Item). i.tokens) items

last_spans : (began : Option ℕ) (before : List (Token (List ℕ))) → tokens_of_items (items_from began before [] None) ≡ spans (is_some began) before []
last_spans None before = refl
last_spans (Some line) before = refl

span_case : (x : Bool) (line : ℕ) (before : List (Token (List ℕ))) (is js : List Item) (us vs : List (Option (List (Token (List ℕ))))) → tokens_of_items is ≡ us → tokens_of_items js ≡ vs → tokens_of_items (elim x [ true ↦ record { line = line; tokens = Some before } ∷ is | false ↦ js ]) ≡ (elim x [ true ↦ Some before ∷ us | false ↦ vs ])
span_case true line before is js us vs e d = ap (λ (xs : List (Option (List (Token (List ℕ))))). Some before ∷ xs) e
span_case false line before is js us vs e d = d

item_spans : (ps : List Placed) (began : Option ℕ) (before : List (Token (List ℕ))) → tokens_of_items (items_from began before ps None) ≡ spans (is_some began) before (bare_tokens ps)
item_spans [] began before = last_spans began before
item_spans (p ∷ ps) began before =
    span_case (is_end p.token) _ before _ _ (spans false [] (bare_tokens ps)) (spans true (before ++ p.token ∷ []) (bare_tokens ps)) (item_spans ps None []) (item_spans ps (Some _) (before ++ p.token ∷ []))

-- the clauses before and those of items with these tokens, if all are good; `opens` tells if an `otherwise` stands just before them
abbrev pub clauses_by : List ℕ → List Clause → Bool → List (Option (List (Token (List ℕ)))) → Option (List Clause)
clauses_by m before opens [] = if opens then None else Some before
clauses_by m before opens (ts ∷ others) =
    elim (is_otherwise ts) [
      | true ↦ if is_some (last_of before) && not opens then clauses_by m before true others else None
      | false ↦
          elim (option_and_then (with_clause before opens) (option_and_then (clause_of m) ts)) [
            | None ↦ None
            | Some now ↦ clauses_by m now false others
          ]
    ]

last_clauses : (m : List ℕ) (before : List Clause) (opened : Option ℕ) → if_good (clauses_from m before opened []) ≡ clauses_by m before (is_some opened) []
last_clauses m before None = refl
last_clauses m before (Some line) = refl

none_is_not_some : (o : Option ℕ) → is_none o ≡ not (is_some o)
none_is_not_some None = refl
none_is_not_some (Some line) = refl

if_case : (x : Bool) (line : ℕ) (r : Reading (List Clause)) (o : Option (List Clause)) → if_good r ≡ o → if_good (if x then r else bad line) ≡ (if x then o else None)
if_case true line r o e = e
if_case false line r o e = refl

found_case : (found : Option (List Clause)) (line : ℕ) (f : List Clause → Reading (List Clause)) (g : List Clause → Option (List Clause)) → ((now : List Clause) → if_good (f now) ≡ g now) → if_good (elim found [ None ↦ bad line | Some now ↦ f now ]) ≡ (elim found [ None ↦ None | Some now ↦ g now ])
found_case None line f g same = refl
found_case (Some now) line f g same = same now

otherwise_case : (x : Bool) (r q : Reading (List Clause)) (o u : Option (List Clause)) → if_good r ≡ o → if_good q ≡ u → if_good (elim x [ true ↦ r | false ↦ q ]) ≡ (elim x [ true ↦ o | false ↦ u ])
otherwise_case true r q o u e d = e
otherwise_case false r q o u e d = d

clauses_spans : (items : List Item) (m : List ℕ) (before : List Clause) (opened : Option ℕ) → if_good (clauses_from m before opened items) ≡ clauses_by m before (is_some opened) (tokens_of_items items)
clauses_spans [] m before opened = last_clauses m before opened
clauses_spans (item ∷ items) m before opened =
    otherwise_case (is_otherwise item.tokens) _ _ _ _
    (if_case (is_some (last_of before) && is_none opened) item.line _ _ (clauses_spans items m before (Some item.line))
    ∙ ap (λ (x : Bool). if is_some (last_of before) && x then clauses_by m before true (tokens_of_items items) else None) (none_is_not_some opened))
    (found_case (option_and_then (with_clause before (is_some opened)) (option_and_then (clause_of m) item.tokens)) item.line (λ now. clauses_from m now None items) (λ now. clauses_by m now false (tokens_of_items items)) (λ now. clauses_spans items m now None))

-- the name and the clauses of a module whose items have these tokens
abbrev pub module_by : List (Option (List (Token (List ℕ)))) → Option (List ℕ × List Clause)
module_by [] = None
module_by (ts ∷ others) = elim (option_and_then named_module ts) [ None ↦ None | Some name ↦ option_map (λ cs. (name, cs)) (clauses_by name [] false others) ]

read_case : (source name : List ℕ) (r : Reading (List Clause)) → clauses_read (elim r [ bad line ↦ bad line | good cs ↦ good (record { name = name; source = source; clauses = cs }) ]) ≡ option_map (λ cs. (name, cs)) (if_good r)
read_case source name (bad line) = refl
read_case source name (good cs) = refl

named_case : (named : Option (List ℕ)) (line : ℕ) (source : List ℕ) (items : List Item) → clauses_read (elim named [ None ↦ bad line | Some name ↦ elim (clauses_from name [] None items) [ bad l ↦ bad l | good cs ↦ good (record { name = name; source = source; clauses = cs }) ] ]) ≡ (elim named [ None ↦ None | Some name ↦ option_map (λ cs. (name, cs)) (clauses_by name [] false (tokens_of_items items)) ])
named_case None line source items = refl
named_case (Some name) line source items = read_case source name (clauses_from name [] None items) ∙ ap (option_map (λ cs. (name, cs))) (clauses_spans items name [] None)

module_spans : (source : List ℕ) (items : List Item) → clauses_read (module_of_items source items) ≡ module_by (tokens_of_items items)
module_spans source [] = refl
module_spans source (item ∷ items) = named_case (option_and_then named_module item.tokens) item.line source items

tokens_read : (source : List ℕ) (ps : List Placed) (broken_at : Option ℕ) (ts : List (Token (List ℕ))) → unplaced (record { placed = ps; broken_at = broken_at }) ≡ Some ts → clauses_read (module_of_items source (items_from None [] ps broken_at)) ≡ module_by (spans false [] ts)
tokens_read source ps None ts e = module_spans source (items_from None [] ps None) ∙ ap module_by (item_spans ps None []) ∙ ap (λ (us : List (Token (List ℕ))). module_by (spans false [] us)) (same_Some (bare_tokens ps) ts e)
tokens_read source ps (Some line) ts e = absurd (none-some ts e)

-- the clauses of a text that has tokens throughout come of them alone
clauses_by_tokens : (text : List ℕ) (ts : List (Token (List ℕ))) → unplaced (tokens_of_text text) ≡ Some ts → clauses_in text ≡ module_by (spans false [] ts)
clauses_by_tokens text ts e = tokens_read text (tokens_of_text text).placed (tokens_of_text text).broken_at ts e

-- so two texts with the same tokens are read alike
pub clauses_stay : (old new : List ℕ) (ts : List (Token (List ℕ))) → unplaced (tokens_of_text old) ≡ Some ts → unplaced (tokens_of_text new) ≡ Some ts → clauses_in new ≡ clauses_in old
clauses_stay old new ts e d = clauses_by_tokens new ts d ∙ sym (clauses_by_tokens old ts e)
