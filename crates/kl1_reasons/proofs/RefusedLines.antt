-- A line that the reader names is one of the text.
use Rattle.std.specs.Prelude.{◌≡◌, ℕ, suc, ◌+◌, ◌≤◌, ◌&&◌, Bool, true, false, if◌then◌else◌, List, [], ◌∷◌, ◌++◌, length, take, drop, codes, Option, Some, None, is_some, is_none, option_and_then}
use Rattle.std.proofs.Common.{refl, ap, subst, arith}
use Rattle.kl1_model.specs.Token.{tokens_of_text}
use Rattle.kl1_model.specs.Module.{Clause, Module, Reading, good, bad, Item, named_module, clause_of, last_of, with_clause, is_otherwise, items_of, clauses_from, module_of_items, read_module}
use Rattle.kl1_reasons_items.specs.Places.{HasLine}
use Rattle.kl1_reasons_items.specs.Places.{first_place}
use Rattle.kl1_reasons.specs.Reasons.{line_feeds, text_from}
use Rattle.kl1_reasons.proofs.Feeds.{feeds, line_behind, feeds_append, feeds_filtered, feeds_split}
use Rattle.kl1_reasons.proofs.TokenLines.{IsBetween, IsOneBetween, ItemsBetween, tokens_on_lines, items_on_lines}

-- what has a fault on a line
abbrev bad_on : (A : Type 0) → ℕ → Reading A
bad_on A line = bad line

bads : {A : Type 0} (m n : ℕ) → bad_on A m ≡ bad_on A n → m ≡ n
bads m n h = cc

module _ (m : List ℕ) (low high fault : ℕ) where
  named : (line : ℕ) → IsBetween low high line → bad_on (List Clause) line ≡ bad_on (List Clause) fault → IsBetween low high fault
  named line h is = subst (IsBetween low high) (bads line fault is) h

  after_otherwise : (b : Bool) (line : ℕ) (rest : Reading (List Clause)) → (if b then rest else bad line) ≡ bad fault → IsBetween low high line → (rest ≡ bad fault → IsBetween low high fault) → IsBetween low high fault
  after_otherwise true line rest is h go = go is
  after_otherwise false line rest is h go = named line h is

  by_clause : (line : ℕ) (x : Option (List Clause)) (items : List Item) → (let r : Reading (List Clause) = elim x [ None ↦ bad line | Some now ↦ clauses_from m now None items ] in r) ≡ bad fault → IsBetween low high line → ((now : List Clause) → clauses_from m now None items ≡ bad fault → IsBetween low high fault) → IsBetween low high fault
  by_clause line None items is h go = named line h is
  by_clause line (Some now) items is h go = go now is

  by_item : (item : Item) (items : List Item) (before : List Clause) (opened : Option ℕ) (x : Bool) → IsBetween low high item.line → ((now : List Clause) (next : Option ℕ) → IsOneBetween low high next → clauses_from m now next items ≡ bad fault → IsBetween low high fault) →
      (let r : Reading (List Clause) = elim x [
        | true ↦ if is_some (last_of before) && is_none opened then clauses_from m before (Some item.line) items else bad item.line
        | false ↦
            elim (option_and_then (with_clause before (is_some opened)) (option_and_then (clause_of m) item.tokens)) [
              | None ↦ bad item.line
              | Some now ↦ clauses_from m now None items
            ]
      ] in r) ≡ bad fault → IsBetween low high fault
  by_item item items before opened true h go is = after_otherwise (is_some (last_of before) && is_none opened) item.line (clauses_from m before (Some item.line) items) is h (λ rest. go before (Some item.line) h rest)
  by_item item items before opened false h go is = by_clause item.line (option_and_then (with_clause before (is_some opened)) (option_and_then (clause_of m) item.tokens)) items is h (λ now rest. go now None tt rest)

  clauses_on_lines : (items : List Item) (before : List Clause) (opened : Option ℕ) → ItemsBetween low high items → IsOneBetween low high opened → clauses_from m before opened items ≡ bad fault → IsBetween low high fault
  clauses_on_lines [] before None h j is = cc
  clauses_on_lines [] before (Some line) h j is = named line j is
  clauses_on_lines (item ∷ items) before opened h j is = by_item item items before opened (is_otherwise item.tokens) h.0 (λ now next k rest. clauses_on_lines items now next h.1 k rest) is

module _ (source : List ℕ) (high fault : ℕ) where
  by_clauses : (name : List ℕ) (x : Reading (List Clause)) → (let r : Reading Module = elim x [ bad line ↦ bad line | good clauses ↦ good (record { name = name; source = source; clauses = clauses }) ] in r) ≡ bad fault → (x ≡ bad fault → IsBetween 1 high fault) → IsBetween 1 high fault
  by_clauses name (bad line) is go = go (ap bad (bads line fault is))
  by_clauses name (good cs) is go = cc

  by_name : (item : Item) (items : List Item) (x : Option (List ℕ)) → IsBetween 1 high item.line → ItemsBetween 1 high items → (let r : Reading Module = elim x [
    | None ↦ bad item.line
    | Some name ↦ elim (clauses_from name [] None items) [ bad line ↦ bad line | good clauses ↦ good (record { name = name; source = source; clauses = clauses }) ]
  ] in r) ≡ bad fault → IsBetween 1 high fault
  by_name item items None h j is = subst (IsBetween 1 high) (bads item.line fault is) h
  by_name item items (Some name) h j is = by_clauses name (clauses_from name [] None items) is (λ rest. clauses_on_lines name 1 high fault items [] None j tt rest)

  items_fault : (items : List Item) → 1 ≤ high → ItemsBetween 1 high items → module_of_items source items ≡ bad fault → IsBetween 1 high fault
  items_fault [] some h is = subst (IsBetween 1 high) (bads 1 fault is) (omega arith, some)
  items_fault (item ∷ items) some h is = by_name item items (option_and_then named_module item.tokens) h.0 h.1 is

-- the lines of a whole text
text_items : (bs : List ℕ) → ItemsBetween 1 (1 + feeds bs) (items_of (tokens_of_text bs))
text_items bs = let ts = tokens_on_lines (suc (length bs)) 1 bs in items_on_lines 1 (1 + feeds bs) _ _ None [] ts.0 ts.1 tt

-- the line that the reader names of a text is one of its lines
module_fault : (bs : List ℕ) (line : ℕ) → read_module bs ≡ bad line → IsBetween 1 (1 + feeds bs) line
module_fault bs line is = items_fault bs (1 + feeds bs) line (items_of (tokens_of_text bs)) (omega arith) (text_items bs) is

-- a text whose front is given up has the lines of the whole
front_lines : (text : List ℕ) (front : Option ℕ) → feeds (text_from text front) ≡ feeds text
front_lines text None = refl
front_lines text (Some k) =
    let one = feeds_append (codes ":- module m.") (line_feeds (take k text) ++ drop k text) in
    let none : feeds (codes ":- module m.") ≡ 0 = refl in
    let two = feeds_append (line_feeds (take k text)) (drop k text) in
    let three = feeds_filtered (take k text) in
    let four = feeds_split k text in
    omega (arith, one, none, two, three, four)

-- a line that the reader names of what is left of a text is a line of the text
pub refused_has_line : (text : List ℕ) (front : Option ℕ) (line : ℕ) → read_module (text_from text front) ≡ bad line → HasLine text line
refused_has_line text front line is =
    let found = module_fault (text_from text front) line is in
    let lines = line_behind first_place text in
    let same = front_lines text front in
    (found.0, omega (arith, found.1, lines, same))
