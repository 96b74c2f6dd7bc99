-- What holds of no clauses, and of clauses with one more that may follow them, holds of the clauses of a module that was read.
use Rattle.std.specs.Prelude.{◌≡◌, ℕ, ◌&&◌, Bool, true, false, if◌then◌else◌, List, [], ◌∷◌, ◌++◌, Option, Some, None, is_some, is_none, option_and_then}
use Rattle.std.proofs.Common.{refl, subst}
use Rattle.std.proofs.lemmas.Option.{cond_some, option_and_then_some}
use Rattle.kl1_model.specs.Token.{Token}
use Rattle.kl1_model.specs.Module.{Clause, Module, Reading, good, bad, Item, named_module, clause_of, last_of, may_follow, section_after, with_clause, is_otherwise, clauses_from, module_of_items}

goods : {A : Type 0} (a b : A) → good a ≡ good b → a ≡ b
goods a b h = cc

module _ (m : List ℕ) (P : List Clause → Type 0) (step : (before : List Clause) (opens : Bool) (ts : List (Token (List ℕ))) (c : Clause) → P before → clause_of m ts ≡ Some c → may_follow before opens c ≡ true → P (before ++ record c { section = section_after before opens c } ∷ [])) where
  -- the clauses after an `otherwise` that is good
  otherwise_keeps : (b : Bool) (line : ℕ) (rest : Reading (List Clause)) (cs : List Clause) → (if b then rest else bad line) ≡ good cs → (rest ≡ good cs → P cs) → P cs
  otherwise_keeps true line rest cs h go = go h
  otherwise_keeps false line rest cs h go = cc

  -- the clauses with one more, if it is good
  clause_keeps : (before : List Clause) (opens : Bool) (tokens : Option (List (Token (List ℕ)))) (now : List Clause) → option_and_then (with_clause before opens) (option_and_then (clause_of m) tokens) ≡ Some now → P before → P now
  clause_keeps before opens tokens now h p =
      option_and_then_some (with_clause before opens) (option_and_then (clause_of m) tokens) now h (λ c is put.
      option_and_then_some (clause_of m) tokens c is (λ ts there means.
      let placed = cond_some (may_follow before opens c) (before ++ record c { section = section_after before opens c } ∷ []) now put in
      subst P placed.1 (step before opens ts c p means placed.0)))

  by_clause : (line : ℕ) (x : Option (List Clause)) (items : List Item) (cs : List Clause) → (let r : Reading (List Clause) = elim x [ None ↦ bad line | Some now ↦ clauses_from m now None items ] in r) ≡ good cs → ((now : List Clause) → x ≡ Some now → clauses_from m now None items ≡ good cs → P cs) → P cs
  by_clause line None items cs h go = cc
  by_clause line (Some now) items cs h go = go now refl h

  by_item : (item : Item) (items : List Item) (before cs : List Clause) (opened : Option ℕ) (x : Bool) → ((now : List Clause) (next : Option ℕ) → clauses_from m now next items ≡ good cs → P now → P cs) →
      (let r : Reading (List Clause) = elim x [
        | true ↦ if is_some (last_of before) && is_none opened then clauses_from m before (Some item.line) items else bad item.line
        | false ↦
            elim (option_and_then (with_clause before (is_some opened)) (option_and_then (clause_of m) item.tokens)) [
              | None ↦ bad item.line
              | Some now ↦ clauses_from m now None items
            ]
      ] in r) ≡ good cs → P before → P cs
  by_item item items before cs opened true go h p =
      otherwise_keeps (is_some (last_of before) && is_none opened) item.line (clauses_from m before (Some item.line) items) cs h (λ rest. go before (Some item.line) rest p)
  by_item item items before cs opened false go h p =
      by_clause item.line (option_and_then (with_clause before (is_some opened)) (option_and_then (clause_of m) item.tokens)) items cs h (λ now is rest.
      go now None rest (clause_keeps before (is_some opened) item.tokens now is p))

  pub clauses_keep : (items : List Item) (before cs : List Clause) (opened : Option ℕ) → clauses_from m before opened items ≡ good cs → P before → P cs
  clauses_keep [] before cs None h p = subst P (goods before cs h) p
  clauses_keep [] before cs (Some line) h p = cc
  clauses_keep (item ∷ items) before cs opened h p = by_item item items before cs opened (is_otherwise item.tokens) (λ now next rest q. clauses_keep items now cs next rest q) h p

-- the items of a module that was read: the first names it, and the others are its clauses
pub record ItemsRead (items : List Item) (m : Module) : Type 0 where
  pub item : Item
  pub others : List Item
  pub all : items ≡ item ∷ others
  pub named : option_and_then named_module item.tokens ≡ Some m.name
  pub clauses : clauses_from m.name [] None others ≡ good m.clauses

module _ (source : List ℕ) (item : Item) (items : List Item) (m : Module) where
  by_clauses : (name : List ℕ) (x : Reading (List Clause)) → option_and_then named_module item.tokens ≡ Some name → clauses_from name [] None items ≡ x → (let r : Reading Module = elim x [ bad line ↦ bad line | good clauses ↦ good (record { name = name; source = source; clauses = clauses }) ] in r) ≡ good m → ItemsRead (item ∷ items) m
  by_clauses name (bad line) named is h = cc
  by_clauses name (good cs) named is h =
      let whole : Module = record { name = name; source = source; clauses = cs } in
      let same : whole ≡ m = goods whole m h in
      subst (ItemsRead (item ∷ items)) same (record { item = item; others = items; all = refl; named = named; clauses = is })

  by_name : (x : Option (List ℕ)) → option_and_then named_module item.tokens ≡ x → (let r : Reading Module = elim x [
    | None ↦ bad item.line
    | Some name ↦ elim (clauses_from name [] None items) [ bad line ↦ bad line | good clauses ↦ good (record { name = name; source = source; clauses = clauses }) ]
  ] in r) ≡ good m → ItemsRead (item ∷ items) m
  by_name None named h = cc
  by_name (Some name) named h = by_clauses name (clauses_from name [] None items) named refl h

pub items_read : (source : List ℕ) (items : List Item) (m : Module) → module_of_items source items ≡ good m → ItemsRead items m
items_read source [] m h = cc
items_read source (item ∷ items) m h = by_name source item items m (option_and_then named_module item.tokens) refl h
