-- Clauses that follow others, and their sections.
use Rattle.std.proofs.Common.{◌≡◌, ℕ, zero, suc, ◌+◌, ◌≤◌, ◌==◌, nat_lt, ◌&&◌, ◌||◌, not, if◌then◌else◌, Bool, true, false, List, [], ◌∷◌, ◌++◌, length, map, get_or, bytes_eq, Option, Some, None, is_some, unwrap_or, option_map, option_and_then, refl, ap, sym, ◌∙◌, subst, arith}
use Rattle.std.specs.Prelude.{is_none}
use Rattle.std.specs.List.{list_any}
use Rattle.std.proofs.lemmas.Bool.{false≢true, true≢false, ltb-true}
use Rattle.std.proofs.lemmas.List.{map-append, length-append}
use Rattle.std.proofs.lemmas.Option.{none-some, same_Some}
use Rattle.kl1_model.specs.declared.limits.TheConstants.{MOST_CLAUSES}
use Rattle.kl1_model.specs.Term.{Term, terms_of, count_of}
use Rattle.kl1_model.specs.Token.{Token}
use Rattle.kl1_model.specs.Module.{Clause, Reading, bad, Item, is_of, last_of, continues, may_follow, section_after, with_clause, is_otherwise, clause_of, clauses_from}
use Rattle.kl1_read.specs.declared.clause_parts.ClauseParts.{ClauseParts}
use Rattle.kl1_read.specs.Sources.{clause_of_parts}
use Rattle.kl1_read.specs.Followings.{is_one_of, section_within, holds, last_section, section_for, Standing, otherwise_on, standing_behind}
use Rattle.kl1_read.specs.Statements.{given}

count_is : (ts : List Term) → count_of (terms_of ts) ≡ length ts
count_is [] = refl
count_is (t ∷ ts) = ap suc (count_is ts)

mapped : (ps : List ClauseParts) → length (map clause_of_parts ps) ≡ length ps
mapped [] = refl
mapped (p ∷ ps) = ap suc (mapped ps)

-- if the last of clauses is one of a predicate, its section, by its place
abbrev section_of_one : List ℕ → ℕ → ClauseParts → Option ℕ
section_of_one name count p = if is_one_of name count p then Some p.section else None

pub within_last : (name : List ℕ) (count : ℕ) (ps : List ClauseParts) (i : ℕ) (p : ClauseParts) → i + 1 ≡ length ps → p ≡ get_or ps i p → section_of_one name count p ≡ section_within name count ps
within_last name count [] i p h e = absurd (omega arith)
within_last name count (q ∷ []) zero p h e = ap (section_of_one name count) e
within_last name count (q ∷ []) (suc i) p h e = absurd (omega arith)
within_last name count (q ∷ r ∷ ps) zero p h e = absurd (omega arith)
within_last name count (q ∷ r ∷ ps) (suc i) p h e = within_last name count (r ∷ ps) i p (omega arith) e

-- a clause of a predicate is one by its parts
one_is : (name : List ℕ) (count : ℕ) (p : ClauseParts) → is_one_of name count p ≡ is_of name count (clause_of_parts p)
one_is name count p = ap (λ n. bytes_eq p.name name && (n == count)) (sym (count_is p.patterns.items))

any_is : (name : List ℕ) (count : ℕ) (ps : List ClauseParts) → holds name count ps ≡ list_any (is_of name count) (map clause_of_parts ps)
any_is name count [] = refl
any_is name count (p ∷ ps) = ap (λ b. b || holds name count ps) (one_is name count p) ∙ ap (λ b. is_of name count (clause_of_parts p) || b) (any_is name count ps)

-- whether the last of clauses is one of a predicate, and its section
abbrev goes_on : List ℕ → ℕ → List ClauseParts → Bool
goes_on name count ps = unwrap_or (option_map (is_of name count) (last_of (map clause_of_parts ps))) false

last_is : (ps : List ClauseParts) → unwrap_or (option_map (λ (d : Clause). d.section) (last_of (map clause_of_parts ps))) 0 ≡ last_section ps
last_is [] = refl
last_is (p ∷ []) = refl
last_is (p ∷ q ∷ ps) = last_is (q ∷ ps)

within_is : (name : List ℕ) (count : ℕ) (ps : List ClauseParts) → section_within name count ps ≡ (if goes_on name count ps then Some (last_section ps) else None)
within_is name count [] = refl
within_is name count (p ∷ []) = ap (λ b. if◌then◌else◌ {A = Option ℕ} b (Some p.section) None) (one_is name count p)
within_is name count (p ∷ q ∷ ps) = within_is name count (q ∷ ps)

-- the section by whether there is room, the clause goes on with the predicate of the last, and one of its predicate stands before
abbrev section_by : Bool → Bool → Bool → Bool → ℕ → Option ℕ
section_by room on behind held last = if room && (on || not behind && not held) then Some (if on then (if behind then suc last else last) else 0) else None

module _ (before : List ClauseParts) (behind : Bool) (c : ClauseParts) where
  sections_are : (count : ℕ) → count ≡ length c.patterns.items → section_by (nat_lt (length before) MOST_CLAUSES) (goes_on c.name count before) behind (holds c.name count before) (last_section before) ≡ section_for (map clause_of_parts before) behind (clause_of_parts c)
  sections_are count n =
      let one = c.name in
      let many = count_of (terms_of c.patterns.items) in
      let on = goes_on one many before in
      ap (λ k. section_by (nat_lt (length before) MOST_CLAUSES) (goes_on one k before) behind (holds one k before) (last_section before)) (n ∙ sym (count_is c.patterns.items))
      ∙ ap (λ k. section_by (nat_lt k MOST_CLAUSES) on behind (holds one many before) (last_section before)) (sym (mapped before))
      ∙ ap (λ h. section_by (nat_lt (length (map clause_of_parts before)) MOST_CLAUSES) on behind h (last_section before)) (any_is one many before)
      ∙ ap (section_by (nat_lt (length (map clause_of_parts before)) MOST_CLAUSES) on behind (list_any (is_of one many) (map clause_of_parts before))) (sym (last_is before))

  -- there is no room
  pub no_room : false ≡ nat_lt (length before) MOST_CLAUSES → None ≡ section_for (map clause_of_parts before) behind (clause_of_parts c)
  no_room full =
      ap (λ room. section_by room (goes_on c.name (length c.patterns.items) before) behind (holds c.name (length c.patterns.items) before) (last_section before)) full
      ∙ sections_are (length c.patterns.items) refl

  on_by : (on held : Bool) (last s : ℕ) → Some s ≡ (if◌then◌else◌ {A = Option ℕ} on (Some last) None) → Some (if behind then suc s else s) ≡ section_by true on behind held last
  on_by true held last s e = ap (λ n. Some (if behind then suc n else n)) (same_Some s last e)
  on_by false held last s e = absurd (none-some s (sym e))

  -- the last clause before is one of the same predicate
  pub follows_last : (count s : ℕ) → true ≡ nat_lt (length before) MOST_CLAUSES → count ≡ length c.patterns.items → Some s ≡ section_within c.name count before → Some (if behind then suc s else s) ≡ section_for (map clause_of_parts before) behind (clause_of_parts c)
  follows_last count s room n e =
      on_by (goes_on c.name count before) (holds c.name count before) (last_section before) s (e ∙ within_is c.name count before)
      ∙ ap (λ b. section_by b (goes_on c.name count before) behind (holds c.name count before) (last_section before)) room
      ∙ sections_are count n

  off_by : (on held : Bool) (last : ℕ) → None ≡ (if◌then◌else◌ {A = Option ℕ} on (Some last) None) → (if◌then◌else◌ {A = Option ℕ} (not behind && not held) (Some 0) None) ≡ section_by true on behind held last
  off_by true held last e = absurd (none-some last e)
  off_by false held last e = refl

  -- the last clause before is of another predicate
  pub follows_others : (count : ℕ) → true ≡ nat_lt (length before) MOST_CLAUSES → count ≡ length c.patterns.items → None ≡ section_within c.name count before → (if◌then◌else◌ {A = Option ℕ} (not behind && not (holds c.name count before)) (Some 0) None) ≡ section_for (map clause_of_parts before) behind (clause_of_parts c)
  follows_others count room n e =
      off_by (goes_on c.name count before) (holds c.name count before) (last_section before) (e ∙ within_is c.name count before)
      ∙ ap (λ b. section_by b (goes_on c.name count before) behind (holds c.name count before) (last_section before)) room
      ∙ sections_are count n

within_few : (on : Bool) (last s : ℕ) → Some s ≡ (if◌then◌else◌ {A = Option ℕ} on (Some last) None) → s ≡ last
within_few true last s e = same_Some s last e
within_few false last s e = absurd (none-some s (sym e))

-- a section more can be counted
pub section_few : (name : List ℕ) (count : ℕ) (before : List ClauseParts) (s : ℕ) → Some s ≡ section_within name count before → last_section before ≤ length before → true ≡ nat_lt (length before) MOST_CLAUSES → s ≤ MOST_CLAUSES
section_few name count before s e few room =
    let is : s ≡ last_section before = within_few (goes_on name count before) (last_section before) s (e ∙ within_is name count before) in
    let less = ltb-true (length before) MOST_CLAUSES (sym room) in
    omega (arith, is, few, less)

-- the section of a clause after others is that of the last clause
last_behind : (before : List ClauseParts) (p : ClauseParts) → last_section (before ++ p ∷ []) ≡ p.section
last_behind [] p = refl
last_behind (q ∷ []) p = refl
last_behind (q ∷ r ∷ ps) p = last_behind (r ∷ ps) p

after_by : (on behind : Bool) (last : ℕ) → (if on then (if behind then suc last else last) else 0) ≤ suc last
after_by true true last = omega arith
after_by true false last = omega arith
after_by false behind last = omega arith

chosen : (b : Bool) (s t : ℕ) → Some s ≡ (if◌then◌else◌ {A = Option ℕ} b (Some t) None) → (b ≡ true) × (s ≡ t)
chosen true s t e = (refl, same_Some s t e)
chosen false s t e = absurd (none-some s (sym e))

-- a clause that follows others has its section
module _ (before now : List ClauseParts) (behind : Bool) (c : ClauseParts) (s : ℕ) (e : Some s ≡ section_for (map clause_of_parts before) behind (clause_of_parts c)) (n : now ≡ before ++ record c { section = s } ∷ []) where
  abbrev put : Clause
  put = record (clause_of_parts c) { section = section_after (map clause_of_parts before) behind (clause_of_parts c) }

  abbrev there : (may_follow (map clause_of_parts before) behind (clause_of_parts c) ≡ true) × (s ≡ section_after (map clause_of_parts before) behind (clause_of_parts c))
  there = chosen (may_follow (map clause_of_parts before) behind (clause_of_parts c)) s (section_after (map clause_of_parts before) behind (clause_of_parts c)) e

  pub clause_put : (x : Option Clause) → Some (clause_of_parts c) ≡ x → Some (map clause_of_parts now) ≡ option_and_then (with_clause (map clause_of_parts before) behind) x
  clause_put x is =
      ap (λ (ps : List ClauseParts). Some (map clause_of_parts ps)) n
      ∙ ap (λ (cs : List Clause). Some cs) (map-append clause_of_parts before (record c { section = s } ∷ []))
      ∙ ap (λ k. Some (map clause_of_parts before ++ record (clause_of_parts c) { section = k } ∷ [])) there.1
      ∙ sym (ap (λ b. if◌then◌else◌ {A = Option (List Clause)} b (Some (map clause_of_parts before ++ put ∷ [])) None) there.0)
      ∙ ap (option_and_then (with_clause (map clause_of_parts before) behind)) is

  pub put_few : last_section before ≤ length before → last_section now ≤ length now
  put_few few =
      let last : last_section now ≡ s = ap last_section n ∙ last_behind before (record c { section = s }) in
      let within : section_after (map clause_of_parts before) behind (clause_of_parts c) ≤ suc (last_section before) =
      subst (λ k. section_after (map clause_of_parts before) behind (clause_of_parts c) ≤ suc k) (last_is before) (after_by (continues (map clause_of_parts before) (clause_of_parts c)) behind (unwrap_or (option_map (λ (d : Clause). d.section) (last_of (map clause_of_parts before))) 0)) in
      let more : length now ≡ length before + 1 = ap length n ∙ length-append before (record c { section = s } ∷ []) in
      omega (arith, last, within, more, few, there.1)

refused_by : (b : Bool) (now : List Clause) (s : ℕ) → None ≡ (if◌then◌else◌ {A = Option ℕ} b (Some s) None) → None ≡ (if◌then◌else◌ {A = Option (List Clause)} b (Some now) None)
refused_by true now s e = absurd (none-some s e)
refused_by false now s e = refl

-- a clause that may not follow others
pub clause_refused : (before : List Clause) (behind : Bool) (c : Clause) (x : Option Clause) → None ≡ section_for before behind c → Some c ≡ x → None ≡ option_and_then (with_clause before behind) x
clause_refused before behind c x e is = refused_by (may_follow before behind c) _ (section_after before behind c) e ∙ ap (option_and_then (with_clause before behind)) is

last_some : (p : ClauseParts) (ps : List ClauseParts) → is_some (last_of (map clause_of_parts (p ∷ ps))) ≡ true
last_some p [] = refl
last_some p (q ∷ ps) = last_some q ps

-- an `otherwise` after some clause
pub otherwise_stands : (line : ℕ) (before : List ClauseParts) (pending : Option ℕ) → 1 ≤ length before → pending ≡ None → Some line ≡ otherwise_on line (map clause_of_parts before) pending
otherwise_stands line [] pending some e = absurd (omega arith)
otherwise_stands line (p ∷ ps) pending some e =
    sym (ap (λ b. if◌then◌else◌ {A = Option ℕ} (b && true) (Some line) None) (last_some p ps))
    ∙ sym (ap (otherwise_on line (map clause_of_parts (p ∷ ps))) e)

standing_by : (m : List ℕ) (before : List Clause) (pending : Option ℕ) (line : ℕ) (ts : List (Token (List ℕ))) → true ≡ is_otherwise (Some ts) → option_map (λ here. (before, Some here)) (otherwise_on line before pending) ≡ standing_behind m (before, pending) line ts
standing_by m before pending line ts o = ap (λ b. if◌then◌else◌ {A = Option Standing} b (option_map (λ here. (before, Some here)) (otherwise_on line before pending)) (option_map (λ now. (now, None)) (option_and_then (with_clause before (is_some pending)) (clause_of m ts)))) o

-- what stands after an `otherwise`
pub standing_otherwise : (m : List ℕ) (before : List Clause) (pending now : Option ℕ) (line : ℕ) (ts : List (Token (List ℕ))) → true ≡ is_otherwise (Some ts) → now ≡ otherwise_on line before pending → given (is_some now) (before, now) ≡ standing_behind m (before, pending) line ts
standing_otherwise m before pending None line ts o e = ap (option_map (λ here. (before, Some here))) e ∙ standing_by m before pending line ts o
standing_otherwise m before pending (Some here) line ts o e = ap (option_map (λ here. (before, Some here))) e ∙ standing_by m before pending line ts o

-- the items after one that is good
module _ (m : List ℕ) (old : Standing) (line : ℕ) (ts : List (Token (List ℕ))) (items : List Item) where
  abbrev item : Item
  item = record { line = line; tokens = Some ts }

  abbrev then_items : Option Standing → Reading (List Clause)
  then_items None = bad line
  then_items (Some s) = clauses_from m s.0 s.1 items

  otherwise_goes : (b : Bool) → then_items (option_map (λ here. (old.0, Some here)) (if◌then◌else◌ {A = Option ℕ} b (Some line) None)) ≡ (if b then clauses_from m old.0 (Some line) items else bad line)
  otherwise_goes true = refl
  otherwise_goes false = refl

  clause_goes : (x : Option (List Clause)) → then_items (option_map (λ now. (now, None)) x) ≡ (let r : Reading (List Clause) = elim x [ None ↦ bad line | Some now ↦ clauses_from m now None items ] in r)
  clause_goes None = refl
  clause_goes (Some now) = refl

  item_by : (b : Bool) → then_items (if◌then◌else◌ {A = Option Standing} b (option_map (λ here. (old.0, Some here)) (otherwise_on line old.0 old.1)) (option_map (λ now. (now, None)) (option_and_then (with_clause old.0 (is_some old.1)) (clause_of m ts)))) ≡
      (let r : Reading (List Clause) = elim b [
        | true ↦ if is_some (last_of old.0) && is_none old.1 then clauses_from m old.0 (Some line) items else bad line
        | false ↦ elim (option_and_then (with_clause old.0 (is_some old.1)) (clause_of m ts)) [ None ↦ bad line | Some now ↦ clauses_from m now None items ]
      ] in r)
  item_by true = otherwise_goes (is_some (last_of old.0) && is_none old.1)
  item_by false = clause_goes (option_and_then (with_clause old.0 (is_some old.1)) (clause_of m ts))

  item_goes : (now : Standing) → Some now ≡ standing_behind m old line ts → clauses_from m now.0 now.1 items ≡ clauses_from m old.0 old.1 (item ∷ items)
  item_goes now e = ap then_items e ∙ item_by (is_otherwise (Some ts))

  item_stops : None ≡ standing_behind m old line ts → clauses_from m old.0 old.1 (item ∷ items) ≡ bad line
  item_stops e = sym (ap then_items e ∙ item_by (is_otherwise (Some ts)))

  -- the items after one, if an item put or refused is the first of those that are left
  pub items_go : (now : Standing) (put : Bool) (left : List Item) (all : Reading (List Clause)) → given put now ≡ standing_behind m old line ts → put ≡ true → item ∷ items ≡ left → clauses_from m old.0 old.1 left ≡ all → clauses_from m now.0 now.1 items ≡ all
  items_go now true left all e is l h = item_goes now e ∙ ap (clauses_from m old.0 old.1) l ∙ h
  items_go now false left all e is l h = absurd (false≢true is)

  pub items_stop : (now : Standing) (put : Bool) (left : List Item) (all : Reading (List Clause)) → given put now ≡ standing_behind m old line ts → put ≡ false → item ∷ items ≡ left → clauses_from m old.0 old.1 left ≡ all → all ≡ bad line
  items_stop now true left all e is l h = absurd (true≢false is)
  items_stop now false left all e is l h = sym (ap (clauses_from m old.0 old.1) l ∙ h) ∙ item_stops e
