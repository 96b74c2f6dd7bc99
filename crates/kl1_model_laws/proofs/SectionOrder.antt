-- Sections of clauses that were read stand in order.
use Rattle.std.proofs.Common.{◌≡◌, ℕ, suc, ◌≤◌, ◌==◌, ◌⊎◌, inl, inr, Bool, true, false, ◌&&◌, ◌||◌, not, if◌then◌else◌, List, [], ◌∷◌, ◌++◌, length, filter, Option, Some, None, bytes_eq, nat_lt, refl, sym, ap, ap₂, subst, ◌∙◌, append-nil, arith}
use Rattle.std.specs.Prelude.{nat_le, option_map, unwrap_or}
use Rattle.std.specs.List.{list_any}
use Rattle.std.proofs.lemmas.List.Elements.{filter-append}
use Rattle.std.proofs.lemmas.Bool.{and_parts, and_from, le-leb, eqb-true}
use Rattle.std.proofs.lemmas.Slice.Eq.{bytes_eq-Decides}
use Rattle.std.proofs.lemmas.Option.{same_Some, none-some}
use Rattle.kl1_model.specs.Term.{count_of}
use Rattle.kl1_model.specs.Token.{tokens_of_text}
use Rattle.kl1_model.specs.laws.WaitsLaws.{are_in_order}
use Rattle.kl1_model.specs.Module.{Clause, items_of, is_of, last_of, may_follow, continues, section_after}
use Rattle.kl1_model.specs.declared.limits.TheConstants.{MOST_CLAUSES}
use Rattle.kl1_model.proofs.OpenSections.{candidates_are_open}
use Rattle.kl1_model.proofs.ReadItems.{clauses_keep, items_read}
use Rattle.kl1_model_laws.specs.SectionLaws.{SectionsAreInOrder, CandidatesOfModulesAreOpen}

-- a clause after others whose last section isn't above its own
order_add : (cs : List Clause) (d : Clause) → are_in_order cs ≡ true → ((e : Clause) → last_of cs ≡ Some e → e.section ≤ d.section) → are_in_order (cs ++ d ∷ []) ≡ true
order_add [] d h le = refl
order_add (c ∷ []) d h le = and_from (nat_le c.section d.section) true (le-leb c.section d.section (le c refl)) refl
order_add (b ∷ c ∷ cs) d h le =
    let parts = and_parts (nat_le b.section c.section) (are_in_order (c ∷ cs)) h in
    and_from (nat_le b.section c.section) (are_in_order (c ∷ cs ++ d ∷ [])) parts.0 (order_add (c ∷ cs) d parts.1 le)

last_more : (c : Clause) (cs : List Clause) (e : Clause) → last_of cs ≡ Some e → last_of (c ∷ cs) ≡ Some e
last_more c [] e h = absurd (none-some e h)
last_more c (b ∷ cs) e h = h

last_by : (test : Clause → Bool) (c : Clause) (cs : List Clause) (e : Clause) (b : Bool) → last_of cs ≡ Some e → last_of (if b then c ∷ cs else cs) ≡ Some e
last_by test c cs e true h = last_more c cs e h
last_by test c cs e false h = h

-- the last of clauses is the last of those that pass a test, if it passes
last_kept : (test : Clause → Bool) (cs : List Clause) (e : Clause) → last_of cs ≡ Some e → test e ≡ true → last_of (filter test cs) ≡ Some e
last_kept test [] e h passes = absurd (none-some e h)
last_kept test (c ∷ []) e h passes =
    let same : c ≡ e = same_Some c e h in
    ap (λ (b : Bool). last_of (if b then c ∷ [] else [])) (ap test same ∙ passes) ∙ h
last_kept test (c ∷ d ∷ cs) e h passes = last_by test c (filter test (d ∷ cs)) e (test c) (last_kept test (d ∷ cs) e h passes)

filter_none : (test : Clause → Bool) (cs : List Clause) → list_any test cs ≡ false → filter test cs ≡ []
filter_none test [] h = refl
filter_none test (c ∷ cs) h =
    let parts = or_parts (test c) (list_any test cs) h in
    ap (λ (b : Bool). if b then c ∷ filter test cs else filter test cs) parts.0 ∙ filter_none test cs parts.1
  where
    or_parts : (a b : Bool) → a || b ≡ false → (a ≡ false) × (b ≡ false)
    or_parts true b h = cc
    or_parts false b h = (refl, h)

-- the section of a clause by the last clause before it
abbrev section_by : Bool → Option Clause → Bool → ℕ
section_by opens o goes =
    let last = unwrap_or (option_map (λ (d : Clause). d.section) o) 0 in
    if goes then (if opens then suc last else last) else 0

section_rises : (opens : Bool) (n : ℕ) → n ≤ (if opens then suc n else n)
section_rises true n = omega arith
section_rises false n = omega arith

section_not_below : (before : List Clause) (opens : Bool) (c e : Clause) → last_of before ≡ Some e → continues before c ≡ true → e.section ≤ section_after before opens c
section_not_below before opens c e last goes =
    let is : section_after before opens c ≡ section_by opens (Some e) true = ap₂ (section_by opens) last goes in
    subst (λ (n : ℕ). e.section ≤ n) (sym is) (section_rises opens e.section)

either : (a opens b : Bool) → a || not opens && not b ≡ true → (a ≡ true) ⊎ (b ≡ false)
either true opens b h = inl refl
either false true b h = cc
either false false true h = cc
either false false false h = inr refl

abbrev goes_on : List Clause → Bool → List ℕ → ℕ → Bool
goes_on cs opens name count = unwrap_or (option_map (is_of name count) (last_of cs)) false || not opens && not (list_any (is_of name count) cs)

last_passes : (test : Clause → Bool) (o : Option Clause) → unwrap_or (option_map test o) false ≡ true → (e : Clause) → o ≡ Some e → test e ≡ true
last_passes test None h e is = cc
last_passes test (Some d) h e is = ap test (sym (same_Some d e is)) ∙ h

last_there : (test : Clause → Bool) (o : Option Clause) → unwrap_or (option_map test o) false ≡ true → (e : Clause) × (o ≡ Some e)
last_there test None h = cc
last_there test (Some d) h = (d, refl)

module _ (name : List ℕ) (count : ℕ) where
  -- the clauses of the predicate stand in order
  abbrev InOrder : List Clause → Type 0
  InOrder cs = are_in_order (filter (is_of name count) cs) ≡ true

  add : (before : List Clause) (opens : Bool) (c : Clause) (passes : Bool) → is_of name count c ≡ passes → InOrder before → may_follow before opens c ≡ true → are_in_order (filter (is_of name count) before ++ (if passes then (record c { section = section_after before opens c }) ∷ [] else [])) ≡ true
  add before opens c false is p h = ap are_in_order (append-nil (filter (is_of name count) before)) ∙ p
  add before opens c true is p h =
      let own = and_parts (bytes_eq c.name name) (count_of c.patterns == count) is in
      let name_is : c.name ≡ name = (bytes_eq-Decides c.name name).0 own.0 in
      let count_is : count_of c.patterns ≡ count = eqb-true (count_of c.patterns) count own.1 in
      let asked : goes_on before opens c.name (count_of c.patterns) ≡ true = (and_parts (nat_lt (length before) MOST_CLAUSES) (goes_on before opens c.name (count_of c.patterns)) h).1 in
      let goes : goes_on before opens name count ≡ true = sym (ap (λ (n : List ℕ). goes_on before opens n (count_of c.patterns)) name_is ∙ ap (goes_on before opens name) count_is) ∙ asked in
      let same : continues before c ≡ unwrap_or (option_map (is_of name count) (last_of before)) false = ap (λ (n : List ℕ). unwrap_or (option_map (is_of n (count_of c.patterns)) (last_of before)) false) name_is ∙ ap (λ (k : ℕ). unwrap_or (option_map (is_of name k) (last_of before)) false) count_is in
      let d : Clause = record c { section = section_after before opens c } in
      elim (either (unwrap_or (option_map (is_of name count) (last_of before)) false) opens (list_any (is_of name count) before) goes) [
        | inl last ↦
            let there = last_there (is_of name count) (last_of before) last in
            let kept = last_kept (is_of name count) before there.0 there.1 (last_passes (is_of name count) (last_of before) last there.0 there.1) in
            order_add (filter (is_of name count) before) d p (λ e is_last.
            let e_is : there.0 ≡ e = same_Some there.0 e (sym kept ∙ is_last) in
            subst (λ (x : Clause). x.section ≤ d.section) e_is (section_not_below before opens c there.0 there.1 (same ∙ last)))
        | inr none ↦ ap (λ (cs : List Clause). are_in_order (cs ++ d ∷ [])) (filter_none (is_of name count) before none)
      ]

  added_in_order : (before : List Clause) (opens : Bool) (c : Clause) → InOrder before → may_follow before opens c ≡ true → InOrder (before ++ record c { section = section_after before opens c } ∷ [])
  added_in_order before opens c p h =
      ap are_in_order (filter-append (is_of name count) before (record c { section = section_after before opens c } ∷ []))
      ∙ add before opens c (is_of name count c) refl p h

pub sections_are_in_order : SectionsAreInOrder
sections_are_in_order source name count m h =
    let read = items_read source (items_of (tokens_of_text source)) m h in
    clauses_keep m.name (InOrder name count) (λ before opens ts c p is may. added_in_order name count before opens c p may) read.others [] m.clauses None read.clauses refl

pub candidates_of_modules_are_open : CandidatesOfModulesAreOpen
candidates_of_modules_are_open source name count m n ts h = candidates_are_open n (filter (is_of name count) m.clauses) ts (sections_are_in_order source name count m h)
