-- Clauses of one predicate among those that were read, and their sections.
use Rattle.std.specs.Prelude.{ℕ, ◌==◌, ◌&&◌, Bool, if◌then◌else◌, List, [], ◌∷◌, length, bytes_eq, Option, Some, None, option_map, option_and_then, is_some, is_none}
use Rattle.std.specs.List.{list_any}
use Rattle.kl1_model.specs.Token.{Token}
use Rattle.kl1_model.specs.Module.{Clause, Reading, good, bad, last_of, may_follow, section_after, is_otherwise, with_clause, clause_of}
use Rattle.kl1_read.specs.declared.clause_parts.ClauseParts.{ClauseParts}

-- whether a clause is one of a predicate
abbrev pub is_one_of : List ℕ → ℕ → ClauseParts → Bool
is_one_of name count p = bytes_eq p.name name && length p.patterns.items == count

-- the section of the last of clauses, if it is one of a predicate
abbrev pub section_within : List ℕ → ℕ → List ClauseParts → Option ℕ
section_within name count [] = None
section_within name count (p ∷ []) = if is_one_of name count p then Some p.section else None
section_within name count (p ∷ q ∷ ps) = section_within name count (q ∷ ps)

-- whether one of clauses is one of a predicate
abbrev pub holds : List ℕ → ℕ → List ClauseParts → Bool
holds name count ps = list_any (is_one_of name count) ps

-- the section of the last of clauses, 0 if there is none
abbrev pub last_section : List ClauseParts → ℕ
last_section [] = 0
last_section (p ∷ []) = p.section
last_section (p ∷ q ∷ ps) = last_section (q ∷ ps)

-- the section of a clause that may follow these, directly after an `otherwise` or not
abbrev pub section_for : List Clause → Bool → Clause → Option ℕ
section_for before behind c = if may_follow before behind c then Some (section_after before behind c) else None

-- clauses, and the line of an `otherwise` directly after them, if one stands there
abbrev pub Standing : Type 0
Standing = List Clause × Option ℕ

-- the line of an `otherwise` that stands directly after a clause, and not after another `otherwise`
abbrev pub otherwise_on : ℕ → List Clause → Option ℕ → Option ℕ
otherwise_on line before opened = if is_some (last_of before) && is_none opened then Some line else None

-- the clauses before the end of the items; an `otherwise` on a line with no clause after it is bad
abbrev pub clauses_ended : List Clause → Option ℕ → Reading (List Clause)
clauses_ended before opened = elim opened [ None ↦ good before | Some line ↦ bad line ]

-- what stands after an item with these tokens, if it is good
abbrev pub standing_behind : List ℕ → Standing → ℕ → List (Token (List ℕ)) → Option Standing
standing_behind m s line ts =
    if is_otherwise (Some ts)
    then option_map (λ here. (s.0, Some here)) (otherwise_on line s.0 s.1)
    else option_map (λ now. (now, None)) (option_and_then (with_clause s.0 (is_some s.1)) (clause_of m ts))
