-- Clauses of a code, compiled one after another.
use Rattle.std.proofs.Common.{◌≡◌, ℕ, ◌+◌, ◌<◌, List, [], ◌∷◌, ◌++◌, length, map, take, get_or, sym, ap, subst, ◌∙◌, append-nil, append_assoc}
use Rattle.std.proofs.lemmas.List.{map-append, take_more}
use Rattle.kl1_model.specs.Module.{Clause}
use Rattle.kl1_model.specs.State.{names_of_clause, names_of_clauses}
use Rattle.kl1_read.specs.declared.clause_parts.ClauseParts.{ClauseParts}
use Rattle.kl1_clause.specs.declared.compiled_clause.CompiledClause.{CompiledClause}
use Rattle.kl1_clause.specs.NameList.{with_texts}
use Rattle.kl1_read.specs.Sources.{clause_of_parts}
use Rattle.kl1_clause.specs.Clauses.{IsCompiled, AreCompiled}
use Rattle.kl1_clause.proofs.Growth.{with_none, with_both}
use Rattle.kl1_clause.proofs.ClauseFacts.{grown_by, clauses_stay, clauses_push}

-- the names of clauses with one more after
names_push : (cs : List Clause) (c : Clause) → names_of_clauses (cs ++ c ∷ []) ≡ names_of_clauses cs ++ names_of_clause c
names_push [] c = append-nil (names_of_clause c)
names_push (d ∷ cs) c = ap (λ (x : List (List ℕ)). names_of_clause d ++ x) (names_push cs c) ∙ sym (append_assoc (names_of_clause d) (names_of_clauses cs) (names_of_clause c))

-- clauses that are compiled, with their names put to others
pub record AreMade (names new : List (List ℕ)) (compiled : List CompiledClause) (clauses : List Clause) : Type 0 where
  pub names_are : new ≡ with_texts names (names_of_clauses clauses)
  pub clauses_are : AreCompiled new compiled clauses

-- none yet
pub made_none : (names : List (List ℕ)) → AreMade names names [] []
made_none names = record { names_are = sym (with_none names); clauses_are = tt }

-- one more
made_push : (names mid new : List (List ℕ)) (cs : List CompiledClause) (ds : List Clause) (c : CompiledClause) (d : Clause) → AreMade names mid cs ds → new ≡ with_texts mid (names_of_clause d) → IsCompiled new c d → AreMade names new (cs ++ c ∷ []) (ds ++ d ∷ [])
made_push names mid new cs ds c d m e i = record {
  names_are = e ∙ (ap (λ (x : List (List ℕ)). with_texts x (names_of_clause d)) m.names_are ∙ (sym (with_both names (names_of_clauses ds) (names_of_clause d)) ∙ ap (with_texts names) (sym (names_push ds d))));
  clauses_are = clauses_push new cs ds c d (clauses_stay mid new cs ds (grown_by mid new (names_of_clause d) e) m.clauses_are) i;
}

pub made_next : (names mid new : List (List ℕ)) (cs : List CompiledClause) (parts : List ClauseParts) (i : ℕ) (part : ClauseParts) (c : CompiledClause) → i < length parts → part ≡ get_or parts i part → AreMade names mid cs (map clause_of_parts (take i parts)) → new ≡ with_texts mid (names_of_clause (clause_of_parts part)) → IsCompiled new c (clause_of_parts part) → AreMade names new (cs ++ c ∷ []) (map clause_of_parts (take (i + 1) parts))
made_next names mid new cs parts i part c within is m e k =
    subst (AreMade names new (cs ++ c ∷ [])) (sym (ap (map clause_of_parts) (take_more parts i part within ∙ ap (λ (x : ClauseParts). take i parts ++ x ∷ []) (sym is)) ∙ map-append clause_of_parts (take i parts) (part ∷ [])))
    (made_push names mid new cs (map clause_of_parts (take i parts)) c (clause_of_parts part) m e k)
