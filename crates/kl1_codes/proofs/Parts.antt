-- The clauses of a predicate as a part of those of its module.
use Rattle.std.proofs.Common.{◌≡◌, ℕ, zero, suc, ◌-◌, List, [], ◌∷◌, length, take, drop, map, filter, sym, ap, ◌∙◌, subst}
use Rattle.std.specs.Prelude.{Some, None}
use Rattle.kl1_model.specs.Module.{Clause, Module, is_of}
use Rattle.kl1_text.specs.declared.cell_name.CellName.{CellName}
use Rattle.kl1_clause.specs.declared.compiled_clause.CompiledClause.{CompiledClause}
use Rattle.kl1_clause.specs.declared.predicate.Predicate.{Predicate}
use Rattle.kl1_clause.specs.Clauses.{AreCompiled}
use Rattle.kl1_clause.specs.Modules.{IsMeant}
use Rattle.kl1_clause.specs.Predicates.{from_first, front_run, AreSome}
use Rattle.kl1_clause.proofs.Together.{together, run_is_all}
use Rattle.kl1_codes.specs.declared.span.Span.{Span}
use Rattle.kl1_codes.specs.Spans.{IsSpan, SpanIs}
use Rattle.kl1_codes.specs.Indexes.{Rows, key_by, span_at, IsIndexed}
use Rattle.kl1_codes.specs.Numbered.{Numbered, own_names}
use Rattle.kl1_codes.specs.Finding.{FindsIn}

front : (names : List (List ℕ)) (cs : List CompiledClause) (ds : List Clause) (n : ℕ) → AreCompiled names cs ds → AreCompiled names (take n cs) (take n ds)
front names cs ds zero a = tt
front names [] [] (suc n) a = tt
front names [] (d ∷ ds) (suc n) a = absurd a
front names (c ∷ cs) [] (suc n) a = absurd a
front names (c ∷ cs) (d ∷ ds) (suc n) a = (a.0, front names cs ds n a.1)

rest : (names : List (List ℕ)) (cs : List CompiledClause) (ds : List Clause) (n : ℕ) → AreCompiled names cs ds → AreCompiled names (drop n cs) (drop n ds)
rest names cs ds zero a = a
rest names [] [] (suc n) a = tt
rest names [] (d ∷ ds) (suc n) a = absurd a
rest names (c ∷ cs) [] (suc n) a = absurd a
rest names (c ∷ cs) (d ∷ ds) (suc n) a = rest names cs ds n a.1

-- a part of compiled clauses is the part of the clauses
pub part : (names : List (List ℕ)) (cs : List CompiledClause) (ds : List Clause) (s : Span) → AreCompiled names cs ds → AreCompiled names (take (s.end - s.start) (drop s.start cs)) (take (s.end - s.start) (drop s.start ds))
part names cs ds s a = front names (drop s.start cs) (drop s.start ds) (s.end - s.start) (rest names cs ds s.start a)

-- the clauses of a predicate, if none begins
pub not_there : (source : List ℕ) (m : Module) (name : List ℕ) (count : ℕ) → IsMeant source m → from_first (is_of name count) m.clauses ≡ [] → filter (is_of name count) m.clauses ≡ []
not_there source m name count meant e = sym (run_is_all (is_of name count) m.clauses (together source m name count meant)) ∙ ap (front_run (is_of name count)) e

-- the clauses of a predicate, if its span is known
pub there : (source : List ℕ) (m : Module) (name : List ℕ) (count : ℕ) (s : Span) → IsMeant source m → IsSpan (is_of name count) m.clauses 0 s → take (s.end - s.start) (drop s.start m.clauses) ≡ filter (is_of name count) m.clauses
there source m name count s meant is =
    sym is.run ∙ ap (front_run (is_of name count)) (sym is.first) ∙ run_is_all (is_of name count) m.clauses (together source m name count meant)

-- what the rows don't have is no predicate
pub missed : (source : List ℕ) (l : Numbered) (rows : Rows) (capacity : ℕ) (name : CellName) (count : ℕ) → IsMeant source l.content → IsIndexed l.content l.row rows capacity → span_at rows (key_by name count) ≡ None → FindsIn l name count None
missed source l rows capacity name count meant i e f r m =
    not_there source l.content (f name) count meant (subst (SpanIs (is_of (f name) count) l.content.clauses 0) e (i.spans.spans f r m name count))

-- and the span that they have is that of the predicate's clauses
pub found : (source : List ℕ) (l : Numbered) (rows : Rows) (capacity : ℕ) (name : CellName) (count : ℕ) (s : Span) (p : Predicate CellName) → IsMeant source l.content → IsIndexed l.content l.row rows capacity → span_at rows (key_by name count) ≡ Some s → p.names.now ≡ l.row → AreCompiled (own_names l.content) p.clauses.now (take (s.end - s.start) (drop s.start l.content.clauses)) →
    FindsIn l name count (Some p)
found source l rows capacity name count s p meant i e n a f r m =
    let is : IsSpan (is_of (f name) count) l.content.clauses 0 s = subst (SpanIs (is_of (f name) count) l.content.clauses 0) e (i.spans.spans f r m name count) in
    let P : List (List ℕ) → Type 0 = λ names. AreCompiled names p.clauses.now (filter (is_of (f name) count) l.content.clauses) in
    let Q : List Clause → Type 0 = λ ds. AreCompiled (own_names l.content) p.clauses.now ds in
    subst P (sym (ap (map f) n ∙ m)) (subst Q (there source l.content (f name) count s meant is) a)

-- a part of a module's clauses is some clauses
pub some_part : (l : Numbered) (cs : List CompiledClause) (s : Span) → length l.row ≡ length (own_names l.content) → AreCompiled (own_names l.content) cs l.content.clauses → AreSome l.row (take (s.end - s.start) (drop s.start cs))
some_part l cs s n a = record { texts = own_names l.content; count = sym n; meant = take (s.end - s.start) (drop s.start l.content.clauses); are = part (own_names l.content) cs l.content.clauses s a }
