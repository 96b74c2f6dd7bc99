-- Rows that get the span of one clause more, the one before.
use Rattle.std.proofs.Common.{◌≡◌, ℕ, zero, suc, ◌+◌, ◌<◌, ◌≤◌, cond, Bool, true, false, List, [], ◌∷◌, length, drop, get_or, refl, sym, ap, ◌∙◌, subst, arith}
use Rattle.std.specs.Prelude.{Option, Some, IfSome}
use Rattle.std.specs.Ordering.{eq_by_cmp}
use Rattle.kl1_model.specs.Module.{Clause, is_of}
use Rattle.kl1_text.specs.declared.cell_name.CellName.{CellName}
use Rattle.kl1_clause.specs.declared.compiled_clause.CompiledClause.{CompiledClause}
use Rattle.kl1_clause.specs.Clauses.{IsCompiled, AreCompiled}
use Rattle.kl1_clause.specs.Predicates.{from_first}
use Rattle.std.proofs.lemmas.List.{drop_all}
use Rattle.kl1_codes.specs.declared.span.Span.{Span}
use Rattle.kl1_codes.specs.Spans.{IsWithin, SpanIs}
use Rattle.kl1_codes.specs.Indexes.{Key, Rows, key_by, key_order, span_at, IsKeyOf, HasPut, Spans}
use Rattle.kl1_codes.proofs.Rows.{one_key, equal_is}
use Rattle.kl1_codes.proofs.Answers.{same_key}
use Rattle.kl1_codes.proofs.Runs.{span_from, span_within, passes, passes_not}

-- the clause at a place of clauses, and what it is compiled to
pub record IsCompiledAt (names : List (List ℕ)) (compiled : CompiledClause) (clauses : List Clause) (place : ℕ) : Type 0 where
  pub clause : Clause
  pub at : drop place clauses ≡ clause ∷ drop (suc place) clauses
  pub is : IsCompiled names compiled clause

pub compiled_count : (names : List (List ℕ)) (cs : List CompiledClause) (ds : List Clause) → AreCompiled names cs ds → length cs ≡ length ds
compiled_count names [] [] a = refl
compiled_count names [] (d ∷ ds) a = absurd a
compiled_count names (c ∷ cs) [] a = absurd a
compiled_count names (c ∷ cs) (d ∷ ds) a = ap suc (compiled_count names cs ds a.1)

pub compiled_at : (names : List (List ℕ)) (cs : List CompiledClause) (ds : List Clause) (place : ℕ) (x : CompiledClause) → AreCompiled names cs ds → place < length cs → IsCompiledAt names (get_or cs place x) ds place
compiled_at names [] ds place x a lt = absurd (omega arith)
compiled_at names (c ∷ cs) [] place x a lt = absurd a
compiled_at names (c ∷ cs) (d ∷ ds) zero x a lt = record { clause = d; at = refl; is = a.0 }
compiled_at names (c ∷ cs) (d ∷ ds) (suc place) x a lt = let r = compiled_at names cs ds place x a.1 (omega arith) in record { clause = r.clause; at = r.at; is = r.is }

-- no rows have nothing after the last clause
pub no_spans : (row : List CellName) (names : List (List ℕ)) (cs : List Clause) (place : ℕ) → length cs ≤ place → Spans row names cs place []
no_spans row names cs place le = record { within = λ key. tt; spans = λ f r m name count. ap (from_first (is_of (f name) count)) (drop_all place cs le) }

-- what the rows have, with one clause more
pub one_more : (row : List CellName) (names : List (List ℕ)) (cs : List Clause) (place : ℕ) (compiled : CompiledClause) (key : Key) (old new : Rows) (s : Span) → place < length cs → IsCompiledAt names compiled cs place → IsKeyOf row compiled key →
    s ≡ span_from place (span_at old key) → Spans row names cs (suc place) old → HasPut old new key s → Spans row names cs place new
one_more row names cs place compiled key old new s lt at k is before put =
    let next : suc place ≡ place + 1 = omega arith in
    let here : drop place cs ≡ at.clause ∷ drop (place + 1) cs = at.at ∙ ap (λ n. at.clause ∷ drop n cs) next in
    let own : IsWithin (length cs) s = subst (IsWithin (length cs)) (sym is) (span_within (length cs) place (span_at old key) (before.within key) lt) in
    record {
      within = λ q. subst (λ o. IfSome o (IsWithin (length cs))) (sym (put q)) (either (eq_by_cmp key_order q key) (span_at old q) own (before.within q));
      spans = λ f r m name count.
          let test = is_of (f name) count in
          let q = key_by name count in
          let same : test at.clause ≡ eq_by_cmp key_order q key = same_key f r row names compiled at.clause key name count m at.is k in
          let rest : SpanIs test cs (place + 1) (span_at old q) = subst (λ n. SpanIs test cs n (span_at old q)) next (before.spans f r m name count) in
          subst (SpanIs test cs place) (sym (put q)) (turn (eq_by_cmp key_order q key) test q here rest same refl);
    }
  where
    either : (b : Bool) (o : Option Span) → IsWithin (length cs) s → IfSome o (IsWithin (length cs)) → IfSome (cond b (Some s) o) (IsWithin (length cs))
    either true o w v = w
    either false o w v = v

    turn : (b : Bool) (test : Clause → Bool) (q : Key) → drop place cs ≡ at.clause ∷ drop (place + 1) cs → SpanIs test cs (place + 1) (span_at old q) → test at.clause ≡ b → eq_by_cmp key_order q key ≡ b → SpanIs test cs place (cond b (Some s) (span_at old q))
    turn true test q here rest t e =
        let P : Span → Type 0 = λ x. SpanIs test cs place (Some x) in
        subst P (ap (λ o. span_from place o) (ap (span_at old) (one_key q key (equal_is (key_order q key) e))) ∙ sym is) (passes test cs place at.clause (span_at old q) here lt (before.within q) rest t)
    turn false test q here rest t e = passes_not test cs place at.clause (span_at old q) here rest t
