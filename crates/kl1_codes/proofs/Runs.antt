-- Runs of clauses that pass a test, from the last clause on.
use Rattle.std.proofs.Common.{◌≡◌, ℕ, suc, ◌+◌, ◌-◌, ◌<◌, ◌==◌, Bool, true, false, if◌then◌else◌, List, [], ◌∷◌, length, take, drop, refl, sym, ap, ◌∙◌, subst, arith, length-drop}
use Rattle.std.specs.Prelude.{Option, Some, None, IfSome}
use Rattle.std.proofs.lemmas.Bool.{cond-true, cond-false, eqb-true, eq-eqb, false≢true}
use Rattle.kl1_model.specs.Module.{Clause}
use Rattle.kl1_clause.specs.Predicates.{from_first, front_run}
use Rattle.kl1_codes.specs.declared.span.Span.{Span}
use Rattle.kl1_codes.specs.Spans.{IsWithin, IsSpan, SpanIs}
use Rattle.kl1_codes.specs.Indexes.{end_by}

-- if none begins, none runs
none_run : (test : Clause → Bool) (cs : List Clause) → from_first test cs ≡ [] → front_run test cs ≡ []
none_run test [] e = refl
none_run test (c ∷ cs) e = by (test c) e
  where
    by : (b : Bool) → (if b then c ∷ cs else from_first test cs) ≡ [] → (if b then c ∷ front_run test cs else []) ≡ []
    by true h = absurd (cc)
    by false h = refl

-- if they begin later, none runs here
later_run : (test : Clause → Bool) (cs ds : List Clause) → from_first test cs ≡ ds → (length cs ≡ length ds → ⊥) → front_run test cs ≡ []
later_run test [] ds e ne = refl
later_run test (c ∷ cs) ds e ne = by (test c) e
  where
    by : (b : Bool) → (if b then c ∷ cs else from_first test cs) ≡ ds → (if b then c ∷ front_run test cs else []) ≡ []
    by true h = absurd (ne (ap length h))
    by false h = refl

-- the span of a clause that passes, before those that follow
abbrev pub span_from : ℕ → Option Span → Span
span_from place o = record { start = place; end = end_by place o }

by_start : (b : Bool) (n : ℕ) (place : ℕ) (s : Span) → IsWithin n s → (s.start == place + 1) ≡ b → place < n → IsWithin n (record { start = place; end = if b then s.end else place + 1 })
by_start true n place s w e lt = let at : s.start ≡ place + 1 = eqb-true s.start (place + 1) e in let a = w.some in let z = w.last in record { some = omega arith; last = omega arith }
by_start false n place s w e lt = record { some = omega arith; last = omega arith }

-- it is within the clauses
pub span_within : (n place : ℕ) (o : Option Span) → IfSome o (IsWithin n) → place < n → IsWithin n (span_from place o)
span_within n place None w lt = record { some = omega arith; last = omega arith }
span_within n place (Some s) w lt = by_start (s.start == place + 1) n place s w refl lt

take_none : (n : ℕ) (cs : List Clause) → n ≡ 0 → [] ≡ take n cs
take_none n cs e = ap (λ k. take k cs) (sym e)

-- the run of what follows a clause
behind_by : (test : Clause → Bool) (cs : List Clause) (place : ℕ) (s : Span) (b : Bool) → place < length cs → IsWithin (length cs) s → IsSpan test cs (place + 1) s → (s.start == place + 1) ≡ b →
    front_run test (drop (place + 1) cs) ≡ take ((if b then s.end else place + 1) - (place + 1)) (drop (place + 1) cs)
behind_by test cs place s true lt w is e =
    let at : s.start ≡ place + 1 = eqb-true s.start (place + 1) e in
    subst (λ k. front_run test (drop k cs) ≡ take (s.end - k) (drop k cs)) at is.run
behind_by test cs place s false lt w is e =
    let ne : s.start ≡ place + 1 → ⊥ = λ h. false≢true (sym e ∙ eq-eqb s.start (place + 1) h) in
    let a = w.some in
    let z = w.last in
    let zero_left : (place + 1) - (place + 1) ≡ 0 = omega arith in
    later_run test (drop (place + 1) cs) (drop s.start cs) is.first (λ h. ne (let l : length cs - (place + 1) ≡ length cs - s.start = sym (length-drop (place + 1) cs) ∙ h ∙ length-drop s.start cs in omega arith)) ∙ take_none ((place + 1) - (place + 1)) (drop (place + 1) cs) zero_left

behind : (test : Clause → Bool) (cs : List Clause) (place : ℕ) (o : Option Span) → place < length cs → IfSome o (IsWithin (length cs)) → SpanIs test cs (place + 1) o →
    front_run test (drop (place + 1) cs) ≡ take (end_by place o - (place + 1)) (drop (place + 1) cs)
behind test cs place None lt w is =
    let zero_left : (place + 1) - (place + 1) ≡ 0 = omega arith in
    none_run test (drop (place + 1) cs) is ∙ take_none ((place + 1) - (place + 1)) (drop (place + 1) cs) zero_left
behind test cs place (Some s) lt w is = behind_by test cs place s (s.start == place + 1) lt w is refl

-- a clause that passes begins the run
pub passes : (test : Clause → Bool) (cs : List Clause) (place : ℕ) (c : Clause) (o : Option Span) → drop place cs ≡ c ∷ drop (place + 1) cs → place < length cs → IfSome o (IsWithin (length cs)) → SpanIs test cs (place + 1) o → test c ≡ true →
    IsSpan test cs place (span_from place o)
passes test cs place c o at lt w is t =
    let rest = drop (place + 1) cs in
    let some : place < end_by place o = (span_within (length cs) place o w lt).some in
    let one : suc (end_by place o - (place + 1)) ≡ end_by place o - place = omega arith in
    record {
      first = ap (from_first test) at ∙ cond-true (test c) (c ∷ rest) (from_first test rest) t ∙ sym at;
      run =
          ap (front_run test) at
          ∙ cond-true (test c) (c ∷ front_run test rest) [] t
          ∙ ap (λ l. c ∷ l) (behind test cs place o lt w is)
          ∙ ap (λ n. take n (c ∷ rest)) one
          ∙ ap (take (end_by place o - place)) (sym at);
    }

-- a clause that doesn't leaves the first of those that do
pub passes_not : (test : Clause → Bool) (cs : List Clause) (place : ℕ) (c : Clause) (o : Option Span) → drop place cs ≡ c ∷ drop (place + 1) cs → SpanIs test cs (place + 1) o → test c ≡ false → SpanIs test cs place o
passes_not test cs place c None at is t = ap (from_first test) at ∙ cond-false (test c) (c ∷ drop (place + 1) cs) (from_first test (drop (place + 1) cs)) t ∙ is
passes_not test cs place c (Some s) at is t = record {
  first = ap (from_first test) at ∙ cond-false (test c) (c ∷ drop (place + 1) cs) (from_first test (drop (place + 1) cs)) t ∙ is.first;
  run = is.run;
}
