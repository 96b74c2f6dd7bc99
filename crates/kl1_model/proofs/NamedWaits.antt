-- The least clause and what clauses wait for, by verdicts that name variables.
use Rattle.std.proofs.Common.{◌≡◌, ℕ, suc, ◌==◌, if◌then◌else◌, List, [], ◌∷◌, refl, sym, ap, ap₂, ◌∙◌}
use Rattle.std.specs.Prelude.{Option, Some, None}
use Rattle.kl1_model.specs.Term.{Terms}
use Rattle.kl1_model.specs.Module.{Clause}
use Rattle.kl1_model.specs.Match.{verdict}
use Rattle.kl1_model.specs.code.Verdicts.{Verdict, named_verdict, answer_in, named_in}
use Rattle.kl1_model.specs.code.Waits.{by_answer, least_within, least_from, awaited_after, awaited_within, awaited_by_clause, awaited_by_clauses}
use Rattle.kl1_model.proofs.VerdictNames.{verdicts_answer, verdicts_name}

abbrev pub named_least_by : Option ℕ → Option ℕ → Option ℕ → Verdict → Option ℕ
named_least_by accepted rejected suspended v = by_answer accepted rejected suspended (answer_in v)

abbrev pub named_least_within : ℕ → ℕ → List Clause → Terms → Option ℕ
named_least_within section n [] ts = None
named_least_within section n (c ∷ cs) ts =
    let later = named_least_within section (suc n) cs ts in
    if c.section == section then named_least_by (Some n) later later (named_verdict c ts) else None

abbrev pub named_least_from : ℕ → List Clause → Terms → Option ℕ
named_least_from n [] ts = Some 0
named_least_from n (c ∷ cs) ts = named_least_by (Some n) (named_least_from (suc n) cs ts) (named_least_within c.section (suc n) cs ts) (named_verdict c ts)

abbrev pub named_after : Verdict → List ℕ → List ℕ → List ℕ
named_after v rejected suspended = awaited_after (answer_in v) (named_in v) rejected suspended

abbrev pub named_within : ℕ → List Clause → Terms → List ℕ
named_within section [] ts = []
named_within section (c ∷ cs) ts =
    let later = named_within section cs ts in
    if c.section == section then named_after (named_verdict c ts) later later else []

abbrev pub named_by_clauses : List Clause → Terms → List ℕ
named_by_clauses [] ts = []
named_by_clauses (c ∷ cs) ts = named_after (named_verdict c ts) (named_by_clauses cs ts) (named_within c.section cs ts)

-- ---- they are those of the definitions

least_by_named : (n : ℕ) (c : Clause) (ts : Terms) (r x q y : Option ℕ) → r ≡ q → x ≡ y → by_answer (Some n) r x (verdict c ts) ≡ named_least_by (Some n) q y (named_verdict c ts)
least_by_named n c ts r x q y e f = ap₂ (λ a b. by_answer (Some n) a b (verdict c ts)) e f ∙ ap (by_answer (Some n) q y) (sym (verdicts_answer c ts))

pub least_within_named : (section n : ℕ) (cs : List Clause) (ts : Terms) → least_within section n cs ts ≡ named_least_within section n cs ts
least_within_named section n [] ts = refl
least_within_named section n (c ∷ cs) ts =
    let later = least_within section (suc n) cs ts in
    let named = named_least_within section (suc n) cs ts in
    let e = least_within_named section (suc n) cs ts in
    ap (λ o. if c.section == section then o else None) (least_by_named n c ts later later named named e e)

pub least_from_named : (n : ℕ) (cs : List Clause) (ts : Terms) → least_from n cs ts ≡ named_least_from n cs ts
least_from_named n [] ts = refl
least_from_named n (c ∷ cs) ts =
    least_by_named n c ts (least_from (suc n) cs ts) (least_within c.section (suc n) cs ts) (named_least_from (suc n) cs ts) (named_least_within c.section (suc n) cs ts)
    (least_from_named (suc n) cs ts) (least_within_named c.section (suc n) cs ts)

after_named : (c : Clause) (ts : Terms) (r x q y : List ℕ) → r ≡ q → x ≡ y → awaited_after (verdict c ts) (awaited_by_clause c ts) r x ≡ named_after (named_verdict c ts) q y
after_named c ts r x q y e f =
    ap₂ (λ (a b : List ℕ). awaited_after (verdict c ts) (awaited_by_clause c ts) a b) e f
    ∙ ap (λ (vs : List ℕ). awaited_after (verdict c ts) vs q y) (verdicts_name c ts)
    ∙ ap (λ a. awaited_after a (named_in (named_verdict c ts)) q y) (sym (verdicts_answer c ts))

pub within_named : (section : ℕ) (cs : List Clause) (ts : Terms) → awaited_within section cs ts ≡ named_within section cs ts
within_named section [] ts = refl
within_named section (c ∷ cs) ts =
    let e = within_named section cs ts in
    ap (λ (vs : List ℕ). if c.section == section then vs else []) (after_named c ts (awaited_within section cs ts) (awaited_within section cs ts) (named_within section cs ts) (named_within section cs ts) e e)

pub clauses_named : (cs : List Clause) (ts : Terms) → awaited_by_clauses cs ts ≡ named_by_clauses cs ts
clauses_named [] ts = refl
clauses_named (c ∷ cs) ts =
    after_named c ts (awaited_by_clauses cs ts) (awaited_within c.section cs ts) (named_by_clauses cs ts) (named_within c.section cs ts) (clauses_named cs ts) (within_named c.section cs ts)
