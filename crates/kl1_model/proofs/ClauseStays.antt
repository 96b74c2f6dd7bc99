-- What clauses say, and what they wait for, when variables are replaced.
use Rattle.std.proofs.Common.{◌≡◌, ℕ, List, [], refl, sym, ap, ◌∙◌}
use Rattle.kl1_model.specs.Answer.{awaited_in}
use Rattle.kl1_model.specs.Term.{Terms, each_substituted}
use Rattle.kl1_model.specs.Module.{Clause}
use Rattle.kl1_model.specs.Match.{Answer, yes, no, wait, places_of, verdict}
use Rattle.kl1_model.specs.code.Verdicts.{Verdict, accepts, rejects, suspends, named_verdict, answer_in, named_in}
use Rattle.kl1_model.specs.code.Waits.{awaited_by_clause}
use Rattle.kl1_model.specs.laws.WaitsLaws.{places_substituted, RejectsStays, RejectsNeverAccepts, AcceptsStays, SuspendsStays, SuspendsWaits}
use Rattle.kl1_model.proofs.VerdictNames.{verdicts_answer, accepts_places, verdicts_name}
use Rattle.kl1_model.proofs.VerdictStays.{named_rejects_stays, named_accepts_stays, named_suspends_stays}
use Rattle.kl1_model.proofs.RejectsNever.{named_rejects_never_accepts}
use Rattle.kl1_model.proofs.VerdictWaits.{named_suspends_waits}

-- ---- the verdict that names variables, by the one that doesn't

says : (c : Clause) (ts : Terms) (v : Verdict) (a : Answer) → named_verdict c ts ≡ v → verdict c ts ≡ a → answer_in v ≡ a
says c ts v a e is = sym (ap answer_in e) ∙ verdicts_answer c ts ∙ is

names : (c : Clause) (ts : Terms) (v : Verdict) → named_verdict c ts ≡ v → named_in v ≡ awaited_by_clause c ts
names c ts v e = sym (verdicts_name c ts ∙ ap named_in e)

accepted_by : (c : Clause) (ts : Terms) (v : Verdict) → named_verdict c ts ≡ v → verdict c ts ≡ yes → named_verdict c ts ≡ accepts (places_of c ts)
accepted_by c ts (accepts ps) e is = e ∙ ap accepts (accepts_places c ts ps e)
accepted_by c ts (rejects vs) e is = let other : no ≡ yes = says c ts (rejects vs) yes e is in absurd (cc)
accepted_by c ts (suspends vs) e is = let other : wait vs ≡ yes = says c ts (suspends vs) yes e is in absurd (cc)

accepted : (c : Clause) (ts : Terms) → verdict c ts ≡ yes → named_verdict c ts ≡ accepts (places_of c ts)
accepted c ts is = accepted_by c ts (named_verdict c ts) refl is

rejected_by : (c : Clause) (ts : Terms) (v : Verdict) → named_verdict c ts ≡ v → verdict c ts ≡ no → named_verdict c ts ≡ rejects (awaited_by_clause c ts)
rejected_by c ts (accepts ps) e is = let other : yes ≡ no = says c ts (accepts ps) no e is in absurd (cc)
rejected_by c ts (rejects vs) e is = e ∙ ap rejects (names c ts (rejects vs) e)
rejected_by c ts (suspends vs) e is = let other : wait vs ≡ no = says c ts (suspends vs) no e is in absurd (cc)

rejected : (c : Clause) (ts : Terms) → verdict c ts ≡ no → named_verdict c ts ≡ rejects (awaited_by_clause c ts)
rejected c ts is = rejected_by c ts (named_verdict c ts) refl is

suspended_by : (c : Clause) (ts : Terms) (v : Verdict) (vs : List ℕ) → named_verdict c ts ≡ v → verdict c ts ≡ wait vs → named_verdict c ts ≡ suspends vs
suspended_by c ts (accepts ps) vs e is = let other : yes ≡ wait vs = says c ts (accepts ps) (wait vs) e is in absurd (cc)
suspended_by c ts (rejects ws) vs e is = let other : no ≡ wait vs = says c ts (rejects ws) (wait vs) e is in absurd (cc)
suspended_by c ts (suspends ws) vs e is = let same : wait ws ≡ wait vs = says c ts (suspends ws) (wait vs) e is in e ∙ ap suspends (ap awaited_in same)

suspended : (c : Clause) (ts : Terms) (vs : List ℕ) → verdict c ts ≡ wait vs → named_verdict c ts ≡ suspends vs
suspended c ts vs is = suspended_by c ts (named_verdict c ts) vs refl is

-- ---- the laws

pub rejects_stays : RejectsStays
rejects_stays s c ts is l =
    let us = each_substituted s ts in
    let k = named_rejects_stays s c ts (awaited_by_clause c ts) (rejected c ts is) l in
    (sym (verdicts_answer c us) ∙ ap answer_in k, verdicts_name c us ∙ ap named_in k)

pub rejects_never_accepts : RejectsNeverAccepts
rejects_never_accepts s c ts is then =
    let us = each_substituted s ts in
    named_rejects_never_accepts s c ts (awaited_by_clause c ts) (places_of c us) (rejected c ts is) (accepted c us then)

pub accepts_stays : AcceptsStays
accepts_stays s c ts is =
    let us = each_substituted s ts in
    let k = named_accepts_stays s c ts (places_of c ts) (accepted c ts is) in
    (sym (verdicts_answer c us) ∙ ap answer_in k, sym (accepts_places c us (places_substituted s (places_of c ts)) k))

pub suspends_stays : SuspendsStays
suspends_stays s c ts vs is l = let us = each_substituted s ts in sym (verdicts_answer c us) ∙ ap answer_in (named_suspends_stays s c ts vs (suspended c ts vs is) l)

pub suspends_waits : SuspendsWaits
suspends_waits c ts g is = named_suspends_waits c ts g (suspended c ts [] is)
