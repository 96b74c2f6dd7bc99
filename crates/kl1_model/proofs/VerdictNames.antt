-- Verdicts with what goes with them have the answers, the places and the variables of their clauses.
use Rattle.std.proofs.Common.{◌≡◌, ℕ, List, [], refl, sym, ap, ◌∙◌}
use Rattle.kl1_model.specs.Term.{Terms, Replacement}
use Rattle.kl1_model.specs.Module.{Clause}
use Rattle.kl1_model.specs.Answer.{Answer, yes, no, wait, awaited_in}
use Rattle.kl1_model.specs.Match.{Match, match_patterns, places_of, verdict, candidate_by}
use Rattle.kl1_model.specs.code.Verdicts.{Verdict, accepts, rejects, suspends, verdict_with, named_verdict, answer_in, named_in}
use Rattle.kl1_model.specs.laws.VerdictLaws.{VerdictsAnswer, AcceptsPlaces, VerdictsName}

answer_with : (m : Match) (a : Answer) → answer_in (verdict_with m a) ≡ a
answer_with m yes = refl
answer_with m no = refl
answer_with m (wait vs) = refl

pub verdicts_answer : VerdictsAnswer
verdicts_answer c ts = answer_with (match_patterns c.patterns ts) (verdict c ts)

accepted_places : (m : Match) (a : Answer) (ps : List Replacement) → verdict_with m a ≡ accepts ps → ps ≡ m.places
accepted_places m yes ps e = cc
accepted_places m no ps e = absurd (cc)
accepted_places m (wait vs) ps e = absurd (cc)

pub accepts_places : AcceptsPlaces
accepts_places c ts places e = accepted_places (match_patterns c.patterns ts) (verdict c ts) places e

named_with : (m : Match) (a : Answer) → elim a [ yes ↦ [] | no ↦ awaited_in m.answer | wait vs ↦ vs ] ≡ named_in (verdict_with m a)
named_with m yes = refl
named_with m no = refl
named_with m (wait vs) = refl

pub verdicts_name : VerdictsName
verdicts_name c ts = named_with (match_patterns c.patterns ts) (verdict c ts)

-- ---- what follows from a verdict

-- the places with which a verdict accepts
abbrev pub places_in : Verdict → List Replacement
places_in (accepts places) = places
places_in (rejects vs) = []
places_in (suspends vs) = []

candidate_in_by : (n : ℕ) (c : Clause) (ts : Terms) (v : Verdict) → named_verdict c ts ≡ v → candidate_by n c (places_of c ts) (answer_in v) ≡ candidate_by n c (places_in v) (answer_in v)
candidate_in_by n c ts (accepts ps) e = ap (λ (l : List Replacement). candidate_by n c l yes) (sym (accepts_places c ts ps e))
candidate_in_by n c ts (rejects vs) e = refl
candidate_in_by n c ts (suspends vs) e = refl

-- a clause is a candidate by its verdict
pub candidate_in : (n : ℕ) (c : Clause) (ts : Terms) (v : Verdict) → named_verdict c ts ≡ v → candidate_by n c (places_of c ts) (verdict c ts) ≡ candidate_by n c (places_in v) (answer_in v)
candidate_in n c ts v e =
    ap (candidate_by n c (places_of c ts)) (sym (verdicts_answer c ts) ∙ ap answer_in e) ∙ candidate_in_by n c ts v e
