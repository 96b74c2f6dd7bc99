-- Verdicts with what goes with them, for code that judges clauses.
use Rattle.std.specs.Prelude.{ℕ, List, []}
use Rattle.kl1_model.specs.Term.{Term, Terms, Replacement}
use Rattle.kl1_model.specs.Module.{Clause}
use Rattle.kl1_model.specs.Answer.{Answer, yes, no, wait, awaited_in}
use Rattle.kl1_model.specs.Match.{Match, match_patterns, whole}

-- a clause accepts with the terms at places, or rejects or suspends with the variables that may change the verdict
pub data Verdict : Type 0 where
  accepts : List Replacement → Verdict
  rejects : List ℕ → Verdict
  suspends : List ℕ → Verdict

-- the verdict by an answer; while the match waits, a test that is no may yet come to speak of an earlier place's term
abbrev pub verdict_with : Match → Answer → Verdict
verdict_with m yes = accepts m.places
verdict_with m no = rejects (awaited_in m.answer)
verdict_with m (wait vs) = suspends vs

-- the verdict by match, places and tests together
abbrev pub verdict_of : List Term → Match → Verdict
verdict_of tests m = verdict_with m (whole tests m)

-- the verdict of a clause on a goal's arguments, with what goes with it
abbrev pub named_verdict : Clause → Terms → Verdict
named_verdict c ts = verdict_of c.tests (match_patterns c.patterns ts)

-- the answer of a verdict
abbrev pub answer_in : Verdict → Answer
answer_in (accepts places) = yes
answer_in (rejects vs) = no
answer_in (suspends vs) = wait vs

-- the variables that a verdict names
abbrev pub named_in : Verdict → List ℕ
named_in (accepts places) = []
named_in (rejects vs) = vs
named_in (suspends vs) = vs
