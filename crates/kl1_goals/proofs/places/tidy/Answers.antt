use Rattle.kl1_goals.proofs.places.tidy.Goals as goal

pub returns-then-empty-count-clause-below : goal.returns-then-empty-count-clause-below
returns-then-empty-count-clause-below g c = λ n b. c.compact.ensures.below n (c.trim.ensures.below n b)
