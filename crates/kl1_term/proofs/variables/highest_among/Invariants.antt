use Rattle.std.proofs.Common.{◌≡◌, max, drop}
use Rattle.kl1_model.specs.Term.{terms_of}
use Rattle.kl1_model.specs.Meaning.{highest_in}
use Rattle.kl1_term.proofs.variables.highest_among.Given as goal

-- the highest so far, with that of the terms that are left, is that of all
abbrev pub invariant-loop-term : goal.invariant-loop-term
invariant-loop-term l = max l.most (highest_in (terms_of (drop l.term-index l.terms))) ≡ highest_in (terms_of l.terms)
