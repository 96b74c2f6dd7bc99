use Rattle.std.proofs.Common.{All}
use Rattle.kl1_reasons.specs.Reasons.{IsPlaced}
use Rattle.kl1_reasons.proofs.warnings.warnings_of.Given as goal

-- what is put has its place in the text
abbrev pub invariant-loop-finding : goal.invariant-loop-finding
invariant-loop-finding l = All (IsPlaced l.text) l.warnings.items
