use Rattle.std.proofs.Common.{◌-◌, length, All}
use Rattle.kl1_reasons_items.specs.Tokens.{IsIn}
use Rattle.kl1_reasons_items.proofs.scan.tokens_of.Given as goal

-- the tokens so far stand in the text
abbrev pub invariant-loop-at : goal.invariant-loop-at
invariant-loop-at l = All (IsIn l.text) l.tokens.items

abbrev pub decreases-loop-at : goal.decreases-loop-at
decreases-loop-at l = length l.text - l.at
