use Rattle.std.proofs.Common.{◌≡◌, false, length}
use Rattle.kl1_reasons_items.specs.Items.{behind_blanks}
use Rattle.kl1_reasons_items.proofs.cut.behind_blanks.Given as goal

-- what is after the blanks that are left is what is after all of them
abbrev pub invariant-loop-rest : goal.invariant-loop-rest
invariant-loop-rest l = behind_blanks l.remark l.rest ≡ behind_blanks false l.text

abbrev pub decreases-loop-rest : goal.decreases-loop-rest
decreases-loop-rest l = length l.rest
