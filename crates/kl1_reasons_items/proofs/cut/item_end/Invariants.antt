use Rattle.std.proofs.Common.{◌≡◌, ◌≤◌, ◌-◌, length, drop}
use Rattle.kl1_reasons_items.specs.declared.within.Within.TheVariants.{Plain}
use Rattle.kl1_reasons_items.specs.Items.{behind_item}
use Rattle.kl1_reasons_items.proofs.cut.item_end.Given as goal

-- what is after the item that goes on here is what is after the whole item
abbrev pub invariant-loop-at : goal.invariant-loop-at
invariant-loop-at l =
    record {
      behind : l.start ≤ l.at;
      inside : l.at ≤ length l.text;
      same : behind_item l.within (drop l.at l.text) ≡ behind_item Plain (drop l.start l.text);
    }

abbrev pub decreases-loop-at : goal.decreases-loop-at
decreases-loop-at l = length l.text - l.at
