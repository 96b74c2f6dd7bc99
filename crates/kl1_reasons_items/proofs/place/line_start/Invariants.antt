use Rattle.std.proofs.Common.{◌≡◌, ◌≤◌, ◌-◌, length}
use Rattle.kl1_reasons_items.specs.Places.{place_of}
use Rattle.kl1_reasons_items.proofs.place.line_start.Given as goal

-- the line so far is that of the place, and not beyond the one that is looked for
abbrev pub invariant-loop-at : goal.invariant-loop-at
invariant-loop-at l =
    record {
      within : l.at ≤ length l.text;
      here : (place_of l.text l.at).line ≡ l.here;
      before : l.here ≤ l.line;
    }

abbrev pub decreases-loop-at : goal.decreases-loop-at
decreases-loop-at l = length l.text - l.at
