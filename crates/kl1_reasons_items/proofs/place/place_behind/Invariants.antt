use Rattle.std.proofs.Common.{◌≡◌, ◌≤◌, ◌+◌, length}
use Rattle.kl1_reasons_items.specs.Places.{first_place, place_behind}
use Rattle.kl1_reasons_items.proofs.place.place_behind.Given as goal

-- what follows what is left stands where what follows the whole does; lines and columns are no more than bytes were read
abbrev pub invariant-loop-rest : goal.invariant-loop-rest
invariant-loop-rest l =
    record {
      same : place_behind l.place l.rest ≡ place_behind first_place l.text;
      lines : l.place.line + length l.rest ≤ 1 + length l.text;
      columns : l.place.column + length l.rest ≤ 1 + length l.text;
    }

abbrev pub decreases-loop-rest : goal.decreases-loop-rest
decreases-loop-rest l = length l.rest
