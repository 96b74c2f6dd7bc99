use Rattle.std.proofs.Common.{◌≡◌, ◌+◌, ◌<◌, ◌≤◌, ◌^◌, [], None, length, map}
use Rattle.kl1_model.specs.Module.{clauses_from}
use Rattle.kl1_read.specs.Items.{items_left}
use Rattle.kl1_read.specs.Sources.{clause_of_parts}
use Rattle.kl1_read.specs.Followings.{last_section}
use Rattle.kl1_read.proofs.modules.put_clauses.Given as goal

-- the clauses so far, with those of what is left, are those of the whole, the lines can be counted, and there are no more sections
-- than clauses
abbrev pub invariant-items : goal.invariant-items
invariant-items l =
    record {
      same : clauses_from l.name (map clause_of_parts l.clauses.items) l.pending (items_left l.place.line l.place.bytes.now) ≡ clauses_from l.name [] None (items_left l.fn.place.line l.fn.place.bytes.now);
      lines : l.place.line + length l.place.bytes.now < 2 ^ 64;
      few : last_section l.clauses.items ≤ length l.clauses.items;
    }

abbrev pub decreases-items : goal.decreases-items
decreases-items l = length l.place.bytes.now
