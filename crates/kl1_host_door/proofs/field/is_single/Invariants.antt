use Rattle.std.proofs.Common.{◌≡◌, length}
use Rattle.kl1_host_door.specs.Fields.{is_single}
use Rattle.kl1_host_door.proofs.field.is_single.Given as goal

-- none of the fields that were passed has the name
abbrev pub invariant-loop-rest : goal.invariant-loop-rest
invariant-loop-rest l = is_single l.name l.rest ≡ is_single l.name l.fields

abbrev pub decreases-loop-rest : goal.decreases-loop-rest
decreases-loop-rest l = length l.rest
