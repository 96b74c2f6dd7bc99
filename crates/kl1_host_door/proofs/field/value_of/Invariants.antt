use Rattle.std.proofs.Common.{◌≡◌, length}
use Rattle.kl1_host_door.specs.Fields.{value_of}
use Rattle.kl1_host_door.proofs.field.value_of.Given as goal

-- the first of the fields that are left has the value
abbrev pub invariant-loop-rest : goal.invariant-loop-rest
invariant-loop-rest l = value_of l.name l.rest ≡ value_of l.name l.fields

abbrev pub decreases-loop-rest : goal.decreases-loop-rest
decreases-loop-rest l = length l.rest
