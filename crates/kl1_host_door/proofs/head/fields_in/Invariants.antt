use Rattle.std.proofs.Common.{◌≡◌, ◌++◌, length, map, All}
use Rattle.httparse.specs.Spans.{IsHeaderWithin, header_bytes}
use Rattle.kl1_host_door.specs.Heads.{pair_of}
use Rattle.kl1_host_door.proofs.head.fields_in.Given as goal

-- the fields are those of the spans before the ones that are left, which lie in the bytes
abbrev pub invariant-loop-rest : goal.invariant-loop-rest
invariant-loop-rest l = record {
  fields : map pair_of l.fields.items ++ map (header_bytes l.bytes) l.rest ≡ map (header_bytes l.bytes) l.spans;
  within : All (IsHeaderWithin l.len) l.rest;
}

abbrev pub decreases-loop-rest : goal.decreases-loop-rest
decreases-loop-rest l = length l.rest
