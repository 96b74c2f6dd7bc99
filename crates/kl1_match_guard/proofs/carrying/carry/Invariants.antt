use Rattle.std.proofs.Common.{◌≡◌, ◌≤◌, vec_len, vec_capacity}
use Rattle.kl1_match_guard.specs.Pendings.{ComesToSame, rights_of}
use Rattle.kl1_match_guard.proofs.carrying.carry.Given as goal

-- what comes of the number so far after what is left of the stack is what comes of the first number after the whole stack
abbrev pub invariant-loop-pending : goal.invariant-loop-pending
invariant-loop-pending g l = record {
  means : ComesToSame l.fn.stack.items l.fn.number l.stack.items l.value;
  rights : rights_of l.fn.stack.items ≡ rights_of l.stack.items;
  len : vec_len l.stack ≤ vec_len l.fn.stack;
  capacity : vec_capacity l.stack ≡ vec_capacity l.fn.stack;
}

abbrev pub decreases-loop-pending : goal.decreases-loop-pending
decreases-loop-pending g l = vec_len l.stack
