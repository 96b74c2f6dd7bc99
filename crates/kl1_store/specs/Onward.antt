-- The next arguments of two structures.
use Rattle.std.specs.Prelude.{◌+◌}
use Rattle.kl1_store.specs.declared.frame.Frame.{Frame}

-- the pair, one argument further
abbrev pub onward : Frame → Frame
onward p = record { left = p.left; right = p.right; next = p.next + 1; count = p.count }
