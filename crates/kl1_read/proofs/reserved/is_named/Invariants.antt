use Rattle.std.proofs.Common.{◌≡◌, drop}
use Rattle.kl1_read.specs.Heads.{is_named}
use Rattle.kl1_read.proofs.reserved.is_named.Given as goal

-- the name is one of all, if it is one of those that are left
abbrev pub invariant-loop-built_in : goal.invariant-loop-built_in
invariant-loop-built_in l = is_named l.name (drop l.built_in-index l.names) ≡ is_named l.name l.names
