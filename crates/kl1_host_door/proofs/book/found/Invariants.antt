use Rattle.std.proofs.Common.{◌≡◌, length}
use Rattle.kl1_host_door.specs.Books.{passes, first_of}
use Rattle.kl1_host_door.proofs.book.found.Given as goal

-- the session is the first of those that are left
abbrev pub invariant-loop-rest : goal.invariant-loop-rest
invariant-loop-rest l = first_of (passes l.test) l.rest ≡ first_of (passes l.test) l.sessions

abbrev pub decreases-loop-rest : goal.decreases-loop-rest
decreases-loop-rest l = length l.rest
