use Rattle.std.proofs.Common.{◌≡◌, ◌+◌, length}
use Rattle.kl1_host_door.specs.Books.{passes, place_from, place_of}
use Rattle.kl1_host_door.proofs.book.place_of.Given as goal

-- the session is as far on among those that are left
abbrev pub invariant-loop-rest : goal.invariant-loop-rest
invariant-loop-rest l = record {
  same : place_from (passes l.test) l.place l.rest ≡ place_of (passes l.test) l.sessions;
  number : l.place + length l.rest ≡ length l.sessions;
}

abbrev pub decreases-loop-rest : goal.decreases-loop-rest
decreases-loop-rest l = length l.rest
