use Rattle.std.proofs.Common.{◌≡◌, ◌+◌, ◌≤◌, length}
use Rattle.kl1_atoms.specs.Knowing.{KnowsFirst}
use Rattle.kl1_tests_threads.proofs.atoms.sources.are_found_again.Given as goal

-- the names so far are known, and no more than one name more for each of them
abbrev pub invariant-loop-place : goal.invariant-loop-place
invariant-loop-place g l = record {
  of : g.S.AtomSource.is_of l.source l.seat;
  room : (g.S.AtomSource.place l.seat).0.1 ≡ (g.S.AtomSource.place l.initial.seat).0.1;
  few : length (g.S.AtomSource.knows l.seat) ≤ length (g.S.AtomSource.knows l.initial.seat) + l.place;
  known : KnowsFirst (g.S.AtomSource.knows l.seat) l.names l.place;
}

-- all names are known
abbrev pub invariant-loop-place-2 : goal.invariant-loop-place-2
invariant-loop-place-2 g l = record {
  of : g.S.AtomSource.is_of l.source l.seat;
  known : KnowsFirst (g.S.AtomSource.knows l.seat) l.names (length l.names);
}
