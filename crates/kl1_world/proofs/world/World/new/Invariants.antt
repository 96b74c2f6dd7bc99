use Rattle.std.proofs.Common.{◌≡◌, ◌+◌, length}
use Rattle.kl1_world.specs.Seating.{AreSeated}
use Rattle.kl1_world.proofs.Seated.{accounts_of}
use Rattle.kl1_world.proofs.Makes.{AreSeatsFrom, AreFreshSo}
use Rattle.kl1_world.proofs.world.World.new.Given as goal

-- the accounts so far are fresh and have the first seats
abbrev pub invariant-loop-seat : goal.invariant-loop-seat
invariant-loop-seat g l = record {
  seated : AreSeated g.A.AtomSource.is_of g.A.AtomSource.place (g.C.CodeSource.has l.code_source) l.names l.kept.items;
  fresh : AreFreshSo l.rules (accounts_of l.kept.items) l.accounts;
  rest : AreSeatsFrom g.A.AtomSource.is_of g.A.AtomSource.place g.A.AtomSource.knows l.rules l.names (length l.kept.items) l.seat-iterator.rest.items;
  count : length l.kept.items + length l.seat-iterator.rest.items ≡ length l.accounts;
}
