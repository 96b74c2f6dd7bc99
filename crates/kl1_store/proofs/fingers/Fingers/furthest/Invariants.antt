use Rattle.std.proofs.Common.{◌≡◌, ◌≤◌, length}
use Rattle.std.specs.List.{All}
use Rattle.kl1_store.specs.Held.{Held, IsIn}
use Rattle.kl1_store.specs.Fingers.{IsFinger, AreFingers}
use Rattle.kl1_store.proofs.fingers.Fingers.furthest.Given as goal

-- the furthest place so far is right if all are, and so are the others
abbrev pub invariant-loop-others : goal.invariant-loop-others
invariant-loop-others g l = record {
  list : l.best.list ≡ l.fn.list;
  count : l.best.count ≤ l.fn.most;
  right : (h : Held g.row.N.Denot) → IsIn h l.fn.list → AreFingers g.N.NameValue.built h l.self → IsFinger g.N.NameValue.built h l.best;
  rest : (h : Held g.row.N.Denot) → AreFingers g.N.NameValue.built h l.self → All (IsFinger g.N.NameValue.built h) l.others;
}

abbrev pub decreases-loop-others : goal.decreases-loop-others
decreases-loop-others g l = length l.others
