use Rattle.std.proofs.Common.{◌≡◌, length, take}
use Rattle.kl1_world.specs.Worlds.{events_of, IsRun}
use Rattle.kl1_world.proofs.world.World.run.Given as goal

-- the events so far are done
abbrev pub invariant-loop-done : goal.invariant-loop-done
invariant-loop-done g l = record {
  run : IsRun l.fn.self.0 l.self.0 (events_of (take l.done l.events)) l.replies.items;
  many : length l.self.0 ≡ length l.fn.self.0;
  count : length l.replies.items ≡ l.done;
}
