use Rattle.std.proofs.Common.{◌≡◌, ◌+◌, ℕ, length, drop}
use Rattle.kl1_host_front.specs.Pauses.{wrongs_in, count_of}
use Rattle.kl1_host_front.proofs.wrong_keys.Pauses.place_of.Given as goal

-- nobody who was looked at is who is looked for, and what is left is what is from the place on
abbrev pub invariant-loop-rest : goal.invariant-loop-rest
invariant-loop-rest l = record {
  same : (now : ℕ) → count_of l.rest l.who now ≡ count_of (wrongs_in l.self) l.who now;
  place : l.place + length l.rest ≡ length (wrongs_in l.self);
  left : drop l.place (wrongs_in l.self) ≡ l.rest;
}

abbrev pub decreases-loop-rest : goal.decreases-loop-rest
decreases-loop-rest l = length l.rest
