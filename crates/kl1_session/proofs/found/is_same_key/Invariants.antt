use Rattle.std.proofs.Common.{◌≡◌, ◌&&◌, drop, bytes_eq}
use Rattle.kl1_session.proofs.found.is_same_key.Given as goal

-- if all so far is the same, what is left tells whether all is
abbrev pub invariant-loop-i : goal.invariant-loop-i
invariant-loop-i l = (l.same && bytes_eq (drop l.i l.given) (drop l.i l.key)) ≡ bytes_eq l.given l.key
