use Rattle.std.proofs.Common.{◌≡◌, ◌≤◌, ℕ, length}
use Rattle.std.specs.Prelude.{slice_get, IfSome}
use Rattle.kl1_host_front.specs.Pauses.{wrongs_in, count_of, OthersStay}
use Rattle.kl1_host_front.proofs.wrong_keys.Pauses.forget.Given as goal

-- if the place is the end, nobody is left who is to be forgotten; else the one there is; others stay
abbrev pub invariant-loop-place : goal.invariant-loop-place
invariant-loop-place l = record {
  none : l.place ≡ length (wrongs_in l.self) → (now : ℕ) → count_of (wrongs_in l.self) l.who now ≡ 0;
  there : IfSome (slice_get (wrongs_in l.self) l.place) (λ wrong. wrong.who ≡ l.who);
  within : l.place ≤ length (wrongs_in l.self);
  others : OthersStay l.who (wrongs_in l.fn.self) (wrongs_in l.self);
}

abbrev pub decreases-loop-place : goal.decreases-loop-place
decreases-loop-place l = length (wrongs_in l.self)
