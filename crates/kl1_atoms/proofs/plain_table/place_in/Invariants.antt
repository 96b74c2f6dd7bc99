use Rattle.std.proofs.Common.{◌≢◌, ℕ, ◌<◌, Some, slice_get}
use Rattle.kl1_atoms.proofs.plain_table.place_in.Given as goal

-- no place so far has the text
abbrev pub invariant-loop-place : goal.invariant-loop-place
invariant-loop-place l = (i : ℕ) → i < l.place → slice_get l.places i ≢ Some (Some l.text)
