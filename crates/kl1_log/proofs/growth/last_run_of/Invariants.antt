use Rattle.std.proofs.Common.{◌≡◌, ◌∷◌, map, length}
use Rattle.kl1_log.specs.Later.{run_of_lines}
use Rattle.kl1_log.proofs.growth.last_run_of.Given as goal

-- the last of the lines that are left, after the one that was read, is the last of all
abbrev pub invariant-loop-rest : goal.invariant-loop-rest
invariant-loop-rest l = run_of_lines l.rules (l.last.items ∷ map (λ t. t.items) l.rest) ≡ run_of_lines l.rules (map (λ t. t.items) l.lines)

abbrev pub decreases-loop-rest : goal.decreases-loop-rest
decreases-loop-rest l = length l.rest
