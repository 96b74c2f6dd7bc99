use Rattle.std.proofs.Common.{◌≡◌, ◌++◌, length, map}
use Rattle.kl1_model_server.specs.Command.{written_lines}
use Rattle.kl1_log.proofs.growth.put_lines.Given as goal

-- the bytes, and the lines that are left, are all that is to be put
abbrev pub invariant-loop-rest : goal.invariant-loop-rest
invariant-loop-rest l = l.out.items ++ written_lines (map (λ t. t.items) l.rest) ≡ l.fn.out.items ++ written_lines (map (λ t. t.items) l.lines)

abbrev pub decreases-loop-rest : goal.decreases-loop-rest
decreases-loop-rest l = length l.rest
