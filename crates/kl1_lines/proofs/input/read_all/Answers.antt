use Rattle.std.proofs.Common.{◌+◌, arith}
use Rattle.kl1_model.specs.declared.limits.TheConstants.{MOST_SCRIPT_BYTES}
use Rattle.kl1_lines.proofs.DeviceLaws.{reads_more}
use Rattle.kl1_lines.proofs.input.read_all.Goals as goal

pub returns-in_err-read_piece-clause-few : goal.returns-in_err-read_piece-clause-few
returns-in_err-read_piece-clause-few g c =
    reads_more (g.S.Source.remaining c.args.source.now) (g.S.Source.remaining c.loop-bytes.source) (g.S.Source.remaining c.read_piece.new.source) c.loop-bytes.bytes.items _ (MOST_SCRIPT_BYTES + 1) c.loop-bytes.invariant.consumes c.read_piece.ensures.few (grind arith)
