use Rattle.kl1_model.specs.declared.limits.TheConstants.{MOST_SCRIPT_BYTES}
use Rattle.std.proofs.Common.{◌+◌}
use Rattle.kl1_lines.specs.Runs.{streams}
use Rattle.kl1_script.specs.Files.{file_output, file_replies}
use Rattle.kl1_script.proofs.Endings.{nothing_read, nothing_runs}
use Rattle.kl1_script.proofs.replays.run_replay.Goals as goal

pub returns-in-Err-clause-runs : goal.returns-in-Err-clause-runs
returns-in-Err-clause-runs g c = nothing_runs (Unit {0}) file_output file_replies (streams g.R.Source.remaining g.R.Source.failures g.W.Sink.contents g.W.Sink.failures c.args.source.now c.args.sink.now)

pub returns-in-Err-clause-few : goal.returns-in-Err-clause-few
returns-in-Err-clause-few g c = nothing_read (g.R.Source.remaining c.args.source.now) (MOST_SCRIPT_BYTES + 1)
