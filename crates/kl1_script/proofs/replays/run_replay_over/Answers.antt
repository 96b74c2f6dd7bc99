use Rattle.std.proofs.Common.{refl}
use Rattle.kl1_lines.specs.Runs.{streams}
use Rattle.kl1_lines.proofs.RunLaws.{runs_unread, runs_whole}
use Rattle.kl1_script.specs.Files.{file_output, file_replies}
use Rattle.kl1_script.proofs.replays.run_replay_over.Goals as goal

pub returns-in-Ok-clause-runs : goal.returns-in-Ok-clause-runs
returns-in-Ok-clause-runs g c =
    let old = streams g.R.Source.remaining g.R.Source.failures g.W.Sink.contents g.W.Sink.failures c.args.source.now c.args.sink.now in
    let new = streams g.R.Source.remaining g.R.Source.failures g.W.Sink.contents g.W.Sink.failures c.read_all.new.source c.replay_file.new.sink in
    runs_whole c.replay_file.result file_output file_replies c.in-Ok.text.items old new c.in-Ok.ensures.ok (c.in-Ok.ensures.not_read (λ e. cc)) (rw c.as_slice.ensures.value at c.replay_file.ensures)

pub returns-in-Err-clause-runs : goal.returns-in-Err-clause-runs
returns-in-Err-clause-runs g c =
    let old = streams g.R.Source.remaining g.R.Source.failures g.W.Sink.contents g.W.Sink.failures c.args.source.now c.args.sink.now in
    let new = streams g.R.Source.remaining g.R.Source.failures g.W.Sink.contents g.W.Sink.failures c.read_all.new.source c.args.sink.now in
    runs_unread (Unit {0}) _ c.in-Err.fault file_output file_replies old new refl refl c.in-Err.ensures.read c.in-Err.ensures.not_read c.in-Err.ensures.too_long c.in-Err.ensures.not_write
