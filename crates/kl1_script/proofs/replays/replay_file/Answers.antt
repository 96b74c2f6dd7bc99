use Rattle.kl1_script.specs.Files.{file_output, file_replies}
use Rattle.kl1_script.proofs.Endings.{nothing_ends}
use Rattle.kl1_script.proofs.replays.replay_file.Goals as goal

pub returns-in-Err : goal.returns-in-Err
returns-in-Err g c = nothing_ends (Unit {0}) (g.W.Sink.contents c.args.sink.now) (g.W.Sink.failures c.args.sink.now) (file_output c.args.text.now) (file_replies c.args.text.now)
