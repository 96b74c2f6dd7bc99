use Rattle.std.proofs.Common.{[]}
use Rattle.kl1_model_server.specs.JournalText.{lines_of}
use Rattle.kl1_model_server.specs.Replay.{written_names}
use Rattle.kl1_script.specs.Replays.{name_replies}
use Rattle.kl1_script.proofs.Endings.{nothing_ends}
use Rattle.kl1_script.proofs.replays.answer_headed.Goals as goal

pub returns-in-Err : goal.returns-in-Err
returns-in-Err g c =
    let h = c.args.heading in
    let ls = lines_of c.args.text.now in
    nothing_ends (Unit {0}) (g.W.Sink.contents c.args.sink.now) (g.W.Sink.failures c.args.sink.now) (written_names h.names 2 h.rules h.sessions [] ls.whole ls.rest) (name_replies h.names h.rules h.sessions [] ls.whole)
