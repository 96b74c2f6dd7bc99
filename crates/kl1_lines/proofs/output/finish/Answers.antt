use Rattle.std.proofs.lemmas.Result.{on_err_weaker}
use Rattle.kl1_lines.proofs.DeviceLaws.{front_of_all}
use Rattle.kl1_lines.proofs.output.finish.Goals as goal

pub returns-in-Ok-clause-front : goal.returns-in-Ok-clause-front
returns-in-Ok-clause-front g c =
    on_err_weaker c.flush.result (front_of_all (g.S.Sink.contents c.args.sink.now) (g.S.Sink.contents c.write_all.new.sink) (g.S.Sink.contents c.flush.new.self) c.args.bytes.now c.in-Ok.ensures.ok) c.flush.ensures.same
