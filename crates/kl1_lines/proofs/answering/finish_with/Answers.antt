use Rattle.std.proofs.Common.{[], ◌++◌, refl, sym}
use Rattle.std.proofs.lemmas.List.{append-nil}
use Rattle.kl1_lines.proofs.DeviceLaws.{appends_none, front_behind}
use Rattle.kl1_lines.proofs.answering.finish_with.Goals as goal

pub returns-in-Err-finish : goal.returns-in-Err-finish
returns-in-Err-finish g c =
    let waiting = c.args.waiting.now in
    let last = c.args.last.now in
    (front_behind (g.W.Sink.contents c.args.sink.now) (g.W.Sink.contents c.write_all.new.sink) (g.W.Sink.contents c.finish.new.sink) waiting last [] (waiting ++ last) c.in-Ok.ensures.ok c.in-Err-finish.ensures.front (append-nil (waiting ++ last)), rw (sym c.in-Ok.ensures.kept) c.in-Err-finish.ensures.failed)

pub returns-in-Err : goal.returns-in-Err
returns-in-Err g c =
    let waiting = c.args.waiting.now in
    let last = c.args.last.now in
    let old = g.W.Sink.contents c.args.sink.now in
    (front_behind old old (g.W.Sink.contents c.write_all.new.sink) [] waiting last (waiting ++ last) (appends_none old) c.in-Err.ensures.front refl, c.in-Err.ensures.failed)
