use Rattle.std.proofs.Common.{[], refl}
use Rattle.kl1_model.specs.Record.{records_of}
use Rattle.kl1_model_server.specs.Script.{written_records}
use Rattle.kl1_lines.specs.Replies.{all_of}
use Rattle.kl1_script.specs.Scripts.{replies_from, written_after}
use Rattle.kl1_script.proofs.Endings.{ends_as}
use Rattle.kl1_script.proofs.RecordReplies.{writes_all, written_all}
use Rattle.kl1_script.proofs.Worlds.{alone_fresh}
use Rattle.kl1_script.proofs.scripts.answer_over.Goals as goal

pub returns-in-Ok : goal.returns-in-Ok
returns-in-Ok g c =
    let accounts = c.args.accounts.now in
    let rs = records_of c.args.text.now in
    let fresh = alone_fresh accounts c.in-Ok.world.0 c.in-Ok.ensures.many c.in-Ok.ensures.fresh in
    ends_as c.answer_all.result (g.W.Sink.contents c.args.sink.now) (g.W.Sink.contents c.answer_all.new.sink) (g.W.Sink.failures c.args.sink.now) (g.W.Sink.failures c.answer_all.new.sink) (written_records accounts rs) (all_of (written_after accounts [] rs)) (replies_from accounts [] rs.list) (replies_from accounts [] rs.list) (written_all accounts rs) refl (c.answer_all.ensures.ends (written_after accounts [] rs) (writes_all accounts c.in-Ok.world.0 c.args.text.now fresh))
