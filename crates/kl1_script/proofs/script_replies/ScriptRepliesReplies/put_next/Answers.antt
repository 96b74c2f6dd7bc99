use Rattle.std.proofs.Common.{true, false, refl}
use Rattle.kl1_model.specs.Record.{Record}
use Rattle.kl1_lines.specs.Records.{request_of}
use Rattle.kl1_script.proofs.RecordReplies.{record_put, record_end}
use Rattle.kl1_script.proofs.script_replies.ScriptRepliesReplies.put_next.Goals as goal

pub returns-in_ok-put_record-in-Found-clause-puts : goal.returns-in_ok-put_record-in-Found-clause-puts
returns-in_ok-put_record-in-Found-clause-puts g c =
    let r : Record = record { name = c.in-Found.record.name.now; request = request_of c.in-Found.record.request } in
    record_put c.args.self.now.accounts.now c.args.self.now.world.0 c.put_record.new.world.0 c.args.self.now.rest.now c.in-Found.record.rest.now c.args.out.now.items c.put_record.new.out.items r c.in-Found.ensures.step c.in_ok-put_record-in-Found.ensures.alone c.in_ok-put_record-in-Found.ensures.reply

pub returns-in-Truncated-clause-puts : goal.returns-in-Truncated-clause-puts
returns-in-Truncated-clause-puts g c =
    (refl, record_end c.args.self.now.accounts.now c.args.self.now.world.0 c.args.self.now.rest.now c.short_line.result true c.in-Truncated.ensures.step c.short_line.ensures)

pub returns-in-End-clause-puts : goal.returns-in-End-clause-puts
returns-in-End-clause-puts g c =
    (refl, record_end c.args.self.now.accounts.now c.args.self.now.world.0 c.args.self.now.rest.now c.new.result false c.in-End.ensures.step c.new.ensures)
