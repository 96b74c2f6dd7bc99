use Rattle.std.proofs.Common.{false, refl}
use Rattle.kl1_command.specs.Commands.{command_view}
use Rattle.kl1_session.specs.Conversations.{Turn, performing}
use Rattle.kl1_session.specs.Replies.{told}
use Rattle.kl1_session.proofs.Conversations.{puts_by}
use Rattle.kl1_session.proofs.connection.perform.Goals as goal

pub returns-clause-takes : goal.returns-clause-takes
returns-clause-takes g c =
    let turn : Turn = performing c.args.account (command_view c.args.command.now) c.act-performed.result c.args.state.now.account false in
    record {
      turn = turn;
      answers = (c.act-performed.result, refl);
      done = c.act-performed.ensures.done;
      visitor = refl;
      puts = puts_by c.put_performed.result c.told_as.result c.args.state.now.replies.items c.put_performed.new.out.items (told c.act-performed.result) false turn c.put_performed.ensures.ok c.put_performed.ensures.err c.told_as.ensures.ok c.told_as.ensures.err refl refl;
    }
