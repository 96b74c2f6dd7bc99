use Rattle.std.proofs.Common.{◌≡◌, IfOk, Option, subst}
use Rattle.kl1_model_server.specs.Command.{Command}
use Rattle.kl1_command.specs.Commands.{parsed_view}
use Rattle.kl1_command.proofs.ShortLines.{short_line}
use Rattle.kl1_command.proofs.parsed.parse.Goals as goal

pub returns : goal.returns
returns c =
    subst (λ (o : Option Command). IfOk c.parse_by.result (λ parsed. parsed_view parsed ≡ o))
    (short_line c.args.rules c.args.line.now c.split_word.result.0.now c.split_word.result.1.now c.if-line-gt-MOST_COMMAND_BYTES.false c.split_word.ensures.word c.split_word.ensures.behind) c.parse_by.ensures
