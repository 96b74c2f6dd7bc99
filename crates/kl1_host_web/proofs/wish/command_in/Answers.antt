use Rattle.std.proofs.Common.{ap, ◌∙◌}
use Rattle.kl1_model.specs.declared.rules.Rules.TheVariants.{Five}
use Rattle.kl1_model_server.specs.Command.{parse}
use Rattle.kl1_host_web.proofs.Wanting.{command_is}
use Rattle.kl1_host_web.proofs.wish.command_in.Goals as goal

pub returns-in_ok-parse-in-Some : goal.returns-in_ok-parse-in-Some
returns-in_ok-parse-in-Some c = c.plain_wish.ensures ∙ command_is c.args.account c.args.value.now c.in-Some.line.now _ c.in-Some.ensures (c.in_ok-parse-in-Some.ensures ∙ ap (parse Five) c.as_bytes.ensures.value)
