-- What commands and parsed lines are in the definitions.
use Rattle.std.specs.Prelude.{Option, Some, None}
use Rattle.kl1_model_server.specs.Command as model
use Rattle.kl1_user_events.specs.Views.{event_of}
use Rattle.kl1_command.specs.declared.command.Command.{Command}
use Rattle.kl1_command.specs.declared.command.Command.TheVariants as command
use Rattle.kl1_command.specs.declared.parsed.Parsed.{Parsed}
use Rattle.kl1_command.specs.declared.parsed.Parsed.TheVariants as parsed

-- the command that this one is
abbrev pub command_view : Command → model.Command
command_view (command.Does e) = model.does (event_of e)
command_view (command.Run n) = model.run n
command_view (command.Shows from count) = model.shows from count

-- the command that was parsed, if there is one
abbrev pub parsed_view : Parsed → Option model.Command
parsed_view (parsed.Command c) = Some (command_view c)
parsed_view parsed.Refused = None
