-- What a session is told.
use Rattle.std.specs.Prelude.{ℕ, List, codes}
use Rattle.kl1_model.specs.Event.{ran}
use Rattle.kl1_model_server.specs.Command.{reply_lines, written_line, written_lines}
use Rattle.kl1_user_events.specs.Views.{reply_of}
use Rattle.kl1_command.specs.declared.performed.Performed.{Performed}
use Rattle.kl1_command.specs.declared.performed.Performed.TheVariants as performed

-- what a session is told of a command: its reply, the steps of a run that memory cut short, or that memory was refused
abbrev pub told : Performed → List ℕ
told (performed.Whole reply) = written_lines (reply_lines (reply_of reply))
told (performed.Short n) = written_lines (reply_lines (ran n))
told performed.Memory = written_line (codes "- 10 memory")
