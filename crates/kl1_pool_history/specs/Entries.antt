-- What was done, as a list that only contracts see has it.
use Rattle.kl1_command.specs.Commands.{command_view}
use Rattle.kl1_session.specs.Conversations.{Done}
use Rattle.kl1_pool_history.specs.declared.history.Entry.{Entry}

-- the command that an entry has
abbrev pub done_of : Entry → Done
done_of e = record { account = e.account.value; command = command_view e.command.value; answer = e.performed.value }
