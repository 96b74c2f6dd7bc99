use Rattle.kl1_session.specs.Views.{entries_view}
use Rattle.kl1_host_work.specs.Fronts.{names_in}
use Rattle.kl1_host_work.proofs.attending.attend_once.Given as goal

abbrev pub ghosts-attend_as-C-Connecting : goal.ghosts-attend_as-C-Connecting
ghosts-attend_as-C-Connecting g a = record { connection = a.connection.pen.book }

abbrev pub ghosts-attend_as-C-Names : goal.ghosts-attend_as-C-Names
ghosts-attend_as-C-Names g a = record { names = names_in (entries_view a.host.keys.now) }
