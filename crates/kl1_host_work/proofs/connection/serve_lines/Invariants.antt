use Rattle.kl1_session.specs.Views.{entries_view}
use Rattle.kl1_host_work.specs.Fronts.{names_in}
use Rattle.kl1_host_work.proofs.connection.serve_lines.Given as goal

abbrev pub ghosts-serve_lines_of-C-Connecting : goal.ghosts-serve_lines_of-C-Connecting
ghosts-serve_lines_of-C-Connecting g a = record { connection = a.connection.pen.book }

abbrev pub ghosts-serve_lines_of-C-Names : goal.ghosts-serve_lines_of-C-Names
ghosts-serve_lines_of-C-Names g a = record { names = names_in (entries_view a.host.keys.now) }
