use Rattle.kl1_run_work.proofs.runs.run_watched.Given as goal

abbrev pub decreases-loop-left : goal.decreases-loop-left
decreases-loop-left g l = l.left
