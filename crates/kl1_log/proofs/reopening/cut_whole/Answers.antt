use Rattle.kl1_log.proofs.Restoring.{cut_failed, cut_moments}
use Rattle.kl1_log.proofs.reopening.cut_whole.Goals as goal

pub returns-in_err-cut-clause-any_moment : goal.returns-in_err-cut-clause-any_moment
returns-in_err-cut-clause-any_moment g c =
    cut_failed (g.D.Disk.known c.args.disk.now) (g.D.Disk.known c.cut.new.self) c.args.text.now c.args.len c.requires.text c.requires.before c.requires.count c.in_err-cut.ensures.err

pub returns-clause-any_moment : goal.returns-clause-any_moment
returns-clause-any_moment g c =
    cut_moments (g.D.Disk.known c.args.disk.now) (g.D.Disk.known c.cut.new.self) c.args.text.now c.args.len c.requires.text c.requires.before c.requires.count c.requires.front c.in_ok-cut.ensures.ok
