use Rattle.std.proofs.Common.{Bool, subst}
use Rattle.kl1_pool.specs.Restoring.{entries_by, IsRestored}
use Rattle.kl1_pool.proofs.restoring.restore_all.Goals as goal

pub returns-clause-restored : goal.returns-clause-restored
returns-clause-restored g c = λ f fits.
    let kept = g.H.Host.kept in
    let old = c.args.host.now in
    let new = c.restore_each.new.host in
    let h = c.restore_each.ensures in
    subst (λ (b : Bool). IsRestored (kept f old).state (entries_by b c.args.journal.now.journal.entries) c.restore_each.result (kept f new).state) (c.untells-untold.ensures f (h.before f fits)) (h.restored f fits)
