use Rattle.std.proofs.Common.{◌+◌, ◌<◌, sym, subst, arith}
use Rattle.kl1_model.specs.declared.limits.TheConstants.{MOST_RUN}
use Rattle.kl1_model_server.specs.Journal.{Journal}
use Rattle.kl1_model_server.specs.laws.HistoryLaws.{EndsInRun}
use Rattle.kl1_journal_stamps.specs.Stamps.{MayFollow}
use Rattle.kl1_tests_disk.proofs.Growings.{run_goes_on}
use Rattle.kl1_tests_disk.proofs.journals.growing.Growing.run_on.Goals as goal

-- it is as it was
pub invariant_of-self : goal.invariant_of-self
invariant_of-self g c = (
  c.self.invariant.0,
  subst (λ (x : Journal). MayFollow c.self.inside.shown.last c.self.inside.generation x) (sym c.reserve.ensures.same) c.self.invariant.1,
  subst (λ (x : Journal). EndsInRun x.entries c.self.inside.run) (sym c.reserve.ensures.same) c.self.invariant.2,
)

pub invariant_of-self-2 : goal.invariant_of-self-2
invariant_of-self-2 g c =
    let less : c.self.inside.run < MOST_RUN = omega (arith, c.if-self.false) in
    let on = run_goes_on c.self.inside.shown.last c.self.inside.generation c.self.inside.run (c.self.inside.run + 1) c.self.inside.journal.journal c.reserve.new.self.journal c.put_reduction.new.self.journal c.reserve.ensures.same c.put_reduction.ensures (omega arith) less c.self.invariant.1 c.self.invariant.2 in
    (c.self.invariant.0, on.0, on.1)
