use Rattle.std.proofs.Common.{sym, subst}
use Rattle.kl1_model_server.specs.Journal.{Journal}
use Rattle.kl1_model_server.specs.laws.HistoryLaws.{EndsInRun}
use Rattle.kl1_journal_stamps.specs.Stamps.{MayFollow}
use Rattle.kl1_tests_disk.proofs.Growings.{reduced_goes_on, ends_in_none}
use Rattle.kl1_tests_disk.proofs.journals.growing.Growing.reduce.Goals as goal

-- it is as it was
pub invariant_of-self : goal.invariant_of-self
invariant_of-self g c = (
  c.self.invariant.0,
  subst (λ (x : Journal). MayFollow c.self.inside.shown.last c.self.inside.generation x) (sym c.reserve.ensures.same) c.self.invariant.1,
  subst (λ (x : Journal). EndsInRun x.entries c.self.inside.run) (sym c.reserve.ensures.same) c.self.invariant.2,
)

pub invariant_of-self-2 : goal.invariant_of-self-2
invariant_of-self-2 g c = (
  c.self.invariant.0,
  reduced_goes_on c.self.inside.shown.last c.self.inside.generation 1 0 c.self.inside.journal.journal c.reserve.new.self.journal c.put_reduction.new.self.journal c.reserve.ensures.same c.put_reduction.ensures c.self.invariant.1,
  ends_in_none c.put_reduction.new.self.journal.entries,
)
