use Rattle.kl1_tests_disk.proofs.Growings.{shown_goes_on}
use Rattle.kl1_tests_disk.proofs.journals.growing.Growing.show.Goals as goal

pub invariant_of-self : goal.invariant_of-self
invariant_of-self g c =
    let on = shown_goes_on c.show.result c.self.inside.shown c.show.new.self g.J.ShownIds.histories c.self.inside.account c.self.inside.generation c.self.inside.journal.journal c.show.ensures.shown c.show.ensures.none c.self.invariant.0 c.self.invariant.1 in
    (on.0, on.1, c.self.invariant.2)
