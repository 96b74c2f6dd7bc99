use Rattle.kl1_host_journals.proofs.place.Place.shows_dated.Goals as goal

pub returns : goal.returns
returns g c = c.learn.ensures.4.1.dated c.args.self.now.seen.log c.learn.ensures.3
