use Rattle.kl1_host_front.proofs.wrong_keys.Pauses.forget_by.Goals as goal

pub returns-clause-forgives : goal.returns-clause-forgives
returns-clause-forgives c = (c.forget.new.self.wrongs.items, record { forgotten = c.forget.ensures.forgotten; others = c.forget.ensures.others }, c.forget_for.ensures)
