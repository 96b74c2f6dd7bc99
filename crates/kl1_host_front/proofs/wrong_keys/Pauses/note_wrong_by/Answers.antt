use Rattle.kl1_host_front.proofs.wrong_keys.Pauses.note_wrong_by.Goals as goal

pub returns-clause-notes : goal.returns-clause-notes
returns-clause-notes c = (c.note_wrong.new.self.wrongs.items, record { counted = c.note_wrong.ensures.counted; others = c.note_wrong.ensures.others }, c.note_wrong_for.ensures)
