use Rattle.std.proofs.Common.{refl, subst}
use Rattle.kl1_model_server.specs.laws.TextLaws.{IsWritten}
use Rattle.kl1_journal_entries.specs.Lined.{Rows}
use Rattle.kl1_journal_entries.proofs.Sound.{row_lines}
use Rattle.kl1_journal_entries.proofs.journal.Journal.shows_written.Goals as goal

pub returns : goal.returns
returns c =
    subst (λ (r : Rows). IsWritten r.journal) c.self.view_is
    (record {
      sessions = c.self.invariant.few_sessions;
      names = c.self.invariant.are_names;
      image = refl;
      entries = row_lines c.self.inside.rules c.self.inside.wholes.items c.self.inside.slots.items c.self.invariant.places c.self.invariant.sound;
    })
