use Rattle.std.proofs.Common.{◌+◌, refl, sym}
use Rattle.kl1_journal_entries.specs.Reading.{heading_view}
use Rattle.kl1_log.proofs.Faults.{opening_is}
use Rattle.kl1_log.proofs.recovery.count_opening.Goals as goal

pub returns-clause-some : goal.returns-clause-some
returns-clause-some c =
    opening_is c.args.text.now c.in_ok-line.line.now c.in_ok-line.field-0-1.now (heading_view c.in_ok-heading.heading) (c.in_ok-heading.heading.names + 1) c.in_ok-line.ensures.some (sym c.in_ok-heading.ensures.value) refl
