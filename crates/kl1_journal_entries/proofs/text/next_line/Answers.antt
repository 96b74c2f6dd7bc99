use Rattle.std.proofs.Common.{List, ℕ, take, ap, sym, ◌∙◌}
use Rattle.kl1_model_server.specs.JournalText.{lines_of}
use Rattle.kl1_journal_entries.specs.Reading.{with_line}
use Rattle.kl1_journal_entries.proofs.Feeds.{first_of_lines, no_lines}
use Rattle.kl1_journal_entries.proofs.text.next_line.Goals as goal

pub returns-then-place-text-clause-some : goal.returns-then-place-text-clause-some
returns-then-place-text-clause-some c =
    first_of_lines c.args.text.now c.feed_place-place.result c.feed_place-place.ensures.value c.if-place-text.true
    ∙ ap (λ (bs : List ℕ). with_line (take c.feed_place-place.result c.args.text.now) (lines_of bs)) (sym c.bytes_from.ensures)

pub returns-else-place-text-clause-none : goal.returns-else-place-text-clause-none
returns-else-place-text-clause-none c = λ e. no_lines c.args.text.now c.feed_place-place.result c.feed_place-place.ensures.value c.feed_place-place.ensures.within c.if-place-text.false
