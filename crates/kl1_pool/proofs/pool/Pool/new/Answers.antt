use Rattle.std.proofs.Common.{ap, sym, ◌∙◌}
use lib.ListN.{length-map}
use Rattle.kl1_journal_stamps.specs.Stamps.{ShownValue, histories_of}
use Rattle.kl1_pool.specs.Parts.{PoolPartsValue}
use Rattle.kl1_pool.proofs.Naming.{all_at}
use Rattle.kl1_pool.proofs.pool.Pool.new.Goals as goal

pub places_of-requires-clause-shown : goal.places_of-requires-clause-shown
places_of-requires-clause-shown g c = (
  all_at g.K.TicketIds.tally g.K.ShownIds.histories (histories_of c.parts.inside.shown.items) g.K.TicketIds.accounts c.in_ok-common.field-0.books.items c.in_ok-common.ensures.books
      (length-map c.parts.inside.shown.items (λ (h : ShownValue). h.history) ∙ sym c.parts.inside.shown.ok.0 ∙ c.parts.invariant.3 ∙ ap (λ (p : PoolPartsValue). p.accounts) c.parts.view_is ∙ c.requires.tickets.2)
      (ap (λ (p : PoolPartsValue). p.histories) c.parts.view_is ∙ c.requires.shown),
  c.parts.invariant.4,
)
