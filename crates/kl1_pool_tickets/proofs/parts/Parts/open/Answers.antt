use Rattle.std.proofs.Common.{◌≡◌, ◌+◌, ◌≤◌, map, sym, ap, subst, arith, rules}
use Rattle.std.specs.Prelude.{All}
use Rattle.kl1_tally.specs.declared.amounts.TheConstants.{MOST_ACCOUNTS}
use Rattle.kl1_tally.specs.Numbers.{up_from}
use Rattle.kl1_tally.specs.Seats.{new_book}
use Rattle.kl1_pool_tickets.specs.Parts.{IsNewBook}
use Rattle.kl1_pool_tickets.proofs.NewBooks.{new_books}
use Rattle.kl1_pool_tickets.proofs.parts.Parts.open.Goals as goal

pub returns-clause-new_books : goal.returns-clause-new_books
returns-clause-new_books g c =
    let id = g.K.TicketIds.tally in
    let few : 0 + g.K.TicketIds.accounts ≤ MOST_ACCOUNTS = (let f = c.self.invariant.7 in let v = ap (λ (p : _). p.accounts) c.self.view_is in let r = c.requires.2 in omega (arith, f, v, r)) in
    let are : c.self.inside.books.items ≡ map (new_book id) (up_from 0 g.K.TicketIds.accounts) = search rules in
    subst (All (IsNewBook id)) (sym are) (new_books id 0 g.K.TicketIds.accounts few)
