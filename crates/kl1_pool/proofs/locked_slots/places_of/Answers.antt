use Rattle.std.proofs.Common.{◌≡◌, ◌+◌, [], ◌∷◌, ap, ◌∙◌, length, length-append, rules, arith}
use Rattle.std.proofs.lemmas.List.Elements.{All-pop}
use Rattle.kl1_pool_tickets.specs.Parts.{IsNewBook}
use Rattle.kl1_pool.specs.Parts.{IsFreshSeat}
use Rattle.kl1_pool.proofs.Seating.{but_last}
use Rattle.kl1_pool.proofs.Naming.{unshown_last}
use Rattle.kl1_pool.proofs.locked_slots.places_of.Goals as goal

pub loop-book-preserved : goal.loop-book-preserved
loop-book-preserved g c =
    let books : length c.loop-book.books.items ≡ length c.pop.new.self.items + 1 = ap length c.in-Some.ensures.items ∙ length-append c.pop.new.self.items (c.in-Some.book ∷ []) in
    let seats : length c.loop-book.seats.items ≡ length c.last_of-seat.new.list.items + 1 = ap length c.last_of-seat.ensures ∙ length-append c.last_of-seat.new.list.items (c.last_of-seat.result ∷ []) in
    let shown : length c.loop-book.shown.items ≡ length c.last_of-history.new.list.items + 1 = ap length c.last_of-history.ensures ∙ length-append c.last_of-history.new.list.items (c.last_of-history.result ∷ []) in
    record {
      seats = but_last (IsFreshSeat g.C.Vacant.table g.C.Vacant.seats g.C.Vacant.keeps_to) c.loop-book.seats.items c.last_of-seat.new.list.items c.last_of-seat.result c.last_of-seat.ensures c.loop-book.invariant.seats;
      books = (All-pop (IsNewBook g.C.Vacant.tally) c.loop-book.books.items c.pop.new.self.items c.pop.result c.pop.ensures.items c.loop-book.invariant.books).0;
      as_many = omega (arith, books, seats, c.loop-book.invariant.as_many);
      unshown = (unshown_last g.C.Vacant.histories c.loop-book.books.items c.pop.new.self.items c.in-Some.book c.loop-book.shown.items c.last_of-history.new.list.items c.last_of-history.result c.in-Some.ensures.items c.last_of-history.ensures c.loop-book.invariant.unshown).0;
      shown = omega (arith, books, shown, c.loop-book.invariant.shown);
      count = search rules;
      room = search rules;
    }

pub vacant-requires-clause-shown : goal.vacant-requires-clause-shown
vacant-requires-clause-shown g c =
    (unshown_last g.C.Vacant.histories c.loop-book.books.items c.pop.new.self.items c.in-Some.book c.loop-book.shown.items c.last_of-history.new.list.items c.last_of-history.result c.in-Some.ensures.items c.last_of-history.ensures c.loop-book.invariant.unshown).1
