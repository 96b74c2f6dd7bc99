-- Books as a tally makes them.
use Rattle.std.proofs.Common.{ℕ, zero, suc, ◌+◌, ◌≤◌, map, refl, arith}
use Rattle.std.specs.Prelude.{All}
use Rattle.std.proofs.lemmas.List.Elements.{All-nil, All-cons}
use Rattle.atomic_table.specs.Seated.{TableId}
use Rattle.kl1_tally.specs.declared.amounts.TheConstants.{MOST_ACCOUNTS}
use Rattle.kl1_tally.specs.Numbers.{up_from}
use Rattle.kl1_tally.specs.Seats.{new_book}
use Rattle.kl1_pool_tickets.specs.Parts.{IsNewBook}

-- all are new books
pub new_books : (id : TableId) (a n : ℕ) → a + n ≤ MOST_ACCOUNTS → All (IsNewBook id) (map (new_book id) (up_from a n))
new_books id a zero few = All-nil (IsNewBook id)
new_books id a (suc n) few =
    All-cons (IsNewBook id) (new_book id a) (map (new_book id) (up_from (a + 1) n)) (record { of = refl; within = omega arith; events = refl; steps = refl }) (new_books id (a + 1) n (omega arith))
