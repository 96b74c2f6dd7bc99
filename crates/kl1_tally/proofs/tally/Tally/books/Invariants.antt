use Rattle.std.proofs.Common.{◌≡◌, ◌≤◌, [], map, vec_capacity, vec_len}
use Rattle.kl1_tally.specs.Numbers.{up_from}
use Rattle.kl1_tally.specs.Seats.{new_book}
use Rattle.kl1_tally.proofs.Making.{left}
use Rattle.kl1_tally.proofs.tally.Tally.books.Given as goal

-- the books of the accounts so far are made, and the seat that is left has the other accounts
abbrev pub invariant-loop-account : goal.invariant-loop-account
invariant-loop-account l = record {
  of : l.rest.table_id ≡ l.self.id;
  others : l.rest.me ≡ (left l.self.accounts l.self.shares l.account, []);
  room : l.accounts ≤ vec_capacity l.books;
  count : vec_len l.books ≡ l.account;
  made : l.books.items ≡ map (new_book l.self.id) (up_from 0 l.account);
}
