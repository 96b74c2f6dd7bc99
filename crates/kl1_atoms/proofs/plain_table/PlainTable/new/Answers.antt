use Rattle.std.proofs.Common.{◌<◌, arith}
use Rattle.std.proofs.lemmas.Option.{slice_get_within}
use Rattle.kl1_atoms.proofs.Rows.{new_seat}
use Rattle.kl1_atoms.proofs.plain_table.PlainTable.new.Goals as goal

pub returns-clause-seats : goal.returns-clause-seats
returns-clause-seats c = λ k seat e.
    let is = c.in_ok-seats.ensures.each k seat e in
    let within : k < c.args.accounts = (let w = slice_get_within c.in_ok-seats.seats.items k seat e in let n = c.in_ok-seats.ensures.count in omega arith) in
    record {
      of = rw (is.0, is.1, is.2) (new_seat c.in_ok-places.places.items c.args.accounts k c.in_ok-places.ensures.count c.in_ok-places.ensures.free within);
      account_is = is.0;
      nothing = is.2;
    }
