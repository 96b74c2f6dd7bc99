use Rattle.kl1_user_account.proofs.Words.{spared_count}
use Rattle.kl1_user_account.proofs.name_rows.rows_for.Goals as goal

pub returns-clause-rows : goal.returns-clause-rows
returns-clause-rows c =
    record {
      spared = rw c.reserve.ensures.names at c.in_ok-spare_row.ensures;
      count = spared_count c.reserve.new.self.names 0 c.args.texts.now c.spare_row.new.row.items c.in_ok-spare_row.ensures;
      numbers = c.in_ok-numbers.ensures.items;
      numbers_room = c.in_ok-numbers.ensures.capacity;
      pairs = c.in_ok-pairs.ensures.empty;
      pairs_room = c.in_ok-pairs.ensures.room;
    }
