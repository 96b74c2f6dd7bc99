use Rattle.std.proofs.Common.{◌+◌, ◌-◌, ◌≤◌, [], length}
use Rattle.kl1_model_server.specs.JournalText.{lines_of}
use Rattle.kl1_user.specs.Accounts.{IsNameList}
use Rattle.kl1_script.specs.Names.{GoesOn}
use Rattle.kl1_script.proofs.names.names_in.Given as goal

-- the lines of the names so far are read, and the others are left
abbrev pub invariant-loop-names : goal.invariant-loop-names
invariant-loop-names l = record {
  on : GoesOn l.count 2 [] (lines_of l.text) (l.count - length l.names.items) (length l.names.items + 2) l.names.items (lines_of l.rest);
  few : length l.names.items ≤ l.count;
  list : IsNameList l.names.items;
  within : length l.rest ≤ length l.text;
}

abbrev pub decreases-loop-names : goal.decreases-loop-names
decreases-loop-names l = l.count - length l.names.items
