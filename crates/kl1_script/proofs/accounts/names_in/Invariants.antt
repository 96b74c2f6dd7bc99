use Rattle.std.proofs.Common.{◌≡◌, ◌≤◌, ◌++◌, true, length}
use Rattle.std.specs.List.{list_all}
use Rattle.kl1_model.specs.declared.limits.TheConstants.{MOST_ACCOUNTS}
use Rattle.kl1_model.specs.Line.{words_of}
use Rattle.kl1_model.specs.AccountName.{is_account_name}
use Rattle.kl1_script.proofs.accounts.names_in.Given as goal

-- the names so far and the words that are left are the words of the line
abbrev pub invariant-loop-rest : goal.invariant-loop-rest
invariant-loop-rest l = record {
  same : l.names.items ++ words_of l.rest ≡ words_of l.line;
  all : list_all is_account_name l.names.items ≡ true;
  few : length l.names.items ≤ MOST_ACCOUNTS;
}

abbrev pub decreases-loop-rest : goal.decreases-loop-rest
decreases-loop-rest l = length l.rest
