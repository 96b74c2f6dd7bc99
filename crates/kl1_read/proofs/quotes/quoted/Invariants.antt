use Rattle.std.proofs.Common.{◌≡◌, ◌≤◌, ◌+◌, false, [], length, IsTrue}
use Rattle.std.specs.List.{list_all}
use Rattle.kl1_model.specs.declared.limits.TheConstants.{MOST_NAME_BYTES}
use Rattle.kl1_model.specs.Text.{is_name_byte}
use Rattle.kl1_model.specs.code.Fronts.{quoted_from}
use Rattle.kl1_read.proofs.quotes.quoted.Given as goal

-- what is left, after the text so far, is read as the whole; the text so far is a name
abbrev pub invariant-text : goal.invariant-text
invariant-text l =
    record {
      same : quoted_from l.after_quote l.text l.rest ≡ quoted_from false [] l.bytes;
      few : length l.text ≤ MOST_NAME_BYTES + 1;
      names : IsTrue (list_all is_name_byte l.text);
    }

abbrev pub decreases-text : goal.decreases-text
decreases-text l = length l.rest
