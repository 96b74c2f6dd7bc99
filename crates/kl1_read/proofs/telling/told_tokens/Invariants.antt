use Rattle.std.proofs.Common.{◌≡◌, [], ◌+◌, ◌≤◌, ◌++◌, map, length, vec_len, vec_capacity}
use Rattle.kl1_model.specs.Telling.{told_from}
use Rattle.kl1_read.specs.Spellings.{Finds}
use Rattle.kl1_read.specs.Views.{kept_token, numbered_token}
use Rattle.kl1_read.proofs.telling.told_tokens.Given as goal

-- the tokens so far, and those that are left with their numbers, are the whole; the numbers of the variables seen are found; there is room
abbrev pub invariant-loop-rest : goal.invariant-loop-rest
invariant-loop-rest l =
    record {
      finds : Finds l.numbers l.seen.items;
      same : map numbered_token l.out.items ++ told_from l.seen.items (map kept_token l.rest) ≡ told_from [] (map kept_token l.tokens);
      room : vec_len l.out + length l.rest ≤ vec_capacity l.out;
    }

abbrev pub decreases-loop-rest : goal.decreases-loop-rest
decreases-loop-rest l = length l.rest
