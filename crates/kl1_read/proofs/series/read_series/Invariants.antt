use Rattle.std.proofs.Common.{◌≡◌, map, length, IsTrue}
use Rattle.std.specs.List.{list_all}
use Rattle.kl1_model.specs.Meaning.{is_writable}
use Rattle.kl1_read.specs.Views.{numbered_token}
use Rattle.kl1_read.specs.Meanings.{fit, series_read}
use Rattle.kl1_read.specs.States.{state_answer}
use Rattle.kl1_read.proofs.series.read_series.Given as goal

-- what still comes of the state are the terms of the whole; those that are done can be written
abbrev pub invariant-tokens : goal.invariant-tokens
invariant-tokens l =
    record {
      same : fit (state_answer l.frames.items l.done.items l.left l.state) ≡ fit (series_read (map numbered_token l.tokens));
      fits : IsTrue (list_all is_writable l.done.items);
    }

abbrev pub decreases-tokens : goal.decreases-tokens
decreases-tokens l = length l.state.rest.now
