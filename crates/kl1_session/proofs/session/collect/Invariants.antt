use Rattle.std.proofs.Common.{◌≡◌, ◌++◌, map, length}
use Rattle.kl1_model_server.specs.Inputs.{inputs_in}
use Rattle.kl1_session.specs.Going.{going, IsFew}
use Rattle.kl1_session.specs.Asking.{input_view}
use Rattle.kl1_session.proofs.session.collect.Given as goal

-- what was asked so far and what is left make the whole
abbrev pub invariant-requests : goal.invariant-requests
invariant-requests l = record {
  inputs : map input_view l.asked.items ++ inputs_in l.rules (going l.source l.rest) ≡ map input_view l.fn.asked.items ++ inputs_in l.rules (going l.fn.source l.fn.bytes);
  rest : (going l.source l.rest).rest ≡ (going l.fn.source l.fn.bytes).rest;
  few : IsFew l.source;
}

abbrev pub decreases-requests : goal.decreases-requests
decreases-requests l = length l.rest
