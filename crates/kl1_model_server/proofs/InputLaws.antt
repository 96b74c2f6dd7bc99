-- The inputs of a stream don't depend on its cuts.
use Rattle.std.proofs.Common.{◌++◌, ap, ◌∙◌}
use Rattle.std.proofs.lemmas.List.{map-append}
use Rattle.kl1_model_server.specs.Cut.{cut_of}
use Rattle.kl1_model_server.specs.Inputs.{input_of, inputs_in, rest}
use Rattle.kl1_model_server.specs.laws.InputLaws.{InputsCutAnywhere}
use Rattle.kl1_model_server.proofs.Cuts.{cuts_anywhere}

pub inputs_cut_anywhere : InputsCutAnywhere
inputs_cut_anywhere = record {
  inputs_after = λ rules p q. ap (inputs_in rules) (cuts_anywhere p q) ∙ map-append (input_of rules) (cut_of p).requests (cut_of (rest p ++ q)).requests;
  rest_after = λ p q. ap (λ c. c.rest) (cuts_anywhere p q);
}
