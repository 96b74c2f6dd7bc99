-- Inputs that are kept.
use Rattle.std.specs.Prelude.{◌≡◌, ℕ, List, ◌++◌, map, Option}
use Rattle.kl1_user_events.specs.Views.{refusal_of}
use Rattle.kl1_command.specs.Commands.{command_view}
use Rattle.kl1_model_server.specs.Cut.{Cut}
use Rattle.kl1_model.specs.declared.rules.Rules.{Rules}
use Rattle.kl1_model_server.specs.Inputs as inputs
use Rattle.kl1_model_server.specs.Inputs.{inputs_in}
use Rattle.kl1_session.specs.Going.{rest_of, IsKept, IsFew, going}
use Rattle.kl1_session.specs.declared.input.Input.{Input}
use Rattle.kl1_session.specs.declared.input.Input.TheVariants as input

-- the input that this one is
abbrev pub input_view : Input → inputs.Input
input_view (input.Login name key) = inputs.login name.items key.items
input_view (input.Command c) = inputs.command (command_view c)
input_view (input.Refused r) = inputs.refused (refusal_of r)

-- the inputs of a cut, by the rules of the accounts, were put after others, and its rest is what is kept
pub record Collects (rules : Rules) (cut : Cut) (before after : List Input) (source : Option ℕ) (kept : List ℕ) : Type 0 where
  pub inputs : map input_view after ≡ map input_view before ++ inputs_in rules cut
  pub rest : rest_of source kept ≡ cut.rest
  pub fits : IsKept source kept

-- what bytes ask for that were ended was put after others, or they began a load: so the inputs and the rest go on, whatever follows
pub record Begins (rules : Rules) (cut : List ℕ → Cut) (before after : List Input) (source : Option ℕ) : Type 0 where
  pub inputs : (bytes : List ℕ) → map input_view after ++ inputs_in rules (going source bytes) ≡ map input_view before ++ inputs_in rules (cut bytes)
  pub rest : (bytes : List ℕ) → (going source bytes).rest ≡ (cut bytes).rest
  pub few : IsFew source
