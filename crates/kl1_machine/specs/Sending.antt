-- Messages from the console: what comes of them.
use Rattle.std.specs.Prelude.{◌≡◌, ℕ, ◌<◌}
use Rattle.kl1_model.specs.declared.message.Message.{Message}
use Rattle.kl1_model.specs.State.{State, limits_of}
use Rattle.kl1_model.specs.Event.{control, sent, with_entry}
use Rattle.kl1_model.specs.Step.{step}
use Rattle.kl1_user_events.specs.declared.refusal.Refusal.{Refusal}
use Rattle.kl1_text.specs.Reading.{Reads}
use Rattle.kl1_codes.specs.Shelves.{Program}
use Rattle.kl1_user_effects.specs.Fitting.{Reading, built}
use Rattle.kl1_user_effects.specs.Works.{worked}
use Rattle.kl1_user_effects.specs.Messages.{Usage, RefusesMessage}
use Rattle.kl1_machine.specs.declared.machine.Machine.{Machine}
use Rattle.kl1_machine.specs.Machines.{made}
use Rattle.kl1_machine.specs.Effects.{KeepsName}
use Rattle.kl1_machine.specs.Rested.{IsRested}

-- what is counted of a machine, if the journal has this number of entries
abbrev pub usage_of : Machine → ℕ → Usage
usage_of m entries = record { most = limits_of m.rules; variables = m.counts.variables; nodes = m.counts.nodes; entries = entries }

-- a message to shoen `n` was sent, and its entry is left to be made
pub record Sends (program : Program) (entries n : ℕ) (message : Message) (m u : Machine) : Type 0 where
  pub journal : entries < (limits_of m.rules).entries
  pub steps : (f : Reading) → Reads built f → (s : State) → s.entries ≡ entries →
      step (worked f s m.store.held (made m)) (control n message) ≡ record { state = with_entry (worked f s u.store.held (made u)); reply = sent }
  pub rested : IsRested program u
  pub named : KeepsName m u
  pub work : u.shoens.work ≡ m.shoens.work

-- it was refused for a reason, and nothing has changed
pub record IsRefusedMessage (entries n : ℕ) (message : Message) (m u : Machine) (r : Refusal) : Type 0 where
  pub refuses : RefusesMessage m.shoens.shoens (usage_of m entries) n message r
  pub same : u ≡ m
