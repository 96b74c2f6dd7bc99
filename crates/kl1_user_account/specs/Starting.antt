-- What a start makes of an account.
use Rattle.std.specs.Prelude.{◌≡◌, ℕ, suc, ◌+◌, ◌<◌, ◌≤◌, nat_lt, nat_le, not, ◌&&◌, Bool, true, List, [], ◌∷◌, length, Option, Some, None}
use Rattle.kl1_model.specs.Term.{Term}
use Rattle.kl1_model.specs.Meaning.{highest}
use Rattle.kl1_model.specs.Nodes.{goal_nodes}
use Rattle.kl1_model.specs.Opening.{may_start, start_goal}
use Rattle.kl1_model.specs.State.{State, limits_of, names_of, with_names}
use Rattle.kl1_model.specs.Tree.{goals_alive}
use Rattle.kl1_model.specs.Event.{Transition, start, opened, refuse, with_entry, too_many_names, limit_passed, journal_full}
use Rattle.kl1_model.specs.Event.{Refusal as Reason}
use Rattle.kl1_model.specs.Step.{step}
use Rattle.kl1_atoms.specs.declared.known.Known.{Known}
use Rattle.kl1_clause.specs.NameList.{with_texts}
use Rattle.kl1_user_events.specs.declared.refusal.Refusal.{Refusal}
use Rattle.kl1_user_events.specs.Views.{refusal_of}
use Rattle.kl1_user_account.specs.declared.counted.Counted.{Counted}
use Rattle.kl1_user_account.specs.declared.startable.Starting.{Starting}
use Rattle.kl1_user_account.specs.declared.startable.Starting.TheVariants.{Refused, Coded}
use Rattle.kl1_user_effects.specs.Account.{texts_of}

-- a state with these names, and with what is limited counted so
pub record HasNames (s : State) (names : List Known) (counted : Counted) : Type 0 where
  pub names_are : s.names ≡ texts_of names
  pub goals_are : goals_alive s ≡ counted.goals
  pub variables_are : s.variables ≡ counted.variables
  pub nodes_are : s.nodes ≡ counted.nodes
  pub shoens_are : s.last_shoen ≡ counted.shoens
  pub entries_are : s.entries ≡ counted.entries
  pub most_are : limits_of s.rules ≡ counted.most

-- whether a goal with `variables` variables and `nodes` structures can be started beside what is counted
abbrev pub has_room_beside : Counted → ℕ → ℕ → Bool
has_room_beside c variables nodes =
    nat_lt c.goals c.most.goals && nat_le (c.variables + suc (suc variables)) c.most.variables && nat_le (c.nodes + nodes) c.most.nodes && nat_lt c.shoens c.most.shoens

-- what refuses a goal of the console with these names, if there is room for it or not: too many names, no room, or a full journal
abbrev pub refusals_of : Counted → List Known → List (List ℕ) → Bool → List (Bool × Reason)
refusals_of c names texts has_room =
    (nat_lt c.most.names (length (with_texts (texts_of names) texts)), too_many_names) ∷ (not has_room, limit_passed) ∷ (not (nat_lt c.entries c.most.entries), journal_full) ∷ []

-- what comes of an event, or its refusal
abbrev pub refused_or : State → Transition → Option Refusal → Transition
refused_or s after None = after
refused_or s after (Some r) = refuse s (refusal_of r)

-- nothing refuses a goal of the console with these names
pub record IsFree (c : Counted) (names : List Known) (texts : List (List ℕ)) (has_room : Bool) : Type 0 where
  pub few : length (with_texts (texts_of names) texts) ≤ c.most.names
  pub has : has_room ≡ true
  pub journal : c.entries < c.most.entries

-- a goal may be started, and this is its code
pub record IsStartable (names : List Known) (counted : Counted) (allowance low high : ℕ) (goal code : Term) : Type 0 where
  pub code_is : code ≡ goal
  pub may : may_start allowance low high goal ≡ true
  pub free : IsFree counted names (with_names [] (names_of goal)) (has_room_beside counted (highest goal) (goal_nodes goal))
  pub steps : (s : State) → HasNames s names counted → step s (start allowance low high goal) ≡ record { state = with_entry (start_goal s allowance low high goal); reply = opened (suc s.last_shoen) }

-- what comes of a goal that is to be started
abbrev pub StartsAs : List Known → Counted → ℕ → ℕ → ℕ → Term → Starting → Type 0
StartsAs names counted allowance low high goal (Refused r) = (s : State) → HasNames s names counted → step s (start allowance low high goal) ≡ refuse s (refusal_of r)
StartsAs names counted allowance low high goal (Coded code) = IsStartable names counted allowance low high goal code
