-- What comes of a load.
use Rattle.std.specs.Prelude.{◌≡◌, ℕ, ◌<◌, ◌≤◌, Bool, false, List, length, Option, Some, None, is_some}
use Rattle.kl1_model.specs.declared.limits.TheConstants.{MOST_MODULES}
use Rattle.kl1_model.specs.Match.{module_of}
use Rattle.kl1_model.specs.State.{State, limits_of}
use Rattle.kl1_model.specs.Module.{good}
use Rattle.kl1_model.specs.Event.{load, loaded, refuse, is_full, with_entry}
use Rattle.kl1_model.specs.Step.{step, load_module}
use Rattle.kl1_model.specs.code.Steps.{with_module}
use Rattle.kl1_atoms.specs.declared.known.Known.{Known}
use Rattle.kl1_clause.specs.NameList.{with_texts}
use Rattle.kl1_codes.specs.Numbered.{Numbered, own_names, number_of}
use Rattle.kl1_codes.specs.Finding.{contents, is_numbered}
use Rattle.kl1_user_account.specs.declared.loading.Loading.{Loading}
use Rattle.kl1_user_account.specs.declared.loading.Loading.TheVariants.{Refused, Drafted}
use Rattle.kl1_user_events.specs.declared.refusal.Refusal.{Refusal}
use Rattle.kl1_user_effects.specs.Account.{texts_of}
use Rattle.kl1_user_effects.specs.Naming.{ReadsDraft}
use Rattle.kl1_user_events.specs.Views.{refusal_of}

-- a state with these modules and names, which may have this many names, and whose journal is full or not
pub record HasModules (s : State) (ms : List Numbered) (names : List Known) (most : ℕ) (full : Bool) : Type 0 where
  pub modules_are : s.modules ≡ contents ms
  pub names_are : s.names ≡ texts_of names
  pub most_is : (limits_of s.rules).names ≡ most
  pub full_is : is_full s ≡ full

-- a load of a source is refused
abbrev pub RefusesLoad : List Numbered → List Known → ℕ → Bool → List ℕ → Refusal → Type 0
RefusesLoad ms names most full source r = (s : State) → HasModules s ms names most full → step s (load source) ≡ refuse s (refusal_of r)

-- a drafted module may be loaded: its numbers are read as its names, and it is none of those that are there
pub record IsDraft (ms : List Numbered) (names : List Known) (most : ℕ) (full : Bool) (d : Numbered) : Type 0 where
  pub reads : ReadsDraft names (own_names d.content) d.row
  pub new : is_numbered ms (number_of d) ≡ false
  pub absent : is_some (module_of (contents ms) d.content.name) ≡ false
  pub few : length (with_texts (texts_of names) (own_names d.content)) ≤ most
  pub modules_few : length ms < MOST_MODULES
  pub room : full ≡ false
  pub loads : (s : State) → HasModules s ms names most full → load_module s (good d.content) ≡ record { state = with_entry (with_module s d.content); reply = loaded d.content.name }

-- why a drafted module is refused, or nothing if it may be loaded
abbrev pub DraftsAs : List Numbered → List Known → ℕ → Bool → Numbered → Option Refusal → Type 0
DraftsAs ms names most full d None = IsDraft ms names most full d
DraftsAs ms names most full d (Some r) = (s : State) → HasModules s ms names most full → load_module s (good d.content) ≡ refuse s (refusal_of r)

-- a module is drafted for a source that may be loaded
pub record IsDraftOf (ms : List Numbered) (names : List Known) (most : ℕ) (full : Bool) (source : List ℕ) (d : Numbered) : Type 0 where
  pub draft : IsDraft ms names most full d
  pub loads : (s : State) → step s (load source) ≡ load_module s (good d.content)

-- what comes of a source that is to be loaded
abbrev pub LoadsAs : {C R : Type 0} → List Numbered → List Known → ℕ → Bool → List ℕ → Loading C R → Type 0
LoadsAs ms names most full source (Refused r) = RefusesLoad ms names most full source r
LoadsAs ms names most full source (Drafted d) = IsDraftOf ms names most full source d

-- the code of a module that is drafted stands at one of these places
abbrev pub StandsIn : {C R : Type 0} → (ℕ × ℕ → Type 0) → Loading C R → Type 0
StandsIn has (Refused r) = Unit {0}
StandsIn has (Drafted d) = has d.place
