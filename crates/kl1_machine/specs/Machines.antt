-- What holds of a machine, and what its calls keep.
use Rattle.std.specs.Prelude.{◌≡◌, ◌≤◌, ℕ, false, None, List, [], length}
use Rattle.kl1_model.specs.declared.rules.Rules.{Rules}
use Rattle.kl1_model.specs.State.{limits_of}
use Rattle.kl1_text.specs.declared.cell_name.CellName.{CellName}
use Rattle.kl1_store.specs.declared.point.Point.{Point}
use Rattle.kl1_store.specs.Sound.{IsFormed}
use Rattle.kl1_store.specs.Hooks.{point_of, HasGrown}
use Rattle.kl1_goals.specs.declared.goal.Goal.{Goal}
use Rattle.kl1_shoen_paths.specs.declared.shoen.Shoen.{Shoen}
use Rattle.kl1_user_effects.specs.Account.{texts_of}
use Rattle.kl1_user_effects.specs.Naming.{NameShelf}
use Rattle.kl1_user_effects.specs.Kept.{AreUpTo}
use Rattle.kl1_user_effects.specs.Drafts.{names_with}
use Rattle.kl1_user_effects.specs.Works.{Made, IsMadeIn}
use Rattle.kl1_machine.specs.declared.counts.Counts.{Counts}
use Rattle.kl1_machine.specs.declared.machine.Machine.{Machine}

-- what is made of an account
abbrev pub made : Machine → Made
made m = record {
  rules = m.rules;
  goals = m.goals.goals;
  shoens = m.shoens.shoens;
  work = m.shoens.work;
  names = names_with (texts_of m.names.names) m.name;
  last_goal = m.counts.last_goal;
  variables = m.counts.variables;
  nodes = m.counts.nodes;
  reports = m.counts.reports;
}

-- the most names that the account may use besides the built-in ones
abbrev pub most_names : Machine → ℕ
most_names m = (limits_of m.rules).names

-- what always holds of an account's parts: they have the store's cells, goals are of shoens that are there, none has a number above the
-- last, none was put with one, and the table of goals knows the shoens
pub record IsMachine (m : Machine) : Type 0 where
  pub inside : IsMadeIn m.store.held (made m)
  pub last : AreUpTo m.counts.last_goal m.goals.goals
  pub placed : m.goals.last ≤ m.counts.last_goal
  pub known : m.goals.shoens ≡ length m.shoens.shoens

-- what no event touches before it ends: what the machine goes back to, the rules, and the names that the account had
pub record Trail : Type 0 where
  pub rules : Rules
  pub mark : Point
  pub begun : Counts
  pub goals : List (Goal CellName)
  pub goal_shoens : ℕ
  pub goal_last : ℕ
  pub shoens : List (Shoen CellName)
  pub work : List ℕ
  pub names : NameShelf

abbrev pub trail_of : Machine → Trail
trail_of m = record {
  rules = m.rules;
  mark = m.mark;
  begun = m.begun;
  goals = m.goals.begun;
  goal_shoens = m.goals.begun_shoens;
  goal_last = m.goals.begun_last;
  shoens = m.shoens.kept;
  work = m.shoens.kept_work;
  names = m.names;
}

-- what was when the event began is still there to go back to: the store has grown, and the trail is what it was
pub record Keeps (m n : Machine) : Type 0 where
  pub grown : HasGrown m.store n.store
  pub trail : trail_of n ≡ trail_of m

-- an event has begun with this machine: its parts that go back go back to what it has
pub record IsBegun (b : Machine) : Type 0 where
  pub formed : IsFormed b.store.held
  pub mark : b.mark ≡ point_of b.store
  pub goals : b.goals.begun ≡ b.goals.goals
  pub goal_shoens : b.goals.begun_shoens ≡ b.goals.shoens
  pub goal_last : b.goals.begun_last ≡ b.goals.last
  pub shoens : b.shoens.kept ≡ b.shoens.shoens
  pub work : b.shoens.kept_work ≡ b.shoens.work
  pub counts : b.begun ≡ b.counts
  pub name : b.name ≡ None
  pub spelled : b.spelled ≡ None
  pub told : b.told.items ≡ []
  pub shifts : b.shifts ≡ false

-- a machine went back: what it has is what it had when the event began; nobody is told
pub record IsBack (b m : Machine) : Type 0 where
  pub held : m.store.held ≡ b.store.held
  pub hooks : m.store.hooks ≡ b.store.hooks
  pub goals : m.goals ≡ b.goals
  pub shoens : m.shoens.shoens ≡ b.shoens.shoens
  pub work : m.shoens.work ≡ b.shoens.work
  pub told : m.told.items ≡ []
  pub rest : m ≡ record b { store = m.store; goals = m.goals; shoens = m.shoens; told = m.told }

-- there is a machine with which the event has begun, and to which this one can go back
pub record IsUnder (m : Machine) : Type 0 where
  pub begun : Machine
  pub is : IsBegun begun
  pub keeps : Keeps begun m
