-- Goals that the console brings, with numbers for their names of which some are spare ones, and what is so when these are published.
use Rattle.std.specs.Prelude.{◌≡◌, ◌≢◌, ℕ, suc, ◌+◌, ◌-◌, ◌<◌, ◌≤◌, ◌^◌, true, false, IsTrue, List, [], ◌∷◌, length, Option, Some, None}
use Rattle.kl1_model.specs.declared.limits.TheConstants.{MONITOR_PRIORITY}
use Rattle.kl1_model.specs.Term.{Term, variable, substituted}
use Rattle.kl1_model.specs.Answering.{answered}
use Rattle.kl1_model.specs.Goal.{is_goal}
use Rattle.kl1_model.specs.Meaning.{highest, is_numbered}
use Rattle.kl1_model.specs.Telling.{Given}
use Rattle.kl1_model.specs.Nodes.{goal_nodes, structures_of}
use Rattle.kl1_model.specs.Opening.{start_goal}
use Rattle.kl1_model.specs.State.{State, names_of, with_names}
use Rattle.kl1_text.specs.Reading.{Reads}
use Rattle.kl1_text.specs.declared.cell_name.CellName.{CellName}
use Rattle.kl1_clause.specs.NameList.{with_texts, IsNameList}
use Rattle.kl1_store.specs.declared.cell.Cell.{Cell}
use Rattle.kl1_store.specs.Held.{Held, IsIn}
use Rattle.kl1_store.specs.Sound.{Grown}
use Rattle.kl1_store.specs.Unbound.{IsUnbound}
use Rattle.kl1_atoms.specs.Names.{AreNames}
use Rattle.kl1_user_effects.specs.Fitting.{Reading, Fits, built}
use Rattle.kl1_match.specs.GoalCells.{new_in, told_at, AreTold}
use Rattle.kl1_user_effects.specs.Account.{texts_of, meaning}
use Rattle.kl1_user_effects.specs.Exchanging.{held_exchanged, AreSpared}
use Rattle.kl1_user_effects.specs.Naming.{AreSmall, AreNumbersOf}
use Rattle.kl1_user_effects.specs.Works.{worked}
use Rattle.kl1_machine.specs.declared.machine.Machine.{Machine}
use Rattle.kl1_machine.specs.declared.machine.answering.Answer.{Answer}
use Rattle.kl1_machine.specs.declared.machine.bringing.Brought.{Brought}
use Rattle.kl1_machine.specs.declared.machine.bringing.Brought.TheVariants as brought
use Rattle.kl1_machine.specs.declared.machine.starting.Start.{Start}
use Rattle.kl1_machine.specs.Machines.{made, IsMachine, Keeps}
use Rattle.kl1_machine.specs.Effects.{KeepsName, counting}
use Rattle.kl1_machine.specs.Starting.{ReadsNames, naming}
use Rattle.kl1_machine.specs.Reducing.{ReadsAlike}
use Rattle.kl1_machine.specs.Plain.{ArePlain}

-- the goal that the console brings
abbrev pub goal_of : Brought → Term
goal_of (brought.Starts s) = s.code.now
goal_of (brought.Answers a) = a.code.now

-- what stands for the goal of an answer, after the last variable: of its variables those that they tell, and the next ones for the others
abbrev pub given_by : Answer → ℕ → Given
given_by a last = record { goal = substituted (λ v. variable (told_at (suc last) a.told.now (v - 1))) a.code.now; new = a.new; tells_gone = false }

-- the goal of an answer in place of the variable that a substitute waits for
abbrev pub answered_by : Answer → State → State
answered_by a s = answered a.variable (given_by a s.last_variable) a.code.now s

-- what comes of it by the definitions
abbrev pub change_of : Brought → State → State
change_of (brought.Starts s) = λ z. start_goal z s.allowance s.low s.high s.code.now
change_of (brought.Answers a) = answered_by a

-- a goal may be started with these numbers for its names, if this many variables and structures are counted
pub record CanStart (variables nodes : ℕ) (numbers : List CellName) (s : Start) : Type 0 where
  pub goal : is_goal s.code.now ≡ true
  pub numbered : IsTrue (is_numbered s.code.now)
  pub variables_are : s.variables ≡ highest s.code.now
  pub numbers_are : length numbers ≡ length (with_names [] (names_of s.code.now))
  pub low : s.low ≤ MONITOR_PRIORITY
  pub high : s.high ≤ MONITOR_PRIORITY
  pub few : variables + (s.variables + 2) < 2 ^ 64
  pub small : nodes + goal_nodes s.code.now < 2 ^ 64

-- a variable that an answer's tells isn't the one that the goal takes the place of
abbrev pub AreOthers : ℕ → List (Option ℕ) → Type 0
AreOthers v [] = Unit {0}
AreOthers v (Some u ∷ ts) = (u ≢ v) × AreOthers v ts
AreOthers v (None ∷ ts) = AreOthers v ts

-- a goal may come in the place of a variable of a store, as an answer
pub record CanAnswer (h : Held CellName) (variables nodes : ℕ) (numbers : List CellName) (a : Answer) : Type 0 where
  pub goal : is_goal a.code.now ≡ true
  pub numbered : IsTrue (is_numbered a.code.now)
  pub count : length a.told.now ≡ highest a.code.now
  pub new_is : a.new ≡ new_in a.told.now
  pub nodes_are : a.nodes ≡ structures_of a.code.now
  pub numbers_are : length numbers ≡ length (with_names [] (names_of a.code.now))
  pub unbound : IsUnbound h a.variable
  pub told : AreTold h a.told.now
  pub others : AreOthers a.variable a.told.now
  pub few : variables + a.new < 2 ^ 64
  pub small : nodes + a.nodes < 2 ^ 64

abbrev pub CanBring : Held CellName → ℕ → ℕ → List CellName → Brought → Type 0
CanBring h variables nodes numbers (brought.Starts s) = CanStart variables nodes numbers s
CanBring h variables nodes numbers (brought.Answers a) = CanAnswer h variables nodes numbers a

-- a machine has come on by a change of states that brings a goal, with these numbers for its names, which aren't used as yet: with them
-- there is what there is by the definitions, no name of the goal stands by itself in a goal or a shoen, and nothing was charged
pub record Brings (change : State → State) (goal : Term) (numbers : List CellName) (m n : Machine) : Type 0 where
  pub states : (f : Reading) → Reads built f → ReadsNames numbers goal f → (s : State) → change (worked f s m.store.held (made m)) ≡ worked f s n.store.held (naming goal m n)
  pub plain : (f g : Reading) → Reads built f → Reads built g → ReadsNames numbers goal g → ArePlain f g m → ArePlain f g n
  pub machine : IsMachine n
  pub named : KeepsName m n
  pub work : n.shoens.work ≡ m.shoens.work

-- the goal of an answer was built, with these numbers for its names; nothing else has changed but what is counted, and no variable was bound
pub record BuildsAnswer (a : Answer) (numbers : List CellName) (m n : Machine) (x : Cell CellName) : Type 0 where
  pub rest : n ≡ record (counting (m.counts.variables + a.new) (m.counts.nodes + a.nodes) m) { store = n.store }
  pub machine : IsMachine n
  pub grown : Grown m.store.held n.store.held
  pub hooks : n.store.hooks ≡ m.store.hooks
  pub inside : IsIn n.store.held x
  pub variables : n.store.held.variables ≡ m.store.held.variables + a.new
  pub bindings : n.store.held.bindings ≡ m.store.held.bindings
  pub kept : (f : Reading) → Reads built f → (y : Cell CellName) → IsIn m.store.held y → meaning f n.store.held y ≡ meaning f m.store.held y
  pub means : (f : Reading) → Reads built f → ReadsNames numbers a.code.now f → meaning f n.store.held x ≡ (given_by a (m.store.held.variables - 1)).goal

-- names have their numbers in place of spare ones; nothing else of a machine has changed
pub record PublishesNames (texts : List (List ℕ)) (spares numbers : List CellName) (m n : Machine) : Type 0 where
  pub texts_are : texts_of n.names.names ≡ with_texts (texts_of m.names.names) texts
  pub numbers_are : AreNumbersOf n.names.names texts numbers
  pub fits : (f : Reading) → Fits n.names.names f → Fits m.names.names f
  pub one : AreNames n.names.names
  pub small : AreSmall n.names.names
  pub held : n.store.held ≡ held_exchanged spares numbers m.store.held
  pub hooks : n.store.hooks ≡ m.store.hooks
  pub rest : n ≡ record m { store = n.store; names = n.names }

-- a machine `m` has come on to `r` by a goal that was brought, with spare numbers for those of its names that are new, and these names
-- were published then
pub record IsPublished (change : State → State) (goal : Term) (spares numbers : List CellName) (m r n : Machine) : Type 0 where
  pub brings : Brings change goal spares m r
  pub keeps : Keeps m r
  pub reads : ReadsAlike m
  pub none : m.name ≡ None
  pub small : AreSmall m.names.names
  pub spared : AreSpared m.names.names 0 (with_names [] (names_of goal)) spares
  pub list : IsNameList (with_names [] (names_of goal))
  pub published : PublishesNames (with_names [] (names_of goal)) spares numbers r n
