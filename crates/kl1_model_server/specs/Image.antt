-- The image of an account: its state with the terms that its goals and shoens share, each structure once.
use Rattle.std.specs.Prelude.{ℕ, suc, ◌-◌, ◌==◌, nat_le, ◌&&◌, Bool, true, false, if◌then◌else◌, ℤ, List, [], ◌∷◌, ◌++◌, length, take, drop, map, replicate, slice_get, codes, Option, Some, None, option_map, option_and_then}
use Rattle.std.specs.List.{list_all}
use Rattle.kl1_model.specs.declared.life.Life.{Life}
use Rattle.kl1_model.specs.declared.rules.Rules.{Rules}
use Rattle.kl1_model.specs.Text.{is_built_in}
use Rattle.kl1_model.specs.Term as term
use Rattle.kl1_model.specs.Term.{Term, terms_of}
use Rattle.kl1_model.specs.Module.{Reading, good, bad, Module, read_module}
use Rattle.kl1_model.specs.State.{State, limits_of, Task, monitor, reduces, substitutes}
use Rattle.kl1_model.specs.State as model
use Rattle.kl1_model_server.specs.TextParts.{are_new_names}

-- what stands for a term: a variable by its number, an integer, the atom with this place among the image's words, or the structure that
-- stands so many structures before
pub data Cell : Type 0 where
  variable : ℕ → Cell
  integer : ℤ → Cell
  word : ℕ → Cell
  back : ℕ → Cell

-- a structure: the place of its name among the image's words, and its arguments
pub record Shape : Type 0 where
  pub name : ℕ
  pub arguments : List Cell

-- what a goal does; a goal in a module has the two arguments of its `:`
pub data Work : Type 0 where
  hears : Work
  does : Cell → Work
  calls : Cell → Cell → Work
  waits : Cell → Work

-- a goal: its number, its shoen, its priority, and what it does
pub record Goal : Type 0 where
  pub number : ℕ
  pub shoen : ℕ
  pub priority : ℕ
  pub work : Work

-- what the console keeps of a shoen
pub record Origin : Type 0 where
  pub goal : Cell
  pub forgotten : ℕ
  pub reports : Cell
  pub control : Cell

-- a shoen, whose number is its place from 1; `worked` is how many reductions were done in it, and not below it
pub record Shoen : Type 0 where
  pub parent : ℕ
  pub life : Life
  pub is_stopped : Bool
  pub is_broken : Bool
  pub allowance : ℕ
  pub low : ℕ
  pub high : ℕ
  pub worked : ℕ
  pub control : Cell
  pub tail : Cell
  pub origin : Option Origin

-- what is counted of an account
pub record Counts : Type 0 where
  pub last_variable : ℕ
  pub last_goal : ℕ
  pub variables : ℕ
  pub nodes : ℕ
  pub reports : ℕ
  pub entries : ℕ
  pub run : ℕ

-- an image: the account's rules; what is counted; its words, of which the first `names` are the names that the account uses, in order of
-- first use, and the others are built in; the sources of its modules, its structures, its shoens and its goals
pub record Image : Type 0 where
  pub rules : Rules
  pub counts : Counts
  pub names : ℕ
  pub words : List (List ℕ)
  pub sources : List (List ℕ)
  pub shapes : List Shape
  pub shoens : List Shoen
  pub goals : List Goal

-- what is made of each, if something is made of all
abbrev pub each : {A B : Type 0} → (A → Option B) → List A → Option (List B)
each f [] = Some []
each f (a ∷ others) = option_and_then (λ b. option_map (λ bs. b ∷ bs) (each f others)) (f a)

-- something made of two, if both are there
abbrev pub both : {A B C : Type 0} → (A → B → C) → Option A → Option B → Option C
both f a b = option_and_then (λ x. option_map (f x) b) a

-- ---- terms

-- the term that a cell stands for; `before` are the terms of the structures before it, the last first
abbrev pub term_in : List (List ℕ) → List Term → Cell → Option Term
term_in words before (variable v) = Some (term.variable v)
term_in words before (integer i) = Some (term.integer i)
term_in words before (word k) = option_map term.atom (slice_get words k)
term_in words before (back k) = if k == 0 then None else slice_get before (k - 1)

-- the term of a structure
abbrev pub shape_term : List (List ℕ) → List Term → Shape → Option Term
shape_term words before s = both (λ f ts. term.structure f (terms_of ts)) (slice_get words s.name) (each (term_in words before) s.arguments)

-- the terms of structures, the last first, after those before them
abbrev pub terms_in : List (List ℕ) → List Term → List Shape → Option (List Term)
terms_in words before [] = Some before
terms_in words before (s ∷ ss) = option_and_then (λ t. terms_in words (t ∷ before) ss) (shape_term words before s)

-- ---- the parts of a state

-- what a goal does, if cells stand for these terms
abbrev pub task_in : (Cell → Option Term) → Work → Option Task
task_in t hears = Some monitor
task_in t (does x) = option_map reduces (t x)
task_in t (calls m x) = both (λ a b. reduces (term.structure (codes ":") (terms_of (a ∷ b ∷ [])))) (t m) (t x)
task_in t (waits x) = option_map substitutes (t x)

-- a goal, if cells stand for these terms
abbrev pub goal_in : (Cell → Option Term) → Goal → Option model.Goal
goal_in t g = option_map (λ task. record { number = g.number; task = task; shoen = g.shoen; priority = g.priority }) (task_in t g.work)

-- what the console keeps, if cells stand for these terms
abbrev pub origin_in : (Cell → Option Term) → Origin → Option model.Origin
origin_in t o = option_and_then (λ goal. both (λ reports control. record { goal = goal; forgotten = o.forgotten; reports = reports; control = control }) (t o.reports) (t o.control)) (t o.goal)

-- nothing, or what is made of something if it is made
abbrev pub if_there : {A B : Type 0} → (A → Option B) → Option A → Option (Option B)
if_there f None = Some None
if_there f (Some a) = option_map Some (f a)

-- the shoen with this number, if cells stand for these terms
abbrev pub shoen_in : (Cell → Option Term) → ℕ → Shoen → Option model.Shoen
shoen_in t n h =
    option_and_then
    (λ origin. both
    (λ control tail. record {
      number = n;
      parent = h.parent;
      life = h.life;
      is_stopped = h.is_stopped;
      allowance = h.allowance;
      low = h.low;
      high = h.high;
      control = control;
      tail = tail;
      is_broken = h.is_broken;
      origin = origin;
    })
    (t h.control)
    (t h.tail))
    (if_there (origin_in t) h.origin)

-- the shoens from number `n` on
abbrev pub shoens_in : (Cell → Option Term) → ℕ → List Shoen → Option (List model.Shoen)
shoens_in t n [] = Some []
shoens_in t n (h ∷ hs) = both (λ a others. a ∷ others) (shoen_in t n h) (shoens_in t (suc n) hs)

-- the shoen of each reduction, those of one shoen together: in which order they were done makes no difference to what an account does
abbrev pub work_in : ℕ → List Shoen → List ℕ
work_in n [] = []
work_in n (h ∷ hs) = replicate h.worked n ++ work_in (suc n) hs

-- a module by its source, if it is good
abbrev pub module_in : List ℕ → Option Module
module_in source = elim (read_module source) [ good m ↦ Some m | bad line ↦ None ]

-- the words of an image may be: the first `names` are names that an account of these rules may have used, and the others are built in
abbrev pub are_words : Rules → ℕ → List (List ℕ) → Bool
are_words rules names words =
    nat_le names (limits_of rules).names && nat_le names (length words) && are_new_names [] (take names words) && list_all is_built_in (drop names words)

-- the state of an account without a name whose image this is, with no session open, if it is one
abbrev pub unnamed : Image → Option State
unnamed i =
    option_and_then
    (λ terms. let t = term_in i.words terms in
    option_and_then
    (λ modules. both
    (λ goals shoens. record {
      own_name = [];
      rules = i.rules;
      goals = goals;
      shoens = shoens;
      work = work_in 1 i.shoens;
      modules = modules;
      names = take i.names i.words;
      last_variable = i.counts.last_variable;
      last_goal = i.counts.last_goal;
      last_shoen = length i.shoens;
      variables = i.counts.variables;
      nodes = i.counts.nodes;
      reports = i.counts.reports;
      entries = i.counts.entries;
      run = i.counts.run;
      sessions = 0;
    })
    (each (goal_in t) i.goals)
    (shoens_in t 1 i.shoens))
    (each module_in i.sources))
    (if are_words i.rules i.names i.words then terms_in i.words [] i.shapes else None)

-- an account with this name
abbrev pub named : List ℕ → State → State
named own_name s = record s { own_name = own_name }

-- the state of the account of this name whose image this is, with no session open, if it is one
abbrev pub state_in : List ℕ → Image → Option State
state_in own_name i = option_map (named own_name) (unnamed i)
