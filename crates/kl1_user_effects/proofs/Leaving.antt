-- Streams on which nothing is told any more, as they are kept and as the definitions have them.
use Rattle.kl1_user_effects.proofs.Words.{◌≡◌, Bool, true, false, if◌then◌else◌, refl, sym, ap, ◌∙◌, Option, Some, None, option_map, unwrap_or, Rules, EmptyList, nil, atom, has_forgetting, Reads, term_of-Atom, CellName, Cell, Atom, Held, IsIn, Origin, Shoen, Reading, built, Means, meaning, origin_with, shoen_with, IsShoenIn, control_left, left_by, torn, leaving}
use Rattle.kl1_model.specs.State as model
use Rattle.kl1_model.specs.Ending as ending

-- the cell that stands for such a stream means the empty list
pub left_means : (f : Reading) (h : Held CellName) → Reads built f → meaning f h (Atom (built EmptyList)) ≡ nil
left_means f h reads = term_of-Atom f h (built EmptyList) ∙ ap atom (reads.texts EmptyList)

-- a shoen of the definitions whose report stream is broken
abbrev pub broken_as : Rules → model.Shoen → model.Shoen
broken_as rules h = record h { is_broken = true; tail = if has_forgetting rules then nil else h.tail }

-- one that has ended, with what is left of its control stream
abbrev pub left_as : Rules → model.Shoen → model.Shoen
left_as rules h = record h { control = ending.control_left rules h.origin h.control }

-- cells mean this, and so does the one for such a stream
module _ (t : Means) (is : t (Atom (built EmptyList)) ≡ nil) where
  tail_by : (b : Bool) (x : Cell CellName) → (if b then nil else t x) ≡ t (unwrap_or (if b then Some (Atom (built EmptyList)) else None) x)
  tail_by true x = sym is
  tail_by false x = refl

  pub torn_read : (rules : Rules) (x : Shoen CellName) → broken_as rules (shoen_with t x) ≡ shoen_with t (torn rules x)
  torn_read rules x = ap (λ u. let z : model.Shoen = record (shoen_with t x) { is_broken = true; tail = u } in z) (tail_by (has_forgetting rules) x.tail)

  none_by : (b : Bool) (x : Cell CellName) → (if b then nil else t x) ≡ t (control_left (if b then Some (Atom (built EmptyList)) else None) None x)
  none_by true x = sym is
  none_by false x = refl

  some_by : (b : Bool) (o : Origin CellName) (x : Cell CellName) → t x ≡ t (control_left (if b then Some (Atom (built EmptyList)) else None) (Some o) x)
  some_by true o x = refl
  some_by false o x = refl

  pub control_read : (rules : Rules) (o : Option (Origin CellName)) (x : Cell CellName) → ending.control_left rules (option_map (origin_with t) o) (t x) ≡ t (control_left (left_by rules) o x)
  control_read rules None x = none_by (has_forgetting rules) x
  control_read rules (Some o) x = some_by (has_forgetting rules) o x

  pub leaving_read : (rules : Rules) (x : Shoen CellName) → left_as rules (shoen_with t x) ≡ shoen_with t (leaving rules x)
  leaving_read rules x = ap (λ u. let z : model.Shoen = record (shoen_with t x) { control = u } in z) (control_read rules x.origin x.control)

-- ---- the cells are a store's

tail_in : (h : Held CellName) (b : Bool) (x : Cell CellName) → IsIn h x → IsIn h (unwrap_or (if b then Some (Atom (built EmptyList)) else None) x)
tail_in h true x i = tt
tail_in h false x i = i

pub torn_in : (rules : Rules) (h : Held CellName) (x : Shoen CellName) → IsShoenIn h x → IsShoenIn h (torn rules x)
torn_in rules h x i = record { control = i.control; tail = tail_in h (has_forgetting rules) x.tail i.tail; origin = i.origin; low = i.low; high = i.high }

left_in : (h : Held CellName) (b : Bool) (o : Option (Origin CellName)) (x : Cell CellName) → IsIn h x → IsIn h (control_left (if b then Some (Atom (built EmptyList)) else None) o x)
left_in h true None x i = tt
left_in h true (Some o) x i = i
left_in h false None x i = i
left_in h false (Some o) x i = i

pub control_in : (rules : Rules) (h : Held CellName) (x : Shoen CellName) → IsShoenIn h x → IsIn h (control_left (left_by rules) x.origin x.control)
control_in rules h x i = left_in h (has_forgetting rules) x.origin x.control i.control

pub leaving_in : (rules : Rules) (h : Held CellName) (x : Shoen CellName) → IsShoenIn h x → IsShoenIn h (leaving rules x)
leaving_in rules h x i = record { control = control_in rules h x i; tail = i.tail; origin = i.origin; low = i.low; high = i.high }
