-- Cells that stand in goals and shoens.
use Rattle.kl1_machine.proofs.Words.{◌≡◌, List, [], ◌∷◌, map, refl, sym, ap, ap₂, ◌∙◌, Option, Some, None, option_map, codes, structure, CellName, Cell, Atom, Held, term_of-Atom, Task, Monitor, Reduces, Substitutes, Goal, Origin, Shoen, Reading, Means, meaning, told_in, aim_with, task_with, goal_with, origin_with, shoen_with, Machine, held_exchanged, read_exchanged, Reschedules, bare, ArePlain, no_atom_means}
use Rattle.kl1_model.specs.Term as term
use Rattle.kl1_model.specs.State as model
use Rattle.kl1_machine.proofs.Resting.{looked_read}

-- ---- from one way of reading cells to another

-- cells that two ways read the same are read the same by two others
abbrev Passes : Means → Means → Means → Means → Type 0
Passes t u b d = (x : Cell CellName) → t x ≡ u x → b x ≡ d x

module _ (t u b d : Means) (c : Passes t u b d) where
  task_passes : (k : Task CellName) → task_with t k ≡ task_with u k → task_with b k ≡ task_with d k
  task_passes Monitor e = refl
  task_passes (Reduces q) e =
      let same : aim_with t q ≡ aim_with u q = cc in
      ap model.reduces (by_module q.module_name same)
    where
      by_module : (m : Option CellName) → told_in t m (t q.cell) ≡ told_in u m (u q.cell) → told_in b m (b q.cell) ≡ told_in d m (d q.cell)
      by_module None p = c q.cell p
      by_module (Some m) p =
          let name : t (Atom m) ≡ u (Atom m) = cc in
          let cell : t q.cell ≡ u q.cell = cc in
          ap₂ (λ x y. structure (codes ":") (term.more x (term.more y term.none))) (c (Atom m) name) (c q.cell cell)
  task_passes (Substitutes x) e =
      let same : t x ≡ u x = cc in
      ap model.substitutes (c x same)

  pub goals_pass : (gs : List (Goal CellName)) → map (goal_with t) gs ≡ map (goal_with u) gs → map (goal_with b) gs ≡ map (goal_with d) gs
  goals_pass [] e = refl
  goals_pass (x ∷ gs) e =
      let first : goal_with t x ≡ goal_with u x = cc in
      let rest : map (goal_with t) gs ≡ map (goal_with u) gs = cc in
      let task : task_with b x.task ≡ task_with d x.task = task_passes x.task (ap (λ (k : model.Goal). k.task) first) in
      let more : map (goal_with b) gs ≡ map (goal_with d) gs = goals_pass gs rest in
      cc

  origin_passes : (o : Option (Origin CellName)) → option_map (origin_with t) o ≡ option_map (origin_with u) o → option_map (origin_with b) o ≡ option_map (origin_with d) o
  origin_passes None e = refl
  origin_passes (Some o) e =
      let same : origin_with t o ≡ origin_with u o = cc in
      let goal : b o.goal ≡ d o.goal = c o.goal (ap (λ (k : model.Origin). k.goal) same) in
      let reports : b o.reports ≡ d o.reports = c o.reports (ap (λ (k : model.Origin). k.reports) same) in
      let control : b o.control ≡ d o.control = c o.control (ap (λ (k : model.Origin). k.control) same) in
      cc

  shoen_passes : (s : Shoen CellName) → shoen_with t s ≡ shoen_with u s → shoen_with b s ≡ shoen_with d s
  shoen_passes s e =
      let control : b s.control ≡ d s.control = c s.control (ap (λ (k : model.Shoen). k.control) e) in
      let tail : b s.tail ≡ d s.tail = c s.tail (ap (λ (k : model.Shoen). k.tail) e) in
      let origin : option_map (origin_with b) s.origin ≡ option_map (origin_with d) s.origin = origin_passes s.origin (ap (λ (k : model.Shoen). k.origin) e) in
      cc

  pub shoens_pass : (ss : List (Shoen CellName)) → map (shoen_with t) ss ≡ map (shoen_with u) ss → map (shoen_with b) ss ≡ map (shoen_with d) ss
  shoens_pass [] e = refl
  shoens_pass (s ∷ ss) e =
      let first : shoen_with t s ≡ shoen_with u s = cc in
      let rest : map (shoen_with t) ss ≡ map (shoen_with u) ss = cc in
      ap₂ (λ (k : model.Shoen) (ks : List model.Shoen). k ∷ ks) (shoen_passes s first) (shoens_pass ss rest)

-- ---- what two readings read the same

means_bare : (f g : Reading) (h : Held CellName) → Passes (meaning f h) (meaning g h) (bare f) (bare g)
means_bare f g h (Atom a) e = sym (term_of-Atom f h a) ∙ e ∙ term_of-Atom g h a
means_bare f g h x e = refl

-- the cells of goals and shoens that two readings read the same
pub plain_named : (f g : Reading) (m : Machine) → map (goal_with (meaning f m.store.held)) m.goals.goals ≡ map (goal_with (meaning g m.store.held)) m.goals.goals → map (shoen_with (meaning f m.store.held)) m.shoens.shoens ≡ map (shoen_with (meaning g m.store.held)) m.shoens.shoens → ArePlain f g m
plain_named f g m goals shoens =
    let t = meaning f m.store.held in
    let u = meaning g m.store.held in
    let c = means_bare f g m.store.held in
    record { goals = goals_pass t u (bare f) (bare g) c m.goals.goals goals; shoens = shoens_pass t u (bare f) (bare g) c m.shoens.shoens shoens }

-- goals that are looked at again
pub plain_looked : (f g : Reading) (m n : Machine) → Reschedules m n → ArePlain f g m → ArePlain f g n
plain_looked f g m n r p =
    record {
      goals = looked_read (bare f) n.goals.goals m.goals.goals r.goals ∙ p.goals ∙ sym (looked_read (bare g) n.goals.goals m.goals.goals r.goals);
      shoens = rw r.rest p.shoens;
    }

-- plain cells, when numbers were exchanged
pub plain_means : (f : Reading) (ss ns : List CellName) (h : Held CellName) → Passes (bare f) (bare (read_exchanged ss ns f)) (meaning f (held_exchanged ss ns h)) (meaning (read_exchanged ss ns f) h)
plain_means f ss ns h (Atom a) e = term_of-Atom f (held_exchanged ss ns h) a ∙ e ∙ sym (term_of-Atom (read_exchanged ss ns f) h a)
plain_means f ss ns h x e = no_atom_means f ss ns h x tt
