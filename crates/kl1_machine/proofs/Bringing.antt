-- Goals that the console brought, whose names are published.
use Rattle.kl1_machine.proofs.Words.{◌≡◌, ℕ, ◌-◌, List, [], map, refl, sym, ap, ap₂, ◌∙◌, arith, Option, Term, State, fresh, names_of, with_names, CellName, Held, with_texts, Program, Reading, Fits, meaning, goal_with, shoen_with, texts_of, names_with, NameShelf, AreSettled, worked, Machine, made, IsMachine, Trail, IsRested, Reschedules, naming, bare, ArePlain, held_exchanged, read_exchanged, Brings, IsPublished, collected, settled_alike, exchanged_variables, ReadsSpares, names_once, numbers_short, reads_spares, goals_in_by, in_same, shoens_in_by}
use Rattle.kl1_model.specs.State as model
use Rattle.kl1_machine.proofs.Resting.{looked_read}
use Rattle.kl1_machine.proofs.Plain.{goals_pass, shoens_pass, plain_named, plain_looked, plain_means}

-- ---- a goal that was brought, when goals were looked at again

-- what it brought is there as before
pub brings_rescheduled : (change : State → State) (goal : Term) (numbers : List CellName) (b m n : Machine) → Brings change goal numbers b m → Reschedules m n → Brings change goal numbers b n
brings_rescheduled change goal numbers b m n p r = record {
  states = λ f reads names s.
      let G : List model.Goal → State = λ gs. (let z : State = record (worked f s m.store.held (naming goal b m)) { goals = gs } in z) in
      p.states f reads names s
      ∙ ap G (sym (looked_read (meaning f m.store.held) n.goals.goals m.goals.goals r.goals))
      ∙ ap (λ (x : Machine). worked f s m.store.held (naming goal b x)) (sym r.rest)
      ∙ ap (λ (h : Held CellName). worked f s h (naming goal b n)) (sym r.held);
  plain = λ f g one two names is. plain_looked f g m n r (p.plain f g one two names is);
  machine = r.machine;
  named = record { name = ap (λ (x : Machine). x.name) r.rest ∙ p.named.name; spelled = ap (λ (x : Machine). x.spelled) r.rest ∙ p.named.spelled };
  work = ap (λ (x : Machine). x.shoens.work) r.rest ∙ p.work;
}

-- ---- names that are used

-- a list of names is used as the names of the goal are
pub names_used : (names texts : List (List ℕ)) (goal : Term) → texts ≡ with_names [] (names_of goal) → with_texts names texts ≡ with_names names (names_of goal)
unfolding with_texts
names_used names texts goal e = ap (with_names names) e ∙ collected names [] (names_of goal)

-- ---- a goal that was brought, whose names are published

module _ (change : State → State) (goal : Term) (spares numbers : List CellName) (m r n : Machine) (p : IsPublished change goal spares numbers m r n) where
  -- the reading by the spare numbers
  abbrev by_spares : Reading → Reading
  by_spares f = read_exchanged spares numbers f

  -- what the store holds when numbers stand for spare ones
  abbrev last : Held CellName
  last = held_exchanged spares numbers r.store.held

  names_same : r.names ≡ m.names
  names_same = ap (λ (t : Trail). t.names) p.keeps.trail

  fits_before : (f : Reading) → Fits n.names.names f → Fits m.names.names f
  fits_before f fits = rw names_same at (p.published.fits f fits)

  -- it reads the names that were there, and the spare numbers as the names that are new
  pub spares_read : (f : Reading) → Fits n.names.names f → ReadsSpares m.names.names (with_names [] (names_of goal)) spares (by_spares f)
  spares_read f fits =
      let texts = with_names [] (names_of goal) in
      reads_spares m.names.names f 0 texts spares numbers p.small (fits_before f fits) p.spared (p.published.numbers_are f fits) (numbers_short n.names.names texts numbers p.published.one p.published.small p.published.numbers_are) (names_once texts p.list)

  -- both read what was there as the same
  both : (f : Reading) → Fits n.names.names f → (s : State) → worked f s m.store.held (made m) ≡ worked (by_spares f) s m.store.held (made m)
  both f fits s = p.reads f (by_spares f) (fits_before f fits) (spares_read f fits).fits s

  -- and what stands by itself in goals and shoens now
  plain_now : (f : Reading) → Fits n.names.names f → ArePlain f (by_spares f) r
  plain_now f fits =
      let e = both f fits (fresh m.rules []) in
      let own = spares_read f fits in
      p.brings.plain f (by_spares f) fits.reads own.fits.reads own.reads (plain_named f (by_spares f) m (ap (λ (s : State). s.goals) e) (ap (λ (s : State). s.shoens) e))

  goals_now : (f : Reading) → Fits n.names.names f → map (goal_with (meaning f last)) r.goals.goals ≡ map (goal_with (meaning (by_spares f) r.store.held)) r.goals.goals
  goals_now f fits = goals_pass (bare f) (bare (by_spares f)) (meaning f last) (meaning (by_spares f) r.store.held) (plain_means f spares numbers r.store.held) r.goals.goals (plain_now f fits).goals

  shoens_now : (f : Reading) → Fits n.names.names f → map (shoen_with (meaning f last)) r.shoens.shoens ≡ map (shoen_with (meaning (by_spares f) r.store.held)) r.shoens.shoens
  shoens_now f fits = shoens_pass (bare f) (bare (by_spares f)) (meaning f last) (meaning (by_spares f) r.store.held) (plain_means f spares numbers r.store.held) r.shoens.shoens (plain_now f fits).shoens

  -- ---- the state

  -- the names that are used are those that were and the goal's
  names_now : with_names (made m).names (names_of goal) ≡ names_with (texts_of n.names.names) r.name
  names_now =
      let texts = with_names [] (names_of goal) in
      ap (λ (o : Option (List ℕ)). with_names (names_with (texts_of m.names.names) o) (names_of goal)) p.none
      ∙ sym (p.published.texts_are ∙ ap (λ (s : NameShelf). with_texts (texts_of s.names) texts) names_same ∙ names_used (texts_of m.names.names) texts goal refl)
      ∙ ap (names_with (texts_of n.names.names)) (sym (p.brings.named.name ∙ p.none))

  -- what was read by the spare numbers is read by the numbers that the names got
  read_now : (f : Reading) → Fits n.names.names f → (s : State) → worked (by_spares f) s r.store.held (naming goal m r) ≡ worked f s n.store.held (made n)
  read_now f fits s =
      let R : List model.Goal → List model.Shoen → ℕ → List (List ℕ) → State = λ gs hs v ns. record (worked f s r.store.held (made r)) { goals = gs; shoens = hs; last_variable = v; names = ns } in
      let v = r.store.held.variables - 1 in
      let gs = map (goal_with (meaning f last)) r.goals.goals in
      let hs = map (shoen_with (meaning f last)) r.shoens.shoens in
      ap₂ (λ (x : List model.Goal) (y : List model.Shoen). R x y v (with_names (made m).names (names_of goal))) (sym (goals_now f fits)) (sym (shoens_now f fits))
      ∙ ap₂ (λ (i : ℕ) (ns : List (List ℕ)). R gs hs i ns) (ap (λ (i : ℕ). i - 1) (sym (exchanged_variables spares numbers r.store.held))) names_now
      ∙ ap (λ (h : Held CellName). worked f s h (made (record r { names = n.names }))) (sym p.published.held)
      ∙ sym (ap (λ (y : Machine). worked f s y.store.held (made y)) p.published.rest)

  -- the state is what the change makes of it, for each reading of the names that are there now
  pub published_states : (f : Reading) → Fits n.names.names f → (s : State) → change (worked f s m.store.held (made m)) ≡ worked f s n.store.held (made n)
  published_states f fits s =
      let own = spares_read f fits in
      ap change (both f fits s) ∙ p.brings.states (by_spares f) own.fits.reads own.reads s ∙ read_now f fits s

  -- ---- what holds between events

  -- what always holds does
  machine_now : IsMachine r → IsMachine (record r { store = n.store; names = n.names })
  machine_now i =
      let w = i.inside in
      let some = w.some in
      let same = exchanged_variables spares numbers r.store.held in
      let more = ap (λ (h : Held CellName). h.variables) p.published.held in
      record {
        inside = record {
          some = omega (arith, some, same, more);
          goals = rw p.published.held (goals_in_by r.store.held (held_exchanged spares numbers r.store.held) (in_same spares numbers r.store.held) r.goals.goals w.goals);
          shoens = rw p.published.held (shoens_in_by r.store.held (held_exchanged spares numbers r.store.held) (in_same spares numbers r.store.held) r.shoens.shoens w.shoens);
          owned = w.owned;
        };
        last = i.last;
        placed = i.placed;
        known = i.known;
      }

  -- goals stand and hang as they did, for each reading of the names that are there now
  settled_now : (program : Program) → IsRested program r → (f : Reading) → Fits n.names.names f → AreSettled f n.store.hooks n.store.held program r.shoens.shoens r.goals.goals
  settled_now program k f fits =
      let g = by_spares f in
      let own : Fits r.names.names g = rw names_same (spares_read f fits).fits in
      rw (p.published.hooks, p.published.held)
      (settled_alike g f r.store.hooks r.store.held last program r.shoens.shoens r.goals.goals (sym (shoens_now f fits)) (sym (goals_now f fits)) (k.settled g own))

  -- the machine is at rest
  pub published_rested : (program : Program) → IsRested program r → IsRested program n
  published_rested program k =
      rw p.published.rest
      (record {
        machine = machine_now k.machine;
        rules = k.rules;
        first = k.first;
        rows = λ f fits. k.rows f (p.published.fits f fits);
        settled = settled_now program k;
        enabled = k.enabled;
      })
