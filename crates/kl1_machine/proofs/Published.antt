-- What a reduction has left when its name is published.
use Rattle.kl1_machine.proofs.Words.{most_names, ◌≡◌, ℕ, ◌&&◌, false, List, refl, sym, ap, ◌∙◌, subst, Option, Some, None, State, is_in_run, reduce, reduced, Transition, is_full, needs_entry, with_reduction, step, Action, acted, CellName, Known, number_by, Cell, Atom, Binding, Held, IsIn, with_binding, contents, Program, Spelled, Reading, Fits, meaning, goal_with, texts_of, names_with, NameShelf, AreSmall, spare, IsNewName, AreSettled, Made, IsMadeIn, worked, Machine, made, Trail, Keeps, IsRested, IsBoundLast, HoldsSpare, Patches, CanPublish, IsNamed, Publishes, Judges, exchanged, ReadsAlike, goals_in_by, shoens_in_by, with_spare, spare_texts, spare_fits, spare_reads, exchanged_fits, settled_alike, inl, inr}
use Rattle.std.proofs.lemmas.List.{same_from_push}
use Rattle.kl1_model.specs.State as model
use Rattle.kl1_atoms.specs.Knowing.{option_cases}
use Rattle.kl1_machine.specs.Reducing.{Reduces as HasReduced}
use Rattle.kl1_machine.proofs.Planned.{state_in, steps_some, rested_judges}
use Rattle.kl1_machine.proofs.Publishing.{published_made}
use Rattle.kl1_machine.proofs.Stepped.{ReadBoth, bare, same_goal, same_action}

-- ---- cells of a store whose last binding is to another cell

made_bound : (h : Held CellName) (v : ℕ) (x y : Cell CellName) (w : Made) → IsMadeIn (with_binding h v x) w → IsMadeIn (with_binding h v y) w
made_bound h v x y w i =
    let up : (z : Cell CellName) → IsIn (with_binding h v x) z → IsIn (with_binding h v y) z = λ z j. j in
    record { some = i.some; goals = goals_in_by (with_binding h v x) (with_binding h v y) up w.goals i.goals; shoens = shoens_in_by (with_binding h v x) (with_binding h v y) up w.shoens i.shoens; owned = i.owned }

-- what is made has its cells when a name has its number
made_patched : (s : Option Spelled) (k : CellName) (h last : Held CellName) (w : Made) → IsBoundLast s h → Patches s k h last → IsMadeIn h w → IsMadeIn last w
made_patched None k h last w i patches a = let P : Held CellName → Type 0 = λ z. IsMadeIn z w in subst P (sym patches) a
made_patched (Some s) k h last w i patches a =
    rw (patches i.before i.constant i.marked i.bound) (made_bound i.before s.variable i.constant (Atom k) w (rw i.bound at a))

-- ---- the spare number in its own place

-- if the spare number stands for a name, the store is what it is when the name gets this number
spare_again : (s : Option Spelled) (h : Held CellName) → HoldsSpare s h → Patches s spare h h
spare_again None h i = refl
spare_again (Some s) h i = λ before y marked bound.
    let both : with_binding before s.variable y ≡ with_binding i.before s.variable (Atom spare) = sym bound ∙ i.bound in
    let lists : (with_binding before s.variable y).bindings ≡ (with_binding i.before s.variable (Atom spare)).bindings = ap (λ (z : Held CellName). z.bindings) both in
    let is : y ≡ Atom spare = ap (λ (b : Binding CellName). b.value) (same_from_push before.bindings i.before.bindings (record { variable = s.variable; value = y }) (record { variable = s.variable; value = Atom spare }) lists).1 in
    bound ∙ ap (with_binding before s.variable) is

-- ---- a reduction and a name that is published

-- a machine's name, if there is one, is among these names by a number, be it a spare one, and this is the store with that number
record Numbers (m u : Machine) (more : List Known) (last : Held CellName) : Type 0 where
  number : CellName
  named : IsNamed m.names.names more u.name number
  patches : Patches u.spelled number u.store.held last

-- machine `m`, which rested, has come to `u` by a reduction; `u` has become `v` as its name was published
record Comes (program : Program) (n c : ℕ) (m u v : Machine) : Type 0 where
  rested : IsRested program m
  alike : ReadsAlike m
  reduces : HasReduced program n c m u
  keeps : Keeps m u
  rests : IsRested program u
  can : CanPublish u
  published : Publishes u v

module _ (program : Program) (n c : ℕ) (m u v : Machine) (q : Comes program n c m u v) where
  -- the goal was judged by readings of the names
  judged : (f : Reading) → Fits m.names.names f → Judges program m.store.held q.reduces.goal f
  judged f fits = rested_judges program m n q.reduces.goal f q.rested q.reduces.steppable.found fits

  -- two readings, of names that have numbers in two ways, read the same state
  same_states : (more less : List Known) (last first : Held CellName) → Numbers m u more last → Numbers m u less first → (f g : Reading) → Fits more f → Fits less g → (s : State) → worked f s last (made u) ≡ worked g s first (made u)
  same_states more less last first a b f g one two s =
      let fits = a.named.fits f one in
      let other = b.named.fits g two in
      let k = q.reduces.goal in
      let was : Reading → State = λ q. state_in q s m in
      let both : ReadBoth m n k f g = record { alike = q.alike; found = q.reduces.steppable.found; first = fits; second = other } in
      let same : q.reduces.action f ≡ q.reduces.action g = same_action program m n c k f g both (q.reduces.action f) (q.reduces.action g) (q.reduces.does f (judged f fits)) (q.reduces.does g (judged g other)) in
      sym (q.reduces.acts more a.number last a.named a.patches f one s)
      ∙ ap (λ (x : model.Goal). acted x (q.reduces.action f) (was f)) (same_goal program m n k f g both)
      ∙ ap (λ (x : Action). acted (goal_with (meaning g m.store.held) k) x (was f)) same
      ∙ ap (acted (goal_with (meaning g m.store.held) k) (q.reduces.action g)) (q.alike f g fits other s)
      ∙ q.reduces.acts less b.number first b.named b.patches g two s

  names_are : u.names ≡ m.names
  names_are = ap (λ (t : Trail). t.names) q.keeps.trail

  -- the names that the machine has at last
  published : Numbers m u v.names.names v.store.held
  published = record { number = q.published.number; named = rw names_are at q.published.named; patches = q.published.patches }

  -- its name by the spare number
  spared : (text : List ℕ) → u.name ≡ Some text → number_by m.names.names text ≡ None → Numbers m u (with_spare m.names.names text) u.store.held
  spared text is new =
      let known = m.names.names in
      let more = with_spare known text in
      record {
        number = spare;
        named = record {
          texts = spare_texts known text ∙ ap (names_with (texts_of known)) (sym is);
          fits = spare_fits known text new;
          reads = rw is (spare_reads known text new);
        };
        patches = spare_again u.spelled u.store.held q.reduces.spare_last;
      }

  -- ---- goals that are settled

  -- if a name came, for the reading by which the spare number was what that number is
  settled_named : (text : List ℕ) → u.name ≡ Some text → number_by m.names.names text ≡ None → (f : Reading) → Fits v.names.names f → AreSettled f u.store.hooks v.store.held program u.shoens.shoens u.goals.goals
  settled_named text is new f fits =
      let known = m.names.names in
      let more = with_spare known text in
      let g = exchanged spare q.published.number f in
      let a = published in
      let small : AreSmall known = rw names_are at q.can.small in
      let two : Fits more g = exchanged_fits known text q.published.number f small new (rw is at (q.published.named.reads f fits)) (a.named.fits f fits) in
      let states = same_states more v.names.names u.store.held v.store.held (spared text is new) a g f two fits (bare program) in
      settled_alike g f u.store.hooks u.store.held v.store.held program u.shoens.shoens u.goals.goals (ap (λ (z : State). z.shoens) states) (ap (λ (z : State). z.goals) states)
      (q.rests.settled g (rw names_are (spare_fits known text new g two)))

  -- if none did, the store is what it was
  settled_then : (f : Reading) → Fits v.names.names f → AreSettled f u.store.hooks v.store.held program u.shoens.shoens u.goals.goals
  settled_then f fits = elim (option_cases u.name) [
    | inl is ↦
        let none : u.spelled ≡ None = q.can.has is in
        let stays : v.store.held ≡ u.store.held = rw none at q.published.patches in
        rw stays (q.rests.settled f (q.published.named.fits f fits))
    | inr is ↦
        let new : IsNewName (most_names u) u.names.names (Some is.0) = rw is.1 at q.can.name in
        settled_named is.0 is.1 (ap (λ (x : NameShelf). number_by x.names is.0) (sym names_are) ∙ new.1.0) f fits
  ]

  -- ---- the machine rests

  rests_then : IsRested program v
  rests_then =
      let i = q.rests.machine in
      let W : Made → Type 0 = λ w. IsMadeIn v.store.held w in
      let inside : IsMadeIn v.store.held (made v) = subst W (sym (published_made u v q.published)) (made_patched u.spelled q.published.number u.store.held v.store.held (made u) q.can.last q.published.patches i.inside) in
      record {
        machine = record { inside = inside; placed = rw q.published.rest i.placed; last = rw q.published.rest i.last; known = rw q.published.rest i.known };
        rules = q.rests.rules ∙ sym (ap (λ (x : Machine). x.rules) q.published.rest);
        first = rw q.published.rest q.rests.first;
        rows = λ f fits. q.rests.rows f (q.published.named.fits f fits);
        settled = λ f fits. rw (q.published.hooks, q.published.rest) (settled_then f fits);
        enabled = rw q.published.rest q.rests.enabled;
      }

  -- ---- the states

  steps_then : (f : Reading) → Fits v.names.names f → (s : State) → s.modules ≡ contents program.loaded → (needs_entry (is_in_run (state_in f s m) n c) (state_in f s m) && is_full (state_in f s m)) ≡ false →
      step (state_in f s m) (reduce n c) ≡ record { state = state_in f (with_reduction (is_in_run (state_in f s m) n c) s) v; reply = reduced }
  steps_then f fits s is room =
      let a = published in
      let in_run = is_in_run (state_in f s m) n c in
      let z = with_reduction in_run s in
      steps_some f s m n c q.reduces.goal (q.reduces.action f) false q.reduces.steppable q.rested.enabled (q.reduces.does f (judged f (a.named.fits f fits)) s is) room
      ∙ ap (λ (x : State). let y : Transition = record { state = x; reply = reduced } in y)
      (q.reduces.acts v.names.names a.number v.store.held a.named a.patches f fits z ∙ ap (worked f z v.store.held) (sym (published_made u v q.published)))

-- an account's machine has come to another one by a reduction whose name is published, if it has one: it rests, and the state is that to
-- which the definitions step, for an account with these modules in whose journal there is room
pub record IsReduced (program : Program) (n c : ℕ) (m v : Machine) : Type 0 where
  pub rested : IsRested program v
  pub small : AreSmall v.names.names
  pub name : v.name ≡ None
  pub steps : (f : Reading) → Fits v.names.names f → (s : State) → s.modules ≡ contents program.loaded → (needs_entry (is_in_run (state_in f s m) n c) (state_in f s m) && is_full (state_in f s m)) ≡ false →
      step (state_in f s m) (reduce n c) ≡ record { state = state_in f (with_reduction (is_in_run (state_in f s m) n c) s) v; reply = reduced }

pub published_reduced : (program : Program) (n c : ℕ) (m u v : Machine) → IsRested program m → ReadsAlike m → HasReduced program n c m u → Keeps m u → IsRested program u × CanPublish u → Publishes u v → IsReduced program n c m v
published_reduced program n c m u v rested alike reduces keeps rests published =
    let q : Comes program n c m u v = record { rested = rested; alike = alike; reduces = reduces; keeps = keeps; rests = rests.0; can = rests.1; published = published } in
    record {
      rested = rests_then program n c m u v q;
      small = published.small;
      name = ap (λ (x : Machine). x.name) published.rest;
      steps = steps_then program n c m u v q;
    }
