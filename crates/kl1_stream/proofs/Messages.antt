-- A message that is put where a variable stands, and the empty list.
use Rattle.std.proofs.Common.{◌≡◌, ℕ, suc, ◌+◌, ◌<◌, ◌≤◌, Bool, true, false, ◌||◌, if◌then◌else◌, List, [], ◌∷◌, ◌++◌, length, take, refl, sym, ap, ◌∙◌, arith, subst}
use Rattle.std.specs.Prelude.{Option, Some, None}
use Rattle.std.proofs.lemmas.List.{take_all}
use Rattle.std.proofs.lemmas.Bool.{ne_eqb}
use Rattle.kl1_model.specs.declared.built_in.BuiltIn.{BuiltIn}
use Rattle.kl1_model.specs.declared.built_in.BuiltIn.TheVariants.{ListCell, EmptyList}
use Rattle.kl1_model.specs.Term.{Term, variable, atom, structure, none, more, occurs, replace, Replacement}
use Rattle.kl1_model.specs.code.Unifying.{replaced, after}
use Rattle.kl1_model.specs.Meaning.{cell, nil}
use Rattle.kl1_model.specs.Unify.{Equation, conflicts, eliminates, equations_size, mgu_within, highest_among, mgu}
use Rattle.kl1_text.specs.Reading.{Reads}
use Rattle.kl1_store.specs.declared.cell.Cell.{Cell}
use Rattle.kl1_store.specs.declared.cell.Cell.TheVariants.{Variable, Integer, Atom, Structure}
use Rattle.kl1_store.specs.declared.binding.Binding.{Binding}
use Rattle.kl1_store.specs.declared.unified.Unified.{Unified}
use Rattle.kl1_store.specs.declared.unified.Unified.TheVariants.{Bound, Clash}
use Rattle.kl1_store.specs.Held.{Shape, Held, IsIn, AreIn, is_bound, with_variable}
use Rattle.kl1_store.specs.Meaning.{term_of}
use Rattle.kl1_store.specs.Sound as sound
use Rattle.kl1_store.specs.Sound.{IsFormed, Grown}
use Rattle.kl1_store.specs.Unification.{UnifiesAs}
use Rattle.kl1_store.specs.Unifies.{equation_of}
use Rattle.kl1_store.proofs.Growing.{IsFormed-variable}
use Rattle.kl1_store.proofs.Grows.{Grown-same, Grown-variable, Grown-structure, Grown-trans}
use Rattle.kl1_store.proofs.Terms.{term_of-variable, term_of-structure, term_of-unbound, term_of-Atom}
use Rattle.kl1_stream.specs.Sendings.{IsSent, AreSent, IsEnded}
use Rattle.kl1_stream.proofs.Pairs.{with_pair, pair_means}

-- what solves one equation of a variable and a term
abbrev pub solved_by : ℕ → Term → Bool → Option (List Replacement)
solved_by v t b = if b then None else Some (record { number = v; by = t } ∷ [])

-- one equation of a variable and a term
abbrev pub one_equation : ℕ → Term → List Equation
one_equation v t = record { left = variable v; right = t } ∷ []

pub front_solves : (last v : ℕ) (t : Term) (b : Bool) → after (mgu_within (suc (suc last)) 1) (λ to. mgu_within (suc last) (equations_size to) to) (if b then conflicts else eliminates v t []) ≡ solved_by v t b
unfolding mgu_within
front_solves last v t true = refl
front_solves last v t false = refl

solve_cell : (v : ℕ) (h t : Term) → mgu (one_equation v (cell h t)) ≡ solved_by v (cell h t) (occurs v (cell h t))
unfolding mgu_within
solve_cell v h t = front_solves (highest_among (one_equation v (cell h t))) v (cell h t) (occurs v (cell h t))

solve_nil : (v : ℕ) → mgu (one_equation v nil) ≡ solved_by v nil false
unfolding mgu_within
solve_nil v = refl

-- a variable beyond all others is unbound
unbound_past_each : {N : Type 0} (vs : ℕ) (ss : List (Shape N)) (before bs : List (Binding N)) (v : ℕ) → vs ≤ v → sound.Bound vs ss before bs → is_bound v bs ≡ false
unbound_past_each vs ss before [] v le p = refl
unbound_past_each vs ss before (b ∷ bs) v le p =
    let i = p.0.inside in
    let other : b.variable ≡ v → ⊥ = λ e. omega arith in
    ap (λ c. c || is_bound v bs) (ne_eqb b.variable v other) ∙ unbound_past_each vs ss (before ++ b ∷ []) bs v le p.1

unbound_past : {N : Type 0} (h : Held N) (v : ℕ) → IsFormed h → h.variables ≤ v → is_bound v h.bindings ≡ false
unbound_past h v p le = unbound_past_each h.variables h.structures [] h.bindings v le p.bound

in_next : {N : Type 0} (h : Held N) (x : Cell N) → IsIn h x → IsIn (with_variable h) x
in_next h (Variable v) i = omega arith
in_next h (Structure s) i = i
in_next h (Integer n) i = tt
in_next h (Atom a) i = tt

-- the parts of a message's list cell are of a store with one variable more
pub parts_in : {N : Type 0} (h mid : Held N) (m : Cell N) (next : ℕ) → next ≡ h.variables → mid ≡ with_variable h → IsIn h m → AreIn mid (m ∷ Variable next ∷ [])
parts_in {N = N} h mid m next n e i =
    let P : Held N → Type 0 = λ k. AreIn k (m ∷ Variable next ∷ []) in
    subst P (sym e) (in_next h m i, (omega arith, tt))

-- a store with the next variable, and a list cell of a message and it
abbrev pub with_message : {N : Type 0} → (BuiltIn → N) → Held N → Cell N → Held N
with_message built h m = with_pair (with_variable h) (built ListCell) m (Variable h.variables)

-- what the cells of that store mean
record HasMessage {N : Type 0} (built : BuiltIn → N) (f : N → List ℕ) (h : Held N) (m : Cell N) : Type 0 where
  pub next : term_of f (with_message built h m) (Variable h.variables) ≡ variable h.variables
  pub cell_is : term_of f (with_message built h m) (Structure (length h.structures)) ≡ cell (term_of f h m) (variable h.variables)
  pub others : (x : Cell N) → IsIn h x → term_of f (with_message built h m) x ≡ term_of f h x

has_message : {N : Type 0} (built : BuiltIn → N) (f : N → List ℕ) (h : Held N) (m : Cell N) → Reads built f → IsFormed h → IsIn h m → HasMessage built f h m
has_message {N = N} built f h m reads p i =
    let wide = with_variable h in
    let formed : IsFormed wide = IsFormed-variable h p in
    let parts : AreIn wide (m ∷ Variable h.variables ∷ []) = parts_in h wide m h.variables refl refl i in
    record {
      next = term_of-unbound f (with_message built h m) h.variables (unbound_past h h.variables p (omega arith));
      cell_is =
          pair_means f wide (built ListCell) m (Variable h.variables) formed parts
          ∙ ap (λ n. structure n (more (term_of f wide m) (more (term_of f wide (Variable h.variables)) none))) (reads.texts ListCell)
          ∙ ap (λ t. cell t (term_of f wide (Variable h.variables))) (term_of-variable f h m)
          ∙ ap (λ t. cell (term_of f h m) t) (term_of-unbound f wide h.variables (unbound_past h h.variables p (omega arith)));
      others = λ x j. term_of-structure f wide (built ListCell) (m ∷ Variable h.variables ∷ []) x formed (in_next h x j) ∙ term_of-variable f h x;
    }

occurs_cell : (v n : ℕ) (t : Term) → v < n → occurs v (cell t (variable n)) ≡ occurs v t
occurs_cell v n t lt = ap (λ c. occurs v t || (c || false)) (ne_eqb v n (λ e. omega arith)) ∙ or_none (occurs v t)
  where
    or_none : (b : Bool) → (b || (false || false)) ≡ b
    or_none true = refl
    or_none false = refl

-- an equation of an unbound variable and a cell
pub sides : {N : Type 0} (f : N → List ℕ) (h : Held N) (v : ℕ) (x : Cell N) (t : Term) → is_bound v h.bindings ≡ false → term_of f h x ≡ t → equation_of f h (Variable v) x ≡ one_equation v t
sides f h v x t u e =
    ap (λ l. let q : Equation = record { left = l; right = term_of f h x } in q ∷ []) (term_of-unbound f h v u)
    ∙ ap (λ r. let q : Equation = record { left = variable v; right = r } in q ∷ []) e

-- the answer of unification, from whether the variable is in the message
solves : {N : Type 0} (built : BuiltIn → N) (f : N → List ℕ) (h : Held N) (v : ℕ) (m : Cell N) → is_bound v h.bindings ≡ false → HasMessage built f h m → v < h.variables →
    mgu (equation_of f (with_message built h m) (Variable v) (Structure (length h.structures))) ≡ solved_by v (cell (term_of f h m) (variable h.variables)) (occurs v (term_of f h m))
solves built f h v m u k lt =
    let t = cell (term_of f h m) (variable h.variables) in
    ap mgu (sides f (with_message built h m) v (Structure (length h.structures)) t u k.cell_is)
    ∙ solve_cell v (term_of f h m) (variable h.variables)
    ∙ ap (solved_by v t) (occurs_cell v h.variables (term_of f h m) lt)

the_one : (v : ℕ) (t : Term) (b : Bool) (rs : List Replacement) → solved_by v t b ≡ Some rs → (b ≡ false) × (rs ≡ record { number = v; by = t } ∷ [])
the_one v t true rs e = absurd (cc)
the_one v t false rs e = (refl, cc)

never_one : (v : ℕ) (t : Term) (b : Bool) → solved_by v t b ≡ None → b ≡ true
never_one v t true e = refl
never_one v t false e = absurd (cc)

-- a message that unification has put where a variable stood
are_sent : {N : Type 0} (built : BuiltIn → N) (h new : Held N) (v : ℕ) (m : Cell N) (next : ℕ) → IsFormed h → v < h.variables → is_bound v h.bindings ≡ false → IsIn h m → next ≡ h.variables →
    UnifiesAs built (with_message built h m) new (Variable v) (Structure (length h.structures)) Bound → AreSent built h new v m next
are_sent {N = N} built h new v m next p lt u i is told =
    let Q : ℕ → Type 0 = λ n. AreSent built h new v m n in
    let variables : new.variables ≡ h.variables + 1 = told.2 in
    let each : (f : N → List ℕ) → Reads built f → IsSent f h new v m h.variables = λ f reads.
    let k = has_message built f h m reads p i in
    let t = cell (term_of f h m) (variable h.variables) in
    let solved = told.0 f reads in
    let one = the_one v t (occurs v (term_of f h m)) solved.replacements (sym (solves built f h v m u k lt) ∙ solved.solves) in
    let means : (x : Cell N) → term_of f new x ≡ replace v t (term_of f (with_message built h m) x) =
    λ x. solved.everywhere x ∙ ap (λ rs. replaced rs (term_of f (with_message built h m) x)) one.1 in
    record {
      free = one.0;
      tail = means (Variable h.variables) ∙ ap (replace v t) k.next ∙ ap (λ c. if c then t else variable h.variables) (ne_eqb h.variables v (λ e. omega arith));
      means = λ x j. means x ∙ ap (replace v t) (k.others x j);
    } in
    subst Q (sym is) (record { next_is = refl; variables = omega (arith, variables); each = each })

-- what unification with the list cell that was just built says of that cell, by its name and its number
unified_as : {N : Type 0} (built : BuiltIn → N) (h mid full new : Held N) (v : ℕ) (m : Cell N) (s next : ℕ) (name : N) (u w : Unified) →
    (next ≡ h.variables) × (mid ≡ with_variable h) → name ≡ built ListCell → (s ≡ length mid.structures) × (full ≡ with_pair mid name m (Variable next)) → w ≡ u →
    UnifiesAs built full new (Variable v) (Structure s) w → UnifiesAs built (with_message built h m) new (Variable v) (Structure (length h.structures)) u
unified_as {N = N} built h mid full new v m s next name u w p q r e told =
    let full_is : full ≡ with_message built h m =
    r.1
    ∙ ap (λ (n : N). with_pair mid n m (Variable next)) q
    ∙ ap (λ (n : ℕ). with_pair mid (built ListCell) m (Variable n)) p.0
    ∙ ap (λ (k : Held N). with_pair k (built ListCell) m (Variable h.variables)) p.1 in
    let at : s ≡ length h.structures = r.0 ∙ ap (λ (k : Held N). length k.structures) p.1 in
    let P : Held N → Type 0 = λ k. UnifiesAs built k new (Variable v) (Structure (length h.structures)) u in
    let Q : ℕ → Type 0 = λ n. UnifiesAs built full new (Variable v) (Structure n) u in
    let R : Unified → Type 0 = λ z. UnifiesAs built full new (Variable v) (Structure s) z in
    subst P full_is (subst Q at (subst R e told))

-- the growth by a variable and a list cell
grown_message : {N : Type 0} (built : BuiltIn → N) (h new : Held N) (m : Cell N) → Grown (with_message built h m) new → Grown h new
grown_message built h new m g =
    Grown-trans h (with_message built h m) new
    (Grown-trans h (with_variable h) (with_message built h m) (Grown-variable h) (Grown-structure (with_variable h) (built ListCell) (m ∷ Variable h.variables ∷ []))) g

-- a message was sent, and the store has grown
pub sent : {N : Type 0} (built : BuiltIn → N) (h mid full new : Held N) (v : ℕ) (m : Cell N) (s next : ℕ) (name : N) (w : Unified) → IsFormed h → v < h.variables → is_bound v h.bindings ≡ false → IsIn h m →
    (next ≡ h.variables) × (mid ≡ with_variable h) → name ≡ built ListCell → (s ≡ length mid.structures) × (full ≡ with_pair mid name m (Variable next)) → w ≡ Bound →
    UnifiesAs built full new (Variable v) (Structure s) w → AreSent built h new v m next × Grown h new
sent built h mid full new v m s next name w p lt u i a b c d told =
    let t = unified_as built h mid full new v m s next name Bound w a b c d told in
    (are_sent built h new v m next p lt u i a.0 t, grown_message built h new m t.1)

-- the variable was in the message, and nothing was bound
pub never_sent : {N : Type 0} (built : BuiltIn → N) (h mid full now : Held N) (v : ℕ) (m : Cell N) (s next : ℕ) (name : N) (w : Unified) → IsFormed h → v < h.variables → is_bound v h.bindings ≡ false → IsIn h m →
    (next ≡ h.variables) × (mid ≡ with_variable h) → name ≡ built ListCell → (s ≡ length mid.structures) × (full ≡ with_pair mid name m (Variable next)) → w ≡ Clash →
    UnifiesAs built full now (Variable v) (Structure s) w → ((f : N → List ℕ) → Reads built f → occurs v (term_of f h m) ≡ true) × Grown h now
never_sent {N = N} built h mid full now v m s next name w p lt u i a b c d told =
    let t = unified_as built h mid full now v m s next name Clash w a b c d told in
    let G : Held N → Type 0 = λ k. Grown (with_message built h m) k in (
      λ f reads.
          let k = has_message built f h m reads p i in
          never_one v (cell (term_of f h m) (variable h.variables)) (occurs v (term_of f h m)) (sym (solves built f h v m u k lt) ∙ t.0 f reads),
      grown_message built h now m (subst G (sym t.1) (Grown-same (with_message built h m))),
    )

-- if memory is refused, the store has grown by the new variable, or by that and the list cell
pub grown_next : {N : Type 0} (h mid new : Held N) → mid ≡ with_variable h → new ≡ mid → Grown h new
grown_next {N = N} h mid new e f =
    let P : Held N → Type 0 = λ k. Grown h k in
    subst P (sym (f ∙ e)) (Grown-variable h)

pub grown_full : {N : Type 0} (h mid full new : Held N) (name : N) (a b : Cell N) → mid ≡ with_variable h → full ≡ with_pair mid name a b → new ≡ full → Grown h new
grown_full {N = N} h mid full new name a b e g f =
    let P : Held N → Type 0 = λ k. Grown h k in
    subst P (sym (f ∙ g)) (Grown-trans h mid (with_pair mid name a b) (subst P (sym e) (Grown-variable h)) (Grown-structure mid name (a ∷ b ∷ [])))

pub same_hooks : {A : Type 0} (old new : List A) → new ≡ old → take (length old) new ≡ old
same_hooks old new e = ap (take (length old)) e ∙ take_all (length old) old (omega arith)

-- the empty list where an unbound variable stood
pub ends : {N : Type 0} (built : BuiltIn → N) (h k : Held N) (v : ℕ) (a : N) (u : Unified) → is_bound v h.bindings ≡ false → a ≡ built EmptyList → UnifiesAs built h k (Variable v) (Atom a) u → IsEnded built h k v
ends {N = N} built h k v a Bound free e told = record {
  variables = told.2;
  each = λ f reads x.
      let solved = told.0 f reads in
      let is : term_of f h (Atom a) ≡ nil = term_of-Atom f h a ∙ ap (λ n. atom (f n)) e ∙ ap atom (reads.texts EmptyList) in
      let one : solved_by v nil false ≡ Some solved.replacements = sym (solve_nil v) ∙ ap mgu (sym (sides f h v (Atom a) nil free is)) ∙ solved.solves in
      let rs : solved.replacements ≡ record { number = v; by = nil } ∷ [] = cc in
      solved.everywhere x ∙ ap (λ l. replaced l (term_of f h x)) rs;
}
ends {N = N} built h k v a Clash free e told = record {
  variables = ap (λ (z : Held N). z.variables) told.1;
  each = λ f reads x.
      let never = told.0 f reads in
      let is : term_of f h (Atom a) ≡ nil = term_of-Atom f h a ∙ ap (λ n. atom (f n)) e ∙ ap atom (reads.texts EmptyList) in
      let one : solved_by v nil false ≡ None = sym (solve_nil v) ∙ ap mgu (sym (sides f h v (Atom a) nil free is)) ∙ never in
      absurd (cc);
}
