-- A variable that becomes a constant.
use Rattle.std.proofs.Common.{◌≡◌, ℕ, ◌+◌, ◌<◌, ◌≤◌, false, List, [], ◌∷◌, ◌++◌, length, take, refl, sym, ap, ◌∙◌, arith, subst, ℤ, length-append}
use Rattle.std.specs.Prelude.{Some, Result, Ok, Err, OnOk, OnErr}
use Rattle.std.proofs.lemmas.List.{take_all, take_at}
use Rattle.kl1_model.specs.declared.built_in.BuiltIn.{BuiltIn}
use Rattle.kl1_model.specs.Term.{Term, variable, integer, atom, occurs, Replacement}
use Rattle.kl1_model.specs.Unify.{Equation, mgu_within, mgu}
use Rattle.kl1_store.specs.declared.cell.Cell.{Cell}
use Rattle.kl1_store.specs.declared.cell.Cell.TheVariants.{Variable, Integer, Atom, Structure}
use Rattle.kl1_store.specs.declared.unified.Unified.TheVariants.{Bound}
use Rattle.kl1_store.specs.declared.binding.Binding.{Binding}
use Rattle.kl1_store.specs.declared.levels.Levels.{Levels}
use Rattle.kl1_store.specs.Held.{Held, Room, with_binding, is_bound, IsIn, IsLower}
use Rattle.kl1_store.specs.Meaning.{term_of}
use Rattle.kl1_store.specs.Sound.{Grown}
use Rattle.kl1_store.specs.Spending.{FreesRoom}
use Rattle.kl1_store.specs.Unification.{UnifiesAs}
use Rattle.kl1_store.specs.Unifies.{equation_of}
use Rattle.kl1_store.specs.Levels.{AreLevels}
use Rattle.kl1_store.specs.Constants.{IsConstant}
use Rattle.kl1_store.proofs.Terms.{term_of-binding, term_of-unbound, term_of-Integer, term_of-Atom}
use Rattle.kl1_store.proofs.Levelling.{levels-binding}

-- the one replacement of a variable by a term
abbrev pub one_by : ℕ → Term → List Replacement
one_by v t = record { number = v; by = t } ∷ []

solve_integer : (v : ℕ) (i : ℤ) → mgu (record { left = variable v; right = integer i } ∷ []) ≡ Some (one_by v (integer i))
unfolding mgu_within
solve_integer v i = refl

solve_atom : (v : ℕ) (a : List ℕ) → mgu (record { left = variable v; right = atom a } ∷ []) ≡ Some (one_by v (atom a))
unfolding mgu_within
solve_atom v a = refl

-- an equation of a variable and a constant has one solution
solves : {N : Type 0} (f : N → List ℕ) (h : Held N) (v : ℕ) (x : Cell N) → is_bound v h.bindings ≡ false → IsConstant x → mgu (equation_of f h (Variable v) x) ≡ Some (one_by v (term_of f h x))
solves f h v (Variable w) u c = absurd c
solves f h v (Integer i) u c =
    ap (λ l. let q : Equation = record { left = l; right = term_of f h (Integer i) } in mgu (q ∷ [])) (term_of-unbound f h v u)
    ∙ ap (λ r. let q : Equation = record { left = variable v; right = r } in mgu (q ∷ [])) (term_of-Integer f h i)
    ∙ solve_integer v i
    ∙ ap (λ t. Some (one_by v t)) (sym (term_of-Integer f h i))
solves f h v (Atom a) u c =
    ap (λ l. let q : Equation = record { left = l; right = term_of f h (Atom a) } in mgu (q ∷ [])) (term_of-unbound f h v u)
    ∙ ap (λ r. let q : Equation = record { left = variable v; right = r } in mgu (q ∷ [])) (term_of-Atom f h a)
    ∙ solve_atom v (f a)
    ∙ ap (λ t. Some (one_by v t)) (sym (term_of-Atom f h a))
solves f h v (Structure s) u c = absurd c

pub Grown-binding : {N : Type 0} (h : Held N) (v : ℕ) (x : Cell N) → Grown h (with_binding h v x)
Grown-binding {N = N} h v x =
    let b : Binding N = record { variable = v; value = x } in
    record {
      variables = omega arith;
      structures = take_all (length h.structures) h.structures (omega arith);
      bindings = take_at h.bindings (b ∷ []) (length h.bindings) refl;
    }

-- the binding is what unification does
pub unifies_constant : {N : Type 0} (built : BuiltIn → N) (h : Held N) (v : ℕ) (x : Cell N) → is_bound v h.bindings ≡ false → IsConstant x → UnifiesAs built h (with_binding h v x) (Variable v) x Bound
unifies_constant built h v x u c = (
  λ f reads. record { replacements = one_by v (term_of f h x); solves = solves f h v x u c; everywhere = λ z. term_of-binding f h v x z },
  Grown-binding h v x,
  refl,
)

pub constant_in : {N : Type 0} (h : Held N) (x : Cell N) → IsConstant x → IsIn h x
constant_in h (Variable w) c = absurd c
constant_in h (Integer i) c = tt
constant_in h (Atom a) c = tt
constant_in h (Structure s) c = absurd c

pub constant_lower : {N : Type 0} (v : ℕ) (x : Cell N) → IsConstant x → IsLower v x
constant_lower v (Variable w) c = absurd c
constant_lower v (Integer i) c = tt
constant_lower v (Atom a) c = tt
constant_lower v (Structure s) c = absurd c

pub constant_free : {N : Type 0} (f : N → List ℕ) (h : Held N) (v : ℕ) (x : Cell N) → IsConstant x → occurs v (term_of f h x) ≡ false
constant_free f h v (Variable w) c = absurd c
constant_free f h v (Integer i) c = ap (occurs v) (term_of-Integer f h i)
constant_free f h v (Atom a) c = ap (occurs v) (term_of-Atom f h a)
constant_free f h v (Structure s) c = absurd c

pub levels_constant : {N : Type 0} (h : Held N) (v : ℕ) (x : Cell N) (ls : Levels) → is_bound v h.bindings ≡ false → AreLevels h ls → IsConstant x → AreLevels (with_binding h v x) ls
levels_constant h v (Variable w) ls u a c = absurd c
levels_constant h v (Integer i) ls u a c = levels-binding h v (Integer i) ls u a tt
levels_constant h v (Atom n) ls u a c = levels-binding h v (Atom n) ls u a tt
levels_constant h v (Structure s) ls u a c = absurd c

-- after a constant that a variable took, or after an error, levels are in order, and the variables are as many as before
pub kept_constant : {N X E : Type 0} (h new : Held N) (v : ℕ) (x : Cell N) (ls : Levels) (r : Result X E) → is_bound v h.bindings ≡ false → AreLevels h ls → IsConstant x →
    OnOk r (new ≡ with_binding h v x) → OnErr r (new ≡ h) → AreLevels new ls × (new.variables ≡ h.variables)
kept_constant {N = N} h new v x ls (Ok y) u a c ok err =
    let P : Held N → Type 0 = λ k. AreLevels k ls in (subst P (sym ok) (levels_constant h v x ls u a c), ap (λ (k : Held N). k.variables) ok)
kept_constant {N = N} h new v x ls (Err y) u a c ok err =
    let P : Held N → Type 0 = λ k. AreLevels k ls in (subst P (sym err) a, ap (λ (k : Held N). k.variables) err)

-- if a variable took a constant, that is what unification does
pub took_constant : {N X E : Type 0} (built : BuiltIn → N) (h old new : Held N) (v : ℕ) (x : Cell N) (r : Result X E) → h ≡ old → is_bound v old.bindings ≡ false → IsConstant x →
    OnOk r (new ≡ with_binding h v x) → OnOk r (UnifiesAs built old new (Variable v) x Bound)
took_constant {N = N} built h old new v x (Ok y) e u c ok =
    let P : Held N → Type 0 = λ k. UnifiesAs built old k (Variable v) x Bound in subst P (sym (ok ∙ ap (λ (k : Held N). with_binding k v x) e)) (unifies_constant built old v x u c)
took_constant built h old new v x (Err y) e u c ok = tt

-- a binding that is taken back leaves room for one
pub room_again : {N : Type 0} (h : Held N) (v : ℕ) (x : Cell N) (old : Held N) (before : Room) (new : Held N) (after : Room) → Grown (with_binding h v x) old → new ≡ h → FreesRoom old before new after → 0 < after.bindings
room_again {N = N} h v x old before new after g e r =
    let b : Binding N = record { variable = v; value = x } in
    let same : length new.bindings ≡ length h.bindings = ap (λ (k : Held N). length k.bindings) e in
    let more : length (h.bindings ++ b ∷ []) ≡ length h.bindings + 1 = length-append h.bindings (b ∷ []) in
    let kept = longer (h.bindings ++ b ∷ []) old.bindings g.bindings in
    omega (arith, r.bindings, same, more, kept)
  where
    longer : {X : Type 0} (xs ys : List X) → take (length xs) ys ≡ xs → length xs ≤ length ys
    longer [] ys e = omega arith
    longer (x ∷ xs) [] e = absurd (cc)
    longer (x ∷ xs) (y ∷ ys) e = let q : take (length xs) ys ≡ xs = cc in let l = longer xs ys q in omega arith
