-- Lifting terms to a level.
use Rattle.std.proofs.Common.{◌≡◌, ℕ, zero, suc, ◌+◌, ◌<◌, ◌≤◌, Bool, true, false, ◌||◌, List, [], ◌∷◌, ◌++◌, length, take, refl, sym, ap, ◌∙◌, ◌⊎◌, inl, inr, arith, subst}
use Rattle.std.specs.Prelude.{Some, slice_get}
use Rattle.std.proofs.lemmas.Bool.{cases_eq, eq-eqb, or_left, or_right}
use Rattle.std.proofs.lemmas.List.{append-nil}
use Rattle.kl1_model.specs.Term.{structure, occurs, occurs_in}
use Rattle.kl1_store.specs.declared.cell.Cell.{Cell}
use Rattle.kl1_store.specs.declared.cell.Cell.TheVariants.{Variable, Integer, Atom, Structure}
use Rattle.kl1_store.specs.declared.task.Task.{Task}
use Rattle.kl1_store.specs.declared.levels.Levels.{Levels}
use Rattle.kl1_store.specs.Held.{Held, is_bound, found, IsIn, AreIn, IsLower, arguments_of}
use Rattle.kl1_store.specs.Meaning.{term_of, terms_of, unread}
use Rattle.kl1_store.specs.Sound.{IsFormed}
use Rattle.kl1_store.specs.Levels.{level_at, LiesAt, AreLevels, SetsLevel}
use Rattle.kl1_store.specs.Tasks.{AreTasks, Awaits, Fits, tasks_of, is_in_tasks, reach, heft, hefts, heft_of, load, Lifts, Lifted}
use Rattle.kl1_store.proofs.Terms.{term_of-Structure, term_of-unbound, arguments_in}
use Rattle.kl1_store.proofs.Meetings.{named}
use Rattle.kl1_store.proofs.Walking.{bound_at}
use Rattle.kl1_store.proofs.Levelling.{lies_lower}

-- ---- what waits

pub AreTasks-append : {N : Type 0} (h : Held N) (ts us : List (Task N)) → AreTasks h ts → AreTasks h us → AreTasks h (ts ++ us)
AreTasks-append h [] us a b = b
AreTasks-append h (t ∷ ts) us a b = (a.0, AreTasks-append h ts us a.1 b)

AreTasks-pop : {N : Type 0} (h : Held N) (ts : List (Task N)) (t : Task N) → AreTasks h (ts ++ t ∷ []) → AreTasks h ts × IsIn h t.cell
AreTasks-pop h [] t a = (tt, a.0)
AreTasks-pop h (u ∷ ts) t a = let r = AreTasks-pop h ts t a.1 in ((a.0, r.0), r.1)

awaits_first : {N : Type 0} (n : ℕ) (x : Cell N) (ts us : List (Task N)) → Awaits n x ts → Awaits n x (ts ++ us)
awaits_first n x [] us a = absurd a
awaits_first n x (t ∷ ts) us (inl e) = inl e
awaits_first n x (t ∷ ts) us (inr a) = inr (awaits_first n x ts us a)

awaits_second : {N : Type 0} (n : ℕ) (x : Cell N) (ts us : List (Task N)) → Awaits n x us → Awaits n x (ts ++ us)
awaits_second n x [] us a = a
awaits_second n x (t ∷ ts) us a = inr (awaits_second n x ts us a)

awaits_split : {N : Type 0} (n : ℕ) (x : Cell N) (ts us : List (Task N)) → Awaits n x (ts ++ us) → Awaits n x ts ⊎ Awaits n x us
awaits_split n x [] us a = inr a
awaits_split n x (t ∷ ts) us (inl e) = inl (inl e)
awaits_split {N = N} n x (t ∷ ts) us (inr a) = further (awaits_split n x ts us a)
  where
    further : Awaits n x ts ⊎ Awaits n x us → Awaits n x (t ∷ ts) ⊎ Awaits n x us
    further (inl b) = inl (inr b)
    further (inr b) = inr b

awaits_each : {N : Type 0} (l : ℕ) (xs : List (Cell N)) (i : ℕ) (x : Cell N) → slice_get xs i ≡ Some x → Awaits l x (tasks_of l xs)
awaits_each l [] i x e = absurd (cc)
awaits_each l (y ∷ xs) zero x e = inl ((cc), omega arith)
awaits_each l (y ∷ xs) (suc i) x e = inr (awaits_each l xs i x e)

awaits_lower : {N : Type 0} (m n : ℕ) (x : Cell N) (ts : List (Task N)) → m ≤ n → Awaits n x ts → Awaits m x ts
awaits_lower m n x [] le a = a
awaits_lower m n x (t ∷ ts) le (inl e) = inl (e.0, omega (arith, e.1))
awaits_lower m n x (t ∷ ts) le (inr a) = inr (awaits_lower m n x ts le a)

fits_lower : {N : Type 0} (vs ss : ℕ → ℕ) (ts : List (Task N)) (m n : ℕ) (x : Cell N) → m ≤ n → Fits vs ss ts n x → Fits vs ss ts m x
fits_lower vs ss ts m n x le (inl l) = inl (lies_lower vs ss m n x le l)
fits_lower vs ss ts m n x le (inr a) = inr (awaits_lower m n x ts le a)

lies_still : {N : Type 0} (vs ss ws rs : ℕ → ℕ) (n : ℕ) (x : Cell N) → ((v : ℕ) → vs v ≤ ws v) → ((s : ℕ) → ss s ≤ rs s) → LiesAt vs ss n x → LiesAt ws rs n x
lies_still vs ss ws rs n (Variable v) p q l = let r = p v in omega arith
lies_still vs ss ws rs n (Integer i) p q l = tt
lies_still vs ss ws rs n (Atom a) p q l = tt
lies_still vs ss ws rs n (Structure s) p q l = let r = q s in omega arith

fits_still : {N : Type 0} (vs ss ws rs : ℕ → ℕ) (ts us : List (Task N)) (n : ℕ) (x : Cell N) → ((v : ℕ) → vs v ≤ ws v) → ((s : ℕ) → ss s ≤ rs s) → Fits vs ss ts n x → Fits ws rs (ts ++ us) n x
fits_still vs ss ws rs ts us n x p q (inl l) = inl (lies_still vs ss ws rs n x p q l)
fits_still vs ss ws rs ts us n x p q (inr a) = inr (awaits_first n x ts us a)

split_or : (o a b c : Bool) → (o || b) ≡ true → (b ≡ true → (a ≡ true) ⊎ (c ≡ true)) → ((o || a) ≡ true) ⊎ (c ≡ true)
split_or true a b c e k = inl refl
split_or false a b c e k = k e

in_tasks_split : {N : Type 0} (f : N → List ℕ) (h : Held N) (v : ℕ) (ts us : List (Task N)) → is_in_tasks f h v (ts ++ us) ≡ true → (is_in_tasks f h v ts ≡ true) ⊎ (is_in_tasks f h v us ≡ true)
in_tasks_split f h v [] us e = inr e
in_tasks_split f h v (t ∷ ts) us e =
    split_or (occurs v (term_of f h t.cell)) (is_in_tasks f h v ts) (is_in_tasks f h v (ts ++ us)) (is_in_tasks f h v us) e (in_tasks_split f h v ts us)

or-swap : (a b c : Bool) → (a || (b || c)) ≡ (b || (a || c))
or-swap true true c = refl
or-swap true false c = refl
or-swap false true c = refl
or-swap false false c = refl

in_tasks-push : {N : Type 0} (f : N → List ℕ) (h : Held N) (v : ℕ) (ts : List (Task N)) (t : Task N) → is_in_tasks f h v (ts ++ t ∷ []) ≡ (occurs v (term_of f h t.cell) || is_in_tasks f h v ts)
in_tasks-push f h v [] t = refl
in_tasks-push f h v (u ∷ ts) t =
    ap (λ b. occurs v (term_of f h u.cell) || b) (in_tasks-push f h v ts t) ∙ or-swap (occurs v (term_of f h u.cell)) (occurs v (term_of f h t.cell)) (is_in_tasks f h v ts)

in_tasks_of : {N : Type 0} (f : N → List ℕ) (h : Held N) (v l : ℕ) (xs : List (Cell N)) → is_in_tasks f h v (tasks_of l xs) ≡ occurs_in v (terms_of f h xs)
unfolding terms_of
in_tasks_of f h v l [] = refl
in_tasks_of f h v l (x ∷ xs) = ap (λ b. occurs v (term_of f h x) || b) (in_tasks_of f h v l xs)

load-append : {N : Type 0} (h : Held N) (ts us : List (Task N)) → load h (ts ++ us) ≡ load h ts + load h us
load-append h [] us = omega arith
load-append h (t ∷ ts) us = let r = load-append h ts us in omega (arith, r)

reach_within : {N : Type 0} (h : Held N) (x : Cell N) → IsIn h x → reach x ≤ h.variables
reach_within h (Variable v) inside = omega arith
reach_within h (Integer i) inside = omega arith
reach_within h (Atom a) inside = omega arith
reach_within h (Structure s) inside = omega arith

load_of : {N : Type 0} (h : Held N) (l : ℕ) (xs : List (Cell N)) → AreIn h xs → load h (tasks_of l xs) ≤ hefts (suc h.variables) (terms_of unread h xs)
unfolding terms_of
load_of h l [] inside = omega arith
load_of h l (x ∷ xs) inside = let r = load_of h l xs inside.1 in let s = reach_within h x inside.0 in omega (arith, r, s)

AreTasks-of : {N : Type 0} (h : Held N) (l : ℕ) (xs : List (Cell N)) → AreIn h xs → AreTasks h (tasks_of l xs)
AreTasks-of h l [] inside = tt
AreTasks-of h l (x ∷ xs) inside = (inside.0, AreTasks-of h l xs inside.1)

-- ---- one cell

pub not_lifted : {N : Type 0} (h : Held N) (x : Cell N) (l : ℕ) (ls : Levels) (ts : List (Task N)) → AreTasks h ts → LiesAt (level_at ls.variables.items) (level_at ls.structures.items) l x → Lifts h x l ls ls ts ts
not_lifted h x l ls ts tasks lies = record {
  tasks = tasks;
  here = inl lies;
  keeps = λ n y fits. fits;
  arguments = λ s i y got. inl refl;
  values = λ v. inl refl;
  reached = λ f v e. or_right (occurs v (term_of f h x)) (is_in_tasks f h v ts) e;
  seen = λ v u. inl refl;
  less = omega arith;
  fit = λ le. le;
}

set_rises : (vs ws : List ℕ) (v l : ℕ) → level_at vs v ≤ l → SetsLevel vs ws v l → (u : ℕ) → level_at vs u ≤ level_at ws u
set_rises vs ws v l le set u = at (cases_eq u v)
  where
    at : (u ≡ v) ⊎ (u ≡ v → ⊥) → level_at vs u ≤ level_at ws u
    at (inl e) = omega (arith, set.here, ap (level_at vs) e, ap (level_at ws) e)
    at (inr ne) = omega (arith, set.others u ne)

same_rises : (vs ws : List ℕ) → ws ≡ vs → (u : ℕ) → level_at vs u ≤ level_at ws u
same_rises vs ws e u = omega (arith, ap (λ l. level_at l u) e)

-- a variable, with what it was bound to on the list, or itself if it is unbound
pub variable_lifted : {N : Type 0} (h : Held N) (v l : ℕ) (old new : Levels) (ts us : List (Task N)) → level_at old.variables.items v ≤ l → SetsLevel old.variables.items new.variables.items v l → new.structures.items ≡ old.structures.items →
    AreTasks h (ts ++ us) → Fits (level_at new.variables.items) (level_at new.structures.items) (ts ++ us) l (found v h.bindings) →
    ((f : N → List ℕ) (w : ℕ) → is_in_tasks f h w us ≡ true → occurs w (term_of f h (Variable v)) ≡ true) →
    load h us < heft_of h (Variable v) → Lifts h (Variable v) l old new ts (ts ++ us)
variable_lifted {N = N} h v l old new ts us le set same tasks fits inner less = record {
  tasks = tasks;
  here = inl (omega (arith, set.here));
  keeps = λ n y p. fits_still (level_at old.variables.items) (level_at old.structures.items) (level_at new.variables.items) (level_at new.structures.items) ts us n y (set_rises old.variables.items new.variables.items v l le set) (same_rises old.structures.items new.structures.items same) p;
  arguments = λ s i y got. inl (ap (λ k. level_at k s) same);
  values = λ w. value w (cases_eq w v);
  reached = λ f w e. reached f w (in_tasks_split f h w ts us e);
  seen = λ w u. seen w u (cases_eq w v);
  less = omega (arith, load-append h ts us);
  fit = λ k. omega (arith, ap length same);
}
  where
    value : (w : ℕ) → (w ≡ v) ⊎ (w ≡ v → ⊥) → (level_at new.variables.items w ≡ level_at old.variables.items w) ⊎ Fits (level_at new.variables.items) (level_at new.structures.items) (ts ++ us) (level_at new.variables.items w) (found w h.bindings)
    value w (inl e) =
        let P : ℕ → Type 0 = λ n. Fits (level_at new.variables.items) (level_at new.structures.items) (ts ++ us) n (found v h.bindings) in
        let Q : ℕ → Type 0 = λ u. Fits (level_at new.variables.items) (level_at new.structures.items) (ts ++ us) (level_at new.variables.items u) (found u h.bindings) in
        inr (subst Q (sym e) (subst P (sym set.here) fits))
    value w (inr ne) = inl (set.others w ne)

    reached : (f : N → List ℕ) (w : ℕ) → (is_in_tasks f h w ts ≡ true) ⊎ (is_in_tasks f h w us ≡ true) → (occurs w (term_of f h (Variable v)) || is_in_tasks f h w ts) ≡ true
    reached f w (inl e) = or_right (occurs w (term_of f h (Variable v))) (is_in_tasks f h w ts) e
    reached f w (inr e) = or_left (occurs w (term_of f h (Variable v))) (is_in_tasks f h w ts) (inner f w e)

    seen : (w : ℕ) → is_bound w h.bindings ≡ false → (w ≡ v) ⊎ (w ≡ v → ⊥) → (level_at new.variables.items w ≡ level_at old.variables.items w) ⊎ ((f : N → List ℕ) → occurs w (term_of f h (Variable v)) ≡ true)
    seen w u (inl e) =
        let P : ℕ → Type 0 = λ n. is_bound n h.bindings ≡ false in
        inr (λ f. ap (occurs w) (term_of-unbound f h v (subst P e u)) ∙ eq-eqb w v e)
    seen w u (inr ne) = inl (set.others w ne)

pub unbound_lifted : {N : Type 0} (h : Held N) (v l : ℕ) (old new : Levels) (ts : List (Task N)) → IsFormed h → level_at old.variables.items v ≤ l → SetsLevel old.variables.items new.variables.items v l → new.structures.items ≡ old.structures.items →
    AreTasks h ts → found v h.bindings ≡ Variable v → Lifts h (Variable v) l old new ts ts
unbound_lifted {N = N} h v l old new ts p le set same tasks found_is =
    let P : List (Task N) → Type 0 = λ us. Lifts h (Variable v) l old new ts us in
    let Q : List (Task N) → Type 0 = λ us. AreTasks h us in
    let R : Cell N → Type 0 = λ x. Fits (level_at new.variables.items) (level_at new.structures.items) (ts ++ []) l x in
    let e : ts ++ [] ≡ ts = append-nil ts in
    subst P e (variable_lifted h v l old new ts [] le set same (subst Q (sym e) tasks) (subst R (sym found_is) (inl (omega (arith, set.here)))) (λ f w no. absurd (cc)) (omega arith))

reach_less : {N : Type 0} (v : ℕ) (x : Cell N) → IsLower v x → reach x < suc v
reach_less v (Variable w) lower = omega arith
reach_less v (Integer i) lower = omega arith
reach_less v (Atom a) lower = omega arith
reach_less v (Structure s) lower = omega arith

pub bound_lifted : {N : Type 0} (h : Held N) (v l : ℕ) (x : Cell N) (old new : Levels) (ts us : List (Task N)) → IsFormed h → suc v ≤ h.variables → level_at old.variables.items v ≤ l → SetsLevel old.variables.items new.variables.items v l → new.structures.items ≡ old.structures.items →
    AreTasks h ts → x ≡ found v h.bindings → (x ≡ Variable v → ⊥) → us ≡ ts ++ record { cell = x; level = l } ∷ [] → Lifts h (Variable v) l old new ts us
bound_lifted {N = N} h v l x old new ts us p inside le set same tasks found_is other e =
    let task : Task N = record { cell = x; level = l } in
    let P : List (Task N) → Type 0 = λ k. Lifts h (Variable v) l old new ts k in
    let to = bound_at h v x p inside found_is other in
    let big = ap (heft (suc h.variables)) (to.means unread) in
    let short = reach_less v x to.lower in
    subst P (sym e) (variable_lifted h v l old new ts (task ∷ []) le set same (AreTasks-append h ts (task ∷ []) tasks (to.inside, tt))
    (inr (awaits_second l (found v h.bindings) ts (task ∷ []) (inl (found_is, omega arith))))
    (λ f w seen. ap (occurs w) (sym (to.means f)) ∙ one (occurs w (term_of f h x)) seen)
    (omega (arith, big, short)))
  where
    one : (b : Bool) → (b || false) ≡ true → b ≡ true
    one true q = refl
    one false q = q

pub structure_lifted : {N : Type 0} (h : Held N) (s l m : ℕ) (old new : Levels) (ts us : List (Task N)) → IsFormed h → suc s ≤ length h.structures → level_at old.structures.items s ≤ l → l ≤ m → SetsLevel old.structures.items new.structures.items s m → new.variables.items ≡ old.variables.items →
    AreTasks h ts → us ≡ ts ++ tasks_of m (arguments_of h s) → Lifts h (Structure s) l old new ts us
structure_lifted {N = N} h s l m old new ts us p inside le more_than set same tasks e =
    let P : List (Task N) → Type 0 = λ k. Lifts h (Structure s) l old new ts k in
    let xs = arguments_of h s in
    let r = named h s inside in
    let means : (f : N → List ℕ) → term_of f h (Structure s) ≡ structure (f r.0) (terms_of f h xs) = λ f. term_of-Structure f h s r.0 p r.1 in
    let big = ap (heft (suc h.variables)) (means unread) in
    subst P (sym e) (record {
      tasks = AreTasks-append h ts (tasks_of m xs) tasks (AreTasks-of h m xs (arguments_in h s p));
      here = inl (omega (arith, set.here));
      keeps = λ n y q. fits_still (level_at old.variables.items) (level_at old.structures.items) (level_at new.variables.items) (level_at new.structures.items) ts (tasks_of m xs) n y (same_rises old.variables.items new.variables.items same) (set_rises old.structures.items new.structures.items s m (omega arith) set) q;
      arguments = λ t i y got. argument t i y got (cases_eq t s);
      values = λ w. inl (ap (λ k. level_at k w) same);
      reached = λ f w q. reached f w (means f) (in_tasks_split f h w ts (tasks_of m xs) q);
      seen = λ w u. inl (ap (λ k. level_at k w) same);
      less = omega (arith, load-append h ts (tasks_of m xs), load_of h m xs (arguments_in h s p), big);
      fit = λ k. set.fit (length h.structures) k inside;
    })
  where
    argument : (t i : ℕ) (y : Cell N) → slice_get (arguments_of h t) i ≡ Some y → (t ≡ s) ⊎ (t ≡ s → ⊥) →
        (level_at new.structures.items t ≡ level_at old.structures.items t) ⊎ Fits (level_at new.variables.items) (level_at new.structures.items) (ts ++ tasks_of m (arguments_of h s)) (level_at new.structures.items t) y
    argument t i y got (inl q) =
        let G : ℕ → Type 0 = λ n. slice_get (arguments_of h n) i ≡ Some y in
        let L : ℕ → Type 0 = λ n. Fits (level_at new.variables.items) (level_at new.structures.items) (ts ++ tasks_of m (arguments_of h s)) n y in
        inr (subst L (sym (ap (level_at new.structures.items) q ∙ set.here)) (inr (awaits_second m y ts (tasks_of m (arguments_of h s)) (awaits_each m (arguments_of h s) i y (subst G q got)))))
    argument t i y got (inr ne) = inl (set.others t ne)

    reached : (f : N → List ℕ) (w : ℕ) {name : List ℕ} → term_of f h (Structure s) ≡ structure name (terms_of f h (arguments_of h s)) → (is_in_tasks f h w ts ≡ true) ⊎ (is_in_tasks f h w (tasks_of m (arguments_of h s)) ≡ true) →
        (occurs w (term_of f h (Structure s)) || is_in_tasks f h w ts) ≡ true
    reached f w is (inl q) = or_right (occurs w (term_of f h (Structure s))) (is_in_tasks f h w ts) q
    reached f w is (inr q) = or_left (occurs w (term_of f h (Structure s))) (is_in_tasks f h w ts) (ap (occurs w) is ∙ sym (in_tasks_of f h w m (arguments_of h s)) ∙ q)

-- ---- all that waits

-- what was lifted so far, and what waits
pub record IsLifting {N : Type 0} (h : Held N) (x : Cell N) (l : ℕ) (old now : Levels) (ts : List (Task N)) : Type 0 where
  pub tasks : AreTasks h ts
  pub here : Fits (level_at now.variables.items) (level_at now.structures.items) ts l x
  pub arguments : (s i : ℕ) (y : Cell N) → slice_get (arguments_of h s) i ≡ Some y → Fits (level_at now.variables.items) (level_at now.structures.items) ts (level_at now.structures.items s) y
  pub values : (v : ℕ) → Fits (level_at now.variables.items) (level_at now.structures.items) ts (level_at now.variables.items v) (found v h.bindings)
  pub reached : (f : N → List ℕ) (v : ℕ) → is_in_tasks f h v ts ≡ true → occurs v (term_of f h x) ≡ true
  pub seen : (v : ℕ) → is_bound v h.bindings ≡ false → (level_at now.variables.items v ≡ level_at old.variables.items v) ⊎ ((f : N → List ℕ) → occurs v (term_of f h x) ≡ true)
  pub fit : length now.structures.items ≤ length h.structures

pub lifting_starts : {N : Type 0} (h : Held N) (x : Cell N) (l : ℕ) (ls : Levels) (ts us : List (Task N)) → AreLevels h ls → IsIn h x → ts ≡ [] → us ≡ ts ++ record { cell = x; level = l } ∷ [] → IsLifting h x l ls ls us
lifting_starts {N = N} h x l ls ts us a inside none e =
    let P : List (Task N) → Type 0 = λ k. IsLifting h x l ls ls k in
    let task : Task N = record { cell = x; level = l } in
    subst P (sym (e ∙ ap (λ k. k ++ task ∷ []) none)) (record {
      tasks = (inside, tt);
      here = inr (inl (refl, omega arith));
      arguments = λ s i y got. inl (a.level.arguments s i y got);
      values = λ v. inl (a.level.values v);
      reached = λ f v q. one (occurs v (term_of f h x)) q;
      seen = λ v u. inl refl;
      fit = a.fit;
    })
  where
    one : (b : Bool) → (b || false) ≡ true → b ≡ true
    one true q = refl
    one false q = q

pub lifting_goes_on : {N : Type 0} (h : Held N) (x : Cell N) (l : ℕ) (old now next : Levels) (all rest left : List (Task N)) (t : Task N) → IsLifting h x l old now all → all ≡ rest ++ t ∷ [] →
    Lifts h t.cell t.level now next rest left → IsLifting h x l old next left × (load h left < load h all)
lifting_goes_on {N = N} h x l old now next all rest left t i e s = (
  record {
    tasks = s.tasks;
    here = keeps l x i.here;
    arguments = λ r k y got. argument r k y got (s.arguments r k y got);
    values = λ v. value v (s.values v);
    reached = λ f v q. in_all f v (s.reached f v q);
    seen = λ v u. seen v u (s.seen v u);
    fit = s.fit i.fit;
  },
  omega (arith, s.less, ap (load h) e, load-append h rest (t ∷ [])),
)
  where
    NewFits : ℕ → Cell N → Type 0
    NewFits n y = Fits (level_at next.variables.items) (level_at next.structures.items) left n y

    taken : (n : ℕ) (y : Cell N) → Awaits n y rest ⊎ Awaits n y (t ∷ []) → NewFits n y
    taken n y (inl a) = s.keeps n y (inr a)
    taken n y (inr (inl p)) =
        let P : Cell N → Type 0 = λ z. NewFits n z in
        subst P p.0 (fits_lower (level_at next.variables.items) (level_at next.structures.items) left n t.level t.cell p.1 s.here)
    taken n y (inr (inr a)) = absurd a

    keeps : (n : ℕ) (y : Cell N) → Fits (level_at now.variables.items) (level_at now.structures.items) all n y → NewFits n y
    keeps n y (inl lies) = s.keeps n y (inl lies)
    keeps n y (inr a) =
        let P : List (Task N) → Type 0 = λ k. Awaits n y k in
        taken n y (awaits_split n y rest (t ∷ []) (subst P e a))

    argument : (r k : ℕ) (y : Cell N) → slice_get (arguments_of h r) k ≡ Some y → (level_at next.structures.items r ≡ level_at now.structures.items r) ⊎ NewFits (level_at next.structures.items r) y → NewFits (level_at next.structures.items r) y
    argument r k y got (inl same) = let P : ℕ → Type 0 = λ n. NewFits n y in subst P (sym same) (keeps (level_at now.structures.items r) y (i.arguments r k y got))
    argument r k y got (inr fits) = fits

    value : (v : ℕ) → (level_at next.variables.items v ≡ level_at now.variables.items v) ⊎ NewFits (level_at next.variables.items v) (found v h.bindings) → NewFits (level_at next.variables.items v) (found v h.bindings)
    value v (inl same) = let P : ℕ → Type 0 = λ n. NewFits n (found v h.bindings) in subst P (sym same) (keeps (level_at now.variables.items v) (found v h.bindings) (i.values v))
    value v (inr fits) = fits

    in_all : (f : N → List ℕ) (v : ℕ) → (occurs v (term_of f h t.cell) || is_in_tasks f h v rest) ≡ true → occurs v (term_of f h x) ≡ true
    in_all f v q = i.reached f v (ap (is_in_tasks f h v) e ∙ in_tasks-push f h v rest t ∙ q)

    seen : (v : ℕ) → is_bound v h.bindings ≡ false → (level_at next.variables.items v ≡ level_at now.variables.items v) ⊎ ((f : N → List ℕ) → occurs v (term_of f h t.cell) ≡ true) →
        (level_at next.variables.items v ≡ level_at old.variables.items v) ⊎ ((f : N → List ℕ) → occurs v (term_of f h x) ≡ true)
    seen v u (inl same) = before (i.seen v u)
      where
        before : (level_at now.variables.items v ≡ level_at old.variables.items v) ⊎ ((f : N → List ℕ) → occurs v (term_of f h x) ≡ true) → (level_at next.variables.items v ≡ level_at old.variables.items v) ⊎ ((f : N → List ℕ) → occurs v (term_of f h x) ≡ true)
        before (inl q) = inl (same ∙ q)
        before (inr q) = inr q
    seen v u (inr is) = inr (λ f. in_all f v (or_left (occurs v (term_of f h t.cell)) (is_in_tasks f h v rest) (is f)))

lies_now : {N : Type 0} (vs ss : ℕ → ℕ) (ts : List (Task N)) (n : ℕ) (x : Cell N) → ts ≡ [] → Fits vs ss ts n x → LiesAt vs ss n x
lies_now vs ss ts n x e (inl l) = l
lies_now {N = N} vs ss ts n x e (inr a) = let P : List (Task N) → Type 0 = λ k. Awaits n x k in absurd (subst P e a)

pub lifting_ends : {N : Type 0} (h : Held N) (x : Cell N) (l : ℕ) (old now : Levels) (ts : List (Task N)) → IsLifting h x l old now ts → ts ≡ [] → AreLevels h now × Lifted h x l old now
lifting_ends h x l old now ts i e = (
  record {
    level = record {
      arguments = λ s k y got. lies_now _ _ ts _ y e (i.arguments s k y got);
      values = λ v. lies_now _ _ ts _ (found v h.bindings) e (i.values v);
    };
    fit = i.fit;
  },
  record { here = lies_now _ _ ts l x e i.here; seen = i.seen },
)

pub task_inside : {N : Type 0} (h : Held N) (all rest : List (Task N)) (t : Task N) → AreTasks h all → all ≡ rest ++ t ∷ [] → AreTasks h rest × IsIn h t.cell
task_inside {N = N} h all rest t a e = let P : List (Task N) → Type 0 = λ k. AreTasks h k in AreTasks-pop h rest t (subst P e a)

one_task_more : {N : Type 0} (l : ℕ) (xs : List (Cell N)) (i : ℕ) (x : Cell N) → slice_get xs i ≡ Some x → tasks_of l (take (suc i) xs) ≡ tasks_of l (take i xs) ++ record { cell = x; level = l } ∷ []
one_task_more l [] i x e = absurd (cc)
one_task_more {N = N} l (y ∷ xs) zero x e = let q : y ≡ x = cc in ap (λ (z : Cell N). record { cell = z; level = l } ∷ []) q
one_task_more l (y ∷ xs) (suc i) x e = ap (λ k. record { cell = y; level = l } ∷ k) (one_task_more l xs i x e)

pub tasks_taken : {N : Type 0} (l : ℕ) (xs : List (Cell N)) (i : ℕ) (x : Cell N) → slice_get xs i ≡ Some x → tasks_of l (take (i + 1) xs) ≡ tasks_of l (take i xs) ++ record { cell = x; level = l } ∷ []
tasks_taken l xs i x e =
    let P : ℕ → Type 0 = λ n. tasks_of l (take n xs) ≡ tasks_of l (take i xs) ++ record { cell = x; level = l } ∷ [] in
    let n : suc i ≡ i + 1 = omega arith in
    subst P n (one_task_more l xs i x e)
