-- Places in lists stay right while a store grows.
use Rattle.std.proofs.Common.{◌≡◌, ℕ, zero, suc, ◌+◌, ◌-◌, ◌≤◌, List, [], ◌∷◌, ◌++◌, length, take, drop, get_or, codes, refl, sym, ap, ◌∙◌, arith, subst, length-take}
use Rattle.std.specs.Prelude.{Result, Ok, Err, IfOk, OnOk, OnErr}
use Rattle.std.specs.List.{All}
use Rattle.std.proofs.lemmas.List.{take_all, take_at, take-take}
use Rattle.std.proofs.lemmas.List.Elements.{All-nil, All-cons, All-append, All-head, All-tail}
use Rattle.kl1_model.specs.declared.built_in.BuiltIn.{BuiltIn}
use Rattle.kl1_model.specs.Term.{Term, structure, none, more, Replacement}
use Rattle.kl1_model.specs.Meaning.{cell}
use Rattle.kl1_model.specs.code.Unifying.{replaced}
use Rattle.kl1_store.specs.declared.cell.Cell.{Cell}
use Rattle.kl1_store.specs.declared.mark.Mark.{Mark}
use Rattle.kl1_store.specs.declared.fingers.Finger.{Finger}
use Rattle.kl1_store.specs.declared.fingers.Fingers.{Fingers}
use Rattle.kl1_store.specs.Held.{Held, nothing_held, sizes_of, with_variable, with_structure, with_binding, IsIn}
use Rattle.kl1_store.specs.Meaning.{term_of}
use Rattle.kl1_store.specs.Sound.{IsFormed, Grown}
use Rattle.kl1_store.specs.Unifies.{OnlyBound}
use Rattle.kl1_store.specs.Fingers.{IsAfter, IsFinger, AreFingers}
use Rattle.kl1_store.proofs.Replacing.{replaced-structure, replaced_each-none, replaced_each-more}
use Rattle.kl1_store.proofs.Growing.{IsWithin-more}
use Rattle.kl1_store.proofs.Grows.{Grown-same, Grown-variable, Grown-structure, Grown-trans}
use Rattle.kl1_store.proofs.Constants.{Grown-binding}
use Rattle.kl1_store.proofs.Later.{is_later}

replaced-cell : (rs : List Replacement) (e r : Term) → replaced rs (cell e r) ≡ cell (replaced rs e) (replaced rs r)
replaced-cell rs e r =
    replaced-structure rs (codes ".") (more e (more r none))
    ∙ ap (structure (codes ".")) (replaced_each-more rs e (more r none))
    ∙ ap (λ ts. structure (codes ".") (more (replaced rs e) ts)) (replaced_each-more rs r none)
    ∙ ap (λ ts. structure (codes ".") (more (replaced rs e) (more (replaced rs r) ts))) (replaced_each-none rs)

after_replaced : (rs : List Replacement) (k : ℕ) (t u : Term) → IsAfter k t u → IsAfter k (replaced rs t) (replaced rs u)
after_replaced rs zero t u a = ap (replaced rs) a
after_replaced rs (suc k) t u a =
    let m = a.1 in
    (replaced rs a.0, (replaced rs m.0, (ap (replaced rs) m.1.0 ∙ replaced-cell rs a.0 m.0, after_replaced rs k m.0 u m.1.1)))

longer : {X : Type 0} (xs ys : List X) → take (length xs) ys ≡ xs → length xs ≤ length ys
longer xs ys p = let e = ap length p in omega (arith, e, length-take (length xs) ys)

in_later : {N : Type 0} (old new : Held N) (x : Cell N) → Grown old new → IsIn old x → IsIn new x
in_later old new x g i = IsWithin-more old.variables (length old.structures) new.variables (length new.structures) x g.variables (longer old.structures new.structures g.structures) i

-- a place that was right is right later
pub finger_later : {N : Type 0} (built : BuiltIn → N) (old new : Held N) (g : Finger N) → IsFormed old → Grown old new → IsFinger built old g → IsFinger built new g
finger_later {N = N} built old new g formed grown p = record {
  list_in = in_later old new g.list grown p.list_in;
  rest_in = in_later old new g.rest grown p.rest_in;
  after = λ f reads.
      let l = is_later f old new formed grown in
      let A : Term → Type 0 = λ t. IsAfter g.count t (term_of f new g.rest) in
      let B : Term → Type 0 = λ u. IsAfter g.count (replaced l.replacements (term_of f old g.list)) u in
      subst A (sym (l.means g.list p.list_in))
      (subst B (sym (l.means g.rest p.rest_in)) (after_replaced l.replacements g.count (term_of f old g.list) (term_of f old g.rest) (p.after f reads)));
}

pub all_later : {N : Type 0} (built : BuiltIn → N) (old new : Held N) (gs : List (Finger N)) → IsFormed old → Grown old new → All (IsFinger built old) gs → All (IsFinger built new) gs
all_later built old new gs formed grown all = λ k d lt. finger_later built old new (get_or gs k d) formed grown (all k d lt)

-- no places are all right
pub no_fingers : {N : Type 0} (built : BuiltIn → N) (h : Held N) (gs : Fingers N) → gs.places.items ≡ [] → gs.since ≡ record { variables = 0; structures = 0; bindings = 0 } → AreFingers built h gs
no_fingers {N = N} built h gs empty start =
    let P : List (Finger N) → Type 0 = λ l. All (IsFinger built nothing_held) l in
    record {
      past = nothing_held;
      since = start;
      formed = record { built = tt; bound = tt };
      grown = record { variables = omega arith; structures = refl; bindings = refl };
      each = subst P (sym empty) (All-nil (IsFinger built nothing_held));
    }

-- places stay when what is held grows
pub fingers_grown : {N : Type 0} (built : BuiltIn → N) (old new : Held N) (gs : Fingers N) → Grown old new → AreFingers built old gs → AreFingers built new gs
fingers_grown built old new gs grown a = record { past = a.past; since = a.since; formed = a.formed; grown = Grown-trans a.past old new a.grown grown; each = a.each }

pub fingers_same : {N : Type 0} (built : BuiltIn → N) (old new : Held N) (gs : Fingers N) → new ≡ old → AreFingers built old gs → AreFingers built new gs
fingers_same {N = N} built old new gs e a = let P : Held N → Type 0 = λ h. AreFingers built h gs in subst P (sym e) a

pub fingers_fresh : {N X E : Type 0} (built : BuiltIn → N) (old new : Held N) (P : X → Type 0) (r : Result X E) (gs : Fingers N) → IfOk r (λ (v : X). P v × (new ≡ with_variable old)) → OnErr r (new ≡ old) →
    AreFingers built old gs → AreFingers built new gs
fingers_fresh built old new P (Ok v) gs ok err a = fingers_same built (with_variable old) new gs ok.1 (fingers_grown built old (with_variable old) gs (Grown-variable old) a)
fingers_fresh built old new P (Err e) gs ok err a = fingers_same built old new gs err a

pub fingers_build : {N X E : Type 0} (built : BuiltIn → N) (old new : Held N) (name : N) (arguments : List (Cell N)) (P : X → Type 0) (r : Result X E) (gs : Fingers N) →
    IfOk r (λ (v : X). P v × (new ≡ with_structure old name arguments)) → OnErr r (new ≡ old) → AreFingers built old gs → AreFingers built new gs
fingers_build built old new name arguments P (Ok v) gs ok err a =
    let next = with_structure old name arguments in
    fingers_same built next new gs ok.1 (fingers_grown built old next gs (Grown-structure old name arguments) a)
fingers_build built old new name arguments P (Err e) gs ok err a = fingers_same built old new gs err a

pub fingers_bound : {N : Type 0} (built : BuiltIn → N) (old new : Held N) (v : ℕ) (x : Cell N) (gs : Fingers N) → new ≡ with_binding old v x → AreFingers built old gs → AreFingers built new gs
fingers_bound built old new v x gs e a = let next = with_binding old v x in fingers_same built next new gs e (fingers_grown built old next gs (Grown-binding old v x) a)

pub fingers_constant : {N X E : Type 0} (built : BuiltIn → N) (old new : Held N) (v : ℕ) (x : Cell N) (r : Result X E) (gs : Fingers N) → OnOk r (new ≡ with_binding old v x) → OnErr r (new ≡ old) →
    AreFingers built old gs → AreFingers built new gs
fingers_constant built old new v x (Ok y) gs ok err a = fingers_bound built old new v x gs ok a
fingers_constant built old new v x (Err y) gs ok err a = fingers_same built old new gs err a

Grown-only : {N : Type 0} (old new : Held N) → OnlyBound old new → Grown old new
Grown-only {N = N} old new o =
    let V : ℕ → Type 0 = λ n. old.variables ≤ n in
    record {
      variables = subst V (sym o.variables) (omega arith);
      structures = ap (take (length old.structures)) o.structures ∙ take_all (length old.structures) old.structures (omega arith);
      bindings = ap (take (length old.bindings)) o.bindings ∙ take_at old.bindings o.added (length old.bindings) refl;
    }

pub fingers_solved : {N : Type 0} (built : BuiltIn → N) (old new : Held N) (gs : Fingers N) → OnlyBound old new → AreFingers built old gs → AreFingers built new gs
fingers_solved built old new gs o a = fingers_grown built old new gs (Grown-only old new o) a

still_between : {X : Type 0} (xs ys zs : List X) → length xs ≤ length ys → take (length xs) zs ≡ xs → take (length ys) zs ≡ ys → take (length xs) ys ≡ xs
still_between xs ys zs short p q = ap (take (length xs)) (sym q) ∙ take-take (length xs) (length ys) zs short ∙ p

Grown-between : {N : Type 0} (a b c : Held N) → a.variables ≤ b.variables → length a.structures ≤ length b.structures → length a.bindings ≤ length b.bindings → Grown a c → Grown b c → Grown a b
Grown-between a b c vs ss bs p q = record {
  variables = vs;
  structures = still_between a.structures b.structures c.structures ss p.structures q.structures;
  bindings = still_between a.bindings b.bindings c.bindings bs p.bindings q.bindings;
}

-- places that were right before a mark stay when what came since is taken back
pub fingers_back : {N : Type 0} (built : BuiltIn → N) (now then : Held N) (mark : Mark) (gs : Fingers N) → mark ≡ sizes_of then → Grown then now →
    gs.since.variables ≤ mark.variables → gs.since.structures ≤ mark.structures → gs.since.bindings ≤ mark.bindings → AreFingers built now gs → AreFingers built then gs
fingers_back built now then mark gs e grown vs ss bs a =
    let v : gs.since.variables ≡ a.past.variables = ap (λ (m : Mark). m.variables) a.since in
    let s : gs.since.structures ≡ length a.past.structures = ap (λ (m : Mark). m.structures) a.since in
    let b : gs.since.bindings ≡ length a.past.bindings = ap (λ (m : Mark). m.bindings) a.since in
    let mv : mark.variables ≡ then.variables = ap (λ (m : Mark). m.variables) e in
    let ms : mark.structures ≡ length then.structures = ap (λ (m : Mark). m.structures) e in
    let mb : mark.bindings ≡ length then.bindings = ap (λ (m : Mark). m.bindings) e in
    record {
      past = a.past;
      since = a.since;
      formed = a.formed;
      grown = Grown-between a.past then now (omega arith) (omega arith) (omega arith) a.grown grown;
      each = a.each;
    }

-- one place more
pub fingers_more : {N : Type 0} (built : BuiltIn → N) (h : Held N) (old new : Fingers N) (g : Finger N) → IsFormed h → new.since ≡ sizes_of h → new.places.items ≡ old.places.items ++ g ∷ [] → IsFinger built h g →
    AreFingers built h old → AreFingers built h new
fingers_more {N = N} built h old new g formed since items right a =
    let P : List (Finger N) → Type 0 = λ l. All (IsFinger built h) l in
    record {
      past = h;
      since = since;
      formed = formed;
      grown = Grown-same h;
      each = subst P (sym items) (All-append (IsFinger built h) old.places.items (g ∷ []) (all_later built a.past h old.places.items a.formed a.grown a.each) (All-cons (IsFinger built h) g [] right (All-nil (IsFinger built h))));
    }

-- the beginning of a list
pub beginning : {N : Type 0} (built : BuiltIn → N) (h : Held N) (x : Cell N) → IsIn h x → IsFinger built h (record { list = x; count = 0; rest = x })
beginning built h x i = record { list_in = i; rest_in = i; after = λ f reads. refl }

-- each place is right now
pub each_now : {N : Type 0} (built : BuiltIn → N) (h : Held N) (gs : Fingers N) → AreFingers built h gs → All (IsFinger built h) gs.places.items
each_now built h gs a = all_later built a.past h gs.places.items a.formed a.grown a.each

-- of places that are right, the first, and the others
pub first_finger : {N : Type 0} (built : BuiltIn → N) (h : Held N) (g : Finger N) (gs : List (Finger N)) → 1 ≤ length gs → g ≡ get_or gs 0 g → All (IsFinger built h) gs → IsFinger built h g
first_finger built h g [] le e a = absurd (omega arith)
first_finger {N = N} built h g (x ∷ gs) le e a = let P : Finger N → Type 0 = λ y. IsFinger built h y in subst P (sym e) (All-head (IsFinger built h) x gs a)

pub other_fingers : {N : Type 0} (built : BuiltIn → N) (h : Held N) (gs : List (Finger N)) → 1 ≤ length gs → All (IsFinger built h) gs → All (IsFinger built h) (take (length gs - 1) (drop 1 gs))
other_fingers built h [] le a = absurd (omega arith)
other_fingers {N = N} built h (x ∷ gs) le a =
    let P : List (Finger N) → Type 0 = λ l. All (IsFinger built h) l in subst P (sym (take_all (length (x ∷ gs) - 1) gs (omega arith))) (All-tail (IsFinger built h) x gs a)
