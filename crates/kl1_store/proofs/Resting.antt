-- What is left of a comparison, one look after another, and when a store has grown.
use Rattle.std.proofs.Common.{◌≡◌, ℕ, suc, ◌+◌, ◌<◌, ◌≤◌, ◌||◌, ◌⊎◌, inl, inr, Bool, true, false, List, [], ◌∷◌, ◌++◌, length, drop, get_or, refl, sym, ap, ◌∙◌, subst, arith, append_assoc, length-append, length-take}
use Rattle.std.specs.Prelude.{◌↔◌, Some, slice_get, Contains, Result, Ok, Err, IfOk, OnOk, OnErr}
use Rattle.std.specs.List.{All}
use Rattle.std.proofs.lemmas.List.{map-append, append-nil, nil_from_length}
use Rattle.std.proofs.lemmas.List.Elements.{All-head, All-tail, All-push, All-weaker, All-nil}
use Rattle.std.proofs.lemmas.Bool.{or_from}
use Rattle.std.proofs.lemmas.Option.{slice_get-get_or, get_or_from_slice_get}
use Rattle.kl1_model.specs.declared.built_in.BuiltIn.{BuiltIn}
use Rattle.kl1_model.specs.Term.{Term, size}
use Rattle.kl1_model.specs.Unify.{Equation, argument_equations, equations_size}
use Rattle.kl1_model.specs.code.Comparing.{clash, awaited}
use Rattle.kl1_model.specs.code.Unifying.{replaced}
use Rattle.kl1_model.proofs.SameEach.{same_from}
use Rattle.kl1_model.proofs.TermFacts.{same_term_decides}
use Rattle.kl1_text.specs.Reading.{Reads}
use Rattle.kl1_store.specs.declared.cell.Cell.{Cell}
use Rattle.kl1_store.specs.declared.cell.Cell.TheVariants.{Structure}
use Rattle.kl1_store.specs.declared.frame.Frame.{Frame}
use Rattle.kl1_store.specs.declared.rest.Rest.{Rest}
use Rattle.kl1_store.specs.Held.{Shape, Held, with_variable, with_structure, with_binding, IsIn, arguments_of, shape_arguments}
use Rattle.kl1_store.specs.Meaning.{term_of, terms_of, unread}
use Rattle.kl1_store.specs.Sound.{IsFormed, Grown}
use Rattle.kl1_store.specs.Later.{IsLater}
use Rattle.kl1_store.specs.Unbound.{AreUnbound}
use Rattle.kl1_store.specs.Unifies.{OnlyBound}
use Rattle.kl1_store.specs.Onward.{onward}
use Rattle.kl1_store.specs.Waiting.{rest_of, waiting, IsTurn}
use Rattle.kl1_store.specs.Done.{IsOf}
use Rattle.kl1_store.specs.Compares.{clash_among, awaited_among, Compares, LooksDone, LooksOpen}
use Rattle.kl1_store.specs.Sameness.{AreAlike}
use Rattle.kl1_store.specs.Resting.{replaced_among, StandFor, turn_of, turns_of, heads_of, IsOpen, IsLeft, IsRestIn, AreRests}
use Rattle.kl1_store.specs.Resumes.{IsOnCourse, Looks}
use Rattle.kl1_store.proofs.Advancing.{drop_here, waiting-push}
use Rattle.kl1_store.proofs.Comparing.{opened_structures}
use Rattle.kl1_store.proofs.Levelling.{slice_get-taken}
use Rattle.kl1_store.proofs.Terms.{arguments_in, within_at}
use Rattle.kl1_store.proofs.Grows.{Grown-trans, Grown-same, Grown-variable, Grown-structure}
use Rattle.kl1_store.proofs.Constants.{Grown-binding}
use Rattle.kl1_store.proofs.Unifying.{Grown-bound}
use Rattle.kl1_store.proofs.Later.{is_later}
use Rattle.kl1_store.proofs.Answering.{of_at, contains_of}
use Rattle.kl1_store.proofs.Standing.{clash_beside, awaited_beside, stand_same, stand_equal, stand_replaced, stand_beside, stand_dropped, stand_opened, stand_clash, stand_awaited}

-- ---- one look

-- the arguments in turn, in front of those after them
open_front : {N : Type 0} (f : N → List ℕ) (h : Held N) (p : Frame) (es : List Equation) → IsOpen h p → rest_of f h p es ≡ turn_of f h p ∷ rest_of f h (onward p) es
unfolding terms_of
open_front {N = N} f h p es o =
    let xs = arguments_of h p.left in
    let ys = arguments_of h p.right in
    let lx : p.next < length xs = omega (arith, o.pair.left_count, o.more) in
    let ly : p.next < length ys = omega (arith, o.pair.right_count, o.more) in
    ap (λ (l : List (Cell N)). argument_equations (terms_of f h l) (terms_of f h (drop p.next ys)) es) (drop_here xs p.next (get_or xs p.next (Structure p.left)) (slice_get-get_or xs p.next (Structure p.left) lx))
    ∙ ap (λ (l : List (Cell N)). argument_equations (terms_of f h (get_or xs p.next (Structure p.left) ∷ drop (p.next + 1) xs)) (terms_of f h l) es) (drop_here ys p.next (get_or ys p.next (Structure p.right)) (slice_get-get_or ys p.next (Structure p.right) ly))

-- what waits before a look, and after its pair went one argument further
pub before_look : {N : Type 0} (f : N → List ℕ) (h : Held N) (before ps between : List Frame) (p q : Frame) → before ≡ ps ++ p ∷ [] → between ≡ ps ++ q ∷ [] → q ≡ onward p → IsOpen h p →
    waiting f h [] before ≡ turn_of f h p ∷ waiting f h [] between
before_look f h before ps between p q e are is o =
    ap (waiting f h []) e ∙ waiting-push f h [] ps p ∙ open_front f h p (waiting f h [] ps) o
    ∙ ap (λ (l : List Equation). turn_of f h p ∷ l) (sym (ap (waiting f h []) (are ∙ ap (λ z. ps ++ z ∷ []) is) ∙ waiting-push f h [] ps (onward p)))

-- the arguments in turn mean what the cells mean that they stand for
pub turn_is : {N : Type 0} (f : N → List ℕ) (h : Held N) (p : Frame) (x y : Cell N) → IsTurn h p x y → turn_of f h p ≡ record { left = term_of f h x; right = term_of f h y }
turn_is f h p x y t =
    let r = t.turn in
    let make : Term → Term → Equation = λ a b. record { left = a; right = b } in
    ap (λ a. make a (term_of f h (get_or (arguments_of h p.right) p.next (Structure p.right)))) (ap (term_of f h) (get_or_from_slice_get (arguments_of h p.left) p.next t.left (Structure p.left) r.left) ∙ sym (r.left_means f))
    ∙ ap (make (term_of f h x)) (ap (term_of f h) (get_or_from_slice_get (arguments_of h p.right) p.next t.right (Structure p.right) r.right) ∙ sym (r.right_means f))

-- terms that neither clash nor wait are equal
equal_terms : (t u : Term) → clash t u ≡ false → awaited t u ≡ [] → t ≡ u
equal_terms t u c a = (same_term_decides t u).0 (same_from t u c a)

no_more : (xs ys zs : List ℕ) → xs ≡ ys ++ zs → length xs ≤ length ys → zs ≡ []
no_more xs ys zs e le = nil_from_length zs (omega (arith, ap length e, length-append ys zs, le))

-- two cells were looked at, and no variable was found: what waits now stands for them and for what waited
pub looked_stand : {N : Type 0} (built : BuiltIn → N) (f : N → List ℕ) (h : Held N) (x y : Cell N) (before now : List Frame) (waits longer : List ℕ) → Reads built f → IsFormed h → length longer ≤ length waits →
    LooksDone built h x y before now waits longer ⊎ LooksOpen h x y before now waits longer → StandFor (record { left = term_of f h x; right = term_of f h y } ∷ waiting f h [] before) (waiting f h [] now)
looked_stand {N = N} built f h x y before now waits longer reads formed le (inl d) =
    let P : List Frame → Type 0 = λ l. StandFor (record { left = term_of f h x; right = term_of f h y } ∷ waiting f h [] before) (waiting f h [] l) in
    let none = no_more longer waits (awaited (term_of f h x) (term_of f h y)) (d.awaited f reads) le in
    subst P (sym d.same) (stand_dropped (record { left = term_of f h x; right = term_of f h y }) (waiting f h [] before) (equal_terms (term_of f h x) (term_of f h y) (d.clash f reads) none))
looked_stand {N = N} built f h x y before now waits longer reads formed le (inr o) =
    let P : List Equation → Type 0 = λ l. StandFor (record { left = term_of f h x; right = term_of f h y } ∷ waiting f h [] before) l in
    subst P (sym (ap (waiting f h []) o.pushed ∙ waiting-push f h [] before o.frame))
    (stand_opened (term_of f h x) (term_of f h y) (terms_of f h (drop o.frame.next (arguments_of h o.frame.left))) (terms_of f h (drop o.frame.next (arguments_of h o.frame.right))) (waiting f h [] before) (opened_structures f h x y o.frame formed o.opens))

less_by : {N : Type 0} (built : BuiltIn → N) (h : Held N) (p : Frame) (x y : Cell N) (before now : List Frame) (waits longer : List ℕ) → IsTurn h p x y → Compares built h x y before now waits longer →
    equations_size (waiting unread h [] now) + length now ≤ size (turn_of unread h p).left + (equations_size (waiting unread h [] before) + length before)
less_by built h p x y before now waits longer t c = let e = ap (λ (e : Equation). size e.left) (turn_is unread h p x y t) in omega (arith, e, c.less)

-- a look that found no variable
pub looks_on : {N : Type 0} (built : BuiltIn → N) (h : Held N) (p : Frame) (x y : Cell N) (before now left : List Frame) (waits longer : List ℕ) → IsTurn h p x y → length longer ≤ length waits → Compares built h x y before now waits longer →
    Looks built h p before now left left
looks_on {N = N} built h p x y before now left waits longer t le c = record {
  pairs = c.pairs;
  stand = λ f reads.
      let P : Equation → Type 0 = λ e. StandFor (e ∷ waiting f h [] before) (waiting f h [] now) in
      stand_beside (turns_of f h left) (turn_of f h p ∷ waiting f h [] before) (turns_of f h left) (waiting f h [] now) (stand_same (turns_of f h left))
      (subst P (sym (turn_is f h p x y t)) (looked_stand built f h x y before now waits longer reads t.turn.formed le c.either));
  less = less_by built h p x y before now waits longer t c;
}

-- a look that found variables found them at once
found_at_once : {N : Type 0} (built : BuiltIn → N) (h : Held N) (x y : Cell N) (before now : List Frame) (waits longer : List ℕ) → length waits < length longer → LooksDone built h x y before now waits longer ⊎ LooksOpen h x y before now waits longer →
    LooksDone built h x y before now waits longer
found_at_once built h x y before now waits longer lt (inl d) = d
found_at_once built h x y before now waits longer lt (inr o) = absurd (omega (arith, lt, ap length o.same))

turns_pushed : {N : Type 0} (f : N → List ℕ) (h : Held N) (ps qs : List Frame) (p : Frame) → qs ≡ ps ++ p ∷ [] → turns_of f h qs ≡ turns_of f h ps ++ turn_of f h p ∷ []
turns_pushed f h ps qs p e = ap (turns_of f h) e ∙ map-append (turn_of f h) ps (p ∷ [])

pub looks_waiting : {N : Type 0} (built : BuiltIn → N) (h : Held N) (p : Frame) (x y : Cell N) (before now left rest : List Frame) (waits longer : List ℕ) → IsTurn h p x y → length waits < length longer → rest ≡ left ++ p ∷ [] → Compares built h x y before now waits longer →
    Looks built h p before now left rest
looks_waiting {N = N} built h p x y before now left rest waits longer t lt pushed c =
    let d = found_at_once built h x y before now waits longer lt c.either in
    record {
      pairs = c.pairs;
      stand = λ f reads.
          let W : List Frame → List Equation = λ l. waiting f h [] l in
          stand_equal (turns_of f h left ++ turn_of f h p ∷ W before) (turns_of f h rest ++ W now)
          (sym (append_assoc (turns_of f h left) (turn_of f h p ∷ []) (W before)) ∙ ap (λ l. l ++ W before) (sym (turns_pushed f h left rest p pushed)) ∙ ap (λ l. turns_of f h rest ++ W l) (sym d.same));
      less = less_by built h p x y before now waits longer t c;
    }

-- what is on course stays so
pub course_same : {N : Type 0} (built : BuiltIn → N) (h : Held N) (p : Frame) (x y : Cell N) (before now left : List Frame) (waits longer : List ℕ) → length longer ≤ length waits → Compares built h x y before now waits longer → (AreUnbound h waits → AreUnbound h longer) →
    IsOnCourse built h left waits → IsOnCourse built h left longer
course_same {N = N} built h p x y before now left waits longer le c unbound on = record {
  each = on.each;
  clash = on.clash;
  awaited = λ f reads. same f reads c.either ∙ on.awaited f reads;
  unbound = unbound on.unbound;
}
  where
    same : (f : N → List ℕ) → Reads built f → LooksDone built h x y before now waits longer ⊎ LooksOpen h x y before now waits longer → longer ≡ waits
    same f reads (inl d) =
        d.awaited f reads ∙ ap (λ l. waits ++ l) (no_more longer waits (awaited (term_of f h x) (term_of f h y)) (d.awaited f reads) le) ∙ append-nil waits
    same f reads (inr o) = o.same

pub course_longer : {N : Type 0} (built : BuiltIn → N) (h : Held N) (p : Frame) (x y : Cell N) (before now left rest : List Frame) (waits longer : List ℕ) → IsOpen h p → IsTurn h p x y → length waits < length longer → rest ≡ left ++ p ∷ [] →
    Compares built h x y before now waits longer → (AreUnbound h waits → AreUnbound h longer) → IsOnCourse built h left waits → IsOnCourse built h rest longer
course_longer {N = N} built h p x y before now left rest waits longer o t lt pushed c unbound on =
    let d = found_at_once built h x y before now waits longer lt c.either in
    let P : List Frame → Type 0 = λ l. All (IsOpen h) l in
    record {
      each = subst P (sym pushed) (All-push (IsOpen h) left p on.each o);
      clash = λ f reads.
          ap clash_among (turns_pushed f h left rest p pushed) ∙ clash_beside (turns_of f h left) (turn_of f h p ∷ [])
          ∙ or_from (clash_among (turns_of f h left)) (clash_among (turn_of f h p ∷ [])) (on.clash f reads) (or_from (clash (turn_of f h p).left (turn_of f h p).right) false (ap (λ (e : Equation). clash e.left e.right) (turn_is f h p x y t) ∙ d.clash f reads) refl);
      awaited = λ f reads.
          d.awaited f reads ∙ ap (λ l. l ++ awaited (term_of f h x) (term_of f h y)) (on.awaited f reads)
          ∙ ap (λ l. awaited_among (turns_of f h left) ++ l) (ap (λ (e : Equation). awaited e.left e.right) (sym (turn_is f h p x y t)) ∙ sym (append-nil (awaited (turn_of f h p).left (turn_of f h p).right)))
          ∙ sym (ap awaited_among (turns_pushed f h left rest p pushed) ∙ awaited_beside (turns_of f h left) (turn_of f h p ∷ []));
      unbound = unbound on.unbound;
    }

pub clash_in_turn : {N : Type 0} (built : BuiltIn → N) (h : Held N) (p : Frame) (x y : Cell N) → IsTurn h p x y → ((f : N → List ℕ) → Reads built f → clash (term_of f h x) (term_of f h y) ≡ true) →
    (f : N → List ℕ) → Reads built f → clash (turn_of f h p).left (turn_of f h p).right ≡ true
clash_in_turn built h p x y t c f reads = ap (λ (e : Equation). clash e.left e.right) (turn_is f h p x y t) ∙ c f reads

-- ---- a store that has grown

shape_kept : {N : Type 0} (old new : Held N) (s : ℕ) → Grown old new → suc s ≤ length old.structures → slice_get new.structures s ≡ slice_get old.structures s
shape_kept old new s g lt = slice_get-taken old.structures new.structures s g.structures (omega (arith, lt))

arguments_kept : {N : Type 0} (old new : Held N) (s : ℕ) → Grown old new → suc s ≤ length old.structures → arguments_of new s ≡ arguments_of old s
arguments_kept old new s g lt = ap shape_arguments (shape_kept old new s g lt)

structures_more : {N : Type 0} (old new : Held N) → Grown old new → length old.structures ≤ length new.structures
structures_more old new g = omega (arith, ap length g.structures, length-take (length old.structures) new.structures)

open_later : {N : Type 0} (old new : Held N) (p : Frame) → Grown old new → IsOpen old p → IsOpen new p
open_later {N = N} old new p g o =
    let q = o.pair in
    let more = structures_more old new g in
    let l = arguments_kept old new p.left g q.left in
    let r = arguments_kept old new p.right g q.right in
    let make : List (Cell N) → Shape N = λ xs. record { name = q.name; arguments = xs } in
    record {
      pair = record {
        left = omega (arith, q.left, more);
        right = omega (arith, q.right, more);
        left_count = ap length l ∙ q.left_count;
        right_count = ap length r ∙ q.right_count;
        next = q.next;
        name = q.name;
        left_shape = shape_kept old new p.left g q.left ∙ q.left_shape ∙ ap (λ xs. Some (make xs)) (sym l);
        right_shape = shape_kept old new p.right g q.right ∙ q.right_shape ∙ ap (λ xs. Some (make xs)) (sym r);
      };
      more = o.more;
    }

turn_in : {N : Type 0} (h : Held N) (s i : ℕ) → IsFormed h → i < length (arguments_of h s) → IsIn h (get_or (arguments_of h s) i (Structure s))
turn_in h s i formed lt = within_at h (arguments_of h s) i (get_or (arguments_of h s) i (Structure s)) (arguments_in h s formed) (slice_get-get_or (arguments_of h s) i (Structure s) lt)

side_later : {N : Type 0} (f : N → List ℕ) (old new : Held N) (s i : ℕ) → IsFormed old → (g : Grown old new) → suc s ≤ length old.structures → i < length (arguments_of old s) → (l : IsLater f old new) →
    term_of f new (get_or (arguments_of new s) i (Structure s)) ≡ replaced l.replacements (term_of f old (get_or (arguments_of old s) i (Structure s)))
side_later {N = N} f old new s i formed g inside lt l =
    ap (λ (xs : List (Cell N)). term_of f new (get_or xs i (Structure s))) (arguments_kept old new s g inside) ∙ l.means (get_or (arguments_of old s) i (Structure s)) (turn_in old s i formed lt)

turn_later : {N : Type 0} (f : N → List ℕ) (old new : Held N) (p : Frame) → IsFormed old → Grown old new → (l : IsLater f old new) → IsOpen old p →
    turn_of f new p ≡ record { left = replaced l.replacements (turn_of f old p).left; right = replaced l.replacements (turn_of f old p).right }
turn_later f old new p formed g l o =
    let make : Term → Term → Equation = λ a b. record { left = a; right = b } in
    let q = o.pair in
    ap (λ a. make a (turn_of f new p).right) (side_later f old new p.left p.next formed g q.left (omega (arith, q.left_count, o.more)) l)
    ∙ ap (make (replaced l.replacements (turn_of f old p).left)) (side_later f old new p.right p.next formed g q.right (omega (arith, q.right_count, o.more)) l)

turns_later : {N : Type 0} (f : N → List ℕ) (old new : Held N) (ps : List Frame) → IsFormed old → Grown old new → (l : IsLater f old new) → All (IsOpen old) ps → turns_of f new ps ≡ replaced_among l.replacements (turns_of f old ps)
turns_later f old new [] formed g l o = refl
turns_later f old new (p ∷ ps) formed g l o =
    ap (λ (e : Equation). e ∷ turns_of f new ps) (turn_later f old new p formed g l (All-head (IsOpen old) p ps o))
    ∙ ap (λ (es : List Equation). record { left = replaced l.replacements (turn_of f old p).left; right = replaced l.replacements (turn_of f old p).right } ∷ es) (turns_later f old new ps formed g l (All-tail (IsOpen old) p ps o))

heads_later : {N : Type 0} (f : N → List ℕ) (old new : Held N) (l r : ℕ) → (k : IsLater f old new) → l < length old.structures → r < length old.structures → heads_of l r f new ≡ replaced_among k.replacements (heads_of l r f old)
heads_later f old new l r k lt lu =
    let make : Term → Term → List Equation = λ a b. record { left = a; right = b } ∷ [] in
    ap (λ a. make a (term_of f new (Structure r))) (k.means (Structure l) (omega (arith, lt)))
    ∙ ap (make (replaced k.replacements (term_of f old (Structure l)))) (k.means (Structure r) (omega (arith, lu)))

-- what was left of two structures is left of them when the store has grown
pub left_later : {N : Type 0} (built : BuiltIn → N) (old new : Held N) (l r : ℕ) (ps : List Frame) → IsFormed old → Grown old new → IsLeft built old l r ps → IsLeft built new l r ps
left_later {N = N} built old new l r ps formed g is =
    let more = structures_more old new g in
    record {
      left = omega (arith, is.left, more);
      right = omega (arith, is.right, more);
      each = All-weaker (IsOpen old) (IsOpen new) (λ p o. open_later old new p g o) ps is.each;
      stand = λ f reads.
          let k = is_later f old new formed g in
          let P : List Equation → Type 0 = λ es. StandFor es (turns_of f new ps) in
          let Q : List Equation → Type 0 = λ es. StandFor (replaced_among k.replacements (heads_of l r f old)) es in
          subst P (sym (heads_later f old new l r k is.left is.right)) (subst Q (sym (turns_later f old new ps formed g k is.each)) (stand_replaced (heads_of l r f old) (turns_of f old ps) k.replacements (is.stand f reads)));
    }

-- a rest is what is left now
pub left_now : {N : Type 0} (built : BuiltIn → N) (h : Held N) (r : Rest) → IsRestIn built h r → IsLeft built h r.left r.right r.pairs.items
left_now built h r is = left_later built is.past h r.left r.right r.pairs.items is.formed is.grown is.is

-- rests are so when the store has grown
pub rests_grown : {N : Type 0} (built : BuiltIn → N) (old new : Held N) (rs : List Rest) → Grown old new → AreRests built old rs → AreRests built new rs
rests_grown built old new rs g are = All-weaker (IsRestIn built old) (IsRestIn built new) (λ r is. record { past = is.past; formed = is.formed; grown = Grown-trans is.past old new is.grown g; is = is.is }) rs are

-- and if what is held is the same
pub rests_same : {N : Type 0} (built : BuiltIn → N) (old new : Held N) (rs : List Rest) → new ≡ old → AreRests built old rs → AreRests built new rs
rests_same {N = N} built old new rs e are = let P : Held N → Type 0 = λ h. AreRests built h rs in subst P (sym e) are

pub no_rests : {N : Type 0} (built : BuiltIn → N) (h : Held N) (rs : List Rest) → rs ≡ [] → AreRests built h rs
no_rests {N = N} built h rs e = let P : List Rest → Type 0 = λ l. AreRests built h l in subst P (sym e) (All-nil (IsRestIn built h))

-- one rest more
pub rest_added : {N : Type 0} (built : BuiltIn → N) (h : Held N) (rs new : List Rest) (r : Rest) → IsFormed h → IsLeft built h r.left r.right r.pairs.items → new ≡ rs ++ r ∷ [] → AreRests built h rs → AreRests built h new
rest_added {N = N} built h rs new r formed is e are =
    let P : List Rest → Type 0 = λ l. AreRests built h l in
    subst P (sym e) (All-push (IsRestIn built h) rs r are (record { past = h; formed = formed; grown = Grown-same h; is = is }))

-- ---- what comes of it

same_found : (xs ys : List ℕ) (v : ℕ) → IsOf v xs ↔ IsOf v ys → Contains xs v ↔ Contains ys v
same_found xs ys v s = (λ p. contains_of v ys (s.0 (of_at v xs p.0 p.1 p.2)), λ p. contains_of v xs (s.1 (of_at v ys p.0 p.1 p.2)))

-- two structures of which this is left don't clash, and wait for just these variables
pub alike_by_left : {N : Type 0} (built : BuiltIn → N) (h : Held N) (l r : ℕ) (ps : List Frame) (waits : List ℕ) → IsOnCourse built h ps waits → ((f : N → List ℕ) → Reads built f → StandFor (heads_of l r f h) (turns_of f h ps)) →
    AreAlike built h (Structure l) (Structure r) [] waits
alike_by_left {N = N} built h l r ps waits on stand = record {
  named = waits;
  added = refl;
  unbound = on.unbound;
  clash = λ f reads. sym (or_none (clash (term_of f h (Structure l)) (term_of f h (Structure r)))) ∙ stand_clash (heads_of l r f h) (turns_of f h ps) (stand f reads) ∙ on.clash f reads;
  awaited = λ f reads v.
      let A = awaited (term_of f h (Structure l)) (term_of f h (Structure r)) in
      let P : List ℕ → Type 0 = λ ws. IsOf v ws ↔ IsOf v A in
      let Q : List ℕ → Type 0 = λ ws. IsOf v ws ↔ IsOf v (awaited_among (turns_of f h ps)) in
      let s = subst Q (append-nil A) (stand_awaited (heads_of l r f h) (turns_of f h ps) v (stand f reads)) in
      same_found waits A v (subst P (sym (on.awaited f reads)) (s.1, s.0));
}
  where
    or_none : (a : Bool) → (a || false) ≡ a
    or_none true = refl
    or_none false = refl

pub clash_by_heads : {N : Type 0} (built : BuiltIn → N) (h : Held N) (l r : ℕ) → ((f : N → List ℕ) → Reads built f → clash_among (heads_of l r f h) ≡ true) → (f : N → List ℕ) → Reads built f → clash (term_of f h (Structure l)) (term_of f h (Structure r)) ≡ true
clash_by_heads built h l r c f reads = only (clash (term_of f h (Structure l)) (term_of f h (Structure r))) (c f reads)
  where
    only : (a : Bool) → (a || false) ≡ true → a ≡ true
    only true e = refl
    only false e = e

-- ---- each growth

pub rests_build : {N X E : Type 0} (built : BuiltIn → N) (old new : Held N) (name : N) (arguments : List (Cell N)) (P : X → Type 0) (r : Result X E) (rs : List Rest) → IfOk r (λ (v : X). P v × (new ≡ with_structure old name arguments)) → OnErr r (new ≡ old) →
    AreRests built old rs → AreRests built new rs
rests_build {N = N} built old new name arguments P (Ok v) rs ok err are = let G : Held N → Type 0 = λ h. Grown old h in rests_grown built old new rs (subst G (sym ok.1) (Grown-structure old name arguments)) are
rests_build {N = N} built old new name arguments P (Err e) rs ok err are = rests_same built old new rs err are

pub rests_variable : {N X E : Type 0} (built : BuiltIn → N) (old new : Held N) (P : X → Type 0) (r : Result X E) (rs : List Rest) → IfOk r (λ (v : X). P v × (new ≡ with_variable old)) → OnErr r (new ≡ old) → AreRests built old rs → AreRests built new rs
rests_variable {N = N} built old new P (Ok v) rs ok err are = let G : Held N → Type 0 = λ h. Grown old h in rests_grown built old new rs (subst G (sym ok.1) (Grown-variable old)) are
rests_variable {N = N} built old new P (Err e) rs ok err are = rests_same built old new rs err are

pub rests_bound : {N : Type 0} (built : BuiltIn → N) (old new : Held N) (v : ℕ) (x : Cell N) (rs : List Rest) → new ≡ with_binding old v x → AreRests built old rs → AreRests built new rs
rests_bound {N = N} built old new v x rs e are = let G : Held N → Type 0 = λ h. Grown old h in rests_grown built old new rs (subst G (sym e) (Grown-binding old v x)) are

pub rests_constant : {N X E : Type 0} (built : BuiltIn → N) (old new : Held N) (v : ℕ) (x : Cell N) (r : Result X E) (rs : List Rest) → OnOk r (new ≡ with_binding old v x) → OnErr r (new ≡ old) → AreRests built old rs → AreRests built new rs
rests_constant built old new v x (Ok y) rs ok err are = rests_bound built old new v x rs ok are
rests_constant built old new v x (Err y) rs ok err are = rests_same built old new rs err are

pub rests_unified : {N : Type 0} (built : BuiltIn → N) (old new : Held N) (rs : List Rest) → OnlyBound old new → AreRests built old rs → AreRests built new rs
rests_unified built old new rs b are = rests_grown built old new rs (Grown-bound old new b) are

-- a new variable is among those that have a head
pub fresh_covered : {N E : Type 0} (old new : Held N) (k : ℕ) (r : Result ℕ E) → IfOk r (λ v. (v ≡ old.variables) × (new ≡ with_variable old)) → OnErr r (new ≡ old) → old.variables < k → new.variables ≤ k
fresh_covered {N = N} old new k (Ok v) ok err lt = let e : new.variables ≡ old.variables + 1 = ap (λ (h : Held N). h.variables) ok.1 in omega (arith, e, lt)
fresh_covered {N = N} old new k (Err e) ok err lt = let e : new.variables ≡ old.variables = ap (λ (h : Held N). h.variables) err in omega (arith, e, lt)
