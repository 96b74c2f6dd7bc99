-- One turn of the waiting equations after another.
use Rattle.std.proofs.Common.{◌≡◌, ℕ, suc, ◌+◌, ◌<◌, ◌≤◌, List, [], ◌∷◌, ◌++◌, length, get_or, drop, refl, sym, ap, ◌∙◌, arith, subst, length-append, drop-cons}
use Rattle.std.specs.Prelude.{Some, None, slice_get}
use Rattle.std.proofs.lemmas.List.{drop_all}
use Rattle.std.proofs.lemmas.Option.{get_or_from_slice_get, slice_get_within}
use Rattle.kl1_model.specs.declared.built_in.BuiltIn.{BuiltIn}
use Rattle.kl1_model.specs.Term.{Term, Terms, none, more, size, sizes}
use Rattle.kl1_model.specs.Unify.{Equation, transformed, mgu, argument_equations, equations_size}
use Rattle.kl1_model.specs.code.Unifying.{after, bound_to}
use Rattle.kl1_model.proofs.UnifyRule.{front_decides}
use Rattle.kl1_model.proofs.EqualSides.{equal_sides_dropped}
use Rattle.kl1_model.proofs.TermFacts.{same_term_decides}
use Rattle.kl1_store.specs.declared.cell.Cell.{Cell}
use Rattle.kl1_store.specs.declared.cell.Cell.TheVariants.{Structure}
use Rattle.kl1_store.specs.declared.frame.Frame.{Frame}
use Rattle.kl1_store.specs.declared.meeting.Meeting.TheVariants.{Clash}
use Rattle.kl1_store.specs.Held.{Held, arguments_of}
use Rattle.kl1_store.specs.Meaning.{term_of, terms_of, unread}
use Rattle.kl1_store.specs.Sound.{IsFormed}
use Rattle.kl1_store.specs.Waiting.{rest_of, waiting, IsPair, ArePairs, Turn, IsTurn}
use Rattle.kl1_store.specs.Onward.{onward}
use Rattle.kl1_store.specs.Meets.{MeetsAs, Takes, Opens}
use Rattle.kl1_store.specs.Unifies.{ForEachReading}
use Rattle.kl1_store.proofs.Terms.{term_of-Structure}
use Rattle.kl1_store.proofs.Meetings.{named}

pub waiting-push : {N : Type 0} (f : N → List ℕ) (h : Held N) (es : List Equation) (ps : List Frame) (p : Frame) → waiting f h es (ps ++ p ∷ []) ≡ rest_of f h p (waiting f h es ps)
unfolding waiting
waiting-push f h es [] p = refl
waiting-push f h es (q ∷ ps) p = waiting-push f h (rest_of f h q es) ps p

pub ArePairs-push : {N : Type 0} (h : Held N) (ps : List Frame) (p : Frame) → ArePairs h ps → IsPair h p → ArePairs h (ps ++ p ∷ [])
ArePairs-push h [] p a b = (b, tt)
ArePairs-push h (q ∷ ps) p a b = (a.0, ArePairs-push h ps p a.1 b)

pub ArePairs-pop : {N : Type 0} (h : Held N) (ps : List Frame) (p : Frame) → ArePairs h (ps ++ p ∷ []) → ArePairs h ps × IsPair h p
ArePairs-pop h [] p a = (tt, a.0)
ArePairs-pop h (q ∷ ps) p a = let r = ArePairs-pop h ps p a.1 in ((a.0, r.0), r.1)

pub onward_pair : {N : Type 0} (h : Held N) (p : Frame) → IsPair h p → suc p.next ≤ p.count → IsPair h (onward p)
onward_pair h p q le = record { left = q.left; right = q.right; left_count = q.left_count; right_count = q.right_count; next = omega arith; name = q.name; left_shape = q.left_shape; right_shape = q.right_shape }

pub drop_here : {X : Type 0} (xs : List X) (i : ℕ) (x : X) → slice_get xs i ≡ Some x → drop i xs ≡ x ∷ drop (i + 1) xs
drop_here {X = X} xs i x e =
    let within : i < length xs = slice_get_within xs i x e in
    let P : ℕ → Type 0 = λ n. drop i xs ≡ get_or xs i x ∷ drop n xs in
    let Q : X → Type 0 = λ y. drop i xs ≡ y ∷ drop (i + 1) xs in
    let n : suc i ≡ i + 1 = omega arith in
    subst Q (get_or_from_slice_get xs i x x e) (subst P n (drop-cons xs i x within))

-- nothing is left of a pair at its end
rest_done : {N : Type 0} (f : N → List ℕ) (h : Held N) (p : Frame) (es : List Equation) → IsPair h p → p.next ≡ p.count → rest_of f h p es ≡ es
unfolding terms_of
rest_done {N = N} f h p es pair e =
    let none_left : drop p.next (arguments_of h p.left) ≡ [] = drop_all p.next (arguments_of h p.left) (omega (arith, pair.left_count)) in
    ap (λ (xs : List (Cell N)). argument_equations (terms_of f h xs) (terms_of f h (drop p.next (arguments_of h p.right))) es) none_left
    ∙ done (terms_of f h (drop p.next (arguments_of h p.right)))
  where
    done : (us : Terms) → argument_equations none us es ≡ es
    done us = refl

-- the next arguments are the front equation
rest_turn : {N : Type 0} (f : N → List ℕ) (h : Held N) (p : Frame) (l r x y : Cell N) (es : List Equation) → Turn h p l r x y →
    rest_of f h p es ≡ record { left = term_of f h x; right = term_of f h y } ∷ rest_of f h (onward p) es
unfolding terms_of
rest_turn {N = N} f h p l r x y es turn =
    let ls = drop_here (arguments_of h p.left) p.next l turn.left in
    let rs = drop_here (arguments_of h p.right) p.next r turn.right in
    let equation : Term → Term → List Equation = λ t u. record { left = t; right = u } ∷ rest_of f h (onward p) es in
    ap (λ (xs : List (Cell N)). argument_equations (terms_of f h xs) (terms_of f h (drop p.next (arguments_of h p.right))) es) ls
    ∙ ap (λ (xs : List (Cell N)). argument_equations (terms_of f h (l ∷ drop (p.next + 1) (arguments_of h p.left))) (terms_of f h xs) es) rs
    ∙ ap (λ t. equation t (term_of f h r)) (sym (turn.left_means f)) ∙ ap (equation (term_of f h x)) (sym (turn.right_means f))

-- the front equation of a turn, in front of what waits
pub turn_waiting : {N : Type 0} (f : N → List ℕ) (h : Held N) (ps : List Frame) (p : Frame) (l r x y : Cell N) → Turn h p l r x y →
    waiting f h [] (ps ++ p ∷ []) ≡ record { left = term_of f h x; right = term_of f h y } ∷ waiting f h [] (ps ++ onward p ∷ [])
turn_waiting f h ps p l r x y turn =
    let equation : List Equation → List Equation = λ es. record { left = term_of f h x; right = term_of f h y } ∷ es in
    waiting-push f h [] ps p ∙ rest_turn f h p l r x y (waiting f h [] ps) turn ∙ ap equation (sym (waiting-push f h [] ps (onward p)))

-- what a turn comes to, by its front equation
turn_decides : {N : Type 0} (f : N → List ℕ) (h : Held N) (ps : List Frame) (p : Frame) (l r x y : Cell N) → Turn h p l r x y →
    mgu (waiting f h [] (ps ++ p ∷ [])) ≡ after mgu mgu (transformed (term_of f h x) (term_of f h y) (waiting f h [] (ps ++ onward p ∷ [])))
turn_decides f h ps p l r x y turn =
    ap mgu (turn_waiting f h ps p l r x y turn)
    ∙ front_decides (record { left = term_of f h x; right = term_of f h y }) (waiting f h [] (ps ++ onward p ∷ []))

-- how much work waits
abbrev pub work : {N : Type 0} → Held N → List Frame → ℕ
work h ps = equations_size (waiting unread h [] ps) + length ps

-- other equations in place of these, with less work
pub record Reaches {N : Type 0} (built : BuiltIn → N) (h : Held N) (before now : List Frame) : Type 0 where
  pub pairs : ArePairs h now
  pub same : ForEachReading built (λ f. mgu (waiting f h [] before) ≡ mgu (waiting f h [] now))
  pub less : work h now < work h before

pub closed : {N : Type 0} (built : BuiltIn → N) (h : Held N) (ps : List Frame) (p : Frame) → ArePairs h (ps ++ p ∷ []) → p.next ≡ p.count → Reaches built h (ps ++ p ∷ []) ps
closed {N = N} built h ps p pairs e =
    let r = ArePairs-pop h ps p pairs in
    let same : (f : N → List ℕ) → waiting f h [] (ps ++ p ∷ []) ≡ waiting f h [] ps = λ f. waiting-push f h [] ps p ∙ rest_done f h p (waiting f h [] ps) r.1 e in
    record {
      pairs = r.0;
      same = λ f reads. ap mgu (same f);
      less = let s = ap equations_size (same unread) in omega (arith, s, length-append ps (p ∷ []));
    }

turn_size : {N : Type 0} (f : N → List ℕ) (h : Held N) (ps : List Frame) (p : Frame) (l r x y : Cell N) → Turn h p l r x y →
    equations_size (waiting f h [] (ps ++ p ∷ [])) ≡ suc (size (term_of f h x)) + equations_size (waiting f h [] (ps ++ onward p ∷ []))
turn_size f h ps p l r x y turn = ap equations_size (turn_waiting f h ps p l r x y turn)

turn_more : {N : Type 0} {h : Held N} {p : Frame} {l r x y : Cell N} → Turn h p l r x y → suc p.next ≤ p.count
turn_more {h = h} {p = p} {l = l} turn = omega (arith, slice_get_within (arguments_of h p.left) p.next l turn.left, turn.pair.left_count)

pub dropped : {N : Type 0} (built : BuiltIn → N) (h : Held N) (ps : List Frame) (p : Frame) (l r x y : Cell N) → ArePairs h ps → Turn h p l r x y →
    ((f : N → List ℕ) → term_of f h x ≡ term_of f h y) → Reaches built h (ps ++ p ∷ []) (ps ++ onward p ∷ [])
dropped built h ps p l r x y pairs turn equal = record {
  pairs = ArePairs-push h ps (onward p) pairs (onward_pair h p turn.pair (turn_more turn));
  same = λ f reads.
      ap mgu (turn_waiting f h ps p l r x y turn)
      ∙ equal_sides_dropped (record { left = term_of f h x; right = term_of f h y }) (waiting f h [] (ps ++ onward p ∷ []))
      ((same_term_decides (term_of f h x) (term_of f h y)).1 (equal f));
  less = omega (arith, turn_size unread h ps p l r x y turn, length-append ps (p ∷ []), length-append ps (onward p ∷ []));
}

pub arguments_size : (ts us : Terms) (es : List Equation) → equations_size (argument_equations ts us es) ≤ sizes ts + equations_size es
arguments_size none us es = omega arith
arguments_size (more t ts) none es = omega arith
arguments_size (more t ts) (more u us) es = let r = arguments_size ts us es in omega (arith, r)

structure_size : {N : Type 0} (f : N → List ℕ) (h : Held N) (s : ℕ) → IsFormed h → s < length h.structures → size (term_of f h (Structure s)) ≡ suc (sizes (terms_of f h (arguments_of h s)))
structure_size f h s p lt = let r = named h s lt in ap size (term_of-Structure f h s r.0 p r.1)

pub opened : {N : Type 0} (built : BuiltIn → N) (h : Held N) (ps : List Frame) (p q : Frame) (l r x y : Cell N) → ArePairs h ps → Turn h p l r x y → Opens h x y q →
    Reaches built h (ps ++ p ∷ []) ((ps ++ onward p ∷ []) ++ q ∷ [])
opened {N = N} built h ps p q l r x y pairs turn opens =
    let rest : (N → List ℕ) → List Equation = λ f. waiting f h [] (ps ++ onward p ∷ []) in
    let S : Cell N → Type 0 = λ c. size (term_of unread h c) ≡ suc (sizes (terms_of unread h (arguments_of h q.left))) in
    let big : size (term_of unread h x) ≡ suc (sizes (terms_of unread h (arguments_of h q.left))) = subst S (sym opens.left) (structure_size unread h q.left turn.formed opens.is.left) in
    let Z : ℕ → Type 0 = λ n. equations_size (argument_equations (terms_of unread h (drop n (arguments_of h q.left))) (terms_of unread h (drop n (arguments_of h q.right))) (rest unread)) ≤ sizes (terms_of unread h (arguments_of h q.left)) + equations_size (rest unread) in
    let small : equations_size (rest_of unread h q (rest unread)) ≤ sizes (terms_of unread h (arguments_of h q.left)) + equations_size (rest unread) =
    subst Z (sym opens.start) (arguments_size (terms_of unread h (arguments_of h q.left)) (terms_of unread h (arguments_of h q.right)) (rest unread)) in
    let now : equations_size (waiting unread h [] ((ps ++ onward p ∷ []) ++ q ∷ [])) ≡ equations_size (rest_of unread h q (rest unread)) = ap equations_size (waiting-push unread h [] (ps ++ onward p ∷ []) q) in
    record {
      pairs = ArePairs-push h (ps ++ onward p ∷ []) q (ArePairs-push h ps (onward p) pairs (onward_pair h p turn.pair (turn_more turn))) opens.is;
      same = λ f reads.
          turn_decides f h ps p l r x y turn
          ∙ ap (after mgu mgu) (opens.leads f (rest f))
          ∙ ap mgu (sym (waiting-push f h [] (ps ++ onward p ∷ []) q));
      less = omega (arith, turn_size unread h ps p l r x y turn, big, small, now, length-append ps (p ∷ []), length-append ps (onward p ∷ []), length-append (ps ++ onward p ∷ []) (q ∷ []));
    }

pub never : {N : Type 0} (built : BuiltIn → N) (h : Held N) (ps : List Frame) (p : Frame) (l r x y : Cell N) → Turn h p l r x y → MeetsAs built h x y Clash →
    ForEachReading built (λ f. mgu (waiting f h [] (ps ++ p ∷ [])) ≡ None)
never built h ps p l r x y turn clash = λ f reads.
    turn_decides f h ps p l r x y turn ∙ ap (after mgu mgu) (clash f reads (waiting f h [] (ps ++ onward p ∷ [])))

pub taken : {N : Type 0} (built : BuiltIn → N) (h : Held N) (ps : List Frame) (p : Frame) (l r x y : Cell N) (v : ℕ) (z : Cell N) → Turn h p l r x y → Takes h x y v z →
    ForEachReading built (λ f. mgu (waiting f h [] (ps ++ p ∷ [])) ≡ after mgu mgu (bound_to v (term_of f h z) (waiting f h [] (ps ++ onward p ∷ []))))
taken built h ps p l r x y v z turn takes = λ f reads.
    turn_decides f h ps p l r x y turn ∙ ap (after mgu mgu) (takes.leads f (waiting f h [] (ps ++ onward p ∷ [])))

pub nothing_waits : {N : Type 0} (f : N → List ℕ) (h : Held N) → waiting f h [] [] ≡ []
unfolding waiting
nothing_waits f h = refl

-- ---- what is popped from a list that has a name of its own

popped : {N : Type 0} (h : Held N) (before ps : List Frame) (p : Frame) → ArePairs h before → before ≡ ps ++ p ∷ [] → ArePairs h ps × IsPair h p
popped h before ps p pairs e = let P : List Frame → Type 0 = λ l. ArePairs h l in ArePairs-pop h ps p (subst P e pairs)

pub pair_popped : {N : Type 0} (h : Held N) (before ps : List Frame) (p : Frame) → ArePairs h before → before ≡ ps ++ p ∷ [] → IsPair h p
pair_popped h before ps p pairs e = (popped h before ps p pairs e).1

pub closed_at : {N : Type 0} (built : BuiltIn → N) (h : Held N) (before ps : List Frame) (p : Frame) → ArePairs h before → before ≡ ps ++ p ∷ [] → p.count ≤ p.next → Reaches built h before ps
closed_at built h before ps p pairs e le =
    let R : List Frame → Type 0 = λ l. Reaches built h l ps in
    let P : List Frame → Type 0 = λ l. ArePairs h l in
    let pair = pair_popped h before ps p pairs e in
    subst R (sym e) (closed built h ps p (subst P e pairs) (omega (arith, pair.next)))

pushed : (ps now : List Frame) (p q : Frame) → now ≡ ps ++ q ∷ [] → q ≡ onward p → now ≡ ps ++ onward p ∷ []
pushed ps now p q e is = e ∙ ap (λ x. ps ++ x ∷ []) is

pub dropped_at : {N : Type 0} (built : BuiltIn → N) (h : Held N) (before ps now : List Frame) (p q : Frame) (x y : Cell N) →
    ArePairs h before → before ≡ ps ++ p ∷ [] → now ≡ ps ++ q ∷ [] → q ≡ onward p → IsTurn h p x y →
    ((f : N → List ℕ) → term_of f h x ≡ term_of f h y) → Reaches built h before now
dropped_at built h before ps now p q x y pairs e are is turn equal =
    let R : List Frame → Type 0 = λ l. Reaches built h l now in
    let S : List Frame → Type 0 = λ l. Reaches built h (ps ++ p ∷ []) l in
    subst R (sym e) (subst S (sym (pushed ps now p q are is)) (dropped built h ps p turn.left turn.right x y (popped h before ps p pairs e).0 turn.turn equal))

pub opened_at : {N : Type 0} (built : BuiltIn → N) (h : Held N) (before ps between now : List Frame) (p q o : Frame) (x y : Cell N) →
    ArePairs h before → before ≡ ps ++ p ∷ [] → between ≡ ps ++ q ∷ [] → q ≡ onward p → now ≡ between ++ o ∷ [] → IsTurn h p x y →
    Opens h x y o → Reaches built h before now
opened_at built h before ps between now p q o x y pairs e are is further turn opens =
    let R : List Frame → Type 0 = λ l. Reaches built h l now in
    let S : List Frame → Type 0 = λ l. Reaches built h (ps ++ p ∷ []) l in
    subst R (sym e) (subst S (sym (further ∙ ap (λ l. l ++ o ∷ []) (pushed ps between p q are is))) (opened built h ps p o turn.left turn.right x y (popped h before ps p pairs e).0 turn.turn opens))

pub never_at : {N : Type 0} (built : BuiltIn → N) (h : Held N) (before ps : List Frame) (p : Frame) (x y : Cell N) →
    before ≡ ps ++ p ∷ [] → IsTurn h p x y → MeetsAs built h x y Clash → ForEachReading built (λ f. mgu (waiting f h [] before) ≡ None)
never_at built h before ps p x y e turn clash = λ f reads.
    ap (λ l. mgu (waiting f h [] l)) e ∙ never built h ps p turn.left turn.right x y turn.turn clash f reads

pub taken_at : {N : Type 0} (built : BuiltIn → N) (h : Held N) (before ps now : List Frame) (p q : Frame) (x y : Cell N) (v : ℕ) (z : Cell N) →
    ArePairs h before → before ≡ ps ++ p ∷ [] → now ≡ ps ++ q ∷ [] → q ≡ onward p → IsTurn h p x y → Takes h x y v z →
    ArePairs h now × ForEachReading built (λ f. mgu (waiting f h [] before) ≡ after mgu mgu (bound_to v (term_of f h z) (waiting f h [] now)))
taken_at built h before ps now p q x y v z pairs e are is turn takes =
    let same = pushed ps now p q are is in
    let P : List Frame → Type 0 = λ l. ArePairs h l in
    let r = popped h before ps p pairs e in (
      subst P (sym same) (ArePairs-push h ps (onward p) r.0 (onward_pair h p r.1 (turn_more turn.turn))),
      λ f reads.
          ap (λ l. mgu (waiting f h [] l)) e ∙ taken built h ps p turn.left turn.right x y v z turn.turn takes f reads
          ∙ ap (λ l. after mgu mgu (bound_to v (term_of f h z) (waiting f h [] l))) (sym same),
    )

-- nothing of a pair at its end waits
pub closed_waiting : {N : Type 0} (h : Held N) (before ps : List Frame) (p : Frame) → ArePairs h before → before ≡ ps ++ p ∷ [] → p.count ≤ p.next → (f : N → List ℕ) → waiting f h [] before ≡ waiting f h [] ps
closed_waiting h before ps p pairs e le = λ f.
    let pair = pair_popped h before ps p pairs e in
    ap (waiting f h []) e ∙ waiting-push f h [] ps p ∙ rest_done f h p (waiting f h [] ps) pair (omega (arith, pair.next))

pub onward_pushed : {N : Type 0} (h : Held N) (before ps now : List Frame) (p q : Frame) → ArePairs h before → before ≡ ps ++ p ∷ [] → now ≡ ps ++ q ∷ [] → q ≡ onward p → suc p.next ≤ p.count → ArePairs h now
onward_pushed h before ps now p q pairs e are is le =
    let P : List Frame → Type 0 = λ l. ArePairs h l in
    let r = popped h before ps p pairs e in
    subst P (sym (pushed ps now p q are is)) (ArePairs-push h ps (onward p) r.0 (onward_pair h p r.1 le))
