-- Passive equality of two terms, step by step.
use Rattle.std.proofs.Common.{◌≡◌, ℕ, zero, suc, ◌+◌, ◌*◌, ◌<◌, ◌≤◌, ◌||◌, Bool, true, false, List, [], ◌∷◌, ◌++◌, map, drop, refl, sym, ap, ap₂, ◌∙◌, ◌==◌, add-one, arith, subst}
use Rattle.std.specs.Prelude.{Some}
use Rattle.std.proofs.lemmas.Option.{same_Some}
use Rattle.kl1_model.specs.declared.built_in.BuiltIn.{BuiltIn}
use Rattle.kl1_model.specs.Term.{Term, variable, integer, atom, structure, Terms, none, more, count_of, size, sizes}
use Rattle.kl1_model.specs.Unify.{argument_equations}
use Rattle.kl1_model.specs.code.Comparing.{clash, any_clash, awaited, all_awaited}
use Rattle.kl1_model.specs.laws.Clashes.{argument_at}
use Rattle.kl1_match_guard.specs.declared.pair.Pair.{Pair}
use Rattle.kl1_match_guard.specs.declared.frame.Frame.{Frame}
use Rattle.kl1_match_guard.specs.Alike.{is_among, wait_for, some_equation, equations_left, some_frame, some_pair, clash_left, await_left, sides_size, work_left, TakesUp, TakesUpAs, SidesLeft, Parts, IsFrameOf}

-- ---- truth values

or_true : (x : Bool) → (x || true) ≡ true
or_true true = refl
or_true false = refl

or_false : (x : Bool) → (x || false) ≡ x
or_false true = refl
or_false false = refl

or-group : (x y z : Bool) → ((x || y) || z) ≡ (x || (y || z))
or-group true y z = refl
or-group false y z = refl

-- the last of three is the first
from_third : (x f r : Bool) → (f || (r || x)) ≡ (x || (f || r))
from_third x true r = sym (or_true x)
from_third x false true = sym (or_true x)
from_third x false false = sym (or_false x)

from_fourth : (x f w r : Bool) → (f || (w || (r || x))) ≡ (x || (f || (w || r)))
from_fourth x true w r = sym (or_true x)
from_fourth x false true r = sym (or_true x)
from_fourth x false false true = sym (or_true x)
from_fourth x false false false = sym (or_false x)

-- the second of two, before others, is the first
from_second : (x f a : Bool) → ((f || x) || a) ≡ (x || (f || a))
from_second x true a = sym (or_true x)
from_second x false a = refl

-- one in the middle is the first
from_middle : (x f e a : Bool) → ((f || (x || e)) || a) ≡ (x || ((f || e) || a))
from_middle x true e a = sym (or_true x)
from_middle x false e a = or-group x e a

-- ---- one more at the end

some_pair-push : {A : Type 0} (term : A → Term) (p : Term → Term → Bool) (xs : List (Pair A)) (x : Pair A) → some_pair term p (xs ++ x ∷ []) ≡ (some_pair term p xs || p (term x.left) (term x.right))
some_pair-push term p [] x = or_false (p (term x.left) (term x.right))
some_pair-push term p (y ∷ xs) x = ap (λ b. p (term y.left) (term y.right) || b) (some_pair-push term p xs x) ∙ sym (or-group (p (term y.left) (term y.right)) (some_pair term p xs) (p (term x.left) (term x.right)))

some_frame-push : {S : Type 0} (arguments : S → Terms) (p : Term → Term → Bool) (xs : List (Frame S)) (x : Frame S) → some_frame arguments p (xs ++ x ∷ []) ≡ (some_frame arguments p xs || some_equation p (equations_left arguments x))
some_frame-push arguments p [] x = or_false (some_equation p (equations_left arguments x))
some_frame-push arguments p (y ∷ xs) x =
    ap (λ b. some_equation p (equations_left arguments y) || b) (some_frame-push arguments p xs x)
    ∙ sym (or-group (some_equation p (equations_left arguments y)) (some_frame arguments p xs) (some_equation p (equations_left arguments x)))

work_left-push : {S : Type 0} (arguments : S → Terms) (xs : List (Frame S)) (x : Frame S) → work_left arguments (xs ++ x ∷ []) ≡ work_left arguments xs + suc (2 * sides_size (equations_left arguments x))
work_left-push arguments [] x = omega arith
work_left-push arguments (y ∷ xs) x = omega (arith, work_left-push arguments xs x)

-- ---- all arguments

is_among-append : (v : ℕ) (xs ys : List ℕ) → is_among v (xs ++ ys) ≡ (is_among v xs || is_among v ys)
is_among-append v [] ys = refl
is_among-append v (x ∷ xs) ys = ap (λ b. v == x || b) (is_among-append v xs ys) ∙ sym (or-group (v == x) (is_among v xs) (is_among v ys))

clash_of_all : (ts us : Terms) → some_equation clash (argument_equations ts us []) ≡ any_clash ts us
clash_of_all none us = refl
clash_of_all (more t ts) none = refl
clash_of_all (more t ts) (more u us) = ap (λ b. clash t u || b) (clash_of_all ts us)

wait_of_all : (v : ℕ) (ts us : Terms) → some_equation (wait_for v) (argument_equations ts us []) ≡ is_among v (all_awaited ts us)
wait_of_all v none us = refl
wait_of_all v (more t ts) none = refl
wait_of_all v (more t ts) (more u us) = ap (λ b. wait_for v t u || b) (wait_of_all v ts us) ∙ sym (is_among-append v (awaited t u) (all_awaited ts us))

size_of_all : (ts us : Terms) → sides_size (argument_equations ts us []) ≤ sizes ts
size_of_all none us = omega arith
size_of_all (more t ts) none = omega arith
size_of_all (more t ts) (more u us) = omega (arith, size_of_all ts us)

-- ---- the argument in turn

first_left : (ts us : Terms) (i : ℕ) (a b : Term) → argument_at ts i ≡ Some a → argument_at us i ≡ Some b → drop i (argument_equations ts us []) ≡ record { left = a; right = b } ∷ drop (suc i) (argument_equations ts us [])
first_left none us i a b e d = absurd (cc)
first_left (more t ts) none i a b e d = absurd (cc)
first_left (more t ts) (more u us) zero a b e d = ap₂ (λ (x y : Term). record { left = x; right = y } ∷ argument_equations ts us []) (same_Some t a e) (same_Some u b d)
first_left (more t ts) (more u us) (suc i) a b e d = first_left ts us i a b e d

none_left : (ts us : Terms) (i : ℕ) → count_of ts ≤ i → drop i (argument_equations ts us []) ≡ []
none_left none us zero h = refl
none_left none us (suc i) h = refl
none_left (more t ts) us zero h = absurd (omega (arith, h))
none_left (more t ts) none (suc i) h = refl
none_left (more t ts) (more u us) (suc i) h = none_left ts us i (omega (arith, h))

-- ---- two terms are taken up

-- two that are kept as a whole are left for later
pub put_off : {V S A : Type 0} (number : V → ℕ) (arguments : S → Terms) (term : A → Term) (x : Pair A) (frames : List (Frame S)) (waits : List V) (rest later : List (Pair A)) → later ≡ rest ++ x ∷ [] → TakesUp number arguments term x frames waits rest frames waits later
put_off number arguments term x frames waits rest later e = record {
  clash =
      ap (λ l. clash_left arguments term frames l) e
      ∙ ap (λ b. some_frame arguments clash frames || b) (some_pair-push term clash rest x)
      ∙ from_third (clash (term x.left) (term x.right)) (some_frame arguments clash frames) (some_pair term clash rest);
  awaited = λ v.
      ap (λ l. await_left number arguments term v frames waits l) e
      ∙ ap (λ b. some_frame arguments (wait_for v) frames || (is_among v (map number waits) || b)) (some_pair-push term (wait_for v) rest x)
      ∙ from_fourth (wait_for v (term x.left) (term x.right)) (some_frame arguments (wait_for v) frames) (is_among v (map number waits)) (some_pair term (wait_for v) rest);
}

-- two structures are as their arguments are
pub opened : {V S A : Type 0} (number : V → ℕ) (arguments : S → Terms) (term : A → Term) (x : Pair A) (s r : S) (n : ℕ) (frames more_frames : List (Frame S)) (waits : List V) (rest : List (Pair A)) →
    more_frames ≡ frames ++ record { left = s; right = r; next = 0; count = n } ∷ [] →
    clash (term x.left) (term x.right) ≡ any_clash (arguments s) (arguments r) → awaited (term x.left) (term x.right) ≡ all_awaited (arguments s) (arguments r) →
    TakesUp number arguments term x frames waits rest more_frames waits rest
opened number arguments term x s r n frames more_frames waits rest e clashes waits_all = record {
  clash =
      ap (λ l. clash_left arguments term l rest) e
      ∙ ap (λ b. b || some_pair term clash rest) (some_frame-push arguments clash frames (record { left = s; right = r; next = 0; count = n }) ∙ ap (λ b. some_frame arguments clash frames || b) (clash_of_all (arguments s) (arguments r) ∙ sym clashes))
      ∙ from_second (clash (term x.left) (term x.right)) (some_frame arguments clash frames) (some_pair term clash rest);
  awaited = λ v.
      ap (λ l. await_left number arguments term v l waits rest) e
      ∙ ap (λ b. b || (is_among v (map number waits) || some_pair term (wait_for v) rest)) (some_frame-push arguments (wait_for v) frames (record { left = s; right = r; next = 0; count = n }) ∙ ap (λ b. some_frame arguments (wait_for v) frames || b) (wait_of_all v (arguments s) (arguments r) ∙ sym (ap (is_among v) waits_all)))
      ∙ from_second (wait_for v (term x.left) (term x.right)) (some_frame arguments (wait_for v) frames) (is_among v (map number waits) || some_pair term (wait_for v) rest);
}

pub opened_less : {S : Type 0} (arguments : S → Terms) (t : Term) (s r : S) (n : ℕ) (frames more_frames : List (Frame S)) →
    more_frames ≡ frames ++ record { left = s; right = r; next = 0; count = n } ∷ [] → size t ≡ suc (sizes (arguments s)) → work_left arguments more_frames < 2 * size t + work_left arguments frames
opened_less arguments t s r n frames more_frames e is =
    let pushed = ap (work_left arguments) e ∙ work_left-push arguments frames (record { left = s; right = r; next = 0; count = n }) in
    omega (arith, pushed, is, size_of_all (arguments s) (arguments r))

-- each term has a size
pub some_size : (t : Term) → 0 < size t
some_size (variable v) = omega arith
some_size (integer i) = omega arith
some_size (atom a) = omega arith
some_size (structure f ts) = omega arith

-- ---- the argument in turn is taken up

-- the frame, one argument further
abbrev pub onward : {S : Type 0} → Frame S → Frame S
onward x = record x { next = x.next + 1 }

in_turn : {S : Type 0} (arguments : S → Terms) (x : Frame S) (a b : Term) → argument_at (arguments x.left) x.next ≡ Some a → argument_at (arguments x.right) x.next ≡ Some b → equations_left arguments x ≡ record { left = a; right = b } ∷ equations_left arguments (onward x)
in_turn arguments x a b e d =
    first_left (arguments x.left) (arguments x.right) x.next a b e d
    ∙ ap (λ n. record { left = a; right = b } ∷ drop n (argument_equations (arguments x.left) (arguments x.right) [])) (sym (add-one x.next))

frames_in_turn : {S : Type 0} (arguments : S → Terms) (p : Term → Term → Bool) (before now pushed : List (Frame S)) (x : Frame S) (a b : Term) (others : Bool) →
    before ≡ now ++ x ∷ [] → pushed ≡ now ++ onward x ∷ [] → argument_at (arguments x.left) x.next ≡ Some a → argument_at (arguments x.right) x.next ≡ Some b →
    (some_frame arguments p before || others) ≡ (p a b || (some_frame arguments p pushed || others))
frames_in_turn arguments p before now pushed x a b others popped onto e d =
    ap (λ c. c || others) (ap (some_frame arguments p) popped ∙ some_frame-push arguments p now x ∙ ap (λ es. some_frame arguments p now || some_equation p es) (in_turn arguments x a b e d))
    ∙ from_middle (p a b) (some_frame arguments p now) (some_equation p (equations_left arguments (onward x))) others
    ∙ ap (λ c. p a b || (c || others)) (sym (ap (some_frame arguments p) onto ∙ some_frame-push arguments p now (onward x)))

-- the first two terms were taken up
pub begun : {V S A : Type 0} (number : V → ℕ) (arguments : S → Terms) (term : A → Term) (x : Pair A) (no_frames frames : List (Frame S)) (no_waits waits : List V) (no_rest rest : List (Pair A)) →
    no_frames ≡ [] → no_waits ≡ [] → no_rest ≡ [] → TakesUp number arguments term x no_frames no_waits no_rest frames waits rest → SidesLeft number arguments term (term x.left) (term x.right) frames waits rest
begun number arguments term x no_frames frames no_waits waits no_rest rest e d c taken = record {
  clash =
      sym (taken.clash ∙ ap (λ l. clash (term x.left) (term x.right) || clash_left arguments term l no_rest) e ∙ ap (λ l. clash (term x.left) (term x.right) || clash_left arguments term [] l) c ∙ or_false (clash (term x.left) (term x.right)));
  awaited = λ v.
      sym (taken.awaited v ∙ ap (λ l. wait_for v (term x.left) (term x.right) || await_left number arguments term v l no_waits no_rest) e
      ∙ ap (λ l. wait_for v (term x.left) (term x.right) || await_left number arguments term v [] l no_rest) d
      ∙ ap (λ l. wait_for v (term x.left) (term x.right) || await_left number arguments term v [] [] l) c ∙ or_false (wait_for v (term x.left) (term x.right)));
}

-- the arguments in turn were taken up
pub gone_on : {V S A : Type 0} (number : V → ℕ) (arguments : S → Terms) (term : A → Term) (t u : Term) (x : Frame S) (p : Pair A) (before now pushed frames : List (Frame S)) (old waits : List V) (older rest : List (Pair A)) →
    before ≡ now ++ x ∷ [] → pushed ≡ now ++ onward x ∷ [] → argument_at (arguments x.left) x.next ≡ Some (term p.left) → argument_at (arguments x.right) x.next ≡ Some (term p.right) →
    SidesLeft number arguments term t u before old older → TakesUp number arguments term p pushed old older frames waits rest → SidesLeft number arguments term t u frames waits rest
gone_on number arguments term t u x p before now pushed frames old waits older rest popped onto e d left taken = record {
  clash = left.clash ∙ frames_in_turn arguments clash before now pushed x (term p.left) (term p.right) (some_pair term clash older) popped onto e d ∙ sym taken.clash;
  awaited = λ v.
      left.awaited v
      ∙ frames_in_turn arguments (wait_for v) before now pushed x (term p.left) (term p.right) (is_among v (map number old) || some_pair term (wait_for v) older) popped onto e d
      ∙ sym (taken.awaited v);
}

-- the arguments in turn clash
pub clashed : {V S A : Type 0} (number : V → ℕ) (arguments : S → Terms) (term : A → Term) (t u : Term) (x : Frame S) (p : Pair A) (before now pushed : List (Frame S)) (old : List V) (older : List (Pair A)) →
    before ≡ now ++ x ∷ [] → pushed ≡ now ++ onward x ∷ [] → argument_at (arguments x.left) x.next ≡ Some (term p.left) → argument_at (arguments x.right) x.next ≡ Some (term p.right) →
    SidesLeft number arguments term t u before old older → clash (term p.left) (term p.right) ≡ true → clash t u ≡ true
clashed number arguments term t u x p before now pushed old older popped onto e d left clashes =
    left.clash ∙ frames_in_turn arguments clash before now pushed x (term p.left) (term p.right) (some_pair term clash older) popped onto e d
    ∙ ap (λ c. c || (some_frame arguments clash pushed || some_pair term clash older)) clashes

frames_ended : {S : Type 0} (arguments : S → Terms) (p : Term → Term → Bool) (before now : List (Frame S)) (x : Frame S) → before ≡ now ++ x ∷ [] → equations_left arguments x ≡ [] → some_frame arguments p before ≡ some_frame arguments p now
frames_ended arguments p before now x popped empty = ap (some_frame arguments p) popped ∙ some_frame-push arguments p now x ∙ ap (λ es. some_frame arguments p now || some_equation p es) empty ∙ or_false (some_frame arguments p now)

-- a frame has no argument left
pub ended : {V S A : Type 0} (number : V → ℕ) (arguments : S → Terms) (term : A → Term) (t u : Term) (x : Frame S) (before now : List (Frame S)) (waits : List V) (rest : List (Pair A)) →
    before ≡ now ++ x ∷ [] → count_of (arguments x.left) ≡ x.count → x.count ≤ x.next → SidesLeft number arguments term t u before waits rest → SidesLeft number arguments term t u now waits rest
ended number arguments term t u x before now waits rest popped counted over left =
    let empty : equations_left arguments x ≡ [] = none_left (arguments x.left) (arguments x.right) x.next (omega (arith, counted, over)) in
    record {
      clash = left.clash ∙ ap (λ c. c || some_pair term clash rest) (frames_ended arguments clash before now x popped empty);
      awaited = λ v. left.awaited v ∙ ap (λ c. c || (is_among v (map number waits) || some_pair term (wait_for v) rest)) (frames_ended arguments (wait_for v) before now x popped empty);
    }

-- nothing is on the way
pub finished : {V S A : Type 0} (number : V → ℕ) (arguments : S → Terms) (term : A → Term) (t u : Term) (frames : List (Frame S)) (waits : List V) (rest : List (Pair A)) → frames ≡ [] → SidesLeft number arguments term t u frames waits rest → Parts number term t u waits rest
finished number arguments term t u frames waits rest empty left = record {
  clash = left.clash ∙ ap (λ l. clash_left arguments term l rest) empty;
  awaited = λ v. left.awaited v ∙ ap (λ l. await_left number arguments term v l waits rest) empty;
}

pub work_ended : {S : Type 0} (arguments : S → Terms) (before now : List (Frame S)) (x : Frame S) → before ≡ now ++ x ∷ [] → work_left arguments now < work_left arguments before
work_ended arguments before now x popped = let work = ap (work_left arguments) popped ∙ work_left-push arguments now x in omega (arith, work)

pub work_less : {S : Type 0} (arguments : S → Terms) (before now pushed after : List (Frame S)) (x : Frame S) (a b : Term) → before ≡ now ++ x ∷ [] → pushed ≡ now ++ onward x ∷ [] →
    argument_at (arguments x.left) x.next ≡ Some a → argument_at (arguments x.right) x.next ≡ Some b → work_left arguments after < 2 * size a + work_left arguments pushed → work_left arguments after < work_left arguments before
work_less arguments before now pushed after x a b popped onto e d less =
    let work = ap (work_left arguments) popped ∙ work_left-push arguments now x in
    let then = ap (work_left arguments) onto ∙ work_left-push arguments now (onward x) in
    let parted = ap sides_size (in_turn arguments x a b e d) in
    omega (arith, work, then, parted, less)

-- ---- what a call answered

pub refused : {N V S A : Type 0} (built : BuiltIn → N) (number : V → ℕ) (arguments : (N → List ℕ) → S → Terms) (term : (N → List ℕ) → A → Term) (x : Pair A) (frames : List (Frame S)) (waits : List V) (rest : List (Pair A)) (frames_after : List (Frame S)) (waits_after : List V) (rest_after : List (Pair A)) (b : Bool) →
    b ≡ false → TakesUpAs built number arguments term x frames waits rest frames_after waits_after rest_after b → TakesUpAs built number arguments term x frames waits rest frames_after waits_after rest_after false
refused built number arguments term x frames waits rest frames_after waits_after rest_after b e h =
    let P : Bool → Type 0 = λ c. TakesUpAs built number arguments term x frames waits rest frames_after waits_after rest_after c in
    subst P e h

pub accepted : {N V S A : Type 0} (built : BuiltIn → N) (number : V → ℕ) (arguments : (N → List ℕ) → S → Terms) (term : (N → List ℕ) → A → Term) (x : Pair A) (frames : List (Frame S)) (waits : List V) (rest : List (Pair A)) (frames_after : List (Frame S)) (waits_after : List V) (rest_after : List (Pair A)) (b : Bool) →
    b ≡ true → TakesUpAs built number arguments term x frames waits rest frames_after waits_after rest_after b → TakesUpAs built number arguments term x frames waits rest frames_after waits_after rest_after true
accepted built number arguments term x frames waits rest frames_after waits_after rest_after b e h =
    let P : Bool → Type 0 = λ c. TakesUpAs built number arguments term x frames waits rest frames_after waits_after rest_after c in
    subst P e h

pub frame_onward : {N S : Type 0} (IsThere : S → Type 0) (count : S → ℕ) (arguments : (N → List ℕ) → S → Terms) (x y : Frame S) → y ≡ onward x → IsFrameOf IsThere count arguments x → IsFrameOf IsThere count arguments y
frame_onward {S = S} IsThere count arguments x y e h =
    let P : Frame S → Type 0 = λ z. IsFrameOf IsThere count arguments z in
    subst P (sym e) (record { left = h.left; right = h.right; left_count = h.left_count; right_count = h.right_count; counted = h.counted })

pub pushed_onward : {S : Type 0} (now pushed : List (Frame S)) (x y : Frame S) → pushed ≡ now ++ y ∷ [] → y ≡ onward x → pushed ≡ now ++ onward x ∷ []
pushed_onward now pushed x y e is = e ∙ ap (λ z. now ++ z ∷ []) is
