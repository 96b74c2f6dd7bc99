-- Numbers that are hung on variables, one after another.
use Rattle.std.proofs.Common.{◌≡◌, ℕ, zero, suc, ◌+◌, ◌<◌, ◌==◌, Bool, true, false, if◌then◌else◌, Option, None, Some, List, [], ◌∷◌, ◌++◌, length, take, drop, get_or, refl, sym, ap, ◌∙◌, arith, subst, ⊎_elim, length-take}
use Rattle.std.specs.Prelude.{Contains, slice_get}
use Rattle.std.specs.Option.{option_eq}
use Rattle.std.proofs.Math.Dec.{eqb}
use Rattle.std.proofs.lemmas.Bool.{eqb-true}
use Rattle.std.proofs.lemmas.List.{take_more, take-take, take_all, take-append-drop}
use Rattle.std.proofs.lemmas.List.Elements.{Contains-append_left, Contains-append_cases, Contains-push}
use Rattle.kl1_store.specs.Held.{Held}
use Rattle.kl1_store.specs.Hooks.{Hook, Kept, hanging_on, HasGrown}
use Rattle.kl1_store.proofs.Grows.{Grown-same, Grown-trans}
use Rattle.kl1_store.specs.Unbound.{AreUnbound}
use Rattle.kl1_store_hooks.specs.Hanging.{HangsOnEach, AreAmong}

-- ---- what hangs newest was hung

first_hook : (v n : ℕ) (k : Hook) (ks : List Hook) (b : Bool) → (b ≡ true → k.variable ≡ v) → Contains (if b then k.number ∷ [] else []) n → Contains (k ∷ ks) (record { variable = v; number = n })
first_hook v n k ks true same (zero, lt, e) = (0, omega arith, ap (λ a. record { variable = a; number = k.number }) (same refl) ∙ ap (λ a. record { variable = v; number = a }) e)
first_hook v n k ks true same (suc i, lt, e) = absurd (omega arith)
first_hook v n k ks false same (i, lt, e) = absurd (omega arith)

was_hung : (v n : ℕ) (ks : List Hook) → Contains (hanging_on v ks) n → Contains ks (record { variable = v; number = n })
was_hung v n [] (i, lt, e) = absurd (omega arith)
was_hung v n (k ∷ ks) h =
    let last : List ℕ = if k.variable == v then k.number ∷ [] else [] in
    ⊎_elim
    (λ (a : Contains (hanging_on v ks) n). let c = was_hung v n ks a in (suc c.0, omega arith, c.2))
    (λ (a : Contains last n). first_hook v n k ks (k.variable == v) (λ e. eqb-true k.variable v e) a)
    (Contains-append_cases (hanging_on v ks) last n h)

is_first : (ns : List ℕ) (n : ℕ) → slice_get ns 0 ≡ Some n → Contains ns n
is_first [] n e = absurd (cc)
is_first (m ∷ ns) n e = (0, omega arith, cc)

same_option : (found : Option ℕ) (n : ℕ) → true ≡ option_eq eqb found (Some n) → found ≡ Some n
same_option None n e = absurd (cc)
same_option (Some m) n e = ap (λ a. Some a) (eqb-true m n (sym e))

-- a number that is the newest on a variable hangs there
pub newest_hangs : (v n : ℕ) (ks : List Hook) (found : Option ℕ) → found ≡ slice_get (hanging_on v ks) 0 → true ≡ option_eq eqb found (Some n) → Contains ks (record { variable = v; number = n })
newest_hangs v n ks found e same = was_hung v n ks (is_first (hanging_on v ks) n (sym e ∙ same_option found n same))

-- a hook that was just put is there
pub just_hung : (ks new : List Hook) (k : Hook) → new ≡ ks ++ k ∷ [] → Contains new k
just_hung ks new k e = let P : List Hook → Type 0 = λ ls. Contains ls k in subst P (sym e) (Contains-push ks k)

-- ---- stores that have grown

-- a store has grown from itself
pub HasGrown-same : {N : Type 0} (k : Kept N) → HasGrown k k
HasGrown-same k = record { held = Grown-same k.held; hooks = take_all (length k.hooks) k.hooks (omega arith) }

still_first : (xs ys zs : List Hook) → take (length xs) ys ≡ xs → take (length ys) zs ≡ ys → take (length xs) zs ≡ xs
still_first xs ys zs p q =
    let short : length xs < length ys + 1 = let e = ap length p in omega (arith, e, length-take (length xs) ys) in
    sym (take-take (length xs) (length ys) zs (omega arith)) ∙ ap (take (length xs)) q ∙ p

-- and twice
pub HasGrown-trans : {N : Type 0} (a b c : Kept N) → HasGrown a b → HasGrown b c → HasGrown a c
HasGrown-trans a b c p q = record { held = Grown-trans a.held b.held c.held p.held q.held; hooks = still_first a.hooks b.hooks c.hooks p.hooks q.hooks }

-- what hung still hangs
pub grown_among : {N : Type 0} (a b : Kept N) → HasGrown a b → AreAmong a.hooks b.hooks
grown_among a b g k h =
    let P : List Hook → Type 0 = λ ks. Contains ks k in
    let all : a.hooks ++ drop (length a.hooks) b.hooks ≡ b.hooks = ap (λ ks. ks ++ drop (length a.hooks) b.hooks) (sym g.hooks) ∙ take-append-drop (length a.hooks) b.hooks in
    subst P all (Contains-append_left a.hooks (drop (length a.hooks) b.hooks) k h)

-- ---- one variable after another

-- a store that holds what it held, and in which a number hangs on each of these variables
pub record Hangs {N : Type 0} (old new : Kept N) (n : ℕ) (vs : List ℕ) : Type 0 where
  pub held : new.held ≡ old.held
  pub grown : HasGrown old new
  pub hung : HangsOnEach new.hooks n vs

each_more : (hooks more : List Hook) (n : ℕ) (vs : List ℕ) → AreAmong hooks more → HangsOnEach hooks n vs → HangsOnEach more n vs
each_more hooks more n [] up h = tt
each_more hooks more n (v ∷ vs) up h = (up (record { variable = v; number = n }) h.0, each_more hooks more n vs up h.1)

each_push : (hooks : List Hook) (n v : ℕ) (vs : List ℕ) → HangsOnEach hooks n vs → Contains hooks (record { variable = v; number = n }) → HangsOnEach hooks n (vs ++ v ∷ [])
each_push hooks n v [] h c = (c, tt)
each_push hooks n v (w ∷ vs) h c = (h.0, each_push hooks n v vs h.1 c)

-- one more hangs
pub next_hangs : {N : Type 0} (old mid new : Kept N) (n i d : ℕ) (vs : List ℕ) → i < length vs → Hangs old mid n (take i vs) → new.held ≡ mid.held → HasGrown mid new → Contains new.hooks (record { variable = get_or vs i d; number = n }) → Hangs old new n (take (i + 1) vs)
next_hangs old mid new n i d vs lt h same grown c =
    let H : List ℕ → Type 0 = λ ws. HangsOnEach new.hooks n ws in
    record {
      held = same ∙ h.held;
      grown = HasGrown-trans old mid new h.grown grown;
      hung = subst H (sym (take_more vs i d lt)) (each_push new.hooks n (get_or vs i d) (take i vs) (each_more mid.hooks new.hooks n (take i vs) (grown_among mid new grown) h.hung) c);
    }

-- a variable of these is of the store
nth_within : {N : Type 0} (h : Held N) (vs : List ℕ) (i d : ℕ) → AreUnbound h vs → i < length vs → get_or vs i d < h.variables
nth_within h [] i d u lt = absurd (omega arith)
nth_within h (v ∷ vs) zero d u lt = u.0.within
nth_within h (v ∷ vs) (suc i) d u lt = nth_within h vs i d u.1 (omega arith)

-- the next of these is of a store that holds what it held
pub next_within : {N : Type 0} (old mid : Kept N) (n i d : ℕ) (vs : List ℕ) → AreUnbound old.held vs → i < length vs → Hangs old mid n (take i vs) → get_or vs i d < mid.held.variables
next_within {N} old mid n i d vs u lt h =
    let P : Held N → Type 0 = λ k. get_or vs i d < k.variables in
    subst P (sym h.held) (nth_within old.held vs i d u lt)

-- ---- lists in which the same variables stand

each_there : (hooks : List Hook) (n v : ℕ) (vs : List ℕ) → HangsOnEach hooks n vs → Contains vs v → Contains hooks (record { variable = v; number = n })
each_there hooks n v [] h (i, lt, e) = absurd (omega arith)
each_there hooks n v (w ∷ vs) h (zero, lt, e) = let P : ℕ → Type 0 = λ x. Contains hooks (record { variable = x; number = n }) in subst P e h.0
each_there hooks n v (w ∷ vs) h (suc i, lt, e) = each_there hooks n v vs h.1 (i, omega (arith, lt), e)

-- a number that hangs on each of some variables hangs on each of others that stand among them
pub each_of : (hooks : List Hook) (n : ℕ) (vs ws : List ℕ) → ((v : ℕ) → Contains ws v → Contains vs v) → HangsOnEach hooks n vs → HangsOnEach hooks n ws
each_of hooks n vs [] up h = tt
each_of hooks n vs (w ∷ ws) up h = (each_there hooks n w vs h (up w (0, omega arith, refl)), each_of hooks n vs ws (λ v c. up v (suc c.0, omega (arith, c.1), c.2)) h)
