-- The first place of the queue is the first goal.
use Rattle.std.proofs.Common.{◌≡◌, ℕ, zero, suc, ◌+◌, ◌<◌, ◌≤◌, ◌==◌, ◌&&◌, ◌||◌, Bool, true, false, cond, List, [], ◌∷◌, Option, Some, None, option_map, is_some, length, get_or, map, refl, sym, ◌∙◌, ap, subst, arith}
use Rattle.std.specs.List.{list_any}
use Rattle.std.proofs.lemmas.Bool.{false≢true, lt-ltb, le-ltb}
use Rattle.kl1_queue.specs.Ranks.{rank_of, AreNone, IsFirst}
use Rattle.kl1_goals.specs.declared.goal.Goal.{Goal}
use Rattle.kl1_goals.specs.declared.slot.Slot.{Slot}
use Rattle.kl1_goals.specs.Readies.{clause_in, Ready, goes_first, stands, ready_by, ready_of, better, first_from}
use Rattle.kl1_goals.specs.Tables.{Ascend}
use Rattle.kl1_goals.specs.Slots.{goals_in, numbers_of, rank_in, IsHeldAt}
use Rattle.kl1_goals.proofs.Changing.{field_read}

-- the clause by which a goal can step
abbrev pub standing_in : {N : Type 0} → Goal N → Option ℕ
standing_in g = cond g.is_enabled (clause_in g.standing) None

some_if : (b : Bool) (o : Option ℕ) → (b && is_some o) ≡ is_some (cond b o None)
some_if false o = refl
some_if true o = refl

ready_if : {N : Type 0} (g : Goal N) (b : Bool) (o : Option ℕ) → cond b (option_map (ready_by g) o) None ≡ option_map (ready_by g) (cond b o None)
ready_if g false o = refl
ready_if g true o = refl

pub stands_is : {N : Type 0} (g : Goal N) → stands g ≡ is_some (standing_in g)
stands_is g = some_if g.is_enabled (clause_in g.standing)

ready_is : {N : Type 0} (g : Goal N) → ready_of g ≡ option_map (ready_by g) (standing_in g)
ready_is g = ready_if g g.is_enabled (clause_in g.standing)

-- what a rank says of a place
rank_some : (b t : Bool) (p : ℕ) → b ≡ true → t ≡ true → rank_of (cond (b && t) (Some p) None) ≡ p + 1
rank_some b t p e f = rw (e, f) refl

rank_none : (b t : Bool) (p : ℕ) → rank_of (cond (b && t) (Some p) None) ≡ 0 → b ≡ true → t ≡ false
rank_none true false p z e = refl
rank_none true true p z e = absurd (omega (arith, z))
rank_none false t p z e = absurd (false≢true e)

ranked_held : (b t : Bool) (p : ℕ) → 0 < rank_of (cond (b && t) (Some p) None) → (b ≡ true) × (t ≡ true)
ranked_held true false p h = absurd (omega (arith, h))
ranked_held true true p h = (refl, refl)
ranked_held false t p h = absurd (omega (arith, h))

none_if : (o : Option ℕ) → is_some o ≡ false → o ≡ None
none_if None e = refl
none_if (Some c) e = absurd (false≢true (sym e))

standing_none : {N : Type 0} (s : Slot N) → rank_in s ≡ 0 → s.is_held ≡ true → standing_in s.goal ≡ None
standing_none s z e = none_if (standing_in s.goal) (sym (stands_is s.goal) ∙ rank_none s.is_held (stands s.goal) s.goal.priority z e)

pub rank_held : {N : Type 0} (s : Slot N) (c : ℕ) → s.is_held ≡ true → standing_in s.goal ≡ Some c → rank_in s ≡ s.goal.priority + 1
rank_held s c e f = rank_some s.is_held (stands s.goal) s.goal.priority e (stands_is s.goal ∙ ap is_some f)

-- a place that is ready has a goal that can step
pub ready_held : {N : Type 0} (s : Slot N) → 0 < rank_in s → (s.is_held ≡ true) × (stands s.goal ≡ true)
ready_held s h = ranked_held s.is_held (stands s.goal) s.goal.priority h

has_clause : (b : Bool) (o : Option ℕ) → (b && is_some o) ≡ true → is_some o ≡ true
has_clause false o e = absurd (false≢true e)
has_clause true o e = e

pub stands_some : {N : Type 0} (g : Goal N) → stands g ≡ true → is_some (clause_in g.standing) ≡ true
stands_some g = has_clause g.is_enabled (clause_in g.standing)

same_clause : (b : Bool) (o : Option ℕ) (c : ℕ) → (b && is_some o) ≡ true → o ≡ Some c → cond b o None ≡ Some c
same_clause false o c e f = absurd (false≢true e)
same_clause true o c e f = f

stands_by : {N : Type 0} (g : Goal N) (c : ℕ) → stands g ≡ true → clause_in g.standing ≡ Some c → standing_in g ≡ Some c
stands_by g c = same_clause g.is_enabled (clause_in g.standing) c

better_none : (best : Option Ready) → better best None ≡ best
better_none None = refl
better_none (Some b) = refl

-- goals that can't step change nothing
quiet_on : {N : Type 0} (best : Option Ready) (b : Bool) (g : Goal N) (gs : List (Goal N)) → (b ≡ true → standing_in g ≡ None) → first_from best (cond b (g ∷ gs) gs) ≡ first_from best gs
quiet_on best false g gs h = refl
quiet_on best true g gs h = ap (λ r. first_from (better best r) gs) (ready_is g ∙ ap (option_map (ready_by g)) (h refl)) ∙ ap (λ r. first_from r gs) (better_none best)

pub none_first : {N : Type 0} (best : Option Ready) (ss : List (Slot N)) → AreNone (map rank_in ss) → first_from best (goals_in ss) ≡ best
none_first best [] a = refl
none_first best (s ∷ ss) a = quiet_on best s.is_held s.goal (goals_in ss) (standing_none s (a 0)) ∙ none_first best ss (λ j. a (suc j))

any_on : {N : Type 0} (b : Bool) (g : Goal N) (gs : List (Goal N)) → (b ≡ true → standing_in g ≡ None) → list_any stands (cond b (g ∷ gs) gs) ≡ list_any stands gs
any_on false g gs h = refl
any_on true g gs h = ap (λ t. t || list_any stands gs) (stands_is g ∙ ap is_some (h refl))

pub none_any : {N : Type 0} (ss : List (Slot N)) → AreNone (map rank_in ss) → list_any stands (goals_in ss) ≡ false
none_any [] a = refl
none_any (s ∷ ss) a = any_on s.is_held s.goal (goals_in ss) (standing_none s (a 0)) ∙ none_any ss (λ j. a (suc j))

or_true : (b : Bool) → (b || true) ≡ true
or_true false = refl
or_true true = refl

any_after : {N : Type 0} (b : Bool) (g : Goal N) (gs : List (Goal N)) → list_any stands gs ≡ true → list_any stands (cond b (g ∷ gs) gs) ≡ true
any_after false g gs e = e
any_after true g gs e = rw e (or_true (stands g))

any_here : {N : Type 0} (b : Bool) (g : Goal N) (gs : List (Goal N)) → b ≡ true → stands g ≡ true → list_any stands (cond b (g ∷ gs) gs) ≡ true
any_here true g gs e f = ap (λ t. t || list_any stands gs) f
any_here false g gs e f = absurd (false≢true e)

pub some_any : {N : Type 0} (ss : List (Slot N)) (k : ℕ) → 0 < get_or (map rank_in ss) k 0 → list_any stands (goals_in ss) ≡ true
some_any [] k h = absurd (omega (arith, h))
some_any (s ∷ ss) zero h = let r = ready_held s h in any_here s.is_held s.goal (goals_in ss) r.0 r.1
some_any (s ∷ ss) (suc k) h = any_after s.is_held s.goal (goals_in ss) (some_any ss k h)

-- a goal of no greater priority and a greater number doesn't go first
and_false : (b : Bool) → (b && false) ≡ false
and_false false = refl
and_false true = refl

not_first : (a b : Ready) → a.priority ≤ b.priority → b.goal < a.goal → goes_first a b ≡ false
not_first a b p q = rw (le-ltb b.priority a.priority p, le-ltb a.goal b.goal (omega arith)) (and_false (a.priority == b.priority))

stays : (a b : Ready) → goes_first a b ≡ false → better (Some b) (Some a) ≡ Some b
stays a b e = rw e refl

-- what is the first so far has a lesser priority
abbrev pub IsLess : Option Ready → ℕ → Type 0
IsLess None p = Unit {0}
IsLess (Some b) p = b.priority < p

overtakes : (best : Option Ready) (a : Ready) → IsLess best a.priority → better best (Some a) ≡ Some a
overtakes None a h = refl
overtakes (Some b) a h = rw (lt-ltb b.priority a.priority h) refl

kept_on : {N : Type 0} (r : Ready) (b : Bool) (o : Option ℕ) (g : Goal N) (gs : List (Goal N)) → standing_in g ≡ o → (b ≡ true → (c : ℕ) → o ≡ Some c → (g.priority ≤ r.priority) × (r.goal < g.number)) →
    first_from (Some r) (cond b (g ∷ gs) gs) ≡ first_from (Some r) gs
kept_on r false o g gs e h = refl
kept_on r true None g gs e h = ap (λ q. first_from (better (Some r) q) gs) (ready_is g ∙ ap (option_map (ready_by g)) e)
kept_on r true (Some c) g gs e h =
    let k = h refl c refl in
    ap (λ q. first_from (better (Some r) q) gs) (ready_is g ∙ ap (option_map (ready_by g)) e) ∙ ap (λ best. first_from best gs) (stays (ready_by g c) r (not_first (ready_by g c) r k.0 k.1))

-- goals after the first
first_stays : {N : Type 0} (r : Ready) (from : ℕ) (ss : List (Slot N)) → r.goal < from → Ascend from (numbers_of ss) → ((j : ℕ) → get_or (map rank_in ss) j 0 ≤ r.priority + 1) → first_from (Some r) (goals_in ss) ≡ Some r
first_stays r from [] p a h = refl
first_stays r from (s ∷ ss) p a h =
    kept_on r s.is_held (standing_in s.goal) s.goal (goals_in ss) refl (λ e c f. (omega (arith, h 0, rank_held s c e f), omega (arith, a.0)))
    ∙ first_stays r (suc s.goal.number) ss (omega (arith, a.0)) a.1 (λ j. h (suc j))

less_if : (t : Bool) (a b : Ready) (p : ℕ) → a.priority < p → b.priority < p → IsLess (cond t (Some a) (Some b)) p
less_if true a b p q r = q
less_if false a b p q r = r

less_better : {N : Type 0} (best : Option Ready) (o : Option ℕ) (g : Goal N) (p : ℕ) → IsLess best p → ((c : ℕ) → o ≡ Some c → g.priority < p) → IsLess (better best (option_map (ready_by g) o)) p
less_better None None g p h f = tt
less_better (Some b) None g p h f = h
less_better None (Some c) g p h f = f c refl
less_better (Some b) (Some c) g p h f = less_if (goes_first (ready_by g c) b) (ready_by g c) b p (f c refl) h

less_on : {N : Type 0} (best : Option Ready) (b : Bool) (g : Goal N) (p : ℕ) → IsLess best p → (b ≡ true → (c : ℕ) → standing_in g ≡ Some c → g.priority < p) → IsLess (cond b (better best (ready_of g)) best) p
less_on best false g p h f = h
less_on best true g p h f =
    let L : Option Ready → Type 0 = λ r. IsLess (better best r) p in
    subst L (sym (ready_is g)) (less_better best (standing_in g) g p h (f refl))

first_on : {N : Type 0} (best : Option Ready) (b : Bool) (g : Goal N) (gs : List (Goal N)) → first_from best (cond b (g ∷ gs) gs) ≡ first_from (cond b (better best (ready_of g)) best) gs
first_on best false g gs = refl
first_on best true g gs = refl

first_here : {N : Type 0} (best : Option Ready) (b : Bool) (g : Goal N) (gs : List (Goal N)) (c : ℕ) → b ≡ true → standing_in g ≡ Some c → IsLess best g.priority → first_from best (cond b (g ∷ gs) gs) ≡ first_from (Some (ready_by g c)) gs
first_here best true g gs c e f h = ap (λ r. first_from (better best r) gs) (ready_is g ∙ ap (option_map (ready_by g)) f) ∙ ap (λ r. first_from r gs) (overtakes best (ready_by g c) h)
first_here best false g gs c e f h = absurd (false≢true e)

-- no place has a greater rank than this priority's, and none before place `k` has as great a one
pub record Leads {N : Type 0} (ss : List (Slot N)) (k priority : ℕ) : Type 0 where
  pub greatest : (j : ℕ) → get_or (map rank_in ss) j 0 ≤ priority + 1
  pub least : (j : ℕ) → j < k → get_or (map rank_in ss) j 0 < priority + 1

-- the first of the places is the first of the goals
pub first_at : {N : Type 0} (best : Option Ready) (from : ℕ) (ss : List (Slot N)) (k : ℕ) (s : Slot N) (c : ℕ) → Ascend from (numbers_of ss) → IsHeldAt ss s.goal.number k s → standing_in s.goal ≡ Some c →
    IsLess best s.goal.priority → Leads ss k s.goal.priority → first_from best (goals_in ss) ≡ Some (ready_by s.goal c)
first_at best from [] k s c a h stood less leads = let w = h.within in absurd (omega (arith, w))
first_at {N = N} best from (t ∷ ss) zero s c a h stood less leads =
    let e : t ≡ s = h.at in
    rw e (first_here best s.is_held s.goal (goals_in ss) c h.held stood less ∙ first_stays (ready_by s.goal c) (suc t.goal.number) ss (omega (arith, ap (λ (v : Slot N). v.goal.number) e)) a.1 (λ j. leads.greatest (suc j)))
first_at best from (t ∷ ss) (suc k) s c a h stood less leads =
    let w = h.within in
    let lower = less_on best t.is_held t.goal s.goal.priority less (λ g d f. omega (arith, leads.least 0 (omega arith), rank_held t d g f)) in
    first_on best t.is_held t.goal (goals_in ss)
    ∙ first_at (cond t.is_held (better best (ready_of t.goal)) best) (suc t.goal.number) ss k s c a.1 (record { within = omega (arith, w); at = h.at; number = refl; held = h.held }) stood lower (record { greatest = λ j. leads.greatest (suc j); least = λ j p. leads.least (suc j) (omega arith) })

pub picked : {N : Type 0} (ss : List (Slot N)) (ranks : List ℕ) (k : ℕ) (s : Slot N) (c : ℕ) → Ascend 0 (numbers_of ss) → ranks ≡ map rank_in ss → IsFirst ranks k → k < length ss → s ≡ get_or ss k s → clause_in s.goal.standing ≡ Some c →
    first_from None (goals_in ss) ≡ Some (ready_by s.goal c)
picked ss ranks k s c a r f w e stood =
    let F : List ℕ → Type 0 = λ rs. IsFirst rs k in
    let h = subst F r f in
    let at = field_read rank_in ss k s w e in
    let ready = ready_held s (omega (arith, at, h.ready)) in
    let clause = stands_by s.goal c ready.1 stood in
    let rank = rank_held s c ready.0 clause in
    first_at None 0 ss k s c a (record { within = w; at = sym e; number = refl; held = ready.0 }) clause tt (record { greatest = λ j. omega (arith, h.greatest j, at, rank); least = λ j p. omega (arith, h.least j p, at, rank) })
