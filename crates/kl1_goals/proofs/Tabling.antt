-- A whole table.
use Rattle.std.proofs.Common.{◌≡◌, ℕ, zero, suc, ◌<◌, ◌≤◌, ◌==◌, Bool, not, true, false, cond, nat_lt, List, [], ◌∷◌, ◌++◌, Option, Some, None, IfSome, length, get_or, map, refl, sym, ◌∙◌, ap, arith, inl, inr, eq-eqb}
use Rattle.std.specs.List.{filter, find, list_any}
use Rattle.std.proofs.lemmas.Bool.{ltb-true, lt-ltb, le-ltb, cases_lt}
use Rattle.std.proofs.lemmas.List.{length_push}
use Rattle.kl1_model.specs.declared.limits.TheConstants.{MONITOR_PRIORITY}
use Rattle.kl1_goals.specs.declared.standing.Standing.{Standing}
use Rattle.kl1_goals.specs.declared.goal.Goal.{Goal}
use Rattle.kl1_goals.specs.declared.slot.Slot.{Slot}
use Rattle.kl1_goals.specs.declared.tally.Tally.{Tally}
use Rattle.kl1_goals.specs.Lists.{has_number, is_other, is_after, number_of, stood_by, looked_at}
use Rattle.kl1_goals.specs.Tables.{Ascend, IsKnown}
use Rattle.kl1_goals.specs.Slots.{goals_in, level_in, looked_in, AreLow, IsHeldAt}
use Rattle.kl1_goals.specs.Tallies.{nothing, tally_at, IsTally}
use Rattle.kl1_goals.specs.Keeping.{Parts, IsTable, parts}
use Rattle.kl1_goals.proofs.Changing.{find_held}
use Rattle.kl1_goals.proofs.Linking.{chained_none, chained_more}
use Rattle.kl1_goals.proofs.Shoens.{opened_tally, shoen_known, any_counted, any_beside}

nothing_at : (n : ℕ) → tally_at [] n ≡ nothing
nothing_at zero = refl
nothing_at (suc n) = refl

pub empty_table : {N : Type 0} → IsTable {N = N} (parts [] 0 [] [] 0 0)
empty_table {N = N} =
    let empty : (n : ℕ) → IsTally {N = N} n [] nothing = λ n. record { goals = refl; monitor = refl } in
    record {
      slots = record { ascend = tt; low = tt; ranked = refl; counted = refl };
      tallied = λ n. rw (nothing_at n) (empty n);
      chained = chained_none [] (λ n. ap (λ (t : Tally). t.last) (nothing_at n));
      alive = refl;
      below = tt;
    }

pub opened_table : {N : Type 0} (p : Parts N) → IsTable p → IsTable (record p { tallies = p.tallies ++ nothing ∷ [] })
opened_table p h =
    let ts = p.tallies in
    record {
      slots = h.slots;
      tallied = λ n. rw (opened_tally ts n) (h.tallied n);
      chained = chained_more p.slots ts (ts ++ nothing ∷ []) h.chained (omega (arith, length_push ts nothing)) (λ n. ap (λ (t : Tally). t.last) (opened_tally ts n));
      alive = h.alive;
      below = h.below;
    }

-- a goal that was found passes the test
some_on : {N : Type 0} (p : Goal N → Bool) (b : Bool) (h g : Goal N) (o : Option (Goal N)) → p h ≡ b → cond b (Some h) o ≡ Some g → (o ≡ Some g → p g ≡ true) → p g ≡ true
some_on p true h g o e f rest = let k : h ≡ g = cc in ap p (sym k) ∙ e
some_on p false h g o e f rest = rest f

pub found_passes : {N : Type 0} (p : Goal N → Bool) (gs : List (Goal N)) (g : Goal N) → find p gs ≡ Some g → p g ≡ true
found_passes p [] g e = absurd (cc)
found_passes p (h ∷ gs) g e = some_on p (p h) h g (find p gs) refl e (found_passes p gs g)

longer : {N : Type 0} (b : Bool) (g : Goal N) (gs : List (Goal N)) → length gs ≤ length (cond b (g ∷ gs) gs)
longer false g gs = omega arith
longer true g gs = omega arith

counts_on : {N : Type 0} (q p : Goal N → Bool) (b : Bool) (h g : Goal N) (gs : List (Goal N)) → cond b (Some h) (find q gs) ≡ Some g → p g ≡ true → (find q gs ≡ Some g → 0 < length (filter p gs)) → 0 < length (filter p (h ∷ gs))
counts_on q p true h g gs f e rest = let k : h ≡ g = cc in rw (ap p k ∙ e) (omega arith)
counts_on q p false h g gs f e rest = omega (arith, rest f, longer (p h) h (filter p gs))

-- a goal that was found counts
pub found_counts : {N : Type 0} (q p : Goal N → Bool) (gs : List (Goal N)) (g : Goal N) → find q gs ≡ Some g → p g ≡ true → 0 < length (filter p gs)
found_counts q p [] g f e = absurd (cc)
found_counts q p (h ∷ gs) g f e = counts_on q p (q h) h g gs f e (λ k. found_counts q p gs g k e)

low_goal_on : {N : Type 0} (q : Goal N → Bool) (c : Bool) (h g : Goal N) (gs : List (Goal N)) → h.priority ≤ MONITOR_PRIORITY → cond c (Some h) (find q gs) ≡ Some g → (find q gs ≡ Some g → g.priority ≤ MONITOR_PRIORITY) → g.priority ≤ MONITOR_PRIORITY
low_goal_on {N = N} q true h g gs p f rest = let k : h ≡ g = cc in omega (arith, p, ap (λ (v : Goal N). v.priority) k)
low_goal_on q false h g gs p f rest = rest f

low_slot_on : {N : Type 0} (q : Goal N → Bool) (b : Bool) (h g : Goal N) (gs : List (Goal N)) → h.priority ≤ MONITOR_PRIORITY → find q (cond b (h ∷ gs) gs) ≡ Some g → (find q gs ≡ Some g → g.priority ≤ MONITOR_PRIORITY) → g.priority ≤ MONITOR_PRIORITY
low_slot_on q false h g gs p f rest = rest f
low_slot_on q true h g gs p f rest = low_goal_on q (q h) h g gs p f rest

found_low : {N : Type 0} (q : Goal N → Bool) (ss : List (Slot N)) (g : Goal N) → AreLow (map level_in ss) → find q (goals_in ss) ≡ Some g → g.priority ≤ MONITOR_PRIORITY
found_low q [] g a f = absurd (cc)
found_low q (s ∷ ss) g a f = low_slot_on q s.is_held s.goal g (goals_in ss) a.0 f (found_low q ss g a.1)

-- what is known of a goal that was found
pub known_found : {N : Type 0} (q : Goal N → Bool) (p : Parts N) (g : Goal N) → IsTable p → find q (goals_in p.slots) ≡ Some g → IsKnown g (length p.tallies)
known_found q p g h f =
    let k = shoen_known g (goals_in p.slots) p.tallies (λ r e. found_counts q r (goals_in p.slots) g f e) h.tallied in
    record { low = k.0; high = k.1; priority = found_low q p.slots g h.slots.low f }

pub known_if : {N : Type 0} (q : Goal N → Bool) (p : Parts N) (o : Option (Goal N)) → IsTable p → o ≡ find q (goals_in p.slots) → IfSome o (λ g. IsKnown g (length p.tallies))
known_if q p None h e = tt
known_if q p (Some g) h e = known_found q p g h (sym e)

-- the goal at a place is known
pub known_place : {N : Type 0} (p : Parts N) (n k : ℕ) (x s : Slot N) → IsTable p → IsHeldAt p.slots n k s → x ≡ get_or p.slots k x → IsKnown x.goal (length p.tallies)
known_place p n k x s h held e = known_found (has_number n) p x.goal h (find_held p.slots n k x s h.slots.ascend held e)

pub after_if : {N : Type 0} (n : ℕ) (gs : List (Goal N)) (o : Option (Goal N)) → o ≡ find (is_after n) gs → IfSome o (λ g. n < g.number)
after_if n gs None e = tt
after_if n gs (Some g) e = ltb-true n g.number (found_passes (is_after n) gs g (sym e))

-- a number that no goal has
pub missing_head : {N : Type 0} (b : Bool) (g : Goal N) (o : Option (Goal N)) → cond b (Some g) o ≡ None → (b ≡ false) × (o ≡ None)
missing_head true g o e = absurd (cc)
missing_head false g o e = (refl, e)

pub missing_others : {N : Type 0} (n : ℕ) (gs : List (Goal N)) → find (has_number n) gs ≡ None → filter (is_other n) gs ≡ gs
missing_others n [] e = refl
missing_others n (g ∷ gs) e = let m = missing_head (g.number == n) g (find (has_number n) gs) e in rw m.0 (ap (λ l. g ∷ l) (missing_others n gs m.1))

pub missing_stay : {N : Type 0} (f : Goal N → Goal N) (n : ℕ) (gs : List (Goal N)) → ((g : Goal N) → (g.number == n) ≡ false → f g ≡ g) → find (has_number n) gs ≡ None → gs ≡ map f gs
missing_stay f n [] other e = refl
missing_stay f n (g ∷ gs) other e = let m = missing_head (g.number == n) g (find (has_number n) gs) e in rw (other g m.0) (ap (λ l. g ∷ l) (missing_stay f n gs other m.1))

-- what is changed of the goal with a number alone
pub stood_other : {N : Type 0} (n : ℕ) (standing : Standing) (g : Goal N) → (g.number == n) ≡ false → stood_by n standing g ≡ g
stood_other n standing g e = rw e refl

pub stood_here : {N : Type 0} (n : ℕ) (standing : Standing) (s : Slot N) → s.goal.number ≡ n → (looked_in standing s.goal.is_enabled s).goal ≡ stood_by n standing s.goal
stood_here n standing s e = rw (eq-eqb s.goal.number n e) refl

pub looked_here : {N : Type 0} (n : ℕ) (standing : Standing) (b : Bool) (s : Slot N) → s.goal.number ≡ n → (looked_in standing b s).goal ≡ looked_at n standing b s.goal
looked_here n standing b s e = rw (eq-eqb s.goal.number n e) refl

pub looked_other : {N : Type 0} (n : ℕ) (standing : Standing) (b : Bool) (g : Goal N) → (g.number == n) ≡ false → looked_at n standing b g ≡ g
looked_other n standing b g e = rw e refl

-- if not just one goal passes, it doesn't matter whether one that is left out does
most_left : (b : Bool) (count : ℕ) → (count ≡ 1 → ⊥) → nat_lt 1 count ≡ nat_lt (cond b 1 0) count
most_left true count w = refl
most_left false count w = elim (cases_lt 1 count) [ inl a ↦ lt-ltb 1 count a ∙ sym (lt-ltb 0 count (omega (arith, a))) | inr a ↦ le-ltb 1 count a ∙ sym (le-ltb 0 count (omega (arith, a, w))) ]

most_beside : {N : Type 0} (p : Goal N → Bool) (n count : ℕ) (gs : List (Goal N)) (o : Option (Goal N)) → Ascend 0 (map number_of gs) → find (has_number n) gs ≡ o → count ≡ length (filter p gs) → (count ≡ 1 → ⊥) →
    nat_lt 1 count ≡ list_any p (filter (is_other n) gs)
most_beside p n count gs None a f e w = most_left false count w ∙ ap (nat_lt 0) e ∙ sym (any_counted p gs) ∙ ap (list_any p) (sym (missing_others n gs f))
most_beside p n count gs (Some g) a f e w = most_left (p g) count w ∙ any_beside p (p g) n count gs g a f e refl

pub any_many : {N : Type 0} (p : Goal N → Bool) (n count : ℕ) (gs : List (Goal N)) → Ascend 0 (map number_of gs) → count ≡ length (filter p gs) → (count ≡ 1 → ⊥) → nat_lt 1 count ≡ list_any p (filter (is_other n) gs)
any_many p n count gs a e w = most_beside p n count gs (find (has_number n) gs) a refl e w

-- if just one goal passes, another is left unless it is that one
one_fallen : (b : Bool) → not b ≡ nat_lt (cond b 1 0) 1
one_fallen true = refl
one_fallen false = refl

pub any_missing : {N : Type 0} (p : Goal N → Bool) (n count : ℕ) (gs : List (Goal N)) → find (has_number n) gs ≡ None → count ≡ length (filter p gs) → count ≡ 1 → true ≡ list_any p (filter (is_other n) gs)
any_missing p n count gs f e one = ap (nat_lt 0) (sym one ∙ e) ∙ sym (any_counted p gs) ∙ ap (list_any p) (sym (missing_others n gs f))

pub any_one : {N : Type 0} (p : Goal N → Bool) (n count : ℕ) (gs : List (Goal N)) (g : Goal N) → Ascend 0 (map number_of gs) → find (has_number n) gs ≡ Some g → count ≡ length (filter p gs) → count ≡ 1 →
    not (p g) ≡ list_any p (filter (is_other n) gs)
any_one p n count gs g a f e one = one_fallen (p g) ∙ any_beside p (p g) n 1 gs g a f (sym one ∙ e) refl
