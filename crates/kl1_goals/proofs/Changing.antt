-- The goals of places, one of which changes.
use Rattle.std.proofs.Common.{◌≡◌, ℕ, zero, suc, ◌+◌, ◌-◌, ◌<◌, ◌≤◌, ◌==◌, ◌&&◌, Bool, not, true, false, cond, List, [], ◌∷◌, ◌++◌, Option, Some, None, length, get_or, set, take, drop, map, refl, sym, ◌∙◌, ap, ap₂, subst, arith, add-one, eq-eqb, nat_lt}
use Rattle.std.proofs.lemmas.Bool.{ne_eqb, lt-ltb, le-ltb, false≢true}
use Rattle.std.specs.List.{filter, find}
use Rattle.std.proofs.lemmas.List.{get_or-map, map-set, set-get_or, get_or_default, length-map, map_push, length-set, length_push, length-take-le, take-map}
use Rattle.kl1_model.specs.declared.limits.TheConstants.{MONITOR_PRIORITY}
use Rattle.kl1_goals.specs.declared.goal.Goal.{Goal}
use Rattle.kl1_goals.specs.declared.slot.Slot.{Slot}
use Rattle.kl1_goals.specs.Lists.{is_other, has_number, is_after, number_of}
use Rattle.kl1_goals.specs.Tables.{Ascend}
use Rattle.kl1_goals.specs.Slots.{goals_in, first_of, numbers_of, number_in, level_in, rank_in, AreLow, AreBelow, IsCut, IsAbsent, IsHeldAt, IsWithout, AreSlots, IsEmptyEnd, held_in, priority_in, emptied, changed_at}
use Rattle.kl1_goals.specs.Readies.{stands}
use Rattle.kl1_queue.specs.Ranks.{IsPriority}
use Rattle.kl1_goals.proofs.Orders.{ascend_from, ascend_push, low_push, below_more, below_push, below_take}

-- a number that isn't another
pub other_number : (m n : ℕ) → (m ≡ n → ⊥) → (m == n) ≡ false
other_number m n p = ne_eqb m n p

-- two reads of a place
pub same_read : {X : Type 0} (xs : List X) (k : ℕ) (x y : X) → k < length xs → x ≡ get_or xs k x → get_or xs k y ≡ y → x ≡ y
same_read xs k x y w p q = p ∙ get_or_default xs k x y w ∙ q

-- what a list of a function of the places has at a place
pub field_at : {N : Type 0} (f : Slot N → ℕ) (ss : List (Slot N)) (k : ℕ) (s : Slot N) → k < length ss → get_or ss k s ≡ s → get_or (map f ss) k 0 ≡ f s
field_at f ss k s w e = get_or-map f ss k s 0 w ∙ ap f e

-- what a list of a function of the places has at a place that was read
pub field_read : {N : Type 0} (f : Slot N → ℕ) (ss : List (Slot N)) (k : ℕ) (s : Slot N) → k < length ss → s ≡ get_or ss k s → get_or (map f ss) k 0 ≡ f s
field_read f ss k s w e = field_at f ss k s w (sym e)

-- a change that a function of the places doesn't see
pub field_kept : {N X : Type 0} (f : Slot N → X) (ss : List (Slot N)) (k : ℕ) (s t : Slot N) → k < length ss → get_or ss k s ≡ s → f t ≡ f s → map f (set ss k t) ≡ map f ss
field_kept f ss k s t w e same = map-set f ss k t ∙ ap (λ v. set (map f ss) k v) (same ∙ sym (get_or-map f ss k s (f s) w ∙ ap f e)) ∙ set-get_or (map f ss) k (f s)

-- goals of greater numbers are others
others_on : {N : Type 0} (n : ℕ) (b : Bool) (g : Goal N) (gs : List (Goal N)) → (g.number == n) ≡ false → filter (is_other n) gs ≡ gs → filter (is_other n) (cond b (g ∷ gs) gs) ≡ cond b (g ∷ gs) gs
others_on n false g gs e h = h
others_on n true g gs e h = rw (e, h) refl

pub all_others : {N : Type 0} (n from : ℕ) (ss : List (Slot N)) → n < from → Ascend from (numbers_of ss) → filter (is_other n) (goals_in ss) ≡ goals_in ss
all_others n from [] p a = refl
all_others n from (s ∷ ss) p a = others_on n s.is_held s.goal (goals_in ss) (other_number s.goal.number n (λ e. omega (arith, a.0, e))) (all_others n (suc s.goal.number) ss (omega (arith, a.0)) a.1)

without_first : {N : Type 0} (g : Goal N) (gs : List (Goal N)) → filter (is_other g.number) gs ≡ gs → IsWithout g (g ∷ gs) gs
without_first g gs h = record {
  goals = rw (eq-eqb g.number g.number refl) (sym h);
  passes = λ p e. rw e (sym (add-one (length (filter p gs))));
  fails = λ p e. rw e refl;
}

length_after : {N : Type 0} (p : Goal N → Bool) (b : Bool) (h : Goal N) (old new : List (Goal N)) → length old ≡ length new + 1 → length (cond b (h ∷ old) old) ≡ length (cond b (h ∷ new) new) + 1
length_after p false h old new e = e
length_after p true h old new e = omega (arith, e)

without_on : {N : Type 0} (g h : Goal N) (b : Bool) (old new : List (Goal N)) → (h.number == g.number) ≡ false → IsWithout g old new → IsWithout g (cond b (h ∷ old) old) (cond b (h ∷ new) new)
without_on g h false old new e w = w
without_on g h true old new e w = record {
  goals = rw e (ap (λ l. h ∷ l) w.goals);
  passes = λ p f. length_after p (p h) h (filter p old) (filter p new) (w.passes p f);
  fails = λ p f. rw (w.fails p f) refl;
}

-- an emptied place
pub without_at : {N : Type 0} (from : ℕ) (ss : List (Slot N)) (k : ℕ) (s : Slot N) → Ascend from (numbers_of ss) → k < length ss → get_or ss k s ≡ s → s.is_held ≡ true →
    IsWithout s.goal (goals_in ss) (goals_in (set ss k (emptied s)))
without_at from [] k s a w e h = absurd (omega arith)
without_at from (t ∷ ss) zero s a w e h =
    rw (e, h) (without_first s.goal (goals_in ss) (all_others s.goal.number (suc t.goal.number) ss (omega (arith, ap number_in e)) a.1))
without_at from (t ∷ ss) (suc k) s a w e h =
    let within : k < length ss = omega arith in
    let above = ascend_from (suc t.goal.number) (numbers_of ss) k a.1 (omega (arith, length-map ss number_in)) in
    let differs = other_number t.goal.number s.goal.number (λ f. omega (arith, above, field_at number_in ss k s within e)) in
    without_on s.goal t.goal t.is_held (goals_in ss) (goals_in (set ss k (emptied s))) differs (without_at (suc t.goal.number) ss k s a.1 within e h)

-- a goal of which something changes in place
stays_on : {N : Type 0} (f : Goal N → Goal N) (b : Bool) (g : Goal N) (gs hs : List (Goal N)) → f g ≡ g → hs ≡ map f gs → cond b (g ∷ hs) hs ≡ map f (cond b (g ∷ gs) gs)
stays_on f false g gs hs e h = h
stays_on f true g gs hs e h = rw (e, h) refl

all_stay : {N : Type 0} (f : Goal N → Goal N) (n from : ℕ) (ss : List (Slot N)) → ((g : Goal N) → (g.number == n) ≡ false → f g ≡ g) → n < from → Ascend from (numbers_of ss) → goals_in ss ≡ map f (goals_in ss)
all_stay f n from [] other p a = refl
all_stay f n from (s ∷ ss) other p a =
    stays_on f s.is_held s.goal (goals_in ss) (goals_in ss) (other s.goal (other_number s.goal.number n (λ e. omega (arith, a.0, e)))) (all_stay f n (suc s.goal.number) ss other (omega (arith, a.0)) a.1)

changes_on : {N : Type 0} (f : Goal N → Goal N) (b d : Bool) (g k : Goal N) (gs : List (Goal N)) → b ≡ true → d ≡ true → k ≡ f g → gs ≡ map f gs → cond d (k ∷ gs) gs ≡ map f (cond b (g ∷ gs) gs)
changes_on {N = N} f b d g k gs held still e rest = rw (held, still) (ap₂ (λ (x : Goal N) (l : List (Goal N)). x ∷ l) e rest)

-- what is changed at a place is what is changed of the goal with its number
pub goals_changed : {N : Type 0} (f : Goal N → Goal N) (h : Slot N → Slot N) (n from : ℕ) (ss : List (Slot N)) (k : ℕ) (s : Slot N) → Ascend from (numbers_of ss) → IsHeldAt ss n k s → (h s).is_held ≡ true → (h s).goal ≡ f s.goal → ((g : Goal N) → (g.number == n) ≡ false → f g ≡ g) →
    goals_in (changed_at h k ss) ≡ map f (goals_in ss)
goals_changed f h n from [] k s a held still here other = let w = held.within in absurd (omega (arith, w))
goals_changed f h n from (t ∷ ss) zero s a held still here other =
    let same : t ≡ s = held.at in
    rw same (changes_on f s.is_held (h s).is_held s.goal (h s).goal (goals_in ss) held.held still here (all_stay f n (suc t.goal.number) ss other (omega (arith, ap number_in same, held.number)) a.1))
goals_changed f h n from (t ∷ ss) (suc k) s a held still here other =
    let w = held.within in
    let within : k < length ss = omega (arith, w) in
    let above = ascend_from (suc t.goal.number) (numbers_of ss) k a.1 (omega (arith, within, length-map ss number_in)) in
    let differs = other_number t.goal.number n (λ e. omega (arith, above, field_at number_in ss k s within held.at, e, held.number)) in
    stays_on f t.is_held t.goal (goals_in ss) (goals_in (changed_at h k ss)) (other t.goal differs) (goals_changed f h n (suc t.goal.number) ss k s a.1 (record { within = within; at = held.at; number = held.number; held = held.held }) still here other)

-- a goal after all others
append_on : {N : Type 0} (b : Bool) (g : Goal N) (gs hs ks : List (Goal N)) → gs ≡ hs ++ ks → cond b (g ∷ gs) gs ≡ cond b (g ∷ hs) hs ++ ks
append_on false g gs hs ks e = e
append_on true g gs hs ks e = ap (λ l. g ∷ l) e

-- a place with a goal and a link
abbrev pub linked_to : {N : Type 0} → ℕ → Goal N → Slot N
linked_to before g = record { goal = g; is_held = true; before = before }

pub goals_push : {N : Type 0} (ss : List (Slot N)) (g : Goal N) (before : ℕ) → goals_in (ss ++ linked_to before g ∷ []) ≡ goals_in ss ++ g ∷ []
goals_push [] g before = refl
goals_push (s ∷ ss) g before = append_on s.is_held s.goal (goals_in (ss ++ linked_to before g ∷ [])) (goals_in ss) (g ∷ []) (goals_push ss g before)

-- a number without a place
find_on : {N : Type 0} (p : Goal N → Bool) (b : Bool) (g : Goal N) (gs : List (Goal N)) → p g ≡ false → find p (cond b (g ∷ gs) gs) ≡ find p gs
find_on p false g gs e = refl
find_on p true g gs e = rw e refl

pub find_absent : {N : Type 0} (n : ℕ) (ss : List (Slot N)) → IsAbsent (numbers_of ss) n → find (has_number n) (goals_in ss) ≡ None
find_absent n [] a = refl
find_absent n (s ∷ ss) a = find_on (has_number n) s.is_held s.goal (goals_in ss) (other_number s.goal.number n (a 0 (omega arith))) ∙ find_absent n ss (λ j w. a (suc j) (omega arith))

-- a number at a place
pub find_none_above : {N : Type 0} (n from : ℕ) (ss : List (Slot N)) → n < from → Ascend from (numbers_of ss) → find (has_number n) (goals_in ss) ≡ None
find_none_above n from [] p a = refl
find_none_above n from (s ∷ ss) p a = find_on (has_number n) s.is_held s.goal (goals_in ss) (other_number s.goal.number n (λ e. omega (arith, a.0, e))) ∙ find_none_above n (suc s.goal.number) ss (omega (arith, a.0)) a.1

find_here : {N : Type 0} (b : Bool) (g : Goal N) (gs : List (Goal N)) → find (has_number g.number) gs ≡ None → find (has_number g.number) (cond b (g ∷ gs) gs) ≡ cond b (Some g) None
find_here false g gs h = h
find_here true g gs h = rw (eq-eqb g.number g.number refl) refl

pub find_at : {N : Type 0} (from : ℕ) (ss : List (Slot N)) (k : ℕ) (s : Slot N) → Ascend from (numbers_of ss) → k < length ss → get_or ss k s ≡ s → find (has_number s.goal.number) (goals_in ss) ≡ cond s.is_held (Some s.goal) None
find_at from [] k s a w e = absurd (omega arith)
find_at from (t ∷ ss) zero s a w e = rw e (find_here s.is_held s.goal (goals_in ss) (find_none_above s.goal.number (suc t.goal.number) ss (omega (arith, ap number_in e)) a.1))
find_at from (t ∷ ss) (suc k) s a w e =
    let within : k < length ss = omega arith in
    let above = ascend_from (suc t.goal.number) (numbers_of ss) k a.1 (omega (arith, length-map ss number_in)) in
    let differs = other_number t.goal.number s.goal.number (λ f. omega (arith, above, field_at number_in ss k s within e)) in
    find_on (has_number s.goal.number) t.is_held t.goal (goals_in ss) differs ∙ find_at (suc t.goal.number) ss k s a.1 within e

-- the first goal after a cut
first_on : {N : Type 0} (n : ℕ) (b : Bool) (g : Goal N) (gs : List (Goal N)) → nat_lt n g.number ≡ true → find (is_after n) gs ≡ first_of gs → find (is_after n) (cond b (g ∷ gs) gs) ≡ first_of (cond b (g ∷ gs) gs)
first_on n false g gs e h = h
first_on n true g gs e h = rw e refl

find_first : {N : Type 0} (n from : ℕ) (ss : List (Slot N)) → n < from → Ascend from (numbers_of ss) → find (is_after n) (goals_in ss) ≡ first_of (goals_in ss)
find_first n from [] p a = refl
find_first n from (s ∷ ss) p a = first_on n s.is_held s.goal (goals_in ss) (lt-ltb n s.goal.number (omega (arith, a.0))) (find_first n (suc s.goal.number) ss (omega (arith, a.0)) a.1)

pub find_after : {N : Type 0} (n from count : ℕ) (ss : List (Slot N)) → Ascend from (numbers_of ss) → IsCut (numbers_of ss) n count → find (is_after n) (goals_in ss) ≡ first_of (goals_in (drop count ss))
find_after n from zero [] a c = refl
find_after n from (suc count) [] a c = refl
find_after n from zero (s ∷ ss) a c = find_first n s.goal.number (s ∷ ss) (c.high 0 (omega arith) (omega arith)) (omega arith, a.1)
find_after n from (suc count) (s ∷ ss) a c =
    find_on (is_after n) s.is_held s.goal (goals_in ss) (le-ltb n s.goal.number (c.low 0 (omega arith)))
    ∙ find_after n (suc s.goal.number) count ss a.1 (record { within = omega (arith, c.within); low = λ j p. c.low (suc j) (omega arith); high = λ j p q. c.high (suc j) (omega arith) (omega arith) })

-- the places with goals alone
drop_on : {N : Type 0} (s : Slot N) (ss : List (Slot N)) (b : Bool) → s.is_held ≡ b → goals_in (cond b (s ∷ ss) ss) ≡ cond b (s.goal ∷ goals_in ss) (goals_in ss)
drop_on s ss false e = refl
drop_on s ss true e = rw e refl

pub goals_kept : {N : Type 0} (ss : List (Slot N)) → goals_in (filter held_in ss) ≡ goals_in ss
goals_kept [] = refl
goals_kept (s ∷ ss) = drop_on s (filter held_in ss) s.is_held refl ∙ ap (λ l. cond s.is_held (s.goal ∷ l) l) (goals_kept ss)

numbers_on : {N : Type 0} (s : Slot N) (ss : List (Slot N)) (gs : List (Goal N)) (b : Bool) → numbers_of ss ≡ map number_of gs → numbers_of (cond b (s ∷ ss) ss) ≡ map number_of (cond b (s.goal ∷ gs) gs)
numbers_on s ss gs false e = e
numbers_on s ss gs true e = ap (λ l. s.goal.number ∷ l) e

pub numbers_kept : {N : Type 0} (ss : List (Slot N)) → numbers_of (filter held_in ss) ≡ map number_of (goals_in ss)
numbers_kept [] = refl
numbers_kept (s ∷ ss) = numbers_on s (filter held_in ss) (goals_in ss) s.is_held (numbers_kept ss)

pub ascend_weaker : (from low : ℕ) (ns : List ℕ) → low ≤ from → Ascend from ns → Ascend low ns
ascend_weaker from low [] p a = tt
ascend_weaker from low (n ∷ ns) p a = (omega (arith, a.0), a.1)

ascend_on : {N : Type 0} (from : ℕ) (g : Goal N) (gs : List (Goal N)) (b : Bool) → from ≤ g.number → Ascend (suc g.number) (map number_of gs) → Ascend from (map number_of (cond b (g ∷ gs) gs))
ascend_on from g gs false p a = ascend_weaker (suc g.number) from (map number_of gs) (omega arith) a
ascend_on from g gs true p a = (p, a)

-- the goals of places in order are in order
pub goals_ascend : {N : Type 0} (from : ℕ) (ss : List (Slot N)) → Ascend from (numbers_of ss) → Ascend from (map number_of (goals_in ss))
goals_ascend from [] a = tt
goals_ascend from (s ∷ ss) a = ascend_on from s.goal (goals_in ss) s.is_held a.0 (goals_ascend (suc s.goal.number) ss a.1)

low_on : {N : Type 0} (s : Slot N) (ss : List (Slot N)) (b : Bool) → s.goal.priority ≤ MONITOR_PRIORITY → AreLow (map level_in ss) → AreLow (map level_in (cond b (s ∷ ss) ss))
low_on s ss false p a = a
low_on s ss true p a = (p, a)

pub low_kept : {N : Type 0} (ss : List (Slot N)) → AreLow (map level_in ss) → AreLow (map level_in (filter held_in ss))
low_kept [] a = tt
low_kept (s ∷ ss) a = low_on s (filter held_in ss) s.is_held a.0 (low_kept ss a.1)

length_on : {N : Type 0} (s : Slot N) (ss : List (Slot N)) (gs : List (Goal N)) (b : Bool) → length ss ≡ length gs → length (cond b (s ∷ ss) ss) ≡ length (cond b (s.goal ∷ gs) gs)
length_on s ss gs false e = e
length_on s ss gs true e = ap suc e

pub length_kept : {N : Type 0} (ss : List (Slot N)) → length (filter held_in ss) ≡ length (goals_in ss)
length_kept [] = refl
length_kept (s ∷ ss) = length_on s (filter held_in ss) (goals_in ss) s.is_held (length_kept ss)

below_on : {N : Type 0} (n : ℕ) (s : Slot N) (ss : List (Slot N)) (b : Bool) → s.goal.number < n → AreBelow n (numbers_of ss) → AreBelow n (numbers_of (cond b (s ∷ ss) ss))
below_on n s ss false p a = a
below_on n s ss true p a = (p, a)

-- places below a number, without the empty ones
pub below_kept : {N : Type 0} (n : ℕ) (ss : List (Slot N)) → AreBelow n (numbers_of ss) → AreBelow n (numbers_of (filter held_in ss))
below_kept n [] a = tt
below_kept n (s ∷ ss) a = below_on n s (filter held_in ss) s.is_held a.0 (below_kept n ss a.1)

-- and the first of them
pub below_taken : {N : Type 0} (n k : ℕ) (ss ts : List (Slot N)) → ts ≡ take k ss → AreBelow n (numbers_of ss) → AreBelow n (numbers_of ts)
below_taken n k ss ts t b = let B : List ℕ → Type 0 = λ ns. AreBelow n ns in rw t (subst B (take-map number_in k ss) (below_take n k (numbers_of ss) b))

-- and with a goal after them
pub below_added : {N : Type 0} (last : ℕ) (ss : List (Slot N)) (g : Goal N) (before : ℕ) → AreBelow (suc last) (numbers_of ss) → last < g.number → AreBelow (suc g.number) (numbers_of (ss ++ linked_to before g ∷ []))
below_added {N = N} last ss g before b lt =
    let s : Slot N = linked_to before g in
    rw (map_push number_in ss s) (below_push (suc g.number) g.number (numbers_of ss) (below_more (suc last) (suc g.number) (numbers_of ss) (omega (arith, lt)) b) (omega arith))

-- places with a goal more
pub slots_push : {N : Type 0} (ss : List (Slot N)) (empty : ℕ) (ranks more : List ℕ) (g : Goal N) (before : ℕ) → AreSlots ss empty ranks → AreBelow g.number (numbers_of ss) → g.priority ≤ MONITOR_PRIORITY →
    more ≡ ranks ++ rank_in (linked_to before g) ∷ [] → AreSlots (ss ++ linked_to before g ∷ []) empty more
slots_push {N = N} ss empty ranks more g before h b p e =
    let s : Slot N = linked_to before g in
    record {
      ascend = rw (map_push number_in ss s) (ascend_push 0 (numbers_of ss) g.number h.ascend b (omega arith));
      low = rw (map_push level_in ss s) (low_push (map level_in ss) g.priority h.low p);
      ranked = e ∙ ap (λ l. l ++ rank_in s ∷ []) h.ranked ∙ sym (map_push rank_in ss s);
      counted = rw (goals_push ss g before) (omega (arith, length_push (goals_in ss) g, length_push ss s, h.counted));
    }

-- places without the last, which is empty
end_on : {N : Type 0} (b : Bool) (g : Goal N) (gs : List (Goal N)) → b ≡ false → gs ≡ cond b (g ∷ gs) gs
end_on b g gs e = rw e refl

pub goals_taken : {N : Type 0} (ss : List (Slot N)) (k : ℕ) (s : Slot N) → length ss ≡ k + 1 → get_or ss k s ≡ s → s.is_held ≡ false → goals_in (take k ss) ≡ goals_in ss
goals_taken [] k s w e h = absurd (omega (arith, w))
goals_taken (t ∷ []) zero s w e h = rw e (end_on s.is_held s.goal [] h)
goals_taken (t ∷ u ∷ ss) zero s w e h = absurd (omega (arith, w))
goals_taken (t ∷ ss) (suc k) s w e h = ap (λ l. cond t.is_held (t.goal ∷ l) l) (goals_taken ss k s (omega (arith, w)) e h)

pub not_true : (b : Bool) → not b ≡ true → b ≡ false
not_true false e = refl
not_true true e = absurd (false≢true e)

pub not_false : (b : Bool) → not b ≡ false → b ≡ true
not_false true e = refl
not_false false e = absurd (false≢true (sym e))

pub empty_end : {N : Type 0} (ss : List (Slot N)) (k : ℕ) (s : Slot N) → length ss ≡ k + 1 → get_or ss k s ≡ s → s.is_held ≡ false → IsEmptyEnd ss
empty_end ss k s w e h =
    let one : length ss - 1 ≡ k = omega (arith, w) in
    record { some = omega (arith, w); goals = rw one (goals_taken ss k s w e h) }

ascend_take : (from k : ℕ) (ns : List ℕ) → Ascend from ns → Ascend from (take k ns)
ascend_take from zero ns a = tt
ascend_take from (suc k) [] a = tt
ascend_take from (suc k) (n ∷ ns) a = (a.0, ascend_take (suc n) k ns a.1)

pub low_take : (k : ℕ) (ps : List ℕ) → AreLow ps → AreLow (take k ps)
low_take zero ps a = tt
low_take (suc k) [] a = tt
low_take (suc k) (p ∷ ps) a = (a.0, low_take k ps a.1)

pub goals_trimmed : {N : Type 0} (ss ts : List (Slot N)) (count : ℕ) → count ≡ length ss → ts ≡ take (count - 1) ss → IsEmptyEnd ss → goals_in ts ≡ goals_in ss
goals_trimmed ss ts count f t e = ap goals_in t ∙ ap (λ n. goals_in (take (n - 1) ss)) f ∙ e.goals

pub slots_trimmed : {N : Type 0} (ss : List (Slot N)) (count empty fewer : ℕ) (ranks more : List ℕ) → AreSlots ss empty ranks → count ≡ length ss → IsEmptyEnd ss → fewer + 1 ≡ empty → more ≡ take (length ranks - 1) ranks → AreSlots (take (count - 1) ss) fewer more
slots_trimmed {N = N} ss count empty fewer ranks more h f e one r =
    let k = count - 1 in
    let A : List ℕ → Type 0 = λ ns. Ascend 0 ns in
    let L : List ℕ → Type 0 = λ ps. AreLow ps in
    let ranked : length ranks ≡ count = ap length h.ranked ∙ length-map ss rank_in ∙ sym f in
    record {
      ascend = subst A (take-map number_in k ss) (ascend_take 0 k (numbers_of ss) h.ascend);
      low = subst L (take-map level_in k ss) (low_take k (map level_in ss) h.low);
      ranked = r ∙ ap (λ n. take (n - 1) ranks) ranked ∙ ap (take k) h.ranked ∙ take-map rank_in k ss;
      counted = omega (arith, ap length (goals_trimmed ss (take k ss) count f refl e), e.some, f, one, h.counted, length-take-le k ss (omega (arith, f)));
    }

fewer_on : {N : Type 0} (b : Bool) (g : Goal N) (gs : List (Goal N)) (count : ℕ) → length gs ≤ count → length (cond b (g ∷ gs) gs) ≤ suc count
fewer_on false g gs count h = omega (arith, h)
fewer_on true g gs count h = omega (arith, h)

goals_fewer : {N : Type 0} (ss : List (Slot N)) → length (goals_in ss) ≤ length ss
goals_fewer [] = omega arith
goals_fewer (s ∷ ss) = fewer_on s.is_held s.goal (goals_in ss) (length ss) (goals_fewer ss)

pub empty_counted : {N : Type 0} (ss : List (Slot N)) (empty : ℕ) (ranks : List ℕ) → AreSlots ss empty ranks → IsEmptyEnd ss → 0 < empty
empty_counted ss empty ranks h e = omega (arith, ap length e.goals, goals_fewer (take (length ss - 1) ss), length-take-le (length ss - 1) ss (omega arith), e.some, h.counted)

pub length_all : {N : Type 0} (gs : List (Goal N)) → filter (λ _. true) gs ≡ gs
length_all [] = refl
length_all (g ∷ gs) = ap (λ l. g ∷ l) (length_all gs)

-- one goal less
pub length_without : {N : Type 0} (g : Goal N) (old new : List (Goal N)) → IsWithout g old new → length old ≡ length new + 1
length_without {N = N} g old new w =
    let all : Goal N → Bool = λ _. true in
    sym (ap length (length_all old)) ∙ w.passes all refl ∙ ap (λ l. length l + 1) (length_all new)

pub slots_buried : {N : Type 0} (ss : List (Slot N)) (k empty : ℕ) (ranks : List ℕ) (s : Slot N) → AreSlots ss empty ranks → k < length ss → get_or ss k s ≡ s → s.is_held ≡ true →
    AreSlots (set ss k (emptied s)) (empty + 1) (set ranks k 0)
slots_buried {N = N} ss k empty ranks s h w e held =
    let t : Slot N = emptied s in
    let A : List ℕ → Type 0 = λ ns. Ascend 0 ns in
    let L : List ℕ → Type 0 = λ ps. AreLow ps in
    let fewer = length_without s.goal (goals_in ss) (goals_in (set ss k t)) (without_at 0 ss k s h.ascend w e held) in
    record {
      ascend = subst A (sym (field_kept number_in ss k s t w e refl)) h.ascend;
      low = subst L (sym (field_kept level_in ss k s t w e refl)) h.low;
      ranked = ap (λ l. set l k 0) h.ranked ∙ sym (map-set rank_in ss k t);
      counted = omega (arith, fewer, h.counted, length-set ss k t);
    }

-- places without the empty ones
pub slots_compacted : {N : Type 0} (ss ts : List (Slot N)) (empty : ℕ) (ranks more : List ℕ) → AreSlots ss empty ranks → ts ≡ filter held_in ss → more ≡ map rank_in ts → AreSlots ts 0 more
slots_compacted {N = N} ss ts empty ranks more h e r =
    let A : List ℕ → Type 0 = λ ns. Ascend 0 ns in
    record {
      ascend = rw e (subst A (sym (numbers_kept ss)) (goals_ascend 0 ss h.ascend));
      low = rw e (low_kept ss h.low);
      ranked = r;
      counted = rw e (omega (arith, ap length (goals_kept ss), length_kept ss));
    }

-- the priority of a place that is ranked
priority_on : (b : Bool) (p : ℕ) → p ≤ MONITOR_PRIORITY → IsPriority (cond b (Some p) None)
priority_on false p h = tt
priority_on true p h = h

pub priority_low : {N : Type 0} (s : Slot N) (r : Option ℕ) → s.goal.priority ≤ MONITOR_PRIORITY → r ≡ priority_in s → IsPriority r
priority_low s r p e = rw e (priority_on (s.is_held && stands s.goal) s.goal.priority p)

-- a goal that is there is found
pub find_held : {N : Type 0} (ss : List (Slot N)) (n k : ℕ) (x s : Slot N) → Ascend 0 (numbers_of ss) → IsHeldAt ss n k s → x ≡ get_or ss k x → find (has_number n) (goals_in ss) ≡ Some x.goal
find_held ss n k x s a h e =
    let same = same_read ss k x s h.within e h.at in
    let F : ℕ → Type 0 = λ m. find (has_number m) (goals_in ss) ≡ Some s.goal in
    rw same (subst F h.number (find_at 0 ss k s a h.within h.at ∙ rw h.held refl))

-- what was read at the place of a goal
pub number_here : {N : Type 0} (ss : List (Slot N)) (n k : ℕ) (x s : Slot N) → IsHeldAt ss n k s → x ≡ get_or ss k x → x.goal.number ≡ n
number_here {N = N} ss n k x s h e = ap (λ (v : Slot N). v.goal.number) (same_read ss k x s h.within e h.at) ∙ h.number

pub held_here : {N : Type 0} (ss : List (Slot N)) (n k : ℕ) (x s : Slot N) → IsHeldAt ss n k s → x ≡ get_or ss k x → IsHeldAt ss n k x
held_here {N = N} ss n k x s h e = record {
  within = h.within;
  at = sym e;
  number = number_here ss n k x s h e;
  held = ap (λ (v : Slot N). v.is_held) (same_read ss k x s h.within e h.at) ∙ h.held;
}

pub held_itself : {N : Type 0} (ss : List (Slot N)) (n k : ℕ) (s : Slot N) → IsHeldAt ss n k s → IsHeldAt ss s.goal.number k s
held_itself ss n k s h = record { within = h.within; at = h.at; number = refl; held = h.held }
