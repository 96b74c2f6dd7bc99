-- A variable becomes a name before what comes after a goal's effects, or after that: it makes no difference.
use Rattle.kl1_user_effects.proofs.Words.{◌≡◌, ℕ, suc, ◌≤◌, ◌==◌, ◌||◌, not, ◌&&◌, Bool, true, false, if◌then◌else◌, List, [], ◌∷◌, refl, sym, ap, ap₂, ◌∙◌, arith, inl, inr, codes, count_by, Option, Some, None, option_map, unwrap_or, cases_Bool, ne_eqb, map-map, is_among, Term, variable, atom, structure, Terms, none, more, occurs, replace, replace_each, nil, cell, monitor, reduces, substitutes, State, shoen_at, replace_in_task, replace_in_goal, replace_in_origin, replace_in_shoen, replace_in_state, change_shoen, is_living, parents_of, path_within, path, is_living_child, broken_at, has_made_last, report_tail, reported_on, reported_at, report, report_each, closed_at, close, exhausted_report, terminated_report, report_of, close_of, has_goal, has_living_child, lives, ends_now, without_monitor, ending_of, has_reached, newly_exhausted, after_reduction, ended_each, left_at, life_at, Rules, has_forgetting, is_variable, is_tail_of, report_late, report_each_late, close_late, finished_late, finished_each_late, settle_charged_late}
use Rattle.std.proofs.Common.{eqb-true}
use Rattle.std.specs.Prelude.{map}
use Rattle.kl1_model.specs.State.{Task, Goal, Origin, Shoen, is_monitor}
use Rattle.kl1_model.specs.Ending.{control_left}
use Rattle.kl1_user_effects.proofs.Leaving.{broken_as, left_as}
use Rattle.kl1_user_effects.proofs.Lives.{ending_lives, ending_is_lives}
use Rattle.kl1_user_effects.proofs.Apart.{change_replaced, replace_ended, settles_apart}
use Rattle.kl1_user_effects.proofs.Lists.{maps_both, find_by, any_by, filter_each, found_by}

-- ---- two variables replaced, one of them by an atom

mutual
  -- a variable can become an atom before another is replaced, or after that
  pub swapped : (v w : ℕ) (a : List ℕ) (u : Term) → (w == v) ≡ false → (t : Term) → replace v (atom a) (replace w u t) ≡ replace w (replace v (atom a) u) (replace v (atom a) t)
  swapped v w a u e (variable n) = elim (cases_Bool (n == w)) [
    | inl p ↦ let other : (n == v) ≡ false = ap (λ x. x == v) (eqb-true n w p) ∙ e in simp (p, other)
    | inr p ↦ elim (cases_Bool (n == v)) [ inl q ↦ simp (p, q) | inr q ↦ simp (p, q) ]
  ]
  swapped v w a u e (structure f ts) = ap (structure f) (swapped_each v w a u e ts)
  swapped v w a u e _ = refl

  swapped_each : (v w : ℕ) (a : List ℕ) (u : Term) → (w == v) ≡ false → (ts : Terms) → replace_each v (atom a) (replace_each w u ts) ≡ replace_each w (replace v (atom a) u) (replace_each v (atom a) ts)
  swapped_each v w a u e none = refl
  swapped_each v w a u e (more t ts) = ap₂ more (swapped v w a u e t) (swapped_each v w a u e ts)

swapped_task : (v w : ℕ) (a : List ℕ) (u : Term) → (w == v) ≡ false → (t : Task) → replace_in_task v (atom a) (replace_in_task w u t) ≡ replace_in_task w (replace v (atom a) u) (replace_in_task v (atom a) t)
swapped_task v w a u e monitor = refl
swapped_task v w a u e (reduces t) = ap reduces (swapped v w a u e t)
swapped_task v w a u e (substitutes t) = ap substitutes (swapped v w a u e t)

swapped_origin : (v w : ℕ) (a : List ℕ) (u : Term) → (w == v) ≡ false → (o : Option Origin) → option_map (replace_in_origin v (atom a)) (option_map (replace_in_origin w u) o) ≡ option_map (replace_in_origin w (replace v (atom a) u)) (option_map (replace_in_origin v (atom a)) o)
swapped_origin v w a u e None = refl
swapped_origin v w a u e (Some o) = simp (swapped v w a u e)

swapped_shoen : (v w : ℕ) (a : List ℕ) (u : Term) → (w == v) ≡ false → (h : Shoen) → replace_in_shoen v (atom a) (replace_in_shoen w u h) ≡ replace_in_shoen w (replace v (atom a) u) (replace_in_shoen v (atom a) h)
swapped_shoen v w a u e h = simp (swapped v w a u e, swapped_origin v w a u e)

-- two replacements in a state may be made in either order
pub swapped_state : (v w : ℕ) (a : List ℕ) (u : Term) → (w == v) ≡ false → (s : State) → replace_in_state v (atom a) (replace_in_state w u s) ≡ replace_in_state w (replace v (atom a) u) (replace_in_state v (atom a) s)
swapped_state v w a u e s =
    ap₂ (λ (gs : List Goal) (hs : List Shoen). let z : State = record s { goals = gs; shoens = hs } in z)
    (maps_both (replace_in_goal v (atom a)) (replace_in_goal w u) (replace_in_goal w (replace v (atom a) u)) (replace_in_goal v (atom a)) (λ g. ap (λ (t : Task). let z : Goal = record g { task = t } in z) (swapped_task v w a u e g.task)) s.goals)
    (maps_both (replace_in_shoen v (atom a)) (replace_in_shoen w u) (replace_in_shoen w (replace v (atom a) u)) (replace_in_shoen v (atom a)) (swapped_shoen v w a u e) s.shoens)

-- ---- shoens that are changed and found

-- a shoen by its number, after a variable is replaced
pub found_replaced : (n v : ℕ) (t : Term) (hs : List Shoen) → shoen_at n (map (replace_in_shoen v t) hs) ≡ option_map (replace_in_shoen v t) (shoen_at n hs)
found_replaced n v t hs = find_by (replace_in_shoen v t) (λ h. h.number == n) (λ h. h.number == n) (λ h. refl) hs

-- a stream on which nothing is told any more, or not
nil_or : (v : ℕ) (t : Term) (b : Bool) (x : Term) → replace v t (if b then nil else x) ≡ (if b then nil else replace v t x)
nil_or v t true x = refl
nil_or v t false x = refl

broken_replaced : (n v : ℕ) (t : Term) (s : State) → replace_in_state v t (broken_at n s) ≡ broken_at n (replace_in_state v t s)
broken_replaced n v t s =
    change_replaced n v t (broken_as s.rules) (broken_as s.rules) s (λ h. ap (λ x. let z : Shoen = record (replace_in_shoen v t h) { is_broken = true; tail = x } in z) (nil_or v t (has_forgetting s.rules) h.tail))

-- what is left of a control stream
control_replaced : (v : ℕ) (t : Term) (rules : Rules) (o : Option Origin) (x : Term) → replace v t (control_left rules o x) ≡ control_left rules (option_map (replace_in_origin v t) o) (replace v t x)
control_replaced v t rules None x = nil_or v t (has_forgetting rules) x
control_replaced v t rules (Some o) x = refl

left_replaced : (n v : ℕ) (t : Term) (s : State) → replace_in_state v t (left_at n s) ≡ left_at n (replace_in_state v t s)
left_replaced n v t s =
    change_replaced n v t (left_as s.rules) (left_as s.rules) s (λ h. ap (λ x. let z : Shoen = record (replace_in_shoen v t h) { control = x } in z) (control_replaced v t s.rules h.origin h.control))

-- ---- reports

is_next : (v last : ℕ) → v ≤ last → (suc last == v) ≡ false
is_next v last le = ne_eqb (suc last) v (λ q. absurd (omega (arith, q, le)))

-- a report on another variable, if it goes on
told_on : (last : Bool) (n v w : ℕ) (a b : List ℕ) (s : State) → v ≤ s.last_variable → (w == v) ≡ false →
    reported_on n (atom b) (if last then None else Some w) (replace_in_state v (atom a) s) ≡ replace_in_state v (atom a) (reported_on n (atom b) (if last then None else Some w) s)
told_on true n v w a b s le e = sym (broken_replaced n v (atom a) s)
told_on false n v w a b s le e =
    let next = suc s.last_variable in
    let by = cell (atom b) (variable next) in
    let fresh : (next == v) ≡ false = is_next v s.last_variable le in
    let sent : State → State = λ z. record z { last_variable = next; reports = suc s.reports } in
    let goes_on : Shoen → Shoen = λ h. record h { tail = variable next } in
    ap (λ c. change_shoen n goes_on (sent (replace_in_state w (cell (atom b) (if c then atom a else variable next)) (replace_in_state v (atom a) s)))) (sym fresh)
    ∙ ap (λ z. change_shoen n goes_on (sent z)) (sym (swapped_state v w a by e s))
    ∙ sym (change_replaced n v (atom a) goes_on goes_on (sent (replace_in_state w by s))
    (λ h. ap (λ c. let z : Shoen = record (replace_in_shoen v (atom a) h) { tail = if c then atom a else variable next } in z) fresh))

-- a report on a stream whose tail is another variable, or none
told_replaced : (n v : ℕ) (a b : List ℕ) (tail : Term) (s : State) → v ≤ s.last_variable → is_variable v tail ≡ false → reported_at n (atom b) (replace v (atom a) tail) (replace_in_state v (atom a) s) ≡ replace_in_state v (atom a) (reported_at n (atom b) tail s)
told_replaced n v a b (variable w) s le e =
    ap (λ c. reported_at n (atom b) (if c then atom a else variable w) (replace_in_state v (atom a) s)) e ∙ told_on (occurs w (atom b) || has_made_last s) n v w a b s le e
told_replaced n v a b _ s le e = sym (broken_replaced n v (atom a) s)

-- a report on a stream whose tail has become a name breaks it
told_bound : (n v : ℕ) (a b : List ℕ) (tail : Term) (s : State) → is_variable v tail ≡ true → reported_at n (atom b) (replace v (atom a) tail) s ≡ broken_at n s
told_bound n v a b (variable w) s e = ap (λ c. reported_at n (atom b) (if c then atom a else variable w) s) e
told_bound n v a b _ s e = absurd (cc)

report_found : (o : Option Shoen) (n v : ℕ) (a b : List ℕ) (s : State) → shoen_at n s.shoens ≡ o → v ≤ s.last_variable → report_of (option_map (replace_in_shoen v (atom a)) o) n (atom b) (replace_in_state v (atom a) s) ≡ replace_in_state v (atom a) (if is_tail_of v o then broken_at n s else report n (atom b) s)
report_found None n v a b s p le = sym (ap (λ o. replace_in_state v (atom a) (report_of o n (atom b) s)) p)
report_found (Some h) n v a b s p le =
    let R : State → State = λ z. replace_in_state v (atom a) z in
    elim (cases_Bool h.is_broken) [
      | inl q ↦ rw q (sym (ap (λ o. R (report_of o n (atom b) s)) p ∙ ap (λ x. R (if x then s else reported_at n (atom b) h.tail s)) q))
      | inr q ↦ rw q (elim (cases_Bool (is_variable v h.tail)) [
        | inl k ↦ rw k (told_bound n v a b h.tail (R s) k ∙ sym (broken_replaced n v (atom a) s))
        | inr k ↦ rw k (told_replaced n v a b h.tail s le k ∙ sym (ap (λ o. R (report_of o n (atom b) s)) p ∙ ap (λ x. R (if x then s else reported_at n (atom b) h.tail s)) q))
      ])
    ]

-- a report, of a name, before a variable becomes a name or after that
pub report_replaced : (n v : ℕ) (a b : List ℕ) (s : State) → v ≤ s.last_variable → report n (atom b) (replace_in_state v (atom a) s) ≡ replace_in_state v (atom a) (report_late (Some v) n (atom b) s)
report_replaced n v a b s le =
    ap (λ o. report_of o n (atom b) (replace_in_state v (atom a) s)) (found_replaced n v (atom a) s.shoens) ∙ report_found (shoen_at n s.shoens) n v a b s refl le

-- ---- the ends of streams

closed_replaced : (v : ℕ) (a : List ℕ) (tail : Term) (s : State) → is_variable v tail ≡ false → closed_at (replace v (atom a) tail) (replace_in_state v (atom a) s) ≡ replace_in_state v (atom a) (closed_at tail s)
closed_replaced v a (variable w) s e = ap (λ c. closed_at (if c then atom a else variable w) (replace_in_state v (atom a) s)) e ∙ sym (swapped_state v w a nil e s)
closed_replaced v a _ s e = refl

closed_bound : (v : ℕ) (a : List ℕ) (tail : Term) (s : State) → is_variable v tail ≡ true → closed_at (replace v (atom a) tail) s ≡ s
closed_bound v a (variable w) s e = ap (λ c. closed_at (if c then atom a else variable w) s) e
closed_bound v a _ s e = refl

close_found : (o : Option Shoen) (v : ℕ) (a : List ℕ) (s : State) → close_of (option_map (replace_in_shoen v (atom a)) o) (replace_in_state v (atom a) s) ≡ replace_in_state v (atom a) (if is_tail_of v o then s else close_of o s)
close_found None v a s = refl
close_found (Some h) v a s = elim (cases_Bool h.is_broken) [
  | inl q ↦ rw q
  | inr q ↦ rw q (elim (cases_Bool (is_variable v h.tail)) [ inl k ↦ rw k (closed_bound v a h.tail (replace_in_state v (atom a) s) k) | inr k ↦ rw k (closed_replaced v a h.tail s k) ])
]

-- the end of a report stream, before a variable becomes a name or after that
pub close_replaced : (n v : ℕ) (a : List ℕ) (s : State) → close n (replace_in_state v (atom a) s) ≡ replace_in_state v (atom a) (close_late (Some v) n s)
close_replaced n v a s = ap (λ o. close_of o (replace_in_state v (atom a) s)) (found_replaced n v (atom a) s.shoens) ∙ close_found (shoen_at n s.shoens) v a s

-- ---- what doesn't depend on terms

-- lives end before a variable is replaced or after that
pub ends_replaced : (ns : List ℕ) (v : ℕ) (t : Term) (s : State) → ended_each ns (replace_in_state v t s) ≡ replace_in_state v t (ended_each ns s)
ends_replaced [] v t s = refl
ends_replaced (n ∷ ns) v t s = ap (ended_each ns) (sym (replace_ended n v t s)) ∙ ends_replaced ns v t (life_at n s)

monitor_task : (v : ℕ) (t : Term) (k : Task) → is_monitor (replace_in_task v t k) ≡ is_monitor k
monitor_task v t monitor = refl
monitor_task v t _ = refl

-- a monitor goes before a variable is replaced or after that
pub monitor_replaced : (n v : ℕ) (t : Term) (s : State) → without_monitor n (replace_in_state v t s) ≡ replace_in_state v t (without_monitor n s)
monitor_replaced n v t s =
    ap (λ (gs : List Goal). let z : State = record (replace_in_state v t s) { goals = gs } in z)
    (filter_each (replace_in_goal v t) (λ g. not (g.shoen == n && is_monitor g.task)) (λ g. not (g.shoen == n && is_monitor g.task)) (λ g. ap (λ b. not (g.shoen == n && b)) (monitor_task v t g.task)) s.goals)

parents_replaced : (v : ℕ) (t : Term) (hs : List Shoen) → parents_of (map (replace_in_shoen v t) hs) ≡ parents_of hs
parents_replaced v t hs = map-map (λ (h : Shoen). h.parent) (replace_in_shoen v t) hs

path_replaced : (n v : ℕ) (t : Term) (hs : List Shoen) → path (map (replace_in_shoen v t) hs) n ≡ path hs n
path_replaced n v t hs = ap (λ (ns : List ℕ). path_within n ns n) (parents_replaced v t hs)

lives_replaced : (n v : ℕ) (t : Term) (s : State) → lives n (replace_in_state v t s) ≡ lives n s
lives_replaced n v t s = found_by (replace_in_shoen v t) (λ h. h.number == n) (λ h. is_living h.life) (λ h. h.number == n) (λ h. is_living h.life) (λ h. refl) (λ h. refl) s.shoens

ends_now_replaced : (n v : ℕ) (t : Term) (s : State) → ends_now n (replace_in_state v t s) ≡ ends_now n s
ends_now_replaced n v t s =
    let goals : has_goal n (replace_in_state v t s) ≡ has_goal n s = any_by (replace_in_goal v t) (λ (g : Goal). g.shoen == n && not (is_monitor g.task)) (λ (g : Goal). g.shoen == n && not (is_monitor g.task)) (λ g. ap (λ b. g.shoen == n && not b) (monitor_task v t g.task)) s.goals in
    let children : has_living_child n (replace_in_state v t s) ≡ has_living_child n s = any_by (replace_in_shoen v t) (is_living_child n) (is_living_child n) (λ h. refl) s.shoens in
    ap₂ (λ b c. b && not c && not (has_living_child n (replace_in_state v t s))) (lives_replaced n v t s) goals ∙ ap (λ b. lives n s && not (has_goal n s) && not b) children

lives_replaced_each : (ns : List ℕ) (v : ℕ) (t : Term) (s : State) → ending_lives ns (replace_in_state v t s) ≡ ending_lives ns s
lives_replaced_each [] v t s = refl
lives_replaced_each (n ∷ ns) v t s =
    ap (λ c. if c then n ∷ ending_lives ns (life_at n (replace_in_state v t s)) else ending_lives ns (replace_in_state v t s)) (ends_now_replaced n v t s)
    ∙ ap₂ (λ (xs ys : List ℕ). if ends_now n s then n ∷ xs else ys) (ap (ending_lives ns) (sym (replace_ended n v t s)) ∙ lives_replaced_each ns v t (life_at n s)) (lives_replaced_each ns v t s)

-- which shoens terminate doesn't depend on terms
pub ending_replaced : (ns : List ℕ) (v : ℕ) (t : Term) (s : State) → ending_of ns (replace_in_state v t s) ≡ ending_of ns s
ending_replaced ns v t s = ending_is_lives ns (replace_in_state v t s) ∙ lives_replaced_each ns v t s ∙ sym (ending_is_lives ns s)

has_reached_replaced : (n v : ℕ) (t : Term) (s : State) → has_reached (replace_in_state v t s) n ≡ has_reached s n
has_reached_replaced n v t s =
    ap (λ (ps : List ℕ). unwrap_or (option_map (λ h. h.allowance == count_by (λ k. is_among n (path_within k ps k)) s.work) (shoen_at n (replace_in_state v t s).shoens)) false) (parents_replaced v t s.shoens)
    ∙ found_by (replace_in_shoen v t) (λ h. h.number == n) (λ h. h.allowance == count_by (λ k. is_among n (path s.shoens k)) s.work) (λ h. h.number == n) (λ h. h.allowance == count_by (λ k. is_among n (path s.shoens k)) s.work) (λ h. refl) (λ h. refl) s.shoens

-- nor does which of them have reached their allowance
pub reached_replaced : (ns ending : List ℕ) (v : ℕ) (t : Term) (s : State) → newly_exhausted (replace_in_state v t s) ending ns ≡ newly_exhausted s ending ns
reached_replaced [] ending v t s = refl
reached_replaced (n ∷ ns) ending v t s =
    ap₂ (λ c (xs : List ℕ). if c && not (is_among n ending) then n ∷ xs else xs) (has_reached_replaced n v t s) (reached_replaced ns ending v t s)

-- ---- variables only become more

more_if : (c : Bool) (last : ℕ) (s t : State) → last ≤ s.last_variable → last ≤ t.last_variable → last ≤ (if c then s else t).last_variable
more_if true last s t a b = a
more_if false last s t a b = b

told_more : (n last : ℕ) (message : Term) (o : Option ℕ) (s : State) → last ≤ s.last_variable → last ≤ (reported_on n message o s).last_variable
told_more n last message None s le = le
told_more n last message (Some w) s le = omega (arith, le)

report_more_of : (o : Option Shoen) (n last : ℕ) (message : Term) (s : State) → last ≤ s.last_variable → last ≤ (report_of o n message s).last_variable
report_more_of None n last message s le = le
report_more_of (Some h) n last message s le = more_if h.is_broken last s (reported_at n message h.tail s) le (told_more n last message (report_tail (has_made_last s) message h.tail) s le)

-- after a report there are as many variables, or more
pub report_late_more : (v n last : ℕ) (message : Term) (s : State) → last ≤ s.last_variable → last ≤ (report_late (Some v) n message s).last_variable
report_late_more v n last message s le =
    more_if (is_tail_of v (shoen_at n s.shoens)) last (broken_at n s) (report n message s) le (report_more_of (shoen_at n s.shoens) n last message s le)

closed_more : (last : ℕ) (tail : Term) (s : State) → last ≤ s.last_variable → last ≤ (closed_at tail s).last_variable
closed_more last (variable w) s le = le
closed_more last _ s le = le

close_more_of : (o : Option Shoen) (last : ℕ) (s : State) → last ≤ s.last_variable → last ≤ (close_of o s).last_variable
close_more_of None last s le = le
close_more_of (Some h) last s le = more_if h.is_broken last s (closed_at h.tail s) le (closed_more last h.tail s le)

finished_more : (v n last : ℕ) (s : State) → last ≤ s.last_variable → last ≤ (finished_late (Some v) n s).last_variable
finished_more v n last s le =
    let left = left_at n (without_monitor n s) in
    let z = report_late (Some v) n terminated_report left in
    let told = report_late_more v n last terminated_report left le in
    more_if (is_tail_of v (shoen_at n z.shoens)) last z (close n z) told (close_more_of (shoen_at n z.shoens) last z told)

reports_more : (ns : List ℕ) (v last : ℕ) (message : Term) (s : State) → last ≤ s.last_variable → last ≤ (report_each_late (Some v) ns message s).last_variable
reports_more [] v last message s le = le
reports_more (n ∷ ns) v last message s le = reports_more ns v last message (report_late (Some v) n message s) (report_late_more v n last message s le)

ends_more : (ns : List ℕ) (last : ℕ) (s : State) → last ≤ s.last_variable → last ≤ (ended_each ns s).last_variable
ends_more [] last s le = le
ends_more (n ∷ ns) last s le = ends_more ns last (life_at n s) le

-- ---- all of it

-- one report of each of some shoens, before a variable becomes a name or after that
pub reports_replaced : (ns : List ℕ) (v : ℕ) (a b : List ℕ) (s : State) → v ≤ s.last_variable → report_each ns (atom b) (replace_in_state v (atom a) s) ≡ replace_in_state v (atom a) (report_each_late (Some v) ns (atom b) s)
reports_replaced [] v a b s le = refl
reports_replaced (n ∷ ns) v a b s le =
    ap (report_each ns (atom b)) (report_replaced n v a b s le) ∙ reports_replaced ns v a b (report_late (Some v) n (atom b) s) (report_late_more v n v (atom b) s le)

-- what is left of a termination, before a variable becomes a name or after that
pub finish_replaced : (n v : ℕ) (a : List ℕ) (s : State) → v ≤ s.last_variable → finished_late None n (replace_in_state v (atom a) s) ≡ replace_in_state v (atom a) (finished_late (Some v) n s)
finish_replaced n v a s le =
    let gone = without_monitor n s in
    let left = left_at n gone in
    ap (λ (z : State). close n (report n terminated_report (left_at n z))) (monitor_replaced n v (atom a) s)
    ∙ ap (λ (z : State). close n (report n terminated_report z)) (sym (left_replaced n v (atom a) gone))
    ∙ ap (close n) (report_replaced n v a (codes "terminated") left le)
    ∙ close_replaced n v a (report_late (Some v) n terminated_report left)

-- what is left of terminations of shoens, in order, before a variable becomes a name or after that
pub finishes_replaced : (ns : List ℕ) (v : ℕ) (a : List ℕ) (s : State) → v ≤ s.last_variable → finished_each_late None ns (replace_in_state v (atom a) s) ≡ replace_in_state v (atom a) (finished_each_late (Some v) ns s)
finishes_replaced [] v a s le = refl
finishes_replaced (n ∷ ns) v a s le =
    ap (finished_each_late None ns) (finish_replaced n v a s le) ∙ finishes_replaced ns v a (finished_late (Some v) n s) (finished_more v n v s le)

-- what comes after the effects of a reduction, before a variable becomes a name or after that
pub settles_late : (n v : ℕ) (a : List ℕ) (s : State) → v ≤ s.last_variable → after_reduction n (replace_in_state v (atom a) s) ≡ replace_in_state v (atom a) (settle_charged_late (Some v) n s)
settles_late n v a s le =
    let R : State → State = λ z. replace_in_state v (atom a) z in
    let all : List ℕ → List ℕ → State = λ ns ending. finished_each_late None ending (report_each (newly_exhausted (R s) ending ns) exhausted_report (ended_each ending (R s))) in
    let ns = path s.shoens n in
    let ending = ending_of ns s in
    let told = newly_exhausted s ending ns in
    let over = ended_each ending s in
    let le_over = ends_more ending v s le in
    settles_apart n (R s)
    ∙ ap (λ (ps : List ℕ). all ps (ending_of ps (R s))) (path_replaced n v (atom a) s.shoens)
    ∙ ap (all ns) (ending_replaced ns v (atom a) s)
    ∙ ap₂ (λ (ms : List ℕ) (z : State). finished_each_late None ending (report_each ms exhausted_report z)) (reached_replaced ns ending v (atom a) s) (ends_replaced ending v (atom a) s)
    ∙ ap (finished_each_late None ending) (reports_replaced told v a (codes "exhausted") over le_over)
    ∙ finishes_replaced ending v a (report_each_late (Some v) told exhausted_report over) (reports_more told v v exhausted_report over le_over)

-- ---- no variable becomes a name

reports_early : (ns : List ℕ) (message : Term) (s : State) → report_each ns message s ≡ report_each_late None ns message s
reports_early [] message s = refl
reports_early (n ∷ ns) message s = reports_early ns message (report n message s)

-- then after the effects of a reduction comes what always does
pub settles_early : (n : ℕ) (s : State) → after_reduction n s ≡ settle_charged_late None n s
settles_early n s =
    let ns = path s.shoens n in
    let ending = ending_of ns s in
    let told = newly_exhausted s ending ns in
    let over = ended_each ending s in
    settles_apart n s ∙ ap (finished_each_late None ending) (reports_early told exhausted_report over)
