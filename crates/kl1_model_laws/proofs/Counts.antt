-- Goals of an account have rising numbers, and are few.
use Rattle.std.proofs.Common.{◌≡◌, ◌≤◌, ◌<◌, ℕ, zero, suc, ◌+◌, ◌==◌, ◌&&◌, not, Bool, true, false, if◌then◌else◌, List, [], ◌∷◌, ◌++◌, length, refl, sym, ap, ◌∙◌, subst, arith}
use Rattle.std.specs.Prelude.{nat_le, nat_lt, map, filter, count_by, cond, Some}
use Rattle.std.proofs.lemmas.Bool.{and_parts, eqb-true, leb-true, ltb-true}
use Rattle.std.proofs.lemmas.List.Sums.{sum_by-cons}
use Rattle.std.proofs.lemmas.Option.{none-some, same_Some}
use Rattle.kl1_model.specs.declared.rules.Rules.{Rules}
use Rattle.kl1_model.specs.Term.{Term, atom, substituted}
use Rattle.kl1_model.specs.Meaning.{highest}
use Rattle.kl1_model.specs.Nodes.{goal_nodes, goals_nodes}
use Rattle.kl1_model.specs.Module.{BodyGoal, goals_of}
use Rattle.kl1_model.specs.Match.{Candidate}
use Rattle.kl1_model.specs.Unify.{mgu}
use Rattle.kl1_model.specs.Instance.{body_variable, body_instance, body_priorities, fresh_variables}
use Rattle.kl1_model.specs.State.{fresh, limits_of, reduces, Goal, Origin, Shoen, State, goal_at, shoen_at, with_name, without_goal, is_monitor}
use Rattle.kl1_model.specs.Tree.{charge, goals_alive}
use Rattle.kl1_model.specs.Event.{Event, are_too_many, with_entry, with_reduction}
use Rattle.kl1_model.specs.Opening.{with_shoen, with_next_variables, start_goal, has_room_to_start, has_room_for_child, child_shoen, open_child}
use Rattle.kl1_model.specs.Step.{step}
use Rattle.kl1_model.specs.code.Steps.{opening_goals, priority_of, named_by}
use Rattle.kl1_model.specs.Reduction.{Move, commits, raises, unifies, names, opens, goes, gives_way, moves, goals_from, has_room_for, committed, replaced_by, equation, moved, heard, acted}
use Rattle.kl1_model.specs.Answering.{given, answered}
use Rattle.kl1_model.specs.Forgetting.{gone}
use Rattle.kl1_model.specs.Sending.{sent_on}
use Rattle.kl1_model_server.proofs.Replays.{rules_stay}
use Rattle.kl1_model_laws.specs.Reached.{after, reached}
use Rattle.kl1_model_laws.specs.GoalLaws.{GoalsAreFew}
use Rattle.kl1_model_laws.proofs.Reaching.{Keeping, holds_reached}
use Rattle.kl1_model_laws.proofs.Alike.{Duty, duty_of, duties_of, duties_append, next_duty, Lasts, placed_after, by_raised, by_unified, by_limit, alike_same, alike_open, begun, begun_shoen, alike_start, alike_sent, alike_answered}
use Rattle.kl1_model_laws.proofs.Duties.{most_of, Of, of_alike, of_placed, filtered, of_gone, of_settle, of_settle_charged, of_heard}

-- how many goals are no monitors, by their duties
abbrev pub alive_in : List Duty → ℕ
alive_in ds = count_by (λ d. not d.is_monitor) ds

alive_cons : (d : Duty) (ds : List Duty) → alive_in (d ∷ ds) ≡ cond (not d.is_monitor) 1 0 + alive_in ds
alive_cons d ds = sum_by-cons (λ (e : Duty). cond (not e.is_monitor) 1 0) d ds

alive_are : (gs : List Goal) → count_by (λ g. not (is_monitor g.task)) gs ≡ alive_in (duties_of gs)
alive_are [] = refl
alive_are (g ∷ gs) =
    sum_by-cons (λ (h : Goal). cond (not (is_monitor h.task)) 1 0) g gs ∙ ap (λ (n : ℕ). cond (not (is_monitor g.task)) 1 0 + n) (alive_are gs)
    ∙ sym (alive_cons (duty_of g) (duties_of gs))

alive_is : (s : State) → goals_alive s ≡ alive_in (duties_of s.goals)
alive_is s = alive_are s.goals

alive_append : (ds es : List Duty) → alive_in (ds ++ es) ≡ alive_in ds + alive_in es
alive_append [] es = omega arith
alive_append (d ∷ ds) es = let a = alive_cons d (ds ++ es) in let b = alive_cons d ds in let c = alive_append ds es in omega (arith, a, b, c)

at_most : (b : Bool) → cond b 1 0 ≤ 1
at_most true = omega arith
at_most false = omega arith

alive_most : (ds : List Duty) → alive_in ds ≤ length ds
alive_most [] = omega arith
alive_most (d ∷ ds) = let a = alive_cons d ds in let b = alive_most ds in let c = at_most (not d.is_monitor) in omega (arith, a, b, c)

fewer_case : (c : Bool) (d : Duty) (ds es : List Duty) → alive_in es ≤ alive_in ds → alive_in (if c then d ∷ es else es) ≤ alive_in (d ∷ ds)
fewer_case true d ds es e = let a = alive_cons d ds in let b = alive_cons d es in omega (arith, a, b, e)
fewer_case false d ds es e = let a = alive_cons d ds in omega (arith, a, e)

alive_fewer : (p : Duty → Bool) (ds : List Duty) → alive_in (filter p ds) ≤ alive_in ds
alive_fewer p [] = omega arith
alive_fewer p (d ∷ ds) = fewer_case (p d) d ds (filter p ds) (alive_fewer p ds)

-- ---- numbers

-- goals have rising numbers from above this one, up to the last
abbrev pub Rises : ℕ → List Duty → ℕ → Type 0
Rises b [] last = b ≤ last
Rises b (d ∷ ds) last = (b < d.number) × Rises d.number ds last

rises_lower : (a b last : ℕ) (ds : List Duty) → a ≤ b → Rises b ds last → Rises a ds last
rises_lower a b last [] e r = omega (arith, e, r)
rises_lower a b last (d ∷ ds) e r = (let x = r.0 in omega (arith, e, x), r.1)

kept_case : (c : Bool) (a : ℕ) (d : Duty) (ds : List Duty) (last : ℕ) → a < d.number → Rises d.number ds last → Rises a (if c then d ∷ ds else ds) last
kept_case true a d ds last e r = (e, r)
kept_case false a d ds last e r = rises_lower a d.number last ds (omega (arith, e)) r

rises_fewer : (p : Duty → Bool) (b : ℕ) (ds : List Duty) (last : ℕ) → Rises b ds last → Rises b (filter p ds) last
rises_fewer p b [] last r = r
rises_fewer p b (d ∷ ds) last r = kept_case (p d) b d (filter p ds) last r.0 (rises_fewer p d.number ds last r.1)

rises_more : (b : ℕ) (ds es : List Duty) (last top : ℕ) → Rises b ds last → Rises last es top → Rises b (ds ++ es) top
rises_more b [] es last top r q = rises_lower b last top es r q
rises_more b (d ∷ ds) es last top r q = (r.0, rises_more d.number ds es last top r.1 q)

-- ---- both

-- goals have rising numbers, and at most this number of them are alive
pub record AreCounted (most : ℕ) (ds : List Duty) (last : ℕ) : Type 0 where
  pub few : alive_in ds ≤ most
  pub rising : Rises 0 ds last

pub counted_fewer : (p : Duty → Bool) (most : ℕ) (ds : List Duty) (last : ℕ) → AreCounted most ds last → AreCounted most (filter p ds) last
counted_fewer p most ds last a = record { few = let b = alive_fewer p ds in let c = a.few in omega (arith, b, c); rising = rises_fewer p 0 ds last a.rising }

-- ---- a goal that is removed counts no more

-- what a goal counts, by whether it is a monitor
abbrev counts : Bool → ℕ
counts b = cond (not b) 1 0

gone_case : (c : Bool) (n : ℕ) (g h : Goal) (gs : List Goal) → (if c then Some g else goal_at n gs) ≡ Some h → is_monitor h.task ≡ false →
    (goal_at n gs ≡ Some h → alive_in (filter (λ d. not (d.number == n)) (duties_of gs)) + 1 ≤ alive_in (duties_of gs)) →
    alive_in (if not c then duty_of g ∷ filter (λ d. not (d.number == n)) (duties_of gs) else filter (λ d. not (d.number == n)) (duties_of gs)) + 1 ≤ alive_in (duty_of g ∷ duties_of gs)
gone_case true n g h gs e plain f =
    let a = alive_cons (duty_of g) (duties_of gs) in
    let b = alive_fewer (λ d. not (d.number == n)) (duties_of gs) in
    let one : counts (is_monitor g.task) ≡ 1 = ap (λ (k : Goal). counts (is_monitor k.task)) (same_Some g h e) ∙ ap counts plain in
    omega (arith, a, b, one)
gone_case false n g h gs e plain f =
    let a = alive_cons (duty_of g) (duties_of gs) in let b = alive_cons (duty_of g) (filter (λ d. not (d.number == n)) (duties_of gs)) in let c = f e in omega (arith, a, b, c)

alive_gone : (n : ℕ) (gs : List Goal) (h : Goal) → goal_at n gs ≡ Some h → is_monitor h.task ≡ false → alive_in (filter (λ d. not (d.number == n)) (duties_of gs)) + 1 ≤ alive_in (duties_of gs)
alive_gone n [] h e plain = absurd (none-some h e)
alive_gone n (g ∷ gs) h e plain = gone_case (g.number == n) n g h gs e plain (λ f. alive_gone n gs h f plain)

found_case : (c : Bool) (n : ℕ) (g h : Goal) (gs : List Goal) → g.number == n ≡ c → (if c then Some g else goal_at n gs) ≡ Some h → (goal_at n gs ≡ Some h → h.number ≡ n) → h.number ≡ n
found_case true n g h gs d e f = ap (λ (k : Goal). k.number) (sym (same_Some g h e)) ∙ eqb-true g.number n d
found_case false n g h gs d e f = f e

found_number : (n : ℕ) (gs : List Goal) (h : Goal) → goal_at n gs ≡ Some h → h.number ≡ n
found_number n [] h e = absurd (none-some h e)
found_number n (g ∷ gs) h e = found_case (g.number == n) n g h gs refl e (λ f. found_number n gs h f)

-- a goal that is found is found by its own number
pub found_goal : (n : ℕ) (gs : List Goal) (h : Goal) → goal_at n gs ≡ Some h → goal_at h.number gs ≡ Some h
found_goal n gs h e = subst (λ (k : ℕ). goal_at k gs ≡ Some h) (sym (found_number n gs h e)) e

-- ---- goals that come

from_most : (last shoen : ℕ) (ps : List ℕ) (ts : List Term) → length (duties_of (goals_from last shoen ps ts)) ≤ length ts
from_most last shoen [] [] = omega arith
from_most last shoen [] (t ∷ ts) = omega arith
from_most last shoen (p ∷ ps) [] = omega arith
from_most last shoen (p ∷ ps) (t ∷ ts) = let a = from_most (suc last) shoen ps ts in omega (arith, a)

from_rises : (last shoen : ℕ) (ps : List ℕ) (ts : List Term) → Rises last (duties_of (goals_from last shoen ps ts)) (last + length ts)
from_rises last shoen [] [] = omega arith
from_rises last shoen [] (t ∷ ts) = omega arith
from_rises last shoen (p ∷ ps) [] = omega arith
from_rises last shoen (p ∷ ps) (t ∷ ts) =
    let top : suc last + length ts ≡ last + length (t ∷ ts) = omega arith in
    (omega arith, subst (Rises (suc last) (duties_of (goals_from (suc last) shoen ps ts))) top (from_rises (suc last) shoen ps ts))

mapped_length : {A B : Type 0} (f : A → B) (xs : List A) → length (map f xs) ≡ length xs
mapped_length f [] = refl
mapped_length f (x ∷ xs) = ap suc (mapped_length f xs)

commit_counted : (g : Goal) (k : Candidate) (s : State) → has_room_for s k.clause ≡ true → Of AreCounted s → Of AreCounted (committed g k s)
commit_counted g k s room counted =
    let body = body_instance k.clause k.places s.last_variable in
    let ps = map (priority_of (shoen_at g.shoen s.shoens) g.priority) (body_priorities k.clause) in
    let new = goals_from s.last_goal g.shoen ps body in
    let most = limits_of s.rules in
    let parts = and_parts (nat_le (goals_alive s + length k.clause.body) most.goals && nat_le (s.variables + fresh_variables k.clause) most.variables) (nat_le (s.nodes + goals_nodes (goals_of k.clause.body)) most.nodes) room in
    let fit = leb-true (goals_alive s + length k.clause.body) most.goals (and_parts (nat_le (goals_alive s + length k.clause.body) most.goals) (nat_le (s.variables + fresh_variables k.clause) most.variables) parts.0).0 in
    let here = alive_is s in
    let a = alive_append (duties_of s.goals) (duties_of new) in
    let b = alive_most (duties_of new) in
    let c = from_most s.last_goal g.shoen ps body in
    let d = mapped_length (substituted (body_variable k.clause k.places s.last_variable)) (goals_of k.clause.body) in
    let e = mapped_length (λ (b : BodyGoal). b.goal) k.clause.body in
    subst (λ ds. AreCounted (most_of s) ds (s.last_goal + length body)) (sym (duties_append s.goals new)) (record {
      few = omega (arith, fit, here, a, b, c, d, e);
      rising = rises_more 0 (duties_of s.goals) (duties_of new) s.last_goal (s.last_goal + length body) counted.rising (from_rises s.last_goal g.shoen ps body);
    })

open_counted : (h : Shoen) (goal : Term) (s : State) → alive_in (duties_of s.goals) + 1 ≤ most_of s → Of AreCounted s → Of AreCounted (with_shoen h goal s)
open_counted h goal s room counted =
    let new = opening_goals s.last_goal h goal in
    let a = alive_append (duties_of s.goals) (duties_of new) in
    let one : alive_in (duties_of new) ≤ 1 = omega arith in
    let first : s.last_goal < suc s.last_goal = omega arith in
    let next : suc s.last_goal < suc (suc s.last_goal) = omega arith in
    let top : suc (suc s.last_goal) ≤ suc (suc s.last_goal) = omega arith in
    subst (λ ds. AreCounted (most_of s) ds (suc (suc s.last_goal))) (sym (duties_append s.goals new)) (record {
      few = omega (arith, room, a, one);
      rising = rises_more 0 (duties_of s.goals) (duties_of new) s.last_goal (suc (suc s.last_goal)) counted.rising (first, (next, top));
    })

placed_counted : (most n last : ℕ) (ds : List Duty) → alive_in ds + 1 ≤ most → AreCounted most ds last → AreCounted most (ds ++ next_duty last n ∷ []) (suc last)
placed_counted most n last ds room counted =
    let a = alive_append ds (next_duty last n ∷ []) in
    let one : alive_in (next_duty last n ∷ []) ≤ 1 = alive_most (next_duty last n ∷ []) in
    let next : last < suc last = omega arith in
    let top : suc last ≤ suc last = omega arith in
    record { few = omega (arith, room, a, one); rising = rises_more 0 ds (next_duty last n ∷ []) last (suc last) counted.rising (next, top) }

-- a goal in the place of one that was removed counts as that did
lasts_counted : (g : Goal) (s : State) → alive_in (duties_of s.goals) + 1 ≤ most_of s → Of AreCounted s → Lasts (Of AreCounted) g s
lasts_counted g s room a = record {
  alike = λ t k. of_alike AreCounted s t k a;
  placed = λ t k. of_placed AreCounted g.shoen s t k (placed_counted (most_of s) g.shoen s.last_goal (duties_of s.goals) room a);
}

moved_counted : (g : Goal) (t : Term) (m : Move) (s : State) → alive_in (duties_of s.goals) + 1 ≤ most_of s → Of AreCounted s → Of AreCounted (moved g t m s)
moved_counted g t (commits k) s e a = by_limit (Of AreCounted) (has_room_for s k.clause) g t (committed g k s) s (λ room. commit_counted g k s room a) (lasts_counted g s e a)
moved_counted g t (raises kind) s e a = by_raised (Of AreCounted) g kind t s (lasts_counted g s e a)
moved_counted g t (unifies x y) s e a = by_unified (Of AreCounted) g t (mgu (equation x y)) s (lasts_counted g s e a)
moved_counted g t (names text x) s e a =
    let u = record s { names = with_name s.names text } in
    by_limit (Of AreCounted) (not (are_too_many s.rules (with_name s.names text))) g t (named_by g t text x s) s
    (λ _. by_unified (Of AreCounted) g t (mgu (equation x (atom text))) u (lasts_counted g u e a)) (lasts_counted g s e a)
moved_counted g t (opens o) s e a =
    let h = child_shoen s g.shoen o in
    by_limit (Of AreCounted) (has_room_for_child s g.shoen) g t (open_child s g.shoen o) s
    (λ _. of_alike AreCounted (with_shoen h o.goal s) (open_child s g.shoen o) (alike_open h o.goal s) (open_counted h o.goal s e a)) (lasts_counted g s e a)
moved_counted g t goes s e a = a
moved_counted g t gives_way s e a = (lasts_counted g s e a).placed (replaced_by g (reduces t) s) (placed_after g (reduces t) s s refl (alike_same s))

pub acted_counted : (g : Goal) (t : Term) (m : Move) (s : State) → goal_at g.number s.goals ≡ Some g → is_monitor g.task ≡ false → Of AreCounted s → Of AreCounted (acted g (moves t m) s)
acted_counted g t m s there plain a =
    let worked = charge g.shoen (without_goal g.number s) in
    let b = alive_gone g.number s.goals g there plain in
    let c = filtered (λ d. not (d.number == g.number)) s.goals in
    let d = a.few in
    of_settle_charged AreCounted counted_fewer g.shoen (moved g t m worked) (moved_counted g t m worked
    (subst (λ ds. alive_in ds + 1 ≤ most_of s) (sym c) (omega (arith, b, d))) (of_gone AreCounted counted_fewer g.number s a))

pub start_counted : (s : State) (allowance low high : ℕ) (t : Term) → has_room_to_start s t ≡ true → Of AreCounted s → Of AreCounted (start_goal s allowance low high t)
start_counted s allowance low high t room a =
    let h = begun_shoen s allowance low high t in
    let goal = with_next_variables s.last_variable t in
    let most = limits_of s.rules in
    let x = and_parts (nat_lt (goals_alive s) most.goals && nat_le (s.variables + suc (suc (highest t))) most.variables && nat_le (s.nodes + goal_nodes t) most.nodes) (nat_lt s.last_shoen most.shoens) room in
    let y = and_parts (nat_lt (goals_alive s) most.goals && nat_le (s.variables + suc (suc (highest t))) most.variables) (nat_le (s.nodes + goal_nodes t) most.nodes) x.0 in
    let z = and_parts (nat_lt (goals_alive s) most.goals) (nat_le (s.variables + suc (suc (highest t))) most.variables) y.0 in
    let few = ltb-true (goals_alive s) most.goals z.0 in
    let here = alive_is s in
    of_alike AreCounted (with_shoen h goal (begun s t)) (start_goal s allowance low high t) (alike_start s allowance low high t) (open_counted h goal (begun s t) (omega (arith, few, here)) a)

pub fresh_counted : (most : ℕ) → AreCounted most [] 0
fresh_counted most = record { few = omega arith; rising = omega arith }

pub gone_counted : (s : State) (n count : ℕ) (o : Origin) → Of AreCounted s → Of AreCounted (with_entry (gone n count o s))
gone_counted s n zero o a = a
gone_counted s n (suc count) o a = a

keeping : Keeping (Of AreCounted)
keeping = record {
  fresh = λ rules name names sessions. fresh_counted (limits_of rules).goals;
  seats = λ s n a. a;
  loads = λ s source m is a. a;
  starts = λ s allowance low high t tree may room a. start_counted s allowance low high t room a;
  sends = λ s n m h o tree there is a. of_alike AreCounted s (sent_on n m o.control s) (alike_sent n m o.control s) a;
  moving = λ s r n clause g t m tree there task is enabled a. acted_counted g t m (with_reduction r s) (found_goal n s.goals g there) (ap is_monitor task) a;
  substituting = λ s r n g t m tree there task is enabled a. acted_counted g t m (with_reduction r s) (found_goal n s.goals g there) (ap is_monitor task) a;
  answers = λ s n number v t h o tree there origin may room is a. of_alike AreCounted s (answered v.new (given s (Some v) t) t s) (alike_answered v.new (given s (Some v) t) t s) a;
  forgets = λ s n count h o tree there origin may a. gone_counted s n count o a;
  reading = λ s r n g h c tree there found is a. of_settle AreCounted counted_fewer g.shoen (heard g.shoen c (with_reduction r s)) (of_heard AreCounted counted_fewer g.shoen c (with_reduction r s) a);
}

pub goals_are_counted : (rules : Rules) (name : List ℕ) (es : List Event) → Of AreCounted (reached rules name es)
goals_are_counted rules name es = holds_reached (Of AreCounted) keeping rules name es

rules_alike : (s : State) (e : Event) → most_of (step s e).state ≡ most_of s
rules_alike s e = ap (λ (r : Rules). (limits_of r).goals) (rules_stay s e)

most_after : (s : State) (es : List Event) → most_of (after s es) ≡ most_of s
most_after s [] = refl
most_after s (e ∷ es) = most_after (step s e).state es ∙ rules_alike s e

pub goals_are_few : GoalsAreFew
goals_are_few rules name es =
    let a = goals_are_counted rules name es in
    let b = a.few in
    let c = alive_is (reached rules name es) in
    let d = most_after (fresh rules name) es in
    omega (arith, b, c, d)
