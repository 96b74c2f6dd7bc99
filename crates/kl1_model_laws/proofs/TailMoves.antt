-- What goals do leaves the console's control tails unbound.
use Rattle.std.proofs.Common.{◌≡◌, ◌≤◌, ◌<◌, ℕ, suc, ◌+◌, ◌-◌, ◌==◌, not, ◌&&◌, Bool, true, false, if◌then◌else◌, List, [], ◌∷◌, refl, arith}
use Rattle.std.specs.Prelude.{nat_le, map, Option, Some, None}
use Rattle.std.specs.List.{AllByRecursion}
use Rattle.std.proofs.lemmas.Bool.{leb-false}
use Rattle.std.proofs.Math.Nat.{le-max_left, le-max_right}
use Rattle.kl1_model.specs.Term.{Term, variable, atom, terms_of, Replacement, substituted}
use Rattle.kl1_model.specs.Meaning.{nil, highest, highest_in}
use Rattle.kl1_model.specs.Unify.{mgu}
use Rattle.kl1_model.specs.Module.{goals_of}
use Rattle.kl1_model.specs.Match.{Candidate, term_at}
use Rattle.kl1_model.specs.Instance.{head_variables, fresh_variables, body_variable, body_instance, body_priorities}
use Rattle.kl1_model.specs.State.{Task, reduces, substitutes, Goal, Shoen, State, has_substitutes, shoen_at, without_goal, with_name}
use Rattle.kl1_model.specs.Tree.{charge}
use Rattle.kl1_model.specs.Event.{are_too_many}
use Rattle.kl1_model.specs.Report.{report, is_reported, exception, exception_with, failure, exhaustion, started_report, exhausted_report}
use Rattle.kl1_model.specs.Opening.{with_shoen, open_shoen, has_room_for_child, child_shoen, open_child}
use Rattle.kl1_model.specs.Reduction.{Move, commits, raises, unifies, names, opens, goes, gives_way, moves, goals_from, has_room_for, committed, replaced_by, substituted_by, raised, unified, equation, or_exhaustion, moved, acted}
use Rattle.kl1_model.specs.code.Steps.{opening_goals, priority_of, named_by}
use Rattle.kl1_model_laws.proofs.Holds.{Holds, holds_substituted, holds_highest, holds_solved, Places, InMove, holds_term_at}
use Rattle.kl1_model_laws.proofs.Each.{all_append}
use Rattle.kl1_model_laws.proofs.Owners.{Free, IsFree, TaskFree, Owned, Of, term_raised, own_higher, own_if, own_report, report_last, own_all, fewer, own_settle_charged}

-- ---- moves

-- a goal in the place of another, with free variables alone
own_placed : (c : ℕ → ℕ) (g : Goal) (task : Task) (s : State) → TaskFree c s.last_variable task → Of c s → Of c (replaced_by g task s)
own_placed c g task s f a = record { goals = all_append (λ k. TaskFree c s.last_variable k.task) s.goals _ a.goals (f, tt); shoens = a.shoens; above = a.above }

-- an exception, with what a substitute waits for
own_substituted : (c : ℕ → ℕ) (g : Goal) (kind : List ℕ) (t : Term) (s : State) → IsFree c s.last_variable t → Of c s → Of c (substituted_by g kind t s)
own_substituted c g kind t s f a =
    let new = suc s.last_variable in
    let free : IsFree c new (variable new) = (a.above new (omega arith), omega arith) in
    let told = exception_with kind t (variable new) in
    let u = record s { last_variable = new } in
    let b : Of c u = own_higher c s.last_variable new s.goals s.shoens (omega arith) a in
    own_placed c g (substitutes (variable new)) (report g.shoen told u) (term_raised c new (report g.shoen told u).last_variable (variable new) (report_last g.shoen told u) free)
    (own_report c g.shoen told u (tt, (term_raised c s.last_variable new t (omega arith) f, (free, tt))) b)

own_raised : (c : ℕ → ℕ) (g : Goal) (kind : List ℕ) (t : Term) (s : State) → IsFree c s.last_variable t → Of c s → Of c (raised g kind t s)
own_raised c g kind t s f a =
    own_if (has_substitutes s.rules && is_reported g.shoen (exception kind t) s) c (substituted_by g kind t s) (report g.shoen (exception kind t) s)
    (own_substituted c g kind t s f a) (own_report c g.shoen (exception kind t) s (tt, (f, tt)) a)

own_unified : (c : ℕ → ℕ) (g : Goal) (t a b : Term) (o : Option (List Replacement)) (s : State) → mgu (equation a b) ≡ o → IsFree c s.last_variable t → IsFree c s.last_variable a → IsFree c s.last_variable b → Of c s → Of c (unified g t o s)
own_unified c g t a b None s e f h k own = own_raised c g failure t s f own
own_unified c g t a b (Some rs) s e f h k own = own_all c rs s (holds_solved (Free c s.last_variable) a b rs h k e) own

own_or : (b : Bool) (c : ℕ → ℕ) (g : Goal) (t : Term) (u s : State) → IsFree c s.last_variable t → Of c u → Of c s → Of c (or_exhaustion b g t u s)
own_or true c g t u s f a b = a
own_or false c g t u s f a b = own_raised c g exhaustion t s f b

-- a shoen that opens, with its goal
pub own_open : (c : ℕ → ℕ) (h : Shoen) (goal : Term) (s : State) → Owned c s.last_variable h → IsFree c s.last_variable goal → Of c s → Of c (open_shoen h goal s)
own_open c h goal s own f a =
    let t = with_shoen h goal s in
    let b : Of c t = record {
      goals = all_append (λ g. TaskFree c s.last_variable g.task) s.goals (opening_goals s.last_goal h goal) a.goals (tt, (f, tt));
      shoens = all_append (Owned c s.last_variable) s.shoens (h ∷ []) a.shoens (own, tt);
      above = a.above;
    } in
    let u = report h.number started_report t in
    let d = own_report c h.number started_report t tt b in
    own_if (h.allowance == 0) c (report h.number exhausted_report u) u (own_report c h.number exhausted_report u tt d) d

own_from : (c : ℕ → ℕ) (top last shoen : ℕ) (ps : List ℕ) (ts : List Term) → AllByRecursion (IsFree c top) ts → AllByRecursion (λ (g : Goal). TaskFree c top g.task) (goals_from last shoen ps ts)
own_from c top last shoen [] [] a = tt
own_from c top last shoen [] (t ∷ ts) a = tt
own_from c top last shoen (p ∷ ps) [] a = tt
own_from c top last shoen (p ∷ ps) (t ∷ ts) a = (a.0, own_from c top (suc last) shoen ps ts a.1)

body_holds : (R P : ℕ → Type 0) (f : ℕ → Term) → ((v : ℕ) → R v → Holds P (f v)) → (ts : List Term) → AllByRecursion (Holds R) ts → AllByRecursion (Holds P) (map (substituted f) ts)
body_holds R P f k [] a = tt
body_holds R P f k (t ∷ ts) a = (holds_substituted R P f k t a.0, body_holds R P f k ts a.1)

each_below : (top : ℕ) (ts : List Term) → highest_in (terms_of ts) ≤ top → AllByRecursion (Holds (λ v. v ≤ top)) ts
each_below top [] e = tt
each_below top (t ∷ ts) e =
    let a = le-max_left (highest t) (highest_in (terms_of ts)) in
    let b = le-max_right (highest t) (highest_in (terms_of ts)) in
    (holds_highest top t (omega (arith, a, e)), each_below top ts (omega (arith, b, e)))

body_case : (b : Bool) (c : ℕ → ℕ) (last top head v : ℕ) (ps : List Replacement) → nat_le v head ≡ b → v ≤ top → ((w : ℕ) → last < w → c w ≡ 0) → Places (Free c last) ps →
    IsFree c (last + (top - head)) (if b then term_at ps v nil else variable (last + (v - head)))
body_case true c last top head v ps e low above places = term_raised c last (last + (top - head)) (term_at ps v nil) (omega arith) (holds_term_at (Free c last) ps v places)
body_case false c last top head v ps e low above places =
    let less = leb-false v head e in
    (above (last + (v - head)) (omega (arith, less)), omega (arith, less, low))

own_commit : (c : ℕ → ℕ) (g : Goal) (k : Candidate) (s : State) → Places (Free c s.last_variable) k.places → Of c s → Of c (committed g k s)
own_commit c g k s places a =
    let last = s.last_variable in
    let top = highest_in (terms_of (goals_of k.clause.body)) in
    let next = last + fresh_variables k.clause in
    let up = own_higher c last next s.goals s.shoens (omega arith) a in
    let body = body_holds (λ v. v ≤ top) (Free c next) (body_variable k.clause k.places last) (λ v low. body_case (nat_le v (head_variables k.clause)) c last top (head_variables k.clause) v k.places refl low a.above places) (goals_of k.clause.body) (each_below top (goals_of k.clause.body) (omega arith)) in
    let ps = map (priority_of (shoen_at g.shoen s.shoens) g.priority) (body_priorities k.clause) in
    record {
      goals = all_append (λ g. TaskFree c next g.task) s.goals (goals_from s.last_goal g.shoen ps (body_instance k.clause k.places last)) up.goals (own_from c next s.last_goal g.shoen ps (body_instance k.clause k.places last) body);
      shoens = up.shoens;
      above = up.above;
    }

own_moved : (c : ℕ → ℕ) (g : Goal) (t : Term) (m : Move) (s : State) → IsFree c s.last_variable t → InMove (Free c s.last_variable) m → Of c s → Of c (moved g t m s)
own_moved c g t (commits k) s f h a = own_or (has_room_for s k.clause) c g t (committed g k s) s f (own_commit c g k s h a) a
own_moved c g t (raises kind) s f h a = own_raised c g kind t s f a
own_moved c g t (unifies x y) s f h a = own_unified c g t x y (mgu (equation x y)) s refl f h.0 h.1 a
own_moved c g t (names text x) s f h a =
    let u = record s { names = with_name s.names text } in
    let b : Of c u = record { goals = a.goals; shoens = a.shoens; above = a.above } in
    own_or (not (are_too_many s.rules (with_name s.names text))) c g t (named_by g t text x s) s f (own_unified c g t x (atom text) (mgu (equation x (atom text))) u refl f h tt b) a
own_moved c g t (opens o) s f h a =
    own_or (has_room_for_child s g.shoen) c g t (open_child s g.shoen o) s f (own_open c (child_shoen s g.shoen o) o.goal s (record { tail = h.2; control = h.1 }) h.0 a) a
own_moved c g t goes s f h a = a
own_moved c g t gives_way s f h a = own_placed c g (reduces t) s f a

pub own_acted : (c : ℕ → ℕ) (g : Goal) (t : Term) (m : Move) (s : State) → IsFree c s.last_variable t → InMove (Free c s.last_variable) m → Of c s → Of c (acted g (moves t m) s)
own_acted c g t m s f h a =
    let worked = charge g.shoen (without_goal g.number s) in
    let b = fewer c (λ k. not (k.number == g.number)) s a in
    let d : Of c worked = record { goals = b.goals; shoens = b.shoens; above = b.above } in
    own_settle_charged c g.shoen (moved g t m worked) (own_moved c g t m worked f h d)
