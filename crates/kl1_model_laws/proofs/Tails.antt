-- The console's control tails are unbound, since no goal, report or other shoen has them.
use Rattle.std.proofs.Common.{◌≡◌, ◌≤◌, ◌<◌, ℕ, zero, suc, ◌+◌, ◌-◌, ◌==◌, not, ◌&&◌, ◌||◌, Bool, true, false, if◌then◌else◌, List, [], ◌∷◌, ◌++◌, refl, sym, ap, ◌∙◌, subst, arith}
use Rattle.std.specs.Prelude.{nat_le, map, length, Option, Some, None, option_map}
use Rattle.std.specs.List.{AllByRecursion}
use Rattle.std.proofs.lemmas.Bool.{and_parts, eqb-true, eqb-false, eq-eqb, ne_eqb}
use Rattle.kl1_model.specs.declared.limits.TheConstants.{MOST_LINE_BYTES}
use Rattle.kl1_model.specs.declared.message.Message.{Message}
use Rattle.kl1_model.specs.declared.rules.Rules.{Rules}
use Rattle.kl1_model.specs.Term.{Term, variable, occurs, replace}
use Rattle.kl1_model.specs.Meaning.{cell, variables_of, highest, is_numbered, is_writable}
use Rattle.kl1_model.specs.Goal.{is_goal}
use Rattle.kl1_model.specs.Module.{is_among}
use Rattle.kl1_model.specs.Match.{call_of}
use Rattle.kl1_model.specs.Look.{goal_look}
use Rattle.kl1_model.specs.Control.{message_term, Control, control_of}
use Rattle.kl1_model.specs.State.{Task, monitor, reduces, substitutes, Goal, Origin, Shoen, State, has_substitutes, has_told, is_living, goal_at, shoen_at, replace_in_task, replace_in_goal, replace_in_origin, replace_in_shoen}
use Rattle.kl1_model.specs.Tree.{is_on_path}
use Rattle.kl1_model.specs.Event.{is_number, is_range, with_entry, with_reduction}
use Rattle.kl1_model.specs.Report.{report}
use Rattle.kl1_model.specs.Opening.{start_line, may_start, with_next_variables, start_goal}
use Rattle.kl1_model.specs.Reduction.{Move, moves, reads, heard, acted, term_move}
use Rattle.kl1_model.specs.Answering.{answer_line, may_answer, is_numbered_by, asked_at, given, answered}
use Rattle.kl1_model.specs.Telling.{Asked, Given, stands_in, new_among, place_among, given_variable, given_told, is_told_term}
use Rattle.kl1_model.specs.Forgetting.{without_reports, with_origin, empty_place, gone_below, gone}
use Rattle.kl1_model.specs.Sending.{with_control_tail, sent_on}
use Rattle.kl1_model.specs.code.Steps.{substitute_move, origin_with}
use Rattle.kl1_model.specs.laws.TreeLaws.{IsTree}
use Rattle.kl1_model.proofs.TreeKeeps.{kept_tree}
use Rattle.kl1_model.proofs.TreeGrows.{with_reduction_keeps}
use Rattle.kl1_model_laws.specs.Reached.{reached}
use Rattle.kl1_model_laws.specs.ControlLaws.{is_unbound, messages_then, ControlTailsAreUnbound, ControlStreamsAreMessages}
use Rattle.kl1_model_laws.proofs.Allowances.{found_number}
use Rattle.kl1_model_laws.proofs.Reaching.{Keeping, holds_reached}
use Rattle.kl1_model_laws.proofs.Alike.{begun, begun_shoen}
use Rattle.kl1_model_laws.proofs.GivenPlaces.{place_is_low, place_is_bound, each_given}
use Rattle.kl1_model_laws.proofs.Holds.{holds_weaker, holds_unchanged, holds_substituted, holds_highest, holds_both, holds_positive, InMove, in_move, in_substitute, holds_asked, holds_occurring, holds_without, listed}
use Rattle.kl1_model_laws.proofs.Each.{all_map, all_weaker, found_shoen, the_goal, Only, only}
use Rattle.kl1_model_laws.proofs.Owners.{Free, IsFree, TaskFree, Console, ControlOf, Owned, Of, stream_replaced, stream_longer, term_raised, own_higher, own_replace, own_settle, own_heard}
use Rattle.kl1_model_laws.proofs.TailMoves.{own_open, own_acted}

-- ---- messages from the console

-- a control tail more: this variable, of this shoen
abbrev with_tail : (ℕ → ℕ) → ℕ → ℕ → ℕ → ℕ
with_tail c v n w = if w == v then n else c w

other_tail : (c : ℕ → ℕ) (v n w : ℕ) → (w ≡ v → ⊥) → with_tail c v n w ≡ c w
other_tail c v n w f = ap (λ b. if b then n else c w) (ne_eqb w v f)

own_tail : (c : ℕ → ℕ) (v n : ℕ) → with_tail c v n v ≡ n
own_tail c v n = ap (λ b. if b then n else c v) (eq-eqb v v refl)

free_beside : (c : ℕ → ℕ) (last v n top w : ℕ) → last < v → last ≤ top → Free c last w → Free (with_tail c v n) top w
free_beside c last v n top w e l f = (other_tail c v n w (λ same. let x = f.1 in omega (arith, x, same, e)) ∙ f.0, let x = f.1 in omega (arith, x, l))

term_beside : (c : ℕ → ℕ) (last v n top : ℕ) (t : Term) → last < v → last ≤ top → IsFree c last t → IsFree (with_tail c v n) top t
term_beside c last v n top t e l a = holds_weaker (Free c last) (Free (with_tail c v n) top) (λ w f. free_beside c last v n top w e l f) t a

task_beside : (c : ℕ → ℕ) (last v n top : ℕ) (task : Task) → last < v → last ≤ top → TaskFree c last task → TaskFree (with_tail c v n) top task
task_beside c last v n top monitor e l a = tt
task_beside c last v n top (reduces t) e l a = term_beside c last v n top t e l a
task_beside c last v n top (substitutes t) e l a = term_beside c last v n top t e l a

control_beside : (c : ℕ → ℕ) (last v n top k : ℕ) (t : Term) (o : Option Origin) → last < v → last ≤ top → ControlOf c last k t o → ControlOf (with_tail c v n) top k t o
control_beside c last v n top k t None e l a = term_beside c last v n top t e l a
control_beside c last v n top k t (Some o) e l a = record {
  tail = a.tail;
  messages = a.messages;
  is = a.is;
  stream = a.stream;
  owner = other_tail c v n a.tail (λ same. let x = a.low in omega (arith, x, same, e)) ∙ a.owner;
  some = a.some;
  low = let x = a.low in omega (arith, x, l);
  reports = term_beside c last v n top o.reports e l a.reports;
}

owned_beside : (c : ℕ → ℕ) (last v n top : ℕ) (h : Shoen) → last < v → last ≤ top → Owned c last h → Owned (with_tail c v n) top h
owned_beside c last v n top h e l a = record { tail = term_beside c last v n top h.tail e l a.tail; control = control_beside c last v n top h.number h.control h.origin e l a.control }

above_beside : (c : ℕ → ℕ) (last v n top : ℕ) → last ≤ top → v ≤ top → ((w : ℕ) → last < w → c w ≡ 0) → (w : ℕ) → top < w → with_tail c v n w ≡ 0
above_beside c last v n top l e f w g = other_tail c v n w (λ same. omega (arith, same, e, g)) ∙ f w (omega (arith, l, g))

task_unchanged : (c : ℕ → ℕ) (last v : ℕ) (u : Term) (task : Task) → (c v ≡ 0 → ⊥) → TaskFree c last task → replace_in_task v u task ≡ task
task_unchanged c last v u monitor f a = refl
task_unchanged c last v u (reduces t) f a = ap reduces (holds_unchanged (Free c last) v u (λ x. f x.0) t a)
task_unchanged c last v u (substitutes t) f a = ap substitutes (holds_unchanged (Free c last) v u (λ x. f x.0) t a)

-- a term without a control tail has none after a message either, and stays
term_sent : (c : ℕ → ℕ) (last v next n : ℕ) (u t : Term) → (c v ≡ 0 → ⊥) → last < next → IsFree c last t → IsFree (with_tail c next n) next (replace v u t)
term_sent c last v next n u t f e a = subst (IsFree (with_tail c next n) next) (sym (holds_unchanged (Free c last) v u (λ x. f x.0) t a)) (term_beside c last next n next t e (omega (arith, e)) a)

goals_sent : (c : ℕ → ℕ) (last v next n : ℕ) (u : Term) (gs : List Goal) → (c v ≡ 0 → ⊥) → last < next → AllByRecursion (λ g. TaskFree c last g.task) gs → AllByRecursion (λ g. TaskFree (with_tail c next n) next g.task) (map (replace_in_goal v u) gs)
goals_sent c last v next n u [] f e a = tt
goals_sent c last v next n u (g ∷ gs) f e a =
    (subst (TaskFree (with_tail c next n) next) (sym (task_unchanged c last v u g.task f a.0)) (task_beside c last next n next g.task e (omega (arith, e)) a.0), goals_sent c last v next n u gs f e a.1)

-- a control stream of another shoen
control_aside : (c : ℕ → ℕ) (last v next n k : ℕ) (u t : Term) (o : Option Origin) → (c v ≡ 0 → ⊥) → (c v ≡ k → ⊥) → last < next → ControlOf c last k t o → ControlOf (with_tail c next n) next k (replace v u t) (option_map (replace_in_origin v u) o)
control_aside c last v next n k u t None f g e a = term_sent c last v next n u t f e a
control_aside c last v next n k u t (Some o) f g e a =
    let stays : replace v u (variable a.tail) ≡ variable a.tail = ap (λ b. if b then u else variable a.tail) (ne_eqb a.tail v (λ same. g (ap c (sym same) ∙ a.owner))) in record {
      tail = a.tail;
      messages = a.messages;
      is = ap (replace v u) a.is ∙ stays;
      stream = ap (replace v u) a.stream ∙ stream_replaced v u (variable a.tail) a.messages ∙ ap (messages_then a.messages) stays;
      owner = other_tail c next n a.tail (λ same. let x = a.low in omega (arith, x, same, e)) ∙ a.owner;
      some = a.some;
      low = let x = a.low in omega (arith, x, e);
      reports = term_sent c last v next n u o.reports f e a.reports;
    }

-- the control stream of the shoen to which a message is sent
control_sent : (c : ℕ → ℕ) (last v next n : ℕ) (m : Message) (t : Term) (o : Origin) → o.control ≡ variable v → (c v ≡ 0 → ⊥) → last < next → (k : Console c last n t o) →
    Console (with_tail c next n) next n (replace v (cell (message_term m) (variable next)) t) (record (replace_in_origin v (cell (message_term m) (variable next)) o) { control = variable next })
control_sent c last v next n m t o is f e k =
    let u = cell (message_term m) (variable next) in
    let same : variable k.tail ≡ variable v = sym k.is ∙ is in
    let put : replace v u (variable k.tail) ≡ u = ap (replace v u) same ∙ ap (λ b. if b then u else variable v) (eq-eqb v v refl) in record {
      tail = next;
      messages = k.messages ++ m ∷ [];
      is = refl;
      stream = ap (replace v u) k.stream ∙ stream_replaced v u (variable k.tail) k.messages ∙ ap (messages_then k.messages) put ∙ stream_longer k.messages m (variable next);
      owner = own_tail c next n;
      some = k.some;
      low = omega arith;
      reports = term_sent c last v next n u o.reports f e k.reports;
    }

shoen_sent : (b : Bool) (c : ℕ → ℕ) (last v next n : ℕ) (m : Message) (k h : Shoen) (o : Origin) → k.number == n ≡ b → (k.number ≡ n → k ≡ h) → h.number ≡ n → h.origin ≡ Some o → o.control ≡ variable v → c v ≡ n → 0 < n → last < next → Owned c last k →
    Owned (with_tail c next n) next (if b then with_control_tail (variable next) (replace_in_shoen v (cell (message_term m) (variable next)) k) else replace_in_shoen v (cell (message_term m) (variable next)) k)
shoen_sent true c last v next n m k h o e only at there is owner some l a =
    let u = cell (message_term m) (variable next) in
    let number = eqb-true k.number n e in
    let origin : k.origin ≡ Some o = ap (λ (x : Shoen). x.origin) (only number) ∙ there in
    let own : Console c last n k.control o = subst (λ (j : ℕ). Console c last j k.control o) number (subst (ControlOf c last k.number k.control) origin a.control) in
    record {
      tail = term_sent c last v next n u k.tail (λ x. omega (arith, x, owner, some)) l a.tail;
      control = subst (λ (x : Option Origin). ControlOf (with_tail c next n) next k.number (replace v u k.control) (option_map (origin_with (variable next)) (option_map (replace_in_origin v u) x))) (sym origin)
          (subst (λ (j : ℕ). Console (with_tail c next n) next j (replace v u k.control) (origin_with (variable next) (replace_in_origin v u o))) (sym number) (control_sent c last v next n m k.control o is (λ x. omega (arith, x, owner, some)) l own));
    }
shoen_sent false c last v next n m k h o e only at there is owner some l a =
    let u = cell (message_term m) (variable next) in
    record {
      tail = term_sent c last v next n u k.tail (λ x. omega (arith, x, owner, some)) l a.tail;
      control = control_aside c last v next n k.number u k.control k.origin (λ x. omega (arith, x, owner, some)) (λ x. eqb-false k.number n e (sym x ∙ owner)) l a.control;
    }

shoens_sent : (c : ℕ → ℕ) (last v next n : ℕ) (m : Message) (h : Shoen) (o : Origin) (hs : List Shoen) → Only n h hs → h.number ≡ n → h.origin ≡ Some o → o.control ≡ variable v → c v ≡ n → 0 < n → last < next → AllByRecursion (Owned c last) hs →
    AllByRecursion (Owned (with_tail c next n) next) (map (λ (k : Shoen). if k.number == n then with_control_tail (variable next) k else k) (map (replace_in_shoen v (cell (message_term m) (variable next))) hs))
shoens_sent c last v next n m h o [] u at there is owner some l a = tt
shoens_sent c last v next n m h o (k ∷ hs) u at there is owner some l a =
    (shoen_sent (k.number == n) c last v next n m k h o refl u.0 at there is owner some l a.0, shoens_sent c last v next n m h o hs u.1 at there is owner some l a.1)

-- an account in which control tails are unbound
abbrev Tails : State → Type 0
Tails s = (c : ℕ → ℕ) × Of c s

the_console : (c : ℕ → ℕ) (last n : ℕ) (hs : List Shoen) (h : Shoen) (o : Origin) → shoen_at n hs ≡ Some h → h.origin ≡ Some o → AllByRecursion (Owned c last) hs → Console c last h.number h.control o
the_console c last n hs h o there e a = subst (ControlOf c last h.number h.control) e (found_shoen (Owned c last) n hs h there a).control

own_sent : (s : State) (n : ℕ) (m : Message) (h : Shoen) (o : Origin) → IsTree s → shoen_at n s.shoens ≡ Some h → h.origin ≡ Some o → Tails s → Tails (sent_on n m o.control s)
own_sent s n m h o tree there e p =
    let c = p.0 in
    let a = p.1 in
    let last = s.last_variable in
    let next = suc last in
    let k = the_console c last n s.shoens h o there e a.shoens in
    let at = found_number n s.shoens h there in
    let owner : c k.tail ≡ n = k.owner ∙ at in
    let some : 0 < n = let x = k.some in omega (arith, x, at) in
    subst (λ t. Tails (sent_on n m t s)) (sym k.is) (
      with_tail c next n,
      record {
        goals = goals_sent c last k.tail next n (cell (message_term m) (variable next)) s.goals (λ x. omega (arith, x, owner, some)) (omega arith) a.goals;
        shoens = shoens_sent c last k.tail next n m h o s.shoens (only 0 n h s.shoens tree.numbered there) at e k.is owner some (omega arith) a.shoens;
        above = above_beside c last next n next (omega arith) (omega arith) a.above;
      },
    )

-- ---- starts

start_free : (c : ℕ → ℕ) (last n : ℕ) (t : Term) → is_numbered t ≡ true → ((w : ℕ) → last < w → c w ≡ 0) → IsFree (with_tail c (suc (last + highest t)) n) (suc (suc (last + highest t))) (with_next_variables last t)
start_free c last n t numbered above =
    let top = highest t in
    holds_substituted (λ v. (0 < v) × (v ≤ top)) (Free (with_tail c (suc (last + top)) n) (suc (suc (last + top)))) (λ v. variable (last + v))
    (λ v r. let x = r.0 in let y = r.1 in (other_tail c (suc (last + top)) n (last + v) (λ same. omega (arith, same, y)) ∙ above (last + v) (omega (arith, x)), omega (arith, y))) t
    (holds_both (λ v. 0 < v) (λ v. v ≤ top) t (holds_positive t numbered) (holds_highest top t (omega arith)))

start_numbered : (allowance low high : ℕ) (t : Term) → may_start allowance low high t ≡ true → is_numbered t ≡ true
start_numbered allowance low high t may =
    let a = and_parts (is_number allowance && is_range low high && is_goal t && is_writable t && is_numbered t) (nat_le (length (start_line allowance low high t)) MOST_LINE_BYTES) may in
    (and_parts (is_number allowance && is_range low high && is_goal t && is_writable t) (is_numbered t) a.0).1

own_start : (s : State) (allowance low high : ℕ) (t : Term) → may_start allowance low high t ≡ true → Tails s → Tails (start_goal s allowance low high t)
own_start s allowance low high t may p =
    let c = p.0 in
    let a = p.1 in
    let last = s.last_variable in
    let count = last + highest t in
    let top = suc (suc count) in
    let n = suc s.last_shoen in
    let d = with_tail c (suc count) n in
    let goal = with_next_variables last t in
    let h = begun_shoen s allowance low high t in
    let less : last < suc count = omega arith in
    let up : last ≤ top = omega arith in
    let b : Of d (begun s t) = record {
      goals = all_weaker (λ g. TaskFree c last g.task) (λ g. TaskFree d top g.task) (λ g f. task_beside c last (suc count) n top g.task less up f) s.goals a.goals;
      shoens = all_weaker (Owned c last) (Owned d top) (λ k f. owned_beside c last (suc count) n top k less up f) s.shoens a.shoens;
      above = above_beside c last (suc count) n top up (omega arith) a.above;
    } in
    let free : IsFree d top (variable top) = (other_tail c (suc count) n top (λ same. omega (arith, same)) ∙ a.above top (omega arith), omega arith) in
    let own : Owned d top h = record {
      tail = free;
      control = record { tail = suc count; messages = []; is = refl; stream = refl; owner = own_tail c (suc count) n; some = omega arith; low = omega arith; reports = free };
    } in
    (d, own_open d h goal (begun s t) own (start_free c last n t (start_numbered allowance low high t may) a.above) b)

-- ---- answers

answer_numbered : (rules : Rules) (n report : ℕ) (t : Term) → may_answer rules n report t ≡ true → is_numbered_by rules t ≡ true
answer_numbered rules n report t may =
    let rest = has_substitutes rules && is_number n && is_number report && nat_le 1 report && is_goal t && is_writable t in
    (and_parts rest (is_numbered_by rules t) (and_parts (rest && is_numbered_by rules t) (nat_le (length (answer_line n report t)) MOST_LINE_BYTES) may).0).1

-- an answer's variables are new
answer_free : (c : ℕ → ℕ) (last : ℕ) (t : Term) → is_numbered t ≡ true → ((w : ℕ) → last < w → c w ≡ 0) → IsFree c (last + highest t) (with_next_variables last t)
answer_free c last t numbered above =
    holds_substituted (λ v. (0 < v) × (v ≤ highest t)) (Free c (last + highest t)) (λ v. variable (last + v)) (λ v r. let x = r.0 in let y = r.1 in (above (last + v) (omega (arith, x)), omega (arith, y))) t
    (holds_both (λ v. 0 < v) (λ v. v ≤ highest t) t (holds_positive t numbered) (holds_highest (highest t) t (omega arith)))

-- a variable that is told stands in the goal of the exception, and the others are new
told_free : (b : Bool) (c : ℕ → ℕ) (last : ℕ) (a : Asked) (new : List ℕ) (v : ℕ) → stands_in a v ≡ b → (b || is_among v new) ≡ true → IsFree c last a.goal → ((w : ℕ) → last < w → c w ≡ 0) →
    IsFree c (last + length new) (if b then variable v else variable (last + place_among new v))
told_free true c last a new v e is goal above = term_raised c last (last + length new) (variable v) (omega arith) (holds_occurring (Free c last) v a.goal goal (and_parts (occurs v a.goal) (not (v == a.new)) e).0)
told_free false c last a new v e is goal above =
    let low = place_is_low new v in let bound = place_is_bound new v is in
    (above (last + place_among new v) (omega (arith, low)), omega (arith, bound))

-- the goal that an answer comes to
abbrev given_by : Bool → ℕ → Asked → Term → Given
given_by b last a t = if b then given_told (Some a) last t else record { goal = with_next_variables last t; new = highest t; tells_gone = false }

given_free : (b : Bool) (c : ℕ → ℕ) (last : ℕ) (a : Asked) (t : Term) → (if b then is_told_term t else is_numbered t) ≡ true → IsFree c last a.goal → ((w : ℕ) → last < w → c w ≡ 0) →
    IsFree c (last + (given_by b last a t).new) (given_by b last a t).goal
given_free true c last a t e goal above =
    let new = new_among (Some a) [] (variables_of t) in
    holds_substituted (λ v. (stands_in a v || is_among v new) ≡ true) (Free c (last + length new)) (given_variable (Some a) new last) (λ v is. told_free (stands_in a v) c last a new v refl is goal above) t
    (listed (λ v. (stands_in a v || is_among v new) ≡ true) t (each_given a [] (variables_of t)))
given_free false c last a t e goal above = answer_free c last t e above

own_answered : (s : State) (n report : ℕ) (k : Asked) (t : Term) (h : Shoen) (o : Origin) → shoen_at n s.shoens ≡ Some h → h.origin ≡ Some o → may_answer s.rules n report t ≡ true → asked_at o report ≡ Some k → Tails s → Tails (answered k.new (given s (Some k) t) t s)
own_answered s n report k t h o there e may is p =
    let c = p.0 in
    let a = p.1 in
    let last = s.last_variable in
    let g = given s (Some k) t in
    let top = last + g.new in
    let up : last ≤ top = omega arith in
    let told = (the_console c last n s.shoens h o there e a.shoens).reports in
    let free = holds_asked (Free c last) o report k told is in
    let goal : IsFree c top g.goal = given_free (has_told s.rules) c last k t (answer_numbered s.rules n report t may) free.0 a.above in
    let b = own_replace c top k.new g.goal s.goals s.shoens free.1.0 goal (own_higher c last top s.goals s.shoens up a) in
    (c, record { goals = b.goals; shoens = b.shoens; above = b.above })

-- ---- what is let go

gone_owned : (b : Bool) (c : ℕ → ℕ) (last : ℕ) (k : Shoen) → Owned c last k → Owned c last (if b then empty_place k else k)
gone_owned true c last k a = record { tail = tt; control = tt }
gone_owned false c last k a = a

reports_gone : (b : Bool) (c : ℕ → ℕ) (last n count : ℕ) (k h : Shoen) (o : Origin) → k.number == n ≡ b → (k.number ≡ n → k ≡ h) → h.origin ≡ Some o → Owned c last k →
    Owned c last (if b then with_origin (without_reports count o) k else k)
reports_gone true c last n count k h o e only there a =
    let origin : k.origin ≡ Some o = ap (λ (x : Shoen). x.origin) (only (eqb-true k.number n e)) ∙ there in
    let own : Console c last k.number k.control o = subst (ControlOf c last k.number k.control) origin a.control in
    record {
      tail = a.tail;
      control = record {
        tail = own.tail;
        messages = own.messages;
        is = own.is;
        stream = own.stream;
        owner = own.owner;
        some = own.some;
        low = own.low;
        reports = holds_without (Free c last) (count - o.forgotten) o.reports own.reports;
      };
    }
reports_gone false c last n count k h o e only there a = a

each_gone : (c : ℕ → ℕ) (last n count : ℕ) (h : Shoen) (o : Origin) (hs : List Shoen) → Only n h hs → h.origin ≡ Some o → AllByRecursion (Owned c last) hs →
    AllByRecursion (Owned c last) (map (λ (k : Shoen). if k.number == n then with_origin (without_reports count o) k else k) hs)
each_gone c last n count h o [] u there a = tt
each_gone c last n count h o (k ∷ hs) u there a = (reports_gone (k.number == n) c last n count k h o refl u.0 there a.0, each_gone c last n count h o hs u.1 there a.1)

own_gone : (s : State) (n count : ℕ) (h : Shoen) (o : Origin) → IsTree s → shoen_at n s.shoens ≡ Some h → h.origin ≡ Some o → Tails s → Tails (gone n count o s)
own_gone s n zero h o tree there e p =
    let c = p.0 in
    let a = p.1 in (
      c,
      record {
        goals = a.goals;
        shoens = all_map (Owned c s.last_variable) (Owned c s.last_variable) (gone_below s.shoens n) (λ (k : Shoen) own. gone_owned (not (is_living k.life) && is_on_path s.shoens n k.number) c s.last_variable k own) s.shoens a.shoens;
        above = a.above;
      },
    )
own_gone s n (suc count) h o tree there e p =
    let c = p.0 in
    let a = p.1 in
    (c, record { goals = a.goals; shoens = each_gone c s.last_variable n (suc count) h o s.shoens (only 0 n h s.shoens tree.numbered there) e a.shoens; above = a.above })

-- ---- events

own_acts : (r : Bool) (c : ℕ → ℕ) (g : Goal) (t : Term) (m : Move) (s : State) → IsFree c s.last_variable t → InMove (Free c s.last_variable) m → Of c s → Tails (acted g (moves t m) (with_reduction r s))
own_acts r c g t m s f h a = (c, own_acted c g t m (with_reduction r s) f h (record { goals = a.goals; shoens = a.shoens; above = a.above }))

own_moving : (s : State) (r : Bool) (n clause : ℕ) (g : Goal) (t : Term) (m : Move) → goal_at n s.goals ≡ Some g → g.task ≡ reduces t → term_move s.rules s.modules t clause (call_of t) ≡ Some m → Tails s → Tails (acted g (moves t m) (with_reduction r s))
own_moving s r n clause g t m there task e p =
    let c = p.0 in
    let a = p.1 in
    let free : IsFree c s.last_variable t = subst (TaskFree c s.last_variable) task (the_goal (λ g. TaskFree c s.last_variable g.task) n s.goals g there a.goals) in
    own_acts r c g t m s free (in_move (Free c s.last_variable) s.rules s.modules t clause m free e) a

own_substituting : (s : State) (r : Bool) (n : ℕ) (g : Goal) (t : Term) (m : Move) → goal_at n s.goals ≡ Some g → g.task ≡ substitutes t → substitute_move (goal_look t) ≡ Some m → Tails s → Tails (acted g (moves t m) (with_reduction r s))
own_substituting s r n g t m there task e p =
    let c = p.0 in
    let a = p.1 in
    let free : IsFree c s.last_variable t = subst (TaskFree c s.last_variable) task (the_goal (λ g. TaskFree c s.last_variable g.task) n s.goals g there a.goals) in
    own_acts r c g t m s free (in_substitute (Free c s.last_variable) (goal_look t) m e) a

own_reading : (s : State) (r : Bool) (g : Goal) (h : Shoen) (x : Control) → IsTree s → shoen_at g.shoen s.shoens ≡ Some h → control_of h.control ≡ x → Tails s → Tails (acted g (reads x) (with_reduction r s))
own_reading s r g h x tree there e p =
    let c = p.0 in
    let a = p.1 in
    let t = with_reduction r s in
    let b : Of c t = record { goals = a.goals; shoens = a.shoens; above = a.above } in
    let k = kept_tree s t (with_reduction_keeps r s) tree in
    (c, own_settle c g.shoen (heard g.shoen x t) (subst (λ y. Of c (heard g.shoen y t)) e (own_heard c g.shoen h t k there b)))

entered : (s : State) → Tails s → Tails (with_entry s)
entered s p = let a = p.1 in (p.0, record { goals = a.goals; shoens = a.shoens; above = a.above })

keeping : Keeping Tails
keeping = record {
  fresh = λ rules name names sessions. (λ v. 0, record { goals = tt; shoens = tt; above = λ v e. refl });
  seats = λ s n p. let a = p.1 in (p.0, record { goals = a.goals; shoens = a.shoens; above = a.above });
  loads = λ s source m is p. let a = p.1 in (p.0, record { goals = a.goals; shoens = a.shoens; above = a.above });
  starts = λ s allowance low high t tree may room p. entered (start_goal s allowance low high t) (own_start s allowance low high t may p);
  sends = λ s n m h o tree there is p. entered (sent_on n m o.control s) (own_sent s n m h o tree there is p);
  moving = λ s r n clause g t m tree there task is enabled p. own_moving s r n clause g t m there task is p;
  substituting = λ s r n g t m tree there task is enabled p. own_substituting s r n g t m there task is p;
  answers = λ s n number k t h o tree there origin may room is p. entered (answered k.new (given s (Some k) t) t s) (own_answered s n number k t h o there origin may is p);
  forgets = λ s n count h o tree there origin may p. entered (gone n count o s) (own_gone s n count h o tree there origin p);
  reading = λ s r n g h c tree there found is p. own_reading s r g h c tree found is p;
}

pub control_tails_are_unbound : ControlTailsAreUnbound
control_tails_are_unbound rules name es n h o there e =
    let s = reached rules name es in
    let p = holds_reached Tails keeping rules name es in
    let a = p.1 in
    ap is_unbound (the_console p.0 s.last_variable n s.shoens h o there e a.shoens).is

pub control_streams_are_messages : ControlStreamsAreMessages
control_streams_are_messages rules name es n h o there e =
    let s = reached rules name es in
    let p = holds_reached Tails keeping rules name es in
    let a = p.1 in
    let k = the_console p.0 s.last_variable n s.shoens h o there e a.shoens in
    (k.messages, k.stream ∙ ap (messages_then k.messages) (sym k.is))
