-- What comes after the effects of a reduction; if a variable becomes a name at the end, it is still unbound.
use Rattle.kl1_machine.proofs.Words.{◌≡◌, ℕ, ◌+◌, ◌-◌, ◌<◌, ◌≤◌, not, Bool, true, false, if◌then◌else◌, List, [], ◌∷◌, ◌++◌, length, take, get_or, refl, sym, ap, ◌∙◌, subst, find, Option, None, option_map, OnOk, take_more, take_all, Term, State, shoen_at, path, broken_at, report, close, exhausted_report, terminated_report, without_monitor, newly_exhausted, after_reduction, CellName, Held, has_number, changed, Reading, meaning, shoen_with, worked, ended_each, is_late_tail, HasLate, KeepsLate, KeepsFree, report_late, report_each_late, close_late, finished_late, finished_each_late, settle_charged_late, finds, torn, changed_count, is_monitor_of, free_same, free_then, free_by, still_within, settles_early, Machine, made, IsMachine, Since, Turns, TurnsAs, Becomes, having_goals, having_shoens, LivesEnd, LateAs, change_shoen, turns_as, changed_turns_by, broken_as, left_as, left_means, torn_in, torn_read, leaving, leaving_in, leaving_read, left_at}
use Rattle.std.specs.Prelude.{filter, Result}
use Rattle.kl1_user_effects.proofs.Frames.{on_ok_both}
use Rattle.kl1_machine.proofs.Sincing.{since_same}
use Rattle.kl1_machine.proofs.Ending.{as_then, as_same, as_none, unmonitored, lives_turn, ending_is, reached_is, AreReached}

-- ---- one change after another

pub late_then : (v : Option ℕ) (f g : Reading → State → State) (m n o : Machine) → LateAs v f m n → LateAs v g n o → LateAs v (λ r s. g r (f r s)) m o
late_then v f g m n o p q = record { does = as_then f g m n o p.does q.does; free = free_then v m.store.held n.store.held o.store.held p.free q.free }

-- by a change that is the same for this machine
late_as : (v : Option ℕ) (f g : Reading → State → State) (m n : Machine) → ((r : Reading) (s : State) → g r (worked r s m.store.held (made m)) ≡ f r (worked r s m.store.held (made m))) → LateAs v f m n → LateAs v g m n
late_as v f g m n e p = record { does = as_same f g m n e p.does; free = p.free }

pub late_none : (v : Option ℕ) (m : Machine) → IsMachine m → LateAs v (λ f s. s) m m
late_none v m i = record { does = as_none m i; free = free_same v m.store.held }

-- a change that leaves the cells
late_same : (v : Option ℕ) (f : Reading → State → State) (m n : Machine) → n.store.held ≡ m.store.held → TurnsAs f m n → LateAs v f m n
late_same v f m n e p = let F : Held CellName → Type 0 = λ h. KeepsLate v m.store.held h in record { does = p; free = subst F (sym e) (free_same v m.store.held) }

-- ---- tails that become a name

-- whether the tail of a shoen's unbroken stream becomes a name
abbrev pub IsTail : Option ℕ → ℕ → Bool → Machine → Type 0
IsTail v n b m = (f : Reading) → is_late_tail v (option_map (shoen_with (meaning f m.store.held)) (find (has_number n) m.shoens.shoens)) ≡ b

tail_by : (m : Machine) (n : ℕ) (v : Option ℕ) (b : Bool) (f : Reading) (s : State) → IsTail v n b m → is_late_tail v (shoen_at n (worked f s m.store.held (made m)).shoens) ≡ b
tail_by m n v b f s is = ap (is_late_tail v) (finds s (meaning f m.store.held) (m.store.held.variables - 1) (made m) n (find (has_number n) m.shoens.shoens) refl) ∙ is f

-- a machine of which a shoen's stream is broken
abbrev pub with_torn : ℕ → Machine → Machine
with_torn n m = having_shoens (changed n (torn m.rules) m.shoens.shoens) m

-- a stream that breaks in place of a report, as its tail becomes a name
pub late_torn : (m : Machine) (n : ℕ) (v : Option ℕ) (message : Term) → IsMachine m → IsTail v n true m → LateAs v (λ f. report_late v n message) m (with_torn n m)
late_torn m n v message i is =
    let h = m.store.held in
    let w = made m in
    let B : State → State = λ s. broken_at n s in
    let turns : Turns (λ f. B) m (with_torn n m) = λ ms. turns_as ms (λ f. change_shoen n (broken_as m.rules)) (λ f. B) h h w (made (with_torn n m)) (λ f knows s. refl)
    (changed_turns_by ms h w n (torn m.rules) (broken_as m.rules) i.inside (torn_in m.rules h) (λ f reads. torn_read (meaning f h) (left_means f h reads) m.rules)) in
    late_as v (λ f. B) (λ f. report_late v n message) m (with_torn n m) (λ f s. let S = worked f s h w in ap (λ c. if c then broken_at n S else report n message S) (tail_by m n v true f s is))
    (record {
      does = record { turns = turns; machine = record { inside = (turns []).inside; last = i.last; placed = i.placed; known = i.known ∙ sym (changed_count n (torn m.rules) m.shoens.shoens) }; named = record { name = refl; spelled = refl } };
      free = free_same v h;
    })

-- the end of a stream whose tail becomes a name is none
pub late_unclosed : (m : Machine) (n : ℕ) (v : Option ℕ) → IsMachine m → IsTail v n true m → LateAs v (λ f. close_late v n) m m
late_unclosed m n v i is =
    late_as v (λ f s. s) (λ f. close_late v n) m m (λ f s. let S = worked f s m.store.held (made m) in ap (λ c. if c then S else close n S) (tail_by m n v true f s is)) (late_none v m i)

-- ---- by what calls tell of their results

-- a variable that becomes a name at the end, if one does, is one of what a machine has come to
pub within_then : (v : Option ℕ) (m n : Machine) → HasLate v m.store.held → (Since m m → Since m n) → HasLate v n.store.held
within_then v m n lt since = still_within v m.store.held n.store.held lt (since (since_same m)).keeps.grown.held

-- a stream whose tail doesn't become a name is reported on and closed as ever
pub late_else : {T E : Type 0} (r : Result T E) (m o : Machine) (n : ℕ) (v : Option ℕ) (there ever : State → State) → HasLate v m.store.held → IsTail v n false m → OnOk r (TurnsAs (λ f. ever) m o) → OnOk r (KeepsFree n m.shoens.shoens m.store.held o.store.held) →
    OnOk r (LateAs v (λ f s. if is_late_tail v (shoen_at n s.shoens) then there s else ever s) m o)
late_else r m o n v there ever within is does free =
    on_ok_both r
    (λ p (q : KeepsFree n m.shoens.shoens m.store.held o.store.held).
    late_as v (λ f. ever) (λ f s. if is_late_tail v (shoen_at n s.shoens) then there s else ever s) m o
    (λ f s. let S = worked f s m.store.held (made m) in ap (λ c. if c then there S else ever S) (tail_by m n v false f s is))
    (record { does = p; free = free_by v n m.shoens.shoens m.store.held o.store.held within is q }))
    does free

-- what is left of a control stream
left_turns : (m n : Machine) (k : ℕ) → IsMachine m → Becomes (having_shoens (changed k (leaving m.rules) m.shoens.shoens) m) n → TurnsAs (λ f. left_at k) m n
left_turns m n k i left =
    let h = m.store.held in
    let w = made m in
    let gone : Machine = having_shoens (changed k (leaving m.rules) m.shoens.shoens) m in
    rw left.is (record {
      turns = λ ms. turns_as ms (λ f. change_shoen k (left_as m.rules)) (λ f. left_at k) h h w (made gone) (λ f knows s. refl)
          (changed_turns_by ms h w k (leaving m.rules) (left_as m.rules) i.inside (leaving_in m.rules h) (λ f reads. leaving_read (meaning f h) (left_means f h reads) m.rules));
      machine = rw left.is at left.machine;
      named = record { name = refl; spelled = refl };
    })

-- a monitor is gone, and what is left of the control stream is left
pub late_left : (m n l : Machine) (k : ℕ) (v : Option ℕ) → Becomes (having_goals (filter (λ g. not (is_monitor_of k g)) m.goals.goals) m) n → Becomes (having_shoens (changed k (leaving n.rules) n.shoens.shoens) n) l → LateAs v (λ f s. left_at k (without_monitor k s)) m l
late_left m n l k v gone left =
    late_then v (λ f. without_monitor k) (λ f. left_at k) m n l (late_same v (λ f. without_monitor k) m n (ap (λ (x : Machine). x.store.held) gone.is) (unmonitored m n k gone))
    (late_same v (λ f. left_at k) n l (ap (λ (x : Machine). x.store.held) left.is) (left_turns n l k gone.machine left))

-- what is left of a termination
pub late_finished : (m l o u : Machine) (k : ℕ) (v : Option ℕ) → LateAs v (λ f s. left_at k (without_monitor k s)) m l → LateAs v (λ f. report_late v k terminated_report) l o → LateAs v (λ f. close_late v k) o u → LateAs v (λ f. finished_late v k) m u
late_finished m l o u k v left told closed =
    late_then v (λ f s. report_late v k terminated_report (left_at k (without_monitor k s))) (λ f. close_late v k) m o u
    (late_then v (λ f s. left_at k (without_monitor k s)) (λ f. report_late v k terminated_report) m l o left told) closed

-- ---- each of some shoens

pub reports_more : (v : Option ℕ) (t : Term) (ns : List ℕ) (n : ℕ) (s : State) → report_each_late v (ns ++ n ∷ []) t s ≡ report_late v n t (report_each_late v ns t s)
reports_more v t [] n s = refl
reports_more v t (k ∷ ns) n s = reports_more v t ns n (report_late v k t s)

pub finishes_more : (v : Option ℕ) (ns : List ℕ) (n : ℕ) (s : State) → finished_each_late v (ns ++ n ∷ []) s ≡ finished_late v n (finished_each_late v ns s)
finishes_more v [] n s = refl
finishes_more v (k ∷ ns) n s = finishes_more v ns n (finished_late v k s)

-- a change for one shoen more, after that for others
pub next_late : (each : List ℕ → State → State) (one : ℕ → State → State) → ((ns : List ℕ) (n : ℕ) (s : State) → each (ns ++ n ∷ []) s ≡ one n (each ns s)) →
    (m n o : Machine) (v : Option ℕ) (ns : List ℕ) (i : ℕ) → i < length ns → LateAs v (λ f. each (take i ns)) m n → LateAs v (λ f. one (get_or ns i 0)) n o → LateAs v (λ f. each (take (i + 1) ns)) m o
next_late each one more m n o v ns i lt p q =
    late_as v (λ f s. one (get_or ns i 0) (each (take i ns) s)) (λ f. each (take (i + 1) ns)) m o
    (λ f s. let S = worked f s m.store.held (made m) in ap (λ (ks : List ℕ). each ks S) (take_more ns i 0 lt) ∙ more (take i ns) (get_or ns i 0) S)
    (late_then v (λ f. each (take i ns)) (λ f. one (get_or ns i 0)) m n o p q)

-- the change for all
pub all_late : (each : List ℕ → State → State) (m n : Machine) (v : Option ℕ) (ns : List ℕ) (i : ℕ) → length ns ≤ i → LateAs v (λ f. each (take i ns)) m n → LateAs v (λ f. each ns) m n
all_late each m n v ns i le p = let P : List ℕ → Type 0 = λ ks. LateAs v (λ f. each ks) m n in subst P (take_all i ns le) p

-- ---- all of it

pub late_settles : (m u y : Machine) (n : ℕ) (v : Option ℕ) (ending reached : List ℕ) → IsMachine m → LivesEnd n ending m u → AreReached n ending u reached → LateAs v (λ f s. finished_each_late v ending (report_each_late v reached exhausted_report s)) u y → LateAs v (λ f. settle_charged_late v n) m y
late_settles m u y n v ending reached i l r p =
    let after : List ℕ → List ℕ → State → State = λ es rs s. finished_each_late v es (report_each_late v rs exhausted_report (ended_each es s)) in
    late_as v (λ f. after ending reached) (λ f. settle_charged_late v n) m y
    (λ f s.
    let S = worked f s m.store.held (made m) in
    ap (λ (ns : List ℕ). after ns (newly_exhausted S ns (path S.shoens n)) S) (ending_is m u n ending f s l)
    ∙ ap (λ (ns : List ℕ). after ending ns S) (reached_is m u n ending reached f s l r))
    (late_then v (λ f. ended_each ending) (λ f s. finished_each_late v ending (report_each_late v reached exhausted_report s)) m u y
    (late_same v (λ f. ended_each ending) m u (ap (λ (x : Machine). x.store.held) l.rest) (lives_turn m u n ending i l)) p)

-- if no variable becomes a name, it is what always comes after a reduction
pub comes_early : (m u : Machine) (n : ℕ) → LateAs None (λ f. settle_charged_late None n) m u → TurnsAs (λ f. after_reduction n) m u
comes_early m u n p = as_same (λ f. settle_charged_late None n) (λ f. after_reduction n) m u (λ f s. settles_early n (worked f s m.store.held (made m))) p.does
