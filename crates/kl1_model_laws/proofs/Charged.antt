-- No shoen is charged more than its allowance.
use Rattle.std.proofs.Common.{◌≡◌, ◌≤◌, ◌<◌, ℕ, zero, suc, ◌+◌, ◌==◌, not, ◌&&◌, Bool, true, false, if◌then◌else◌, List, [], ◌∷◌, refl, sym, ap, ap₂, ◌∙◌, subst, arith}
use Rattle.std.specs.Prelude.{map, length, get_or, count_by, cond, Option, Some, None}
use Rattle.std.specs.List.{AllByRecursion}
use Rattle.std.proofs.lemmas.Bool.{true≢false, eq-eqb, ne_eqb, or_from}
use Rattle.std.proofs.lemmas.List.Sums.{sum_by-cons, count_by-le-length}
use Rattle.kl1_model.specs.declared.rules.Rules.{Rules}
use Rattle.kl1_model.specs.declared.life.Life.TheVariants.{Terminated, Aborted}
use Rattle.kl1_model.specs.declared.message.Message.{Message}
use Rattle.kl1_model.specs.declared.message.Message.TheVariants.{Stop, Start, Abort, Allow}
use Rattle.kl1_model.specs.Term.{Term, variable, integer, atom, structure, Replacement}
use Rattle.kl1_model.specs.Meaning.{nil, cell}
use Rattle.kl1_model.specs.Unify.{mgu}
use Rattle.kl1_model.specs.Module.{is_among}
use Rattle.kl1_model.specs.Control.{Control, awaits_message, tells, tells_other, ends, breaks_off}
use Rattle.kl1_model.specs.State.{Goal, Origin, Shoen, State, has_substitutes, shoen_at, replace_in_shoen, replace_in_state, replace_all, change_shoen, without_goal, with_name, is_monitor, is_living, has_forgetting}
use Rattle.kl1_model.specs.Tree.{parents_of, path_within, path, is_on_path, charged_of, charge, is_enabled}
use Rattle.kl1_model.specs.Event.{are_too_many, with_entry, with_reduction}
use Rattle.kl1_model.specs.Report.{broken_at, has_made_last, report_tail, reported_on, reported_at, report, is_reported, report_each, closed_at, close, exception, exception_with, failure, illegal_input, exhaustion, started_report, exhausted_report, stopped_report, resumed_report, terminated_report, aborted_report}
use Rattle.kl1_model.specs.Ending.{ended_at, ending_of, without_monitor, terminate, terminate_each, settle, newly_exhausted, after_reduction, ended_below, abort, ended_as}
use Rattle.kl1_model.specs.Opening.{with_shoen, open_shoen, with_next_variables, start_goal, has_room_for_child, child_shoen, open_child}
use Rattle.kl1_model.specs.Reduction.{Move, commits, raises, unifies, names, opens, goes, gives_way, moves, reads, has_room_for, committed, substituted_by, raised, unified, equation, or_exhaustion, moved, obeyed, with_control, grown, heard, acted}
use Rattle.kl1_model.specs.code.Steps.{report_of, close_of, aborted_below, stopped_of, resumed_of, allowed_more, named_by}
use Rattle.kl1_model.specs.Answering.{given, answered}
use Rattle.kl1_model.specs.Telling.{Given}
use Rattle.kl1_model.specs.Forgetting.{with_origin, without_reports, empty_place, gone_below, gone}
use Rattle.kl1_model.proofs.TreeKeeps.{keeps_gone}
use Rattle.kl1_model.specs.Sending.{with_control_tail, sent_on}
use Rattle.kl1_model.specs.laws.TreeLaws.{AreNumbered, ParentsAreLower, IsTree}
use Rattle.kl1_model.proofs.TreeKeeps.{kept_tree}
use Rattle.kl1_model.proofs.TreeGrows.{opening_follows, acted_move, acted_reading, charged_among, charged_kept, with_reduction_keeps, found_within}
use Rattle.kl1_model_laws.specs.Reached.{reached}
use Rattle.kl1_model_laws.specs.AllowanceLaws.{NoneIsChargedMore}
use Rattle.kl1_model_laws.proofs.Allowances.{found_number, enabled_has_allowance}
use Rattle.kl1_model_laws.proofs.Reaching.{Keeping, holds_reached}
use Rattle.kl1_model_laws.proofs.Alike.{Node, nodes_of, Alike, begun, begun_shoen, alike_sent, alike_answered}
use Rattle.kl1_model_laws.proofs.Each.{all_map, all_append, all_weaker, found_shoen}

-- charges are within the allowances of shoens
abbrev Capped : (ℕ → ℕ) → List Shoen → Type 0
Capped b hs = AllByRecursion (λ h. b h.number ≤ h.allowance) hs

abbrev Cap : (ℕ → ℕ) → State → Type 0
Cap b s = Capped b s.shoens

-- ---- effects

-- a change keeps the allowance of each shoen above its charges
abbrev Spares : (ℕ → ℕ) → (Shoen → Shoen) → Type 0
Spares b f = (h : Shoen) → b h.number ≤ h.allowance → b (f h).number ≤ (f h).allowance

changed_if : (c : Bool) (b : ℕ → ℕ) (f : Shoen → Shoen) (h : Shoen) → Spares b f → b h.number ≤ h.allowance → b (if c then f h else h).number ≤ (if c then f h else h).allowance
changed_if true b f h g p = g h p
changed_if false b f h g p = p

changed : (b : ℕ → ℕ) (n : ℕ) (f : Shoen → Shoen) (s : State) → Spares b f → Cap b s → Cap b (change_shoen n f s)
changed b n f s g a = all_map (λ h. b h.number ≤ h.allowance) (λ h. b h.number ≤ h.allowance) (λ h. if h.number == n then f h else h) (λ h p. changed_if (h.number == n) b f h g p) s.shoens a

replaced : (b : ℕ → ℕ) (v : ℕ) (t : Term) (s : State) → Cap b s → Cap b (replace_in_state v t s)
replaced b v t s a = all_map (λ h. b h.number ≤ h.allowance) (λ h. b h.number ≤ h.allowance) (replace_in_shoen v t) (λ h p. p) s.shoens a

cap_if : (c : Bool) (b : ℕ → ℕ) (s t : State) → Cap b s → Cap b t → Cap b (if c then s else t)
cap_if true b s t p q = p
cap_if false b s t p q = q

cap_all : (b : ℕ → ℕ) (rs : List Replacement) (s : State) → Cap b s → Cap b (replace_all rs s)
cap_all b [] s a = a
cap_all b (r ∷ rs) s a = cap_all b rs (replace_in_state r.number r.by s) (replaced b r.number r.by s a)

cap_broken : (b : ℕ → ℕ) (n : ℕ) (s : State) → Cap b s → Cap b (broken_at n s)
cap_broken b n s a = changed b n (λ h. record h { is_broken = true; tail = if has_forgetting s.rules then nil else h.tail }) s (λ h p. p) a

told : (b : ℕ → ℕ) (n : ℕ) (m : Term) (o : Option ℕ) (s : State) → Cap b s → Cap b (reported_on n m o s)
told b n m None s a = cap_broken b n s a
told b n m (Some v) s a =
    let next = suc s.last_variable in
    let bound = record (replace_in_state v (cell m (variable next)) s) { last_variable = next; reports = suc s.reports } in
    changed b n (λ h. record h { tail = variable next }) bound (λ h p. p) (replaced b v (cell m (variable next)) s a)

reported : (b : ℕ → ℕ) (n : ℕ) (m t : Term) (s : State) → Cap b s → Cap b (reported_at n m t s)
reported b n m t s a = told b n m (report_tail (has_made_last s) m t) s a

cap_report_of : (b : ℕ → ℕ) (o : Option Shoen) (n : ℕ) (m : Term) (s : State) → Cap b s → Cap b (report_of o n m s)
cap_report_of b None n m s a = a
cap_report_of b (Some h) n m s a = cap_if h.is_broken b s (reported_at n m h.tail s) a (reported b n m h.tail s a)

cap_report : (b : ℕ → ℕ) (n : ℕ) (m : Term) (s : State) → Cap b s → Cap b (report n m s)
cap_report b n m s a = cap_report_of b (shoen_at n s.shoens) n m s a

cap_each : (b : ℕ → ℕ) (ns : List ℕ) (m : Term) (s : State) → Cap b s → Cap b (report_each ns m s)
cap_each b [] m s a = a
cap_each b (n ∷ ns) m s a = cap_each b ns m (report n m s) (cap_report b n m s a)

closed : (b : ℕ → ℕ) (t : Term) (s : State) → Cap b s → Cap b (closed_at t s)
closed b (variable v) s a = replaced b v nil s a
closed b (integer i) s a = a
closed b (atom c) s a = a
closed b (structure f ts) s a = a

cap_close_of : (b : ℕ → ℕ) (o : Option Shoen) (s : State) → Cap b s → Cap b (close_of o s)
cap_close_of b None s a = a
cap_close_of b (Some h) s a = cap_if h.is_broken b s (closed_at h.tail s) a (closed b h.tail s a)

cap_closing : (b : ℕ → ℕ) (n : ℕ) (m : Term) (s : State) → Cap b s → Cap b (close n (report n m s))
cap_closing b n m s a = let t = report n m s in cap_close_of b (shoen_at n t.shoens) t (cap_report b n m s a)

cap_terminate : (b : ℕ → ℕ) (n : ℕ) (s : State) → Cap b s → Cap b (terminate n s)
cap_terminate b n s a = cap_closing b n terminated_report (without_monitor n (ended_at n s)) (changed b n (ended_as s.rules Terminated) s (λ h p. p) a)

cap_terminations : (b : ℕ → ℕ) (ns : List ℕ) (s : State) → Cap b s → Cap b (terminate_each ns s)
cap_terminations b [] s a = a
cap_terminations b (n ∷ ns) s a = cap_terminations b ns (terminate n s) (cap_terminate b n s a)

cap_settle : (b : ℕ → ℕ) (n : ℕ) (s : State) → Cap b s → Cap b (settle n s)
cap_settle b n s a = cap_terminations b (ending_of (path s.shoens n) s) s a

cap_settle_charged : (b : ℕ → ℕ) (n : ℕ) (s : State) → Cap b s → Cap b (after_reduction n s)
cap_settle_charged b n s a =
    let ns = path s.shoens n in
    let ending = ending_of ns s in
    let told = newly_exhausted s ending ns in
    cap_terminations b ending (report_each told exhausted_report s) (cap_each b told exhausted_report s a)

aborted_if : (c : Bool) (rules : Rules) (b : ℕ → ℕ) (h : Shoen) → b h.number ≤ h.allowance → b (if c then ended_as rules Aborted h else h).number ≤ (if c then ended_as rules Aborted h else h).allowance
aborted_if true rules b h p = p
aborted_if false rules b h p = p

cap_abort : (b : ℕ → ℕ) (n : ℕ) (s : State) → Cap b s → Cap b (abort n s)
cap_abort b n s a = cap_closing b n aborted_report (ended_below n s)
    (all_map (λ h. b h.number ≤ h.allowance) (λ h. b h.number ≤ h.allowance) (aborted_below s.rules s.shoens n) (λ h p. aborted_if (is_living h.life && is_on_path s.shoens n h.number) s.rules b h p) s.shoens a)

cap_stopped : (b : ℕ → ℕ) (o : Option Shoen) (n : ℕ) (s : State) → Cap b s → Cap b (stopped_of o n s)
cap_stopped b None n s a = a
cap_stopped b (Some h) n s a =
    let t = change_shoen n (λ h. record h { is_stopped = true }) s in
    cap_if h.is_stopped b s (report n stopped_report t) a (cap_report b n stopped_report t (changed b n (λ h. record h { is_stopped = true }) s (λ h p. p) a))

cap_resumed : (b : ℕ → ℕ) (o : Option Shoen) (n : ℕ) (s : State) → Cap b s → Cap b (resumed_of o n s)
cap_resumed b None n s a = a
cap_resumed b (Some h) n s a =
    let t = change_shoen n (λ h. record h { is_stopped = false }) s in
    cap_if h.is_stopped b (report n resumed_report t) s (cap_report b n resumed_report t (changed b n (λ h. record h { is_stopped = false }) s (λ h p. p) a)) a

at_least : (x a extra : ℕ) → x ≤ a → x ≤ grown a extra
at_least x a extra e = omega (arith, e)

cap_obeyed : (b : ℕ → ℕ) (n : ℕ) (m : Message) (s : State) → Cap b s → Cap b (obeyed n m s)
cap_obeyed b n Stop s a = cap_stopped b (shoen_at n s.shoens) n s a
cap_obeyed b n Start s a = cap_resumed b (shoen_at n s.shoens) n s a
cap_obeyed b n Abort s a = cap_abort b n s a
cap_obeyed b n (Allow extra) s a = changed b n (allowed_more extra) s (λ h p. at_least (b h.number) h.allowance extra p) a

cap_rest : (b : ℕ → ℕ) (n : ℕ) (rest : Term) (s : State) → Cap b s → Cap b (with_control n rest s)
cap_rest b n rest s a = changed b n (λ h. record h { control = rest }) s (λ h p. p) a

cap_heard : (b : ℕ → ℕ) (n : ℕ) (c : Control) (s : State) → Cap b s → Cap b (heard n c s)
cap_heard b n (awaits_message v) s a = a
cap_heard b n (tells m rest) s a = cap_obeyed b n m (with_control n rest s) (cap_rest b n rest s a)
cap_heard b n (tells_other m rest) s a = cap_report b n (exception illegal_input m) (with_control n rest s) (cap_rest b n rest s a)
cap_heard b n ends s a = a
cap_heard b n (breaks_off t) s a = cap_report b n (exception illegal_input t) (without_monitor n s) a

-- a substitute leaves the shoens as the report does
cap_raised : (b : ℕ → ℕ) (g : Goal) (kind : List ℕ) (t : Term) (s : State) → Cap b s → Cap b (raised g kind t s)
cap_raised b g kind t s a =
    let new = suc s.last_variable in
    cap_if (has_substitutes s.rules && is_reported g.shoen (exception kind t) s) b (substituted_by g kind t s) (report g.shoen (exception kind t) s)
    (cap_report b g.shoen (exception_with kind t (variable new)) (record s { last_variable = new }) a) (cap_report b g.shoen (exception kind t) s a)

cap_unified : (b : ℕ → ℕ) (g : Goal) (t : Term) (o : Option (List Replacement)) (s : State) → Cap b s → Cap b (unified g t o s)
cap_unified b g t None s a = cap_raised b g failure t s a
cap_unified b g t (Some rs) s a = cap_all b rs s a

cap_or : (c : Bool) (b : ℕ → ℕ) (g : Goal) (t : Term) (u s : State) → Cap b u → Cap b s → Cap b (or_exhaustion c g t u s)
cap_or true b g t u s p q = p
cap_or false b g t u s p q = cap_raised b g exhaustion t s q

-- a shoen that opens has been charged nothing
cap_open : (b : ℕ → ℕ) (h : Shoen) (goal : Term) (s : State) → b h.number ≡ 0 → Cap b s → Cap b (open_shoen h goal s)
cap_open b h goal s e a =
    let t = with_shoen h goal s in
    let none : b h.number ≤ h.allowance = omega (arith, e) in
    let p = all_append (λ h. b h.number ≤ h.allowance) s.shoens (h ∷ []) a (none, tt) in
    let u = report h.number started_report t in
    let q = cap_report b h.number started_report t p in
    cap_if (h.allowance == 0) b (report h.number exhausted_report u) u (cap_report b h.number exhausted_report u q) q

cap_moved : (b : ℕ → ℕ) (g : Goal) (t : Term) (m : Move) (s : State) → b (suc s.last_shoen) ≡ 0 → Cap b s → Cap b (moved g t m s)
cap_moved b g t (commits k) s e a = cap_or (has_room_for s k.clause) b g t (committed g k s) s a a
cap_moved b g t (raises kind) s e a = cap_raised b g kind t s a
cap_moved b g t (unifies x y) s e a = cap_unified b g t (mgu (equation x y)) s a
cap_moved b g t (names text x) s e a =
    let u = record s { names = with_name s.names text } in
    cap_or (not (are_too_many s.rules (with_name s.names text))) b g t (named_by g t text x s) s (cap_unified b g t (mgu (equation x (atom text))) u a) a
cap_moved b g t (opens o) s e a = cap_or (has_room_for_child s g.shoen) b g t (open_child s g.shoen o) s (cap_open b (child_shoen s g.shoen o) o.goal s e a) a
cap_moved b g t goes s e a = a
cap_moved b g t gives_way s e a = a

-- ---- who was charged

-- a path has no number above its first
above_path : (parents : List ℕ) → ParentsAreLower parents → (most n a : ℕ) → n < a → is_among a (path_within most parents n) ≡ false
unfolding path_within
above_path parents lower zero n a e = refl
above_path parents lower (suc most) zero a e = refl
above_path parents lower (suc most) (suc n) a e =
    or_from (a == suc n) (is_among a (path_within most parents (get_or parents n 0))) (ne_eqb a (suc n) (λ same. omega (arith, e, same)))
    (above_path parents lower most (get_or parents n 0) a (let low = lower n in omega (arith, low, e)))

none_counted : (p : ℕ → Bool) (ws : List ℕ) → AllByRecursion (λ w. p w ≡ false) ws → count_by p ws ≡ 0
none_counted p [] a = refl
none_counted p (w ∷ ws) a =
    sum_by-cons (λ x. cond (p x) 1 0) w ws ∙ ap₂ (λ c (n : ℕ). cond c 1 0 + n) a.0 (none_counted p ws a.1)

-- a shoen that isn't there yet was charged nothing
not_charged : (s : State) (a : ℕ) → IsTree s → s.last_shoen < a → charged_of s a ≡ 0
not_charged s a tree e =
    none_counted (λ w. is_on_path s.shoens a w) s.work (all_weaker (λ w. w ≤ s.last_shoen) (λ w. is_on_path s.shoens a w ≡ false) (λ w few. above_path (parents_of s.shoens) tree.lower w w a (omega (arith, few, e))) s.work tree.worked)

charged_most : (s : State) (a : ℕ) → charged_of s a ≤ length s.work
charged_most s a = count_by-le-length (λ w. is_on_path s.shoens a w) s.work

parents_by : (hs : List Shoen) → parents_of hs ≡ map (λ (m : Node). m.parent) (nodes_of hs)
parents_by [] = refl
parents_by (h ∷ hs) = ap (λ (ps : List ℕ). h.parent ∷ ps) (parents_by hs)

charged_alike : (s t : State) (a : ℕ) → Alike s t → charged_of t a ≡ charged_of s a
charged_alike s t a k =
    ap₂ (λ ps ws. count_by (λ w. is_among a (path_within w ps w)) ws) (parents_by t.shoens ∙ ap (map (λ (m : Node). m.parent)) k.nodes ∙ sym (parents_by s.shoens)) k.work

-- ---- each shoen is found by its number

all_zip : {A : Type 0} (P Q R : A → Type 0) → ((x : A) → P x → Q x → R x) → (xs : List A) → AllByRecursion P xs → AllByRecursion Q xs → AllByRecursion R xs
all_zip P Q R f [] a b = tt
all_zip P Q R f (x ∷ xs) a b = (f x a.0 b.0, all_zip P Q R f xs a.1 b.1)

numbers_above : (b c : ℕ) (hs : List Shoen) → AreNumbered c hs → b ≤ c → AllByRecursion (λ h. b < h.number) hs
numbers_above b c [] a e = tt
numbers_above b c (h ∷ hs) a e = (let x = a.0 in omega (arith, x, e), numbers_above b (suc c) hs a.1 (omega (arith, e)))

all_found : (b : ℕ) (hs : List Shoen) → AreNumbered b hs → AllByRecursion (λ h. shoen_at h.number hs ≡ Some h) hs
all_found b [] a = tt
all_found b (k ∷ hs) a = (
  ap (λ c. if c then Some k else shoen_at k.number hs) (eq-eqb k.number k.number refl),
  all_zip (λ h. shoen_at h.number hs ≡ Some h) (λ h. suc b < h.number) (λ h. shoen_at h.number (k ∷ hs) ≡ Some h)
      (λ h e less. ap (λ c. if c then Some k else shoen_at h.number hs) (ne_eqb k.number h.number (λ same. let x = a.0 in omega (arith, x, same, less))) ∙ e)
      hs (all_found (suc b) hs a.1) (numbers_above (suc b) (suc b) hs a.1 (omega arith)),
)

-- ---- events

-- charges are within allowances
record IsWithin (s : State) : Type 0 where
  capped : Cap (charged_of s) s

-- what a shoen is charged with one reduction more of a goal
abbrev charged_more : State → Goal → ℕ → ℕ
charged_more s g a = (if is_on_path s.shoens a g.shoen then 1 else 0) + charged_of s a

more_case : (c : Bool) (x allowance : ℕ) → x ≤ allowance → (c ≡ true → x < allowance) → (if c then 1 else 0) + x ≤ allowance
more_case true x allowance e f = let less = f refl in omega (arith, less)
more_case false x allowance e f = omega (arith, e)

capped_more : (s : State) (g : Goal) → IsTree s → is_monitor g.task ≡ false → is_enabled s g ≡ true → Cap (charged_of s) s → Cap (charged_more s g) s
capped_more s g tree plain on a =
    all_zip (λ h. charged_of s h.number ≤ h.allowance) (λ h. shoen_at h.number s.shoens ≡ Some h) (λ h. charged_more s g h.number ≤ h.allowance)
    (λ h e found. more_case (is_on_path s.shoens h.number g.shoen) (charged_of s h.number) h.allowance e (λ path. enabled_has_allowance s g plain on h.number h path found))
    s.shoens a (all_found 0 s.shoens tree.numbered)

new_case : (c : Bool) (x : ℕ) → c ≡ false → x ≡ 0 → (if c then 1 else 0) + x ≡ 0
new_case true x e f = absurd (true≢false e)
new_case false x e f = omega (arith, f)

new_free : (s : State) (g : Goal) → IsTree s → g.shoen ≤ s.last_shoen → charged_more s g (suc s.last_shoen) ≡ 0
new_free s g tree few =
    new_case (is_on_path s.shoens (suc s.last_shoen) g.shoen) (charged_of s (suc s.last_shoen)) (above_path (parents_of s.shoens) tree.lower g.shoen g.shoen (suc s.last_shoen) (omega (arith, few)))
    (not_charged s (suc s.last_shoen) tree (omega arith))

moving_within : (s : State) (r : Bool) (g : Goal) (t : Term) (m : Move) → IsTree s → g.shoen ≤ s.last_shoen → is_monitor g.task ≡ false → is_enabled s g ≡ true → IsWithin s → IsWithin (acted g (moves t m) (with_reduction r s))
moving_within s r g t m tree few plain on w =
    let e = with_reduction r s in
    let entered = kept_tree s e (with_reduction_keeps r s) tree in
    let worked = charge g.shoen (without_goal g.number e) in
    let end = acted g (moves t m) e in
    let charges = (acted_move g t m e few entered).1 in
    let capped = cap_settle_charged (charged_more s g) g.shoen (moved g t m worked) (cap_moved (charged_more s g) g t m worked (new_free s g tree few) (capped_more s g tree plain on w.capped)) in
    record {
      capped = all_weaker (λ h. charged_more s g h.number ≤ h.allowance) (λ h. charged_of end h.number ≤ h.allowance) (λ h p. let x = charges h.number in omega (arith, x, p)) end.shoens capped;
    }

reading_within : (s : State) (r : Bool) (g : Goal) (c : Control) → IsWithin s → IsWithin (acted g (reads c) (with_reduction r s))
reading_within s r g c w =
    let e = with_reduction r s in
    let end = acted g (reads c) e in
    let keeps = acted_reading g c e in
    let capped = cap_settle (charged_of s) g.shoen (heard g.shoen c e) (cap_heard (charged_of s) g.shoen c e w.capped) in
    record {
      capped = all_weaker (λ h. charged_of s h.number ≤ h.allowance) (λ h. charged_of end h.number ≤ h.allowance) (λ h p. let x = charged_kept e end h.number keeps in omega (arith, x, p)) end.shoens capped;
    }

start_within : (s : State) (allowance low high : ℕ) (t : Term) → IsTree s → IsWithin s → IsWithin (with_entry (start_goal s allowance low high t))
start_within s allowance low high t tree w =
    let h = begun_shoen s allowance low high t in
    let goal = with_next_variables s.last_variable t in
    let u = begun s t in
    let end = start_goal s allowance low high t in
    let follows = opening_follows 0 h goal u refl (λ few. few) in
    let capped = cap_open (charged_of s) h goal u (not_charged s h.number tree (omega arith)) w.capped in
    record {
      capped = all_weaker (λ k. charged_of s k.number ≤ k.allowance) (λ k. charged_of end k.number ≤ k.allowance) (λ k p. let x = charged_among s end follows.more k.number tree follows.parents follows.work in omega (arith, x, p)) end.shoens capped;
    }

cap_sent : (b : ℕ → ℕ) (n : ℕ) (m : Message) (t : Term) (s : State) → Cap b s → Cap b (sent_on n m t s)
cap_sent b n m (variable v) s a = all_map (λ h. b h.number ≤ h.allowance) (λ h. b h.number ≤ h.allowance) (λ h. if h.number == n then with_control_tail (variable (suc s.last_variable)) h else h)
    (λ h p. changed_if (h.number == n) b (with_control_tail (variable (suc s.last_variable))) h (λ k q. q) p) (map (replace_in_shoen v _) s.shoens)
    (all_map (λ h. b h.number ≤ h.allowance) (λ h. b h.number ≤ h.allowance) (replace_in_shoen v _) (λ h p. p) s.shoens a)
cap_sent b n m (integer i) s a = a
cap_sent b n m (atom c) s a = a
cap_sent b n m (structure f ts) s a = a

sent_within : (s : State) (n : ℕ) (m : Message) (t : Term) → IsWithin s → IsWithin (with_entry (sent_on n m t s))
sent_within s n m t w =
    let end = sent_on n m t s in
    let alike = alike_sent n m t s in
    record {
      capped = all_weaker (λ k. charged_of s k.number ≤ k.allowance) (λ k. charged_of end k.number ≤ k.allowance) (λ k p. let x = charged_alike s end k.number alike in omega (arith, x, p)) end.shoens (cap_sent (charged_of s) n m t s w.capped);
    }

answered_within : (s : State) (v : ℕ) (g : Given) (t : Term) → IsWithin s → IsWithin (with_entry (answered v g t s))
answered_within s v g t w =
    let end = answered v g t s in
    let alike = alike_answered v g t s in
    record {
      capped = all_weaker (λ k. charged_of s k.number ≤ k.allowance) (λ k. charged_of end k.number ≤ k.allowance) (λ k p. let x = charged_alike s end k.number alike in omega (arith, x, p)) end.shoens (replaced (charged_of s) v g.goal s w.capped);
    }

gone_capped : (b : Bool) (c : ℕ → ℕ) (h : Shoen) → c h.number ≤ h.allowance → c (if b then empty_place h else h).number ≤ (if b then empty_place h else h).allowance
gone_capped true c h e = e
gone_capped false c h e = e

gone_all : (all : List Shoen) (n : ℕ) (c : ℕ → ℕ) (hs : List Shoen) → AllByRecursion (λ (k : Shoen). c k.number ≤ k.allowance) hs → AllByRecursion (λ (k : Shoen). c k.number ≤ k.allowance) (map (gone_below all n) hs)
gone_all all n c [] a = tt
gone_all all n c (h ∷ hs) a = (gone_capped (not (is_living h.life) && is_on_path all n h.number) c h a.0, gone_all all n c hs a.1)

changed_capped : (b : Bool) (c : ℕ → ℕ) (o : Origin) (h : Shoen) → c h.number ≤ h.allowance → c (if b then with_origin o h else h).number ≤ (if b then with_origin o h else h).allowance
changed_capped true c o h e = e
changed_capped false c o h e = e

changed_all : (n : ℕ) (c : ℕ → ℕ) (o : Origin) (hs : List Shoen) → AllByRecursion (λ (k : Shoen). c k.number ≤ k.allowance) hs → AllByRecursion (λ (k : Shoen). c k.number ≤ k.allowance) (map (λ h. if h.number == n then with_origin o h else h) hs)
changed_all n c o [] a = tt
changed_all n c o (h ∷ hs) a = (changed_capped (h.number == n) c o h a.0, changed_all n c o hs a.1)

gone_capped_all : (s : State) (n count : ℕ) (o : Origin) → AllByRecursion (λ (k : Shoen). charged_of s k.number ≤ k.allowance) s.shoens → AllByRecursion (λ (k : Shoen). charged_of s k.number ≤ k.allowance) (gone n count o s).shoens
gone_capped_all s n zero o a = gone_all s.shoens n (charged_of s) s.shoens a
gone_capped_all s n (suc count) o a = changed_all n (charged_of s) (without_reports (suc count) o) s.shoens a

gone_within : (s : State) (n count : ℕ) (o : Origin) → IsWithin s → IsWithin (with_entry (gone n count o s))
gone_within s n count o w =
    let end = gone n count o s in
    record {
      capped = all_weaker (λ k. charged_of s k.number ≤ k.allowance) (λ k. charged_of end k.number ≤ k.allowance) (λ k p. let x = charged_kept s end k.number (keeps_gone n count o s) in omega (arith, x, p)) end.shoens (gone_capped_all s n count o w.capped);
    }

keeping : Keeping IsWithin
keeping = record {
  fresh = λ rules name names sessions. record { capped = tt };
  seats = λ s n w. record { capped = w.capped };
  loads = λ s source m is w. record { capped = w.capped };
  starts = λ s allowance low high t tree may room w. start_within s allowance low high t tree w;
  sends = λ s n m h o tree there is w. sent_within s n m o.control w;
  moving = λ s r n clause g t m tree there task is enabled w. moving_within s r g t m tree (found_within s.last_shoen n s.goals g there tree.owners) (ap is_monitor task) enabled w;
  substituting = λ s r n g t m tree there task is enabled w. moving_within s r g t m tree (found_within s.last_shoen n s.goals g there tree.owners) (ap is_monitor task) enabled w;
  answers = λ s n number v t h o tree there origin may room is w. answered_within s v.new (given s (Some v) t) t w;
  forgets = λ s n count h o tree there origin may w. gone_within s n count o w;
  reading = λ s r n g h c tree there found is w. reading_within s r g c w;
}

pub none_is_charged_more : NoneIsChargedMore
none_is_charged_more rules name es n h there =
    let s = reached rules name es in
    let w = holds_reached IsWithin keeping rules name es in
    subst (λ (k : ℕ). charged_of s k ≤ h.allowance) (found_number n s.shoens h there) (found_shoen (λ k. charged_of s k.number ≤ k.allowance) n s.shoens h there w.capped)
