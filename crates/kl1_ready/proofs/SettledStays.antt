-- Goals that nothing woke stay as they stood.
use Rattle.kl1_ready.proofs.Words.{◌≡◌, ℕ, suc, true, false, if◌then◌else◌, List, [], ◌∷◌, map, refl, sym, ap, ◌∙◌, arith, subst, Contains, Option, Some, None, ne_eqb, Term, substituted, Replacement, awaits_message, control_of, awaited_by_control, awaited_by_found, LeavesEach, awaited_by_term, awaited_by_substitute, look_clause, control_substituted, values_of, replaced_is, substitutes_stay, term_stays, is_replaced, left_alone, control_stays, CellName, Cell, Hook, Held, IsIn, term_of, bound_since, IsFormed, Grown, is_later, Task, Monitor, Reduces, Substitutes, Goal, Shoen, shoen_in, contents, Program, HangsOnEach, Reading, meaning, task_with, aim, IsTaskIn, AreShoensIn, control_at, front_with, control_with, control_clause, awaited_by_monitor, task_clause, awaited_by_task, TaskDoes, does_stays, substitute_does_stays, IsSettled, Standing, aim_later, all_then, found_shoen_in, inl, inr, option_cases}
use Rattle.kl1_model.specs.Control.{Control}
use Rattle.kl1_model.specs.State as model
use Rattle.kl1_model.specs.State.{monitor, reduces, substitutes}

-- a number hangs on no variable of these
abbrev pub HangsOnNone : List Hook → ℕ → List ℕ → Type 0
HangsOnNone hooks n vs = (v : ℕ) → Contains vs v → Contains hooks (record { variable = v; number = n }) → ⊥

never_replaced : (rs : List Replacement) (v : ℕ) → (Contains (map (λ r. r.number) rs) v → ⊥) → is_replaced rs v ≡ false
never_replaced [] v h = refl
never_replaced (r ∷ rs) v h =
    ap (λ b. if b then true else is_replaced rs v) (ne_eqb v r.number (λ e. h (0, omega arith, sym e)))
    ∙ never_replaced rs v (λ c. h (suc c.0, omega arith, c.2))

-- a substitution that leaves each variable on which a number hangs
leaves_hung : (rs : List Replacement) (hooks : List Hook) (n : ℕ) (vs : List ℕ) → HangsOnEach hooks n vs → HangsOnNone hooks n (map (λ r. r.number) rs) → LeavesEach (values_of rs) vs
leaves_hung rs hooks n [] h free = tt
leaves_hung rs hooks n (v ∷ vs) h free = (left_alone rs v (never_replaced rs v (λ c. free v c h.0)), leaves_hung rs hooks n vs h.1 free)

-- ---- what a monitor reads

-- the cell of a shoen's control stream is of the store
pub control_in : (h : Held CellName) (shoens : List (Shoen CellName)) (n : ℕ) (x : Cell CellName) → AreShoensIn h shoens → control_at shoens n ≡ Some x → IsIn h x
control_in h shoens n x all e = elim (option_cases (shoen_in n shoens)) [
  | inl none ↦ let no : None ≡ Some x = rw none at e in absurd (cc)
  | inr some ↦ let is : Some some.0.control ≡ Some x = rw some.1 at e in subst (IsIn h) (let c : some.0.control ≡ x = cc in c) (found_shoen_in h n shoens some.0 all some.1).control
]

-- the clause of a monitor, and what it waits for, stay
front_stays : (s : ℕ → Term) (c : Control) → (control_clause (control_substituted s c) ≡ control_clause c) × (awaited_by_control (control_substituted s c) ≡ awaited_by_control c)
front_stays s (awaits_message v) = (refl, refl)
front_stays s _ = (refl, refl)

-- ---- one goal

-- a task that has become another, with this in front of it where that was, has the clause that it had, waits for what it waited for, and is
-- of the form that it was
abbrev TaskStays : Program → Option Control → Option Control → model.Task → model.Task → Type 0
TaskStays program c d t u =
    (task_clause program.rules (contents program.loaded) d u ≡ task_clause program.rules (contents program.loaded) c t)
    × (awaited_by_task program.rules (contents program.loaded) d u ≡ awaited_by_task program.rules (contents program.loaded) c t)
    × ((s : Standing) → TaskDoes program.rules t s → TaskDoes program.rules u s)

-- a monitor that hangs on no variable that was bound waits as it did
monitor_stays : (program : Program) (f : Reading) (hooks : List Hook) (old new : Held CellName) (n : ℕ) (x : Option (Cell CellName)) → IsFormed old → Grown old new → ((y : Cell CellName) → x ≡ Some y → IsIn old y) → HangsOnNone hooks n (bound_since old new) →
    HangsOnEach hooks n (awaited_by_monitor (front_with (meaning f old) x)) → TaskStays program (front_with (meaning f old) x) (front_with (meaning f new) x) monitor monitor
monitor_stays program f hooks old new n None formed grown i free hung = (refl, refl, λ s d. d)
monitor_stays program f hooks old new n (Some y) formed grown i free hung =
    let l = is_later f old new formed grown in
    let t = term_of f old y in
    let s = values_of l.replacements in
    let is : term_of f new y ≡ substituted s t = l.means y (i y refl) ∙ replaced_is l.replacements t in
    let stays : control_of (term_of f new y) ≡ control_substituted s (control_of t) =
    ap control_of is ∙ control_stays s t (leaves_hung l.replacements hooks n (awaited_by_control (control_of t)) hung (subst (HangsOnNone hooks n) (sym l.numbers) free)) in
    let front = front_stays s (control_of t) in
    (ap control_clause stays ∙ front.0, ap awaited_by_control stays ∙ front.1, λ s d. d)

-- a store has grown from one that was formed, and the shoens that were there have its cells; a goal hangs on no variable that was bound
-- since, and has the control stream before it that it had, if it's a monitor
pub record StaysAlone (hooks : List Hook) (old new : Held CellName) (before after : List (Shoen CellName)) (g : Goal CellName) : Type 0 where
  pub formed : IsFormed old
  pub grown : Grown old new
  pub inside : AreShoensIn old before
  pub same : g.task ≡ Monitor → control_at after g.shoen ≡ control_at before g.shoen
  pub free : HangsOnNone hooks g.number (bound_since old new)

-- it is settled as it was
pub stays_settled : (f : Reading) (hooks : List Hook) (old new : Held CellName) (program : Program) (before after : List (Shoen CellName)) (g : Goal CellName) → StaysAlone hooks old new before after g → IsTaskIn old g.task → IsSettled f hooks old program before g →
    IsSettled f hooks new program after g
stays_settled f hooks old new program before after g a i s =
    let r = by_task g.task refl i s.hung in
    record { standing = s.standing ∙ sym r.0; does = r.2 g.standing s.does; hung = subst (HangsOnEach hooks g.number) (sym r.1) s.hung }
  where
    by_task : (t : Task CellName) → g.task ≡ t → IsTaskIn old t → HangsOnEach hooks g.number (awaited_by_task program.rules (contents program.loaded) (control_with (meaning f old) before g.shoen) (task_with (meaning f old) t)) →
        TaskStays program (control_with (meaning f old) before g.shoen) (control_with (meaning f new) after g.shoen) (task_with (meaning f old) t) (task_with (meaning f new) t)
    by_task Monitor e i hung =
        let stays = monitor_stays program f hooks old new g.number (control_at before g.shoen) a.formed a.grown (λ y c. control_in old before g.shoen y a.inside c) a.free hung in
        subst (λ x. TaskStays program (control_with (meaning f old) before g.shoen) (front_with (meaning f new) x) monitor monitor) (sym (a.same e)) stays
    by_task (Reduces x) e i hung =
        let l = is_later f old new a.formed a.grown in
        let t = aim f old x in
        let is : aim f new x ≡ substituted (values_of l.replacements) t = aim_later f old new x l i ∙ replaced_is l.replacements t in
        let leaves = leaves_hung l.replacements hooks g.number (awaited_by_term program.rules (contents program.loaded) t) hung (subst (HangsOnNone hooks g.number) (sym l.numbers) a.free) in
        let stays = term_stays program.rules (contents program.loaded) (values_of l.replacements) t leaves in
        subst (λ u. TaskStays program None None (reduces t) (reduces u)) (sym is) (stays.0, stays.1, λ s. does_stays program.rules (contents program.loaded) (values_of l.replacements) t s leaves)
    by_task (Substitutes x) e i hung =
        let l = is_later f old new a.formed a.grown in
        let t = term_of f old x in
        let is : term_of f new x ≡ substituted (values_of l.replacements) t = l.means x i ∙ replaced_is l.replacements t in
        let leaves = leaves_hung l.replacements hooks g.number (awaited_by_substitute t) hung (subst (HangsOnNone hooks g.number) (sym l.numbers) a.free) in
        let stays = substitutes_stay (values_of l.replacements) t leaves in
        subst (λ u. TaskStays program None None (substitutes t) (substitutes u)) (sym is) (ap look_clause stays, ap awaited_by_found stays, λ s. substitute_does_stays (values_of l.replacements) t s leaves)

-- and stays so if more is hung
pub settled_more : (f : Reading) (hooks more : List Hook) (h : Held CellName) (program : Program) (shoens : List (Shoen CellName)) (g : Goal CellName) → ((k : Hook) → Contains hooks k → Contains more k) → IsSettled f hooks h program shoens g → IsSettled f more h program shoens g
settled_more f hooks more h program shoens g up s =
    let hook : ℕ → Hook = λ v. record { variable = v; number = g.number } in
    let awaited = awaited_by_task program.rules (contents program.loaded) (control_with (meaning f h) shoens g.shoen) (task_with (meaning f h) g.task) in
    record { standing = s.standing; does = s.does; hung = all_then (λ v. Contains hooks (hook v)) (λ v. Contains more (hook v)) (λ v c. up (hook v) c) awaited s.hung }
