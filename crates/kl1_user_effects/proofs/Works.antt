-- What is made of an account, one change after another.
use Rattle.kl1_user_effects.proofs.Words.{◌≡◌, ℕ, suc, ◌-◌, not, Bool, true, if◌then◌else◌, List, length, map, refl, sym, ap, ◌∙◌, arith, subst, nat_lt, find, Option, Some, None, option_map, Rules, Term, variable, replace, occurs, cell, State, limits_of, shoen_at, change_shoen, replace_in_state, has_made_last, reported_on, report, reported_at, broken_at, report_of, Reads, CellName, Cell, Variable, Held, IsIn, Grown, Told, Dropped, Broken, Sent, Breaks, ToldAs, Shoen, has_number, changed, Numbered, Reading, built, Means, meaning, shoen_with, state_with, AreOwned, IsShoenIn, Made, worked, IsMadeIn, Knows, Turns, or_from, cases_Bool, false, inl, inr, is_reported, is_reported_at, is_reported_of, unheard, torn, Atom, EmptyList, nil, ◌||◌}
use Rattle.kl1_model.specs.State as model
use Rattle.kl1_user_effects.proofs.Leaving.{left_means, broken_as, torn_read, torn_in}
use Rattle.kl1_user_effects.proofs.States.{Agree, same_state, replaced_state, found_in, changed_in, changed_count, in_grown, goals_in_by, shoens_in_by, shoens_changed}
use Rattle.std.specs.Prelude.{is_some}

-- ---- changes one after another

pub turns_then : (ms : List Numbered) (f g : Reading → State → State) (h k l : Held CellName) (a b c : Made) → Turns ms f h k a b → Turns ms g k l b c → Turns ms (λ r s. g r (f r s)) h l a c
turns_then ms f g h k l a b c p q = record {
  inside = q.inside;
  states = λ r knows s. ap (g r) (p.states r knows s) ∙ q.states r knows s;
}

pub turns_as : (ms : List Numbered) (f g : Reading → State → State) (h k : Held CellName) (a b : Made) → ((r : Reading) → Knows ms r → (s : State) → g r (worked r s h a) ≡ f r (worked r s h a)) → Turns ms f h k a b → Turns ms g h k a b
turns_as ms f g h k a b e p = record { inside = p.inside; states = λ r knows s. e r knows s ∙ p.states r knows s }

-- nothing has come on
pub turns_none : (ms : List Numbered) (f : Reading → State → State) (h : Held CellName) (a : Made) → IsMadeIn h a → ((r : Reading) → Knows ms r → (s : State) → f r (worked r s h a) ≡ worked r s h a) → Turns ms f h h a a
turns_none ms f h a i e = record { inside = i; states = e }

-- ---- shoens at work

-- a state but for its goals, its shoens and its last variable
abbrev pub base : State → Made → State
base s w = record s { rules = w.rules; work = w.work; names = w.names; last_goal = w.last_goal; last_shoen = length w.shoens; variables = w.variables; nodes = w.nodes; reports = w.reports }

-- the state that is worked on, by how cells are read
abbrev pub read_as : State → Means → ℕ → Made → State
read_as s t last w = state_with (base s w) t last w.goals w.shoens

-- shoen `n` is found
pub finds : (s : State) (t : Means) (last : ℕ) (w : Made) (n : ℕ) (o : Option (Shoen CellName)) → find (has_number n) w.shoens ≡ o → shoen_at n (read_as s t last w).shoens ≡ option_map (shoen_with t) o
finds s t last w n o e = found_in t n w.shoens ∙ ap (option_map (shoen_with t)) e

-- what is made with shoens of which one is changed
abbrev pub with_changed : ℕ → (Shoen CellName → Shoen CellName) → Made → Made
with_changed n f w = record w { shoens = changed n f w.shoens }

-- a change of a shoen
pub changes : (s : State) (t : Means) (last : ℕ) (w : Made) (n : ℕ) (f : Shoen CellName → Shoen CellName) (g : model.Shoen → model.Shoen) → ((h : Shoen CellName) → g (shoen_with t h) ≡ shoen_with t (f h)) →
    change_shoen n g (read_as s t last w) ≡ read_as s t last (with_changed n f w)
changes s t last w n f g e =
    ap (λ (xs : List model.Shoen). let z : State = record (read_as s t last w) { shoens = xs } in z) (changed_in t n f g e w.shoens)
    ∙ ap (λ c. let z : State = record (read_as s t last w) { shoens = map (shoen_with t) (changed n f w.shoens); last_shoen = c } in z) (sym (changed_count n f w.shoens))

-- what is made still has the cells of the store
pub changed_made : (h : Held CellName) (w : Made) (n : ℕ) (f : Shoen CellName → Shoen CellName) → ((s : Shoen CellName) → IsShoenIn h s → IsShoenIn h (f s)) → IsMadeIn h w → IsMadeIn h (with_changed n f w)
changed_made h w n f e i =
    record { some = i.some; goals = i.goals; shoens = shoens_changed h n f e w.shoens i.shoens; owned = subst (λ c. AreOwned c w.goals) (sym (changed_count n f w.shoens)) i.owned }

pub grown_made : (h k : Held CellName) (w : Made) → Grown h k → IsMadeIn h w → IsMadeIn k w
grown_made h k w g i = let a = i.some in let b = g.variables in record { some = omega arith; goals = goals_in_by h k (in_grown h k g) w.goals i.goals; shoens = shoens_in_by h k (in_grown h k g) w.shoens i.shoens; owned = i.owned }

-- a change of a shoen turns the state as the definitions' does
pub changed_turns_by : (ms : List Numbered) (h : Held CellName) (w : Made) (n : ℕ) (f : Shoen CellName → Shoen CellName) (g : model.Shoen → model.Shoen) → IsMadeIn h w → ((s : Shoen CellName) → IsShoenIn h s → IsShoenIn h (f s)) →
    ((r : Reading) → Reads built r → (s : Shoen CellName) → g (shoen_with (meaning r h) s) ≡ shoen_with (meaning r h) (f s)) → Turns ms (λ r. change_shoen n g) h h w (with_changed n f w)
changed_turns_by ms h w n f g i inside same = record {
  inside = changed_made h w n f inside i;
  states = λ r knows s. changes s (meaning r h) (h.variables - 1) w n f g (same r knows.reads);
}

pub changed_turns : (ms : List Numbered) (h : Held CellName) (w : Made) (n : ℕ) (f : Shoen CellName → Shoen CellName) (g : model.Shoen → model.Shoen) → IsMadeIn h w → ((s : Shoen CellName) → IsShoenIn h s → IsShoenIn h (f s)) →
    ((r : Reading) → (s : Shoen CellName) → g (shoen_with (meaning r h) s) ≡ shoen_with (meaning r h) (f s)) → Turns ms (λ r. change_shoen n g) h h w (with_changed n f w)
changed_turns ms h w n f g i inside same = changed_turns_by ms h w n f g i inside (λ r reads. same r)

-- one way of reading cells in place of another
pub rereads : (s : State) (t u : Means) (last : ℕ) (h : Held CellName) (w : Made) → Agree h t u → IsMadeIn h w → read_as s t last w ≡ read_as s u last w
rereads s t u last h w a i = same_state (base s w) h t u last w.goals w.shoens a i.goals i.shoens

-- ---- reports

-- whether an account that keeps to these rules and has made this number of reports has made its last
abbrev pub last_made : Rules → ℕ → Bool
last_made rules made = not (nat_lt made (limits_of rules).reports)

-- a report that breaks the stream
pub broken_by : (n : ℕ) (t m : Term) (s : State) → Breaks (has_made_last s) t m → reported_at n m t s ≡ broken_at n s
broken_by n (variable v) m s e = ap (λ b. reported_on n m (if b then None else Some v) s) e
broken_by n _ m s e = refl

-- a shoen whose stream goes on with this tail
abbrev pub tailed : ℕ → Shoen CellName → Shoen CellName
tailed next h = record h { tail = Variable next }

-- what is made after a report of a shoen
abbrev pub after_report : ℕ → Made → Told → Made
after_report n w Dropped = w
after_report n w Broken = with_changed n (torn w.rules) w
after_report n w (Sent next) = record (with_changed n (tailed next) w) { reports = suc w.reports }

reports_as : (s : State) (t : Means) (last : ℕ) (w : Made) (n : ℕ) (sh : Shoen CellName) (m : Term) → find (has_number n) w.shoens ≡ Some sh →
    report n m (read_as s t last w) ≡ (if sh.is_broken then read_as s t last w else reported_at n m (t sh.tail) (read_as s t last w))
reports_as s t last w n sh m e = ap (λ o. report_of o n m (read_as s t last w)) (finds s t last w n (Some sh) e)

pub next_in : (h k : Held CellName) (next : ℕ) → next ≡ h.variables → k.variables ≡ suc h.variables → IsIn k (Variable next)
next_in h k next a b = omega arith

report_states : (h k : Held CellName) (w : Made) (n : ℕ) (sh : Shoen CellName) (m : Cell CellName) (told : Told) → IsMadeIn h w → find (has_number n) w.shoens ≡ Some sh →
    ToldAs built h k sh.tail sh.is_broken (last_made w.rules w.reports) m told → (f : Reading) → Reads built f → (s : State) → report n (meaning f h m) (worked f s h w) ≡ worked f s k (after_report n w told)
report_states h k w n sh m Dropped i e d f reads = λ s.
    let S = read_as s (meaning f h) (h.variables - 1) w in
    reports_as s (meaning f h) (h.variables - 1) w n sh (meaning f h m) e
    ∙ ap (λ b. if b then S else reported_at n (meaning f h m) (meaning f h sh.tail) S) d.0
    ∙ ap (λ (x : Held CellName). worked f s x w) (sym d.1)
report_states h k w n sh m Broken i e d f reads = λ s.
    let S = read_as s (meaning f h) (h.variables - 1) w in
    reports_as s (meaning f h) (h.variables - 1) w n sh (meaning f h m) e
    ∙ ap (λ b. if b then S else reported_at n (meaning f h m) (meaning f h sh.tail) S) d.whole
    ∙ broken_by n (meaning f h sh.tail) (meaning f h m) S (d.breaks f reads)
    ∙ changes s (meaning f h) (h.variables - 1) w n (torn w.rules) (broken_as w.rules) (torn_read (meaning f h) (left_means f h reads) w.rules)
    ∙ ap (λ (x : Held CellName). worked f s x (after_report n w Broken)) (sym d.same)
report_states h k w n sh m (Sent next) i e d f reads = λ s.
    let S = read_as s (meaning f h) (h.variables - 1) w in
    let M = meaning f h m in
    let N : suc (h.variables - 1) ≡ next = let a = d.sent.next_is in let b = i.some in omega arith in
    let moved : ℕ → State = λ z. change_shoen n (λ x. record x { tail = variable z }) (record (replace_in_state d.number (cell M (variable z)) S) { last_variable = z; reports = suc w.reports }) in
    let told : State → State = λ z. change_shoen n (λ x. record x { tail = variable next }) (record z { last_variable = next; reports = suc w.reports }) in
    let more : Made = record w { reports = suc w.reports } in
    let sent = d.sent.each f reads in
    reports_as s (meaning f h) (h.variables - 1) w n sh M e
    ∙ ap (λ b. if b then S else reported_at n M (meaning f h sh.tail) S) d.whole
    ∙ ap (λ t. reported_at n M t S) (d.tail_is f)
    ∙ ap (λ b. reported_on n M (if b then None else Some d.number) S) (or_from (occurs d.number M) (last_made w.rules w.reports) sent.free d.more)
    ∙ ap moved N
    ∙ ap told (replaced_state (base s w) d.number (cell M (variable next)) (meaning f h) (h.variables - 1) w.goals w.shoens)
    ∙ ap told (rereads s (λ x. replace d.number (cell M (variable next)) (meaning f h x)) (meaning f k) (h.variables - 1) h w (λ x j. sym (sent.means x j)) i)
    ∙ changes s (meaning f k) next more n (tailed next) (λ x. record x { tail = variable next }) (λ x. ap (λ t. let z : model.Shoen = record (shoen_with (meaning f k) x) { tail = t } in z) (sym sent.tail))
    ∙ ap (λ z. read_as s (meaning f k) z (after_report n w (Sent next))) (let a = d.sent.next_is in let b = d.sent.variables in omega arith)

-- a report turns the state as the definitions' does
pub report_turns : (ms : List Numbered) (h k : Held CellName) (w : Made) (n : ℕ) (sh : Shoen CellName) (m : Cell CellName) (told : Told) → Grown h k → IsMadeIn h w → find (has_number n) w.shoens ≡ Some sh →
    ToldAs built h k sh.tail sh.is_broken (last_made w.rules w.reports) m told → Turns ms (λ f. report n (meaning f h m)) h k w (after_report n w told)
report_turns ms h k w n sh m told g i e d = record {
  inside = by_case told d;
  states = λ f knows s. report_states h k w n sh m told i e d f knows.reads s;
}
  where
    j : IsMadeIn k w
    j = grown_made h k w g i

    by_case : (r : Told) → ToldAs built h k sh.tail sh.is_broken (last_made w.rules w.reports) m r → IsMadeIn k (after_report n w r)
    by_case Dropped x = j
    by_case Broken x = changed_made k w n (torn w.rules) (torn_in w.rules k) j
    by_case (Sent next) x =
        let c = changed_made k w n (tailed next) (λ s a. record { control = a.control; tail = next_in h k next x.sent.next_is x.sent.variables; origin = a.origin; low = a.low; high = a.high }) j in
        record { some = c.some; goals = c.goals; shoens = c.shoens; owned = c.owned }

-- a report of a shoen that isn't there is none
pub no_report_turns : (ms : List Numbered) (h : Held CellName) (w : Made) (n : ℕ) (m : Cell CellName) → IsMadeIn h w → find (has_number n) w.shoens ≡ None → Turns ms (λ f. report n (meaning f h m)) h h w w
no_report_turns ms h w n m i e = turns_none ms (λ f. report n (meaning f h m)) h w i (λ f knows s. ap (λ o. report_of o n (meaning f h m) (worked f s h w)) (finds s (meaning f h) (h.variables - 1) w n None e))

-- ---- whether a report is made

no_tail : (b : Bool) (v : ℕ) → is_some (if b then None else Some v) ≡ false → b ≡ true
no_tail true v e = refl
no_tail false v e = sym e

-- one that isn't made on an unbroken stream breaks it
none_breaks : (m t : Term) (last : Bool) → is_reported_at last m t ≡ false → Breaks last t m
none_breaks m (variable v) last e = no_tail (occurs v m || last) v e
none_breaks m _ last e = tt

-- what is made by a report of shoen `n`, which may be there, that isn't made
abbrev pub with_unheard : ℕ → Option (Shoen CellName) → Made → Made
with_unheard n o w = record w { shoens = unheard w.rules n o w.shoens }

unheard_made : (h : Held CellName) (w : Made) (n : ℕ) (o : Option (Shoen CellName)) → IsMadeIn h w → IsMadeIn h (with_unheard n o w)
unheard_made h w n None i = i
unheard_made h w n (Some sh) i = elim (cases_Bool sh.is_broken) [
  | inl p ↦ rw p i
  | inr p ↦ rw p (changed_made h w n (torn w.rules) (torn_in w.rules h) i)
]

-- by what is found of the shoen
unmade_state : (s : State) (t : Means) (last : ℕ) (w : Made) (n : ℕ) (m : Term) (o : Option (Shoen CellName)) → t (Atom (built EmptyList)) ≡ nil → is_reported_of (option_map (shoen_with t) o) m (last_made w.rules w.reports) ≡ false →
    report_of (option_map (shoen_with t) o) n m (read_as s t last w) ≡ read_as s t last (with_unheard n o w)
unmade_state s t last w n m None is unmade = refl
unmade_state s t last w n m (Some sh) is unmade = elim (cases_Bool sh.is_broken) [
  | inl p ↦ rw p
  | inr p ↦
      let none : is_reported_at (last_made w.rules w.reports) m (t sh.tail) ≡ false = rw p at unmade in
      rw p (broken_by n (t sh.tail) m (read_as s t last w) (none_breaks m (t sh.tail) (last_made w.rules w.reports) none) ∙ changes s t last w n (torn w.rules) (broken_as w.rules) (torn_read t is w.rules))
]

-- a report that isn't made turns the state as the definitions' does
pub unmade_turns : (ms : List Numbered) (h : Held CellName) (w : Made) (n : ℕ) (m : Reading → Term) → IsMadeIn h w → ((f : Reading) → Knows ms f → (s : State) → is_reported n (m f) (worked f s h w) ≡ false) →
    Turns ms (λ f. report n (m f)) h h w (with_unheard n (find (has_number n) w.shoens) w)
unmade_turns ms h w n m i unmade = record {
  inside = unheard_made h w n (find (has_number n) w.shoens) i;
  states = λ f knows s.
      let t = meaning f h in
      let o = find (has_number n) w.shoens in
      ap (λ (p : Option model.Shoen). report_of p n (m f) (worked f s h w)) (found_in t n w.shoens)
      ∙ unmade_state s t (h.variables - 1) w n (m f) o (left_means f h knows.reads) (sym (ap (λ (p : Option model.Shoen). is_reported_of p (m f) (last_made w.rules w.reports)) (found_in t n w.shoens)) ∙ unmade f knows s);
}
