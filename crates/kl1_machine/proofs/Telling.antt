-- What a report leaves of a machine.
use Rattle.kl1_machine.proofs.Words.{◌≡◌, ℕ, suc, ◌-◌, not, ◌&&◌, ◌||◌, Bool, true, false, if◌then◌else◌, List, [], refl, sym, ap, ◌∙◌, find, Option, Some, None, is_some, option_map, Term, variable, State, report, is_reported, close, is_reported_at, is_reported_of, close_of, Reads, CellName, Cell, Kept, Grown-same, Told, Dropped, Broken, Sent, Breaks, ToldAs, Shoen, Tree, has_number, changed, Numbered, Reading, built, meaning, shoen_with, worked, found_in, changed_count, torn, tailed, last_made, after_report, report_turns, no_report_turns, turns_none, finds, same_free, sent_free, Counts, Machine, made, IsMachine, Tells, TurnsAs, Since}
use Rattle.kl1_model.specs.declared.rules.Rules.{Rules}
use Rattle.kl1_model.specs.State as model
use Rattle.kl1_user_effects.specs.Works.{Turns}
use Rattle.kl1_machine.proofs.Keeping.{Grows, grown_machine}
use Rattle.kl1_machine.proofs.Sincing.{since_store}
use Rattle.kl1_machine.proofs.Shoens.{IsTree, IsQuiet, since_changed}

-- ---- whether a report is made

told_by : (f : Reading) (s : State) (m : Machine) (n : ℕ) (x : Term) (o : Option (Shoen CellName)) → find (has_number n) m.shoens.shoens ≡ o → is_reported n x (worked f s m.store.held (made m)) ≡ is_reported_of (option_map (shoen_with (meaning f m.store.held)) o) x (last_made m.rules m.counts.reports)
told_by f s m n x o e =
    let last = last_made m.rules m.counts.reports in
    ap (λ (p : Option model.Shoen). is_reported_of p x last) (found_in (meaning f m.store.held) n m.shoens.shoens) ∙ ap (λ (p : Option (Shoen CellName)). is_reported_of (option_map (shoen_with (meaning f m.store.held)) p) x last) e

breaks_none : (m t : Term) (last : Bool) → Breaks last t m → is_reported_at last m t ≡ false
breaks_none m (variable v) last e = ap (λ b. is_some (if b then None else Some v)) e
breaks_none m _ last e = refl

-- whether it is, by what became of it
abbrev pub is_sent : Told → Bool
is_sent (Sent next) = true
is_sent _ = false

-- what became of a report of a shoen of a machine
pub record Hears (m : Machine) (k : Kept CellName) (n : ℕ) (x : Cell CellName) (sh : Shoen CellName) (told : Told) : Type 0 where
  pub machine : IsMachine m
  pub found : find (has_number n) m.shoens.shoens ≡ Some sh
  pub grows : Grows m k
  pub told_as : ToldAs built m.store.held k.held sh.tail sh.is_broken (last_made m.rules m.counts.reports) x told

told_as : (m : Machine) (k : Kept CellName) (n : ℕ) (x : Cell CellName) (sh : Shoen CellName) (told : Told) → Hears m k n x sh told → (f : Reading) → Reads built f → (s : State) → is_reported n (meaning f m.store.held x) (worked f s m.store.held (made m)) ≡ is_sent told
told_as m k n x sh told a f reads s = told_by f s m n (meaning f m.store.held x) (Some sh) a.found ∙ by_case told a.told_as
  where
    by_case : (t : Told) → ToldAs built m.store.held k.held sh.tail sh.is_broken (last_made m.rules m.counts.reports) x t → (not sh.is_broken && is_reported_at (last_made m.rules m.counts.reports) (meaning f m.store.held x) (meaning f m.store.held sh.tail)) ≡ is_sent t
    by_case Dropped d = ap (λ b. not b && is_reported_at (last_made m.rules m.counts.reports) (meaning f m.store.held x) (meaning f m.store.held sh.tail)) d.0
    by_case Broken d =
        ap (λ b. not b && is_reported_at (last_made m.rules m.counts.reports) (meaning f m.store.held x) (meaning f m.store.held sh.tail)) d.whole
        ∙ breaks_none (meaning f m.store.held x) (meaning f m.store.held sh.tail) (last_made m.rules m.counts.reports) (d.breaks f reads)
    by_case (Sent next) d =
        ap (λ b. not b && is_reported_at (last_made m.rules m.counts.reports) (meaning f m.store.held x) (meaning f m.store.held sh.tail)) d.whole
        ∙ ap (λ (r : Term). is_reported_at (last_made m.rules m.counts.reports) (meaning f m.store.held x) r) (d.tail_is f)
        ∙ ap (λ b. is_some (if b || last_made m.rules m.counts.reports then None else Some d.number)) (d.sent.each f reads).free
        ∙ ap (λ b. is_some (if b then None else Some d.number)) d.more

-- ---- what a report leaves

-- the tree after a report, and what is counted
abbrev pub told_tree : Rules → ℕ → Told → Tree CellName → Tree CellName
told_tree rules n Dropped t = t
told_tree rules n Broken t = record t { shoens = changed n (torn rules) t.shoens }
told_tree rules n (Sent next) t = record t { shoens = changed n (tailed next) t.shoens }

abbrev pub told_counts : Told → Counts → Counts
told_counts (Sent next) c = record c { reports = suc c.reports }
told_counts _ c = c

-- a machine after a report
abbrev pub told_machine : Machine → Kept CellName → ℕ → Told → Machine
told_machine m k n told = record m { store = k; shoens = told_tree m.rules n told m.shoens; counts = told_counts told m.counts }

heard_turns : (m : Machine) (k : Kept CellName) (n : ℕ) (x : Cell CellName) (sh : Shoen CellName) (told : Told) → Hears m k n x sh told → (ms : List Numbered) → Turns ms (λ f. report n (meaning f m.store.held x)) m.store.held k.held (made m) (after_report n (made m) told)
heard_turns m k n x sh told a ms = report_turns ms m.store.held k.held (made m) n sh x told a.grows.grown a.machine.inside a.found a.told_as

pub tells : (m : Machine) (k : Kept CellName) (n : ℕ) (x : Cell CellName) (sh : Shoen CellName) (told : Told) → Hears m k n x sh told → Tells n x m (told_machine m k n told) (is_sent told)
tells m k n x sh Dropped a =
    let d = a.told_as in
    record {
      turns = heard_turns m k n x sh Dropped a;
      told_is = told_as m k n x sh Dropped a;
      dropped = λ b. rw (a.found, d.0);
      keeps = same_free m.store.held k.held m.shoens.shoens n d.1;
      machine = record { inside = (heard_turns m k n x sh Dropped a []).inside; last = a.machine.last; placed = a.machine.placed; known = a.machine.known };
      named = record { name = refl; spelled = refl };
      grown = a.grows.grown;
      count = refl;
    }
tells m k n x sh Broken a =
    let d = a.told_as in
    let count = changed_count n (torn m.rules) m.shoens.shoens in
    record {
      turns = heard_turns m k n x sh Broken a;
      told_is = told_as m k n x sh Broken a;
      dropped = λ b. rw (a.found, d.whole);
      keeps = same_free m.store.held k.held m.shoens.shoens n d.same;
      machine = record { inside = (heard_turns m k n x sh Broken a []).inside; last = a.machine.last; placed = a.machine.placed; known = a.machine.known ∙ sym count };
      named = record { name = refl; spelled = refl };
      grown = a.grows.grown;
      count = count;
    }
tells m k n x sh (Sent next) a =
    let d = a.told_as in
    let count = changed_count n (tailed next) m.shoens.shoens in
    record {
      turns = heard_turns m k n x sh (Sent next) a;
      told_is = told_as m k n x sh (Sent next) a;
      dropped = λ b. absurd (cc);
      keeps = sent_free m.store.held k.held m.shoens.shoens n sh (last_made m.rules m.counts.reports) x next a.found d;
      machine = record { inside = (heard_turns m k n x sh (Sent next) a []).inside; last = a.machine.last; placed = a.machine.placed; known = a.machine.known ∙ sym count };
      named = record { name = refl; spelled = refl };
      grown = a.grows.grown;
      count = count;
    }

-- with the tree and the count that the code has
pub tells_by : (m : Machine) (k : Kept CellName) (n : ℕ) (x : Cell CellName) (sh : Shoen CellName) (told : Told) (t : Tree CellName) → t ≡ told_tree m.rules n told m.shoens → Hears m k n x sh told → Tells n x m (record (told_machine m k n told) { shoens = t }) (is_sent told)
tells_by m k n x sh told t e a = rw e (tells m k n x sh told a)

-- what an event has done
pub since_heard : (b m : Machine) (k : Kept CellName) (n : ℕ) (x : Cell CellName) (sh : Shoen CellName) (told : Told) (t : Tree CellName) → t ≡ told_tree m.rules n told m.shoens → Hears m k n x sh told → IsTree m.shoens → Since b m → Since b (record (told_machine m k n told) { shoens = t })
since_heard b m k n x sh told t e a tree s = rw e (by_case told)
  where
    changes : (reports : ℕ) (f : Shoen CellName → Shoen CellName) → IsQuiet f → Since b (record m { store = k; shoens = record m.shoens { shoens = changed n f m.shoens.shoens }; counts = record m.counts { reports = reports } })
    changes reports f q = since_changed b (record m { store = k }) n reports f q tree (grown_machine m k a.grows a.machine) (since_store b m k a.grows s)

    by_case : (d : Told) → Since b (told_machine m k n d)
    by_case Dropped = since_store b m k a.grows s
    by_case Broken = changes m.counts.reports (torn m.rules) (record { outlines = λ h. refl; plains = λ h. refl })
    by_case (Sent next) = changes (suc m.counts.reports) (tailed next) (record { outlines = λ h. refl; plains = λ h. refl })

-- a report of a shoen that isn't there
pub tells_none : (m : Machine) (n : ℕ) (x : Cell CellName) → IsMachine m → find (has_number n) m.shoens.shoens ≡ None → Tells n x m m false
tells_none m n x i e = record {
  turns = λ ms. no_report_turns ms m.store.held (made m) n x i.inside e;
  told_is = λ f reads s. told_by f s m n (meaning f m.store.held x) None e;
  dropped = λ b. rw e;
  keeps = same_free m.store.held m.store.held m.shoens.shoens n refl;
  machine = i;
  named = record { name = refl; spelled = refl };
  grown = Grown-same m.store.held;
  count = refl;
}

-- the end of the stream of a shoen that isn't there
pub unclosed : (m : Machine) (n : ℕ) → IsMachine m → find (has_number n) m.shoens.shoens ≡ None → TurnsAs (λ f. close n) m m
unclosed m n i e = record {
  turns = λ ms. turns_none ms (λ f. close n) m.store.held (made m) i.inside (λ f knows s. ap (λ o. close_of o (worked f s m.store.held (made m))) (finds s (meaning f m.store.held) (m.store.held.variables - 1) (made m) n None e));
  machine = i;
  named = record { name = refl; spelled = refl };
}
