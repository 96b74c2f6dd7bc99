-- What refuses a letting go, and the step of one that nothing refuses.
use Rattle.kl1_user_account.proofs.Words.{◌≡◌, ℕ, zero, suc, ◌+◌, ◌-◌, ◌<◌, ◌≤◌, not, ◌&&◌, Bool, true, false, if◌then◌else◌, List, [], ◌∷◌, length, map, take, find, refl, sym, ap, ap₂, subst, eqb-true, cases_Bool, ◌∙◌, ◌⊎◌, inl, inr, arith, nat_le, nat_lt, Option, Some, None, option_map, option_and_then, unwrap_or, Rules, Term, State, shoen_at, is_living, Transition, refuse, unless, syntax, no_shoen, step, Reads, CellName, Held, Syntax, NoShoen, Goal, Origin, Shoen, shoen_in, lives_in, Reading, built, Means, meaning, origin_with, shoen_with, with_kept, found_in, kept_at, with_entry}
use Rattle.std.specs.Prelude.{IfSome, MatchOption, ◌==◌}
use Rattle.std.specs.List.{list_any}
use Rattle.std.proofs.lemmas.Bool.{ne_eqb, cases_lt, le-leb, le-ltb, lt-leb, lt-ltb}
use Rattle.kl1_model.specs.Asking.{elements_of}
use Rattle.kl1_model.specs.Event.{forget, forgot, is_full, journal_full, answer_refused}
use Rattle.kl1_model.specs.Forgetting.{waits, without_cells, without_reports, with_origin, without_shoen, gone, may_go, forget_by, forget_of, may_forget}
use Rattle.kl1_model.specs.State.{has_forgetting, change_shoen}
use Rattle.kl1_model.specs.State.{Origin as Tails}
use Rattle.kl1_model.specs.State as model
use Rattle.kl1_store.specs.declared.cell.Cell.{Cell}
use Rattle.kl1_store.specs.Held.{IsIn}
use Rattle.kl1_shoen.specs.Shoens.{AreNumbered, has_number}
use Rattle.kl1_stream.specs.Letting.{may_leave, LeavesAfter}
use Rattle.kl1_user_events.specs.declared.refusal.Refusal.TheVariants.{Answer as Unasked, Journal}
use Rattle.kl1_user_account.specs.Forgetting.{may_leave_of, with_left, ForgetsAs, LeavesReports}
use Rattle.kl1_user_account.specs.declared.forgettable.Forgetting.TheVariants.{Refused, Reports, Shoen as Whole}

-- ---- whether reports may go

-- whether that may go, or the shoen if `count` is 0
abbrev may_go_by : Bool → ℕ → Tails → Bool
may_go_by lives zero o = not lives
may_go_by lives (suc count) o =
    let there = elements_of o.reports in
    nat_lt o.forgotten (suc count) && nat_le (suc count) (o.forgotten + length there) && not (lives && list_any waits (take (suc count - o.forgotten) there))

-- both tests of a number that is beyond another
both_tests : (gone count all : ℕ) (rest : Bool) → (nat_lt gone count && nat_le count (gone + all) && rest) ≡ (nat_lt gone count && (nat_le (count - gone) all && rest))
both_tests gone count all rest = by (cases_lt gone count) (cases_lt all (count - gone))
  where
    Goal : Bool → Bool → Bool → Type 0
    Goal a b c = (a && b && rest) ≡ (a && (c && rest))

    put : (a b c : Bool) → nat_lt gone count ≡ a → nat_le count (gone + all) ≡ b → nat_le (count - gone) all ≡ c → Goal a b c → Goal (nat_lt gone count) (nat_le count (gone + all)) (nat_le (count - gone) all)
    put a b c x y z h = subst (λ p. Goal p (nat_le count (gone + all)) (nat_le (count - gone) all)) (sym x) (subst (λ p. Goal a p (nat_le (count - gone) all)) (sym y) (subst (λ p. Goal a b p) (sym z) h))

    by : (gone < count) ⊎ (count ≤ gone) → (all < count - gone) ⊎ (count - gone ≤ all) → Goal (nat_lt gone count) (nat_le count (gone + all)) (nat_le (count - gone) all)
    by (inl lt) (inl beyond) = put true false false (lt-ltb gone count lt) (lt-leb count (gone + all) (omega (arith, lt, beyond))) (lt-leb (count - gone) all beyond) refl
    by (inl lt) (inr le) = put true true true (lt-ltb gone count lt) (le-leb count (gone + all) (omega (arith, lt, le))) (le-leb (count - gone) all le) refl
    by (inr ge) e = put false (nat_le count (gone + all)) (nat_le (count - gone) all) (le-ltb gone count ge) refl refl refl

may_go_is : (f : Reading) (h : Held CellName) (o : Origin CellName) (lives : Bool) (count : ℕ) → 0 < count → may_go_by lives count (origin_with (meaning f h) o) ≡ may_leave_of f h o lives count
may_go_is f h o lives zero some = absurd (omega (arith, some))
may_go_is f h o lives (suc count) some =
    let there = elements_of (meaning f h o.reports) in
    both_tests o.forgotten (suc count) (length there) (not (lives && list_any waits (take (suc count - o.forgotten) there)))

-- ---- a shoen of which the console keeps something

module _ (s : State) (n count : ℕ) (t : Means) where
  forget_nowhere : (p : Option (Shoen CellName)) → option_and_then (λ h. h.origin) p ≡ None → forget_of s n count (option_map (shoen_with t) p) ≡ refuse s no_shoen
  forget_nowhere None q = refl
  forget_nowhere (Some h) q = ap (λ o. forget_by s n count (shoen_with t h) (option_map (origin_with t) o)) q

  abbrev after : Tails → Transition
  after o = record { state = with_entry (gone n count o s); reply = forgot }

  may_by : (h : Shoen CellName) (o : Tails) (lives : Bool) (k : ℕ) → is_living h.life ≡ lives → may_go k (shoen_with t h) o ≡ may_go_by lives k o
  may_by h o lives zero e = ap not e
  may_by h o lives (suc k) e =
      let there = elements_of o.reports in
      ap (λ b. nat_lt o.forgotten (suc k) && nat_le (suc k) (o.forgotten + length there) && not (b && list_any waits (take (suc k - o.forgotten) there))) e

  forget_there : (o : Origin CellName) (lives full may : Bool) (p : Option (Shoen CellName)) → option_and_then (λ h. h.origin) p ≡ Some o → unwrap_or (option_map (λ h. is_living h.life) p) false ≡ lives →
      is_full s ≡ full → may_go_by lives count (origin_with t o) ≡ may →
      forget_of s n count (option_map (shoen_with t) p) ≡ (if full then refuse s journal_full else (if not may then refuse s answer_refused else after (origin_with t o)))
  forget_there o lives full may None q r is can = absurd (cc)
  forget_there o lives full may (Some h) q r is can =
      let O = origin_with t o in
      ap (λ (x : Option (Origin CellName)). forget_by s n count (shoen_with t h) (option_map (origin_with t) x)) q
      ∙ (ap (λ b. if b then refuse s journal_full else (if not (may_go count (shoen_with t h) O) then refuse s answer_refused else after O)) is
      ∙ ap (λ b. if full then refuse s journal_full else (if not b then refuse s answer_refused else after O)) (may_by h O lives count r ∙ can))

-- ---- one shoen of a number

-- shoens of which none has the number
none_changed : (t : Means) (n : ℕ) (g : model.Shoen → model.Shoen) (last : ℕ) (ss : List (Shoen CellName)) → AreNumbered last ss → n ≤ last → map (λ (h : model.Shoen). if h.number == n then g h else h) (map (shoen_with t) ss) ≡ map (shoen_with t) ss
none_changed t n g last [] a le = refl
none_changed t n g last (s ∷ ss) a le =
    let m = a.0 in
    ap₂ (λ (x : model.Shoen) xs. x ∷ xs) (ap (λ b. if b then g (shoen_with t s) else shoen_with t s) (ne_eqb s.number n (λ x. omega (arith, m, le, x)))) (none_changed t n g (suc last) ss a.1 (omega (arith, le)))

-- two changes that are the same of what the console keeps of a shoen are the same of the shoens
changed_alike : (t : Means) (n : ℕ) (o : Origin CellName) (g k : model.Shoen → model.Shoen) → ((h : Shoen CellName) → h.origin ≡ Some o → g (shoen_with t h) ≡ k (shoen_with t h)) → (last : ℕ) (ss : List (Shoen CellName)) → AreNumbered last ss → kept_at n ss ≡ Some o →
    map (λ (h : model.Shoen). if h.number == n then g h else h) (map (shoen_with t) ss) ≡ map (λ (h : model.Shoen). if h.number == n then k h else h) (map (shoen_with t) ss)
changed_alike t n o g k e last [] a kept = refl
changed_alike t n o g k e last (s ∷ ss) a kept = elim (cases_Bool (s.number == n)) [ inl p ↦ here p | inr p ↦ later p (changed_alike t n o g k e (suc last) ss a.1) ]
  where
    each : (model.Shoen → model.Shoen) → List model.Shoen
    each j = map (λ (h : model.Shoen). if h.number == n then j h else h) (map (shoen_with t) ss)

    kept_by : (b : Bool) → (s.number == n) ≡ b → option_and_then (λ (h : Shoen CellName). h.origin) (if b then Some s else find (has_number n) ss) ≡ Some o
    kept_by b p = ap (λ c. option_and_then (λ (h : Shoen CellName). h.origin) (if c then Some s else find (has_number n) ss)) (sym p) ∙ kept

    here : (s.number == n) ≡ true → ((if s.number == n then g (shoen_with t s) else shoen_with t s) ∷ each g) ≡ ((if s.number == n then k (shoen_with t s) else shoen_with t s) ∷ each k)
    here p =
        let same = eqb-true s.number n p in
        let m = a.0 in
        let le : n ≤ suc last = omega (arith, same, m) in
        ap₂ (λ (x : model.Shoen) xs. x ∷ xs)
        (ap (λ b. if b then g (shoen_with t s) else shoen_with t s) p ∙ (e s (kept_by true p) ∙ ap (λ b. if b then k (shoen_with t s) else shoen_with t s) (sym p)))
        (none_changed t n g (suc last) ss a.1 le ∙ sym (none_changed t n k (suc last) ss a.1 le))

    later : (s.number == n) ≡ false → (kept_at n ss ≡ Some o → each g ≡ each k) → ((if s.number == n then g (shoen_with t s) else shoen_with t s) ∷ each g) ≡ ((if s.number == n then k (shoen_with t s) else shoen_with t s) ∷ each k)
    later p rest =
        ap₂ (λ (x : model.Shoen) xs. x ∷ xs)
        (ap (λ b. if b then g (shoen_with t s) else shoen_with t s) p ∙ ap (λ b. if b then k (shoen_with t s) else shoen_with t s) (sym p))
        (rest (kept_by false p))

-- the first reports of a shoen of which this is kept are let go
left_alike : (t : Means) (o : Origin CellName) (count : ℕ) (r : Term) (h : Shoen CellName) → h.origin ≡ Some o →
    with_origin (record { goal = t o.goal; forgotten = count; reports = r; control = t o.control }) (shoen_with t h) ≡ with_left count r (shoen_with t h)
left_alike t o count r h e =
    let H : Option (Origin CellName) → model.Shoen = λ x. with_left count r (record (shoen_with t h) { origin = option_map (origin_with t) x }) in
    ap H (sym e)

-- ---- what comes of it

module _ (rules : Rules) (h : Held CellName) (ss : List (Shoen CellName)) (full : Bool) (n count : ℕ) where
  -- by whether the rules have it, and its numbers are in range
  by_rules : (b : Bool) → (has_forgetting rules && may_forget n count) ≡ b → (f : Reading) (s : State) (goals : List (Goal CellName)) → s.rules ≡ rules → let S = with_kept f s h goals ss in
      step S (forget n count) ≡ (if b then forget_of S n count (option_map (shoen_with (meaning f h)) (shoen_in n ss)) else refuse S syntax)
  by_rules b e f s goals same =
      let S = with_kept f s h goals ss in
      ap (λ (r : Rules). if has_forgetting r && may_forget n count then forget_of S n count (shoen_at n S.shoens) else refuse S syntax) same
      ∙ (ap (λ v. if v then forget_of S n count (shoen_at n S.shoens) else refuse S syntax) e
      ∙ ap (λ z. if b then forget_of S n count z else refuse S syntax) (found_in (meaning f h) n ss))

  pub refused_syntax : (has_forgetting rules && may_forget n count) ≡ false → ForgetsAs rules h ss full n count (Refused Syntax)
  refused_syntax e f reads s goals same fulls = by_rules false e f s goals same

  pub refused_unkept : (has_forgetting rules && may_forget n count) ≡ true → kept_at n ss ≡ None → ForgetsAs rules h ss full n count (Refused NoShoen)
  refused_unkept e none f reads s goals same fulls = by_rules true e f s goals same ∙ forget_nowhere (with_kept f s h goals ss) n count (meaning f h) (shoen_in n ss) none

  -- of a shoen of which the console keeps something
  by_kept : (o : Origin CellName) (lives may : Bool) → (has_forgetting rules && may_forget n count) ≡ true → kept_at n ss ≡ Some o → lives_in ss n ≡ lives →
      (f : Reading) (s : State) (goals : List (Goal CellName)) → s.rules ≡ rules → let S = with_kept f s h goals ss in is_full s ≡ full → may_go_by lives count (origin_with (meaning f h) o) ≡ may →
      step S (forget n count) ≡ (if full then refuse S journal_full else (if not may then refuse S answer_refused else (record { state = with_entry (gone n count (origin_with (meaning f h) o) S); reply = forgot })))
  by_kept o lives may e kept lives_is f s goals same fulls can =
      by_rules true e f s goals same ∙ forget_there (with_kept f s h goals ss) n count (meaning f h) o lives full may (shoen_in n ss) kept lives_is fulls can

  pub refused_full : (o : Origin CellName) → (has_forgetting rules && may_forget n count) ≡ true → kept_at n ss ≡ Some o → full ≡ true → ForgetsAs rules h ss full n count (Refused Journal)
  refused_full o e kept is f reads s goals same fulls =
      let S = with_kept f s h goals ss in
      let lives = lives_in ss n in
      let may = may_go_by lives count (origin_with (meaning f h) o) in
      by_kept o lives may e kept refl f s goals same fulls refl
      ∙ ap (λ b. if b then refuse S journal_full else (if not may then refuse S answer_refused else (record { state = with_entry (gone n count (origin_with (meaning f h) o) S); reply = forgot }))) is

  -- one that may not go
  refused_by : (o : Origin CellName) (lives : Bool) → (has_forgetting rules && may_forget n count) ≡ true → kept_at n ss ≡ Some o → lives_in ss n ≡ lives → full ≡ false →
      ((f : Reading) → Reads built f → may_go_by lives count (origin_with (meaning f h) o) ≡ false) → ForgetsAs rules h ss full n count (Refused Unasked)
  refused_by o lives e kept lives_is is may f reads s goals same fulls =
      let S = with_kept f s h goals ss in
      by_kept o lives false e kept lives_is f s goals same fulls (may f reads)
      ∙ ap (λ b. if b then refuse S journal_full else refuse S answer_refused) is

  pub refused_living : (o : Origin CellName) → (has_forgetting rules && may_forget n count) ≡ true → kept_at n ss ≡ Some o → full ≡ false → count ≡ 0 → lives_in ss n ≡ true → ForgetsAs rules h ss full n count (Refused Unasked)
  refused_living o e kept is none lives = refused_by o true e kept lives is (λ f reads. ap (λ k. may_go_by true k (origin_with (meaning f h) o)) none)

  pub refused_left : (o : Origin CellName) (lives : Bool) → (has_forgetting rules && may_forget n count) ≡ true → kept_at n ss ≡ Some o → full ≡ false → 0 < count → lives_in ss n ≡ lives → LeavesReports h o lives count None →
      ForgetsAs rules h ss full n count (Refused Unasked)
  refused_left o lives e kept is some lives_is leaves = refused_by o lives e kept lives_is is (λ f reads. may_go_is f h o lives count some ∙ leaves f reads)

  pub goes_whole : (o : Origin CellName) → (has_forgetting rules && may_forget n count) ≡ true → kept_at n ss ≡ Some o → full ≡ false → count ≡ 0 → lives_in ss n ≡ false → ForgetsAs rules h ss full n count Whole
  goes_whole o e kept is none lives = record {
    room = is;
    none = none;
    steps = λ f reads s goals same fulls.
        let S = with_kept f s h goals ss in
        let O = origin_with (meaning f h) o in
        by_kept o false true e kept lives f s goals same fulls (ap (λ k. may_go_by false k O) none)
        ∙ (ap (λ b. if b then refuse S journal_full else (record { state = with_entry (gone n count O S); reply = forgot })) is
        ∙ ap (λ k. let z : Transition = record { state = with_entry (gone n k O S); reply = forgot } in z) none);
  }

  pub goes_in_part : (o : Origin CellName) (lives : Bool) (x : Cell CellName) → AreNumbered 0 ss → (has_forgetting rules && may_forget n count) ≡ true → kept_at n ss ≡ Some o → full ≡ false → 0 < count → lives_in ss n ≡ lives →
      LeavesReports h o lives count (Some x) → ForgetsAs rules h ss full n count (Reports x)
  goes_in_part o lives x numbered e kept is some lives_is leaves = record {
    inside = leaves.0;
    room = is;
    steps = λ f reads s goals same fulls.
        let S = with_kept f s h goals ss in
        let t = meaning f h in
        let O = origin_with t o in
        let left = leaves.1 f reads in
        let may : may_go_by lives count O ≡ true = may_go_is f h o lives count some ∙ both_true (nat_lt o.forgotten count) (may_leave lives (count - o.forgotten) (t o.reports)) left.0 left.1.may in
        let giving : Term → Transition = λ r. record { state = with_entry (change_shoen n (with_origin (record { goal = O.goal; forgotten = count; reports = r; control = O.control })) S); reply = forgot } in
        let having : List model.Shoen → Transition = λ hs. record { state = with_entry (record S { shoens = hs }); reply = forgot } in
        by_kept o lives true e kept lives_is f s goals same fulls may
        ∙ (ap (λ b. if b then refuse S journal_full else (record { state = with_entry (gone n count O S); reply = forgot })) is
        ∙ (some_gone S O count some
        ∙ (ap giving (sym left.1.left)
        ∙ ap having (changed_alike t n o (with_origin (record { goal = O.goal; forgotten = count; reports = t x; control = O.control })) (with_left count (t x)) (λ k q. left_alike t o count (t x) k q) 0 ss numbered kept))));
  }
    where
      both_true : (a b : Bool) → a ≡ true → b ≡ true → (a && b) ≡ true
      both_true a b p q = ap (λ c. c && b) p ∙ q

      some_gone : (S : State) (O : Tails) (k : ℕ) → 0 < k →
          (let z : Transition = record { state = with_entry (gone n k O S); reply = forgot } in z) ≡ (let z : Transition = record { state = with_entry (change_shoen n (with_origin (without_reports k O)) S); reply = forgot } in z)
      some_gone S O zero lt = absurd (omega (arith, lt))
      some_gone S O (suc k) lt = refl

-- what is left, by what is left of the stream
pub leaves_by : (h : Held CellName) (o : Origin CellName) (lives : Bool) (count : ℕ) (r : Option (Cell CellName)) → nat_lt o.forgotten count ≡ true → IfSome r (IsIn h) →
    ((f : Reading) → Reads built f → MatchOption r (may_leave lives (count - o.forgotten) (meaning f h o.reports) ≡ false) (LeavesAfter f h lives (count - o.forgotten) (meaning f h o.reports))) →
    LeavesReports h o lives count r
leaves_by h o lives count None more inside goes = λ f reads. ap (λ b. b && may_leave lives (count - o.forgotten) (meaning f h o.reports)) more ∙ goes f reads
leaves_by h o lives count (Some x) more inside goes = (inside, λ f reads. (more, goes f reads))
