-- Each step on the tally keeps its rule.
use Rattle.std.proofs.Common.{◌≡◌, ℕ, zero, suc, ◌+◌, ◌≤◌, Bool, List, [], ◌∷◌, ◌++◌, slice_set, refl, sym, ap, ◌∙◌, subst, inl, inr, arith}
use Rattle.std.specs.Prelude.{sum_by}
use Rattle.std.proofs.lemmas.Bool.{cases_eq}
use Rattle.kl1_tally.proofs.Numbers.{lt_or_le}
use Rattle.std.proofs.lemmas.List.Sums.{sum_by-append, sum_by_push}
use mathlib.Core.Option.{some, none, some-injective, some-ne-none}
use lib.ListN.{get_elem?}
use Rattle.atomic_table.specs.Table.{State, keeps, opening, step, Allows, Splits, Joins, Enters}
use Rattle.atomic_table.proofs.Lists.{at_set}
use Rattle.kl1_tally.specs.declared.view.View.{View}
use Rattle.kl1_tally.specs.Numbers.{up_from, same, times}
use Rattle.kl1_tally.specs.Marks.{event_of, events_at}
use Rattle.kl1_tally.specs.Views.{whole, own_part, other_part, joint_view, spent_view, CanPart}
use Rattle.kl1_tally.specs.Rule.{IsProper, Even}
use Rattle.kl1_tally.specs.Plays.{account_of, mark_of, raised, CanRaise, IsBounded, RaisesBy}
use Rattle.kl1_tally.proofs.Sums.{member_le, set_sum, alone, at_end}
use Rattle.kl1_tally.proofs.Numbers.{cut_sum, inside, outside, same_else}

-- no account has two books
pub at_most_one : (n m : ℕ) (s : State (Unit {0}) View) → Even n m s → (k : ℕ) → sum_by (λ (v : View). times k v.names) s.views ≤ 1
at_most_one n m s kept k = elim (lt_or_le k n) [ inl below ↦ omega (arith, kept.one k below) | inr above ↦ omega (arith, kept.none k above) ]

-- a view with nothing is proper
pub proper_spent : IsProper spent_view
proper_spent = record { idle = λ z. (refl, refl, refl); own = λ k z. refl }

-- the first seat alone keeps the rule
pub kept_first : (n m : ℕ) (ws : List ℕ) → Even n m (opening ws [] (whole n m))
kept_first n m ws = record {
  parts = (let e : 0 + (n + m) ≡ n + m = omega arith in e);
  even = λ h. refl;
  one = λ k below. let t = inside k 0 n (omega arith) (omega arith) in let e : 0 + times k (up_from 0 n) ≡ 1 = omega arith in e;
  none = λ k above. let t = outside k 0 n (inr (omega arith)) in let e : 0 + times k (up_from 0 n) ≡ 0 = omega arith in e;
  proper = λ id v e. only id v e;
} where
  first : IsProper (whole n m)
  first = record { idle = λ z. ((let e : n ≡ 0 = omega arith in rw e refl), refl, refl); own = λ k z. refl }

  only : (id : ℕ) (v : View) → get_elem? (whole n m ∷ []) id ≡ some v → IsProper v
  only zero v e = subst IsProper (some-injective (whole n m) v e) first
  only (suc id) v e = absurd (some-ne-none v (sym e))

-- a seat with nothing may come
pub enters : (n m slots : ℕ) → Enters {S = Unit {0}} {V = View} (Even n m) slots 0 (λ k w. w ≡ spent_view)
enters n m slots s kept len small = (
  spent_view,
  record {
    parts = more (λ v. v.parts) refl ∙ kept.parts;
    even = λ h. more (λ v. sum_by h v.amount) refl ∙ kept.even h ∙ sym (more (λ v. sum_by h v.book) refl);
    one = λ k below. more (λ v. times k v.names) refl ∙ kept.one k below;
    none = λ k above. more (λ v. times k v.names) refl ∙ kept.none k above;
    proper = λ id v e. elim (at_end s.views spent_view v id e) [ inl was ↦ kept.proper id v was | inr is ↦ subst IsProper is proper_spent ];
  },
  refl,
) where
  more : (f : View → ℕ) → f spent_view ≡ 0 → sum_by f (s.views ++ spent_view ∷ []) ≡ sum_by f s.views
  more f z = omega (arith, sum_by_push f s.views spent_view)

-- the sum over all views, one of them cut in two
cut_views : (f : View → ℕ) (views : List View) (id : ℕ) (v a b : View) → get_elem? views id ≡ some v → f a + f b ≡ f v → sum_by f (slice_set views id a ++ b ∷ []) ≡ sum_by f views
cut_views f views id v a b at e = omega (arith, sum_by_push f (slice_set views id a) b, set_sum f views id v a at)

-- a seat that is cut in two keeps the rule
pub splits : (n m id : ℕ) (v : View) → CanPart v → Splits {S = Unit {0}} {V = View} (Even n m) id v (own_part v) (other_part v)
splits n m id v can s kept at = record {
  parts = cut (λ u. u.parts) (let p = can.some in omega arith) ∙ kept.parts;
  even = λ h. cut (λ u. sum_by h u.amount) (let z : 0 + sum_by h v.amount ≡ sum_by h v.amount = omega arith in z) ∙ kept.even h ∙ sym (cut (λ u. sum_by h u.book) (let z : sum_by h v.book + 0 ≡ sum_by h v.book = omega arith in z));
  one = λ k below. cut (λ u. times k u.names) (cut_sum (same k) v.names) ∙ kept.one k below;
  none = λ k above. cut (λ u. times k u.names) (cut_sum (same k) v.names) ∙ kept.none k above;
  proper = λ j u e. elim (at_end (slice_set s.views id (own_part v)) (other_part v) u j e) [
    | inl before ↦ elim (at_set s.views id j (own_part v) u before) [
      | inl here ↦ subst IsProper here.1 first
      | inr there ↦ kept.proper j u there.1
    ]
    | inr new ↦ subst IsProper new rest
  ];
} where
  cut : (f : View → ℕ) → f (own_part v) + f (other_part v) ≡ f v → sum_by f (slice_set s.views id (own_part v) ++ other_part v ∷ []) ≡ sum_by f s.views
  cut f e = cut_views f s.views id v (own_part v) (other_part v) at e

  first : IsProper (own_part v)
  first = record { idle = λ z. absurd (omega arith); own = can.own }

  rest : IsProper (other_part v)
  rest = record { idle = λ z. let p = can.some in let l = can.last (omega arith) in (l.0, refl, l.1); own = λ k z. refl }

-- two lists that are empty
empties : {X : Type 0} (xs ys : List X) → xs ≡ [] → ys ≡ [] → xs ++ ys ≡ []
empties [] ys p q = q
empties (x ∷ xs) ys p q = cc

-- two seats that are made one keep the rule
pub joins : (n m id other : ℕ) (v w : View) → Joins {S = Unit {0}} {V = View} (Even n m) id v other w (joint_view v w) spent_view
joins n m id other v w s kept at differ e = record {
  parts = both (λ u. u.parts) refl refl ∙ kept.parts;
  even = λ h. both (λ u. sum_by h u.amount) refl (sum_by-append h v.amount w.amount) ∙ kept.even h ∙ sym (both (λ u. sum_by h u.book) refl (sum_by-append h v.book w.book));
  one = λ k below. both (λ u. times k u.names) refl (sum_by-append (same k) v.names w.names) ∙ kept.one k below;
  none = λ k above. both (λ u. times k u.names) refl (sum_by-append (same k) v.names w.names) ∙ kept.none k above;
  proper = λ j u is. elim (at_set (slice_set s.views id (joint_view v w)) other j spent_view u is) [
    | inl spent ↦ subst IsProper spent.1 proper_spent
    | inr else ↦ elim (at_set s.views id j (joint_view v w) u else.1) [
      | inl joint ↦ subst IsProper joint.1 joined
      | inr other_one ↦ kept.proper j u other_one.1
    ]
  ];
} where
  both : (f : View → ℕ) → f spent_view ≡ 0 → f (joint_view v w) ≡ f v + f w → sum_by f (slice_set (slice_set s.views id (joint_view v w)) other spent_view) ≡ sum_by f s.views
  both f z j = omega (arith, set_sum f s.views id v (joint_view v w) at, set_sum f (slice_set s.views id (joint_view v w)) other w spent_view e)

  there : get_elem? s.views other ≡ some w
  there = elim (at_set s.views id other (joint_view v w) w e) [ inl here ↦ absurd (differ here.0) | inr else ↦ else.1 ]

  joined : IsProper (joint_view v w)
  joined = record {
    idle = λ z.
        let p = (kept.proper id v at).idle (omega arith) in
        let q = (kept.proper other w there).idle (omega arith) in
        (empties v.names w.names p.0 q.0, empties v.book w.book p.1 q.1, empties v.amount w.amount p.2 q.2);
    own = λ k z.
        let t = sum_by-append (same k) v.names w.names in
        let p = (kept.proper id v at).own k (omega arith) in
        let q = (kept.proper other w there).own k (omega arith) in
        omega (arith, sum_by-append (event_of k) v.book w.book);
  }

-- an account that a view doesn't have isn't its first
other_account : (a k : ℕ) (names : List ℕ) → times a names ≡ 1 → times k names ≡ 0 → same k a ≡ 0
other_account a k names one zero_times = elim (cases_eq a k) [
  | inl is ↦ absurd (let e : times a names ≡ times k names = ap (λ (x : ℕ). times x names) is in omega arith)
  | inr not ↦ same_else k a not
]

-- a step that counts an event keeps the rule
pub raises : (n m slots id : ℕ) (up : Bool) (v : View) (held : List (ℕ × Unit {0})) → CanRaise v
    → Allows {S = Unit {0}} {V = View} (Even n m) slots id (v, held) 0 (λ k. k) (RaisesBy up (step slots 0 0 0 none) (v, held))
raises n m slots id up v held can s kept len at small = (
  raised v up,
  keeps,
  tt,
  record {
    parts = alike (λ u. u.parts) refl ∙ kept.parts;
    even = λ h. let a = sum_by_push h v.amount (mark_of v up) in let b = sum_by_push h v.book (mark_of v up) in let e = kept.even h in
        omega (arith, set_sum (λ (u : View). sum_by h u.amount) s.views id v (raised v up) at, set_sum (λ (u : View). sum_by h u.book) s.views id v (raised v up) at);
    one = λ k below. alike (λ u. times k u.names) refl ∙ kept.one k below;
    none = λ k above. alike (λ u. times k u.names) refl ∙ kept.none k above;
    proper = λ j u e. elim (at_set s.views id j (raised v up) u e) [
      | inl here ↦ subst IsProper here.1 proper
      | inr there ↦ kept.proper j u there.1
    ];
  },
  (refl, bound),
) where
  alike : (f : View → ℕ) → f (raised v up) ≡ f v → sum_by f (slice_set s.views id (raised v up)) ≡ sum_by f s.views
  alike f e = omega (arith, set_sum f s.views id v (raised v up) at)

  proper : IsProper (raised v up)
  proper = record {
    idle = λ z. absurd (let p = can.some in omega arith);
    own = λ k z. let p = (kept.proper id v at).own k z in omega (arith, sum_by_push (event_of k) v.book (mark_of v up), other_account (account_of v) k v.names can.one z);
  }

  bound : IsBounded v
  bound =
      let a = account_of v in
      let one = at_most_one n m s kept a in
      let c = can.one in
      let books = alone (λ (u : View). times a u.names) (λ (u : View). events_at a u.book) s.views id v at (λ j w e z. (kept.proper j w e).own a z) (omega arith) in
      let total = kept.even (event_of a) in
      omega (arith, member_le (λ (u : View). events_at a u.amount) s.views id v at)
