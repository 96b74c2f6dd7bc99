-- What follows of the rule of the tally, and of the kinds of step.
use Rattle.std.proofs.Common.{◌≡◌, ℕ, ◌+◌, ◌-◌, ◌<◌, Bool, refl, arith}
use Rattle.std.specs.Prelude.{sum_by}
use Rattle.std.proofs.lemmas.List.Sums.{sum_by-append, sum_by_push}
use mathlib.Core.Option.{some}
use lib.ListN.{get_elem?}
use Rattle.atomic_table.specs.Table.{State}
use Rattle.kl1_tally.specs.declared.view.View.{View}
use Rattle.kl1_tally.specs.Numbers.{same, times}
use Rattle.kl1_tally.specs.Marks.{event_of, step_of, events_at, steps_at}
use Rattle.kl1_tally.specs.Views.{own_part, other_part, joint_view}
use Rattle.kl1_tally.specs.Rule.{Even}
use Rattle.kl1_tally.specs.Plays.{mark_of, raised}
use Rattle.kl1_tally.specs.Laws.{HasBook, AddsUp, CountsOne, IsMadeOf}
use Rattle.kl1_tally.proofs.Sums.{none_weighs, alone}
use Rattle.kl1_tally.proofs.Numbers.{cut_sum}
use Rattle.kl1_tally.proofs.Steps.{at_most_one}
use Rattle.kl1_tally.proofs.Raising.{steps_le}
use Rattle.kl1_tally.proofs.Adding.{there, found}

module _ (n m : ℕ) (s : State (Unit {0}) View) (kept : Even n m s) where
  -- a seat that has an account's book has all that stands in books of the account
  has_book : (k id : ℕ) (v : View) → get_elem? s.views id ≡ some v → 0 < times k v.names → HasBook k s v
  has_book k id v at more =
      let one = at_most_one n m s kept k in
      let events = alone (λ (u : View). times k u.names) (λ (u : View). events_at k u.book) s.views id v at (λ j w e z. (kept.proper j w e).own k z) (omega arith) in
      let steps = alone (λ (u : View). times k u.names) (λ (u : View). steps_at k u.book) s.views id v at (λ j w e z. let o = (kept.proper j w e).own k z in omega (arith, steps_le k w.book)) (omega arith) in
      let names = alone (λ (u : View). times k u.names) (λ (u : View). times k u.names) s.views id v at (λ j w e z. z) (omega arith) in
      record {
        one = omega arith;
        events = (let e = kept.even (event_of k) in omega arith);
        steps = (let e = kept.even (step_of k) in omega arith);
      }

  -- the rule adds up
  pub adds_up : AddsUp n m s
  adds_up = record {
    book = λ k below.
        let o = kept.one k below in
        let f = found (λ (u : View). times k u.names) s.views (omega arith) in
        let at = there s.views f.0 f.1 f.2 in
        (f.0, f.1, at, has_book k f.0 f.1 at f.3);
    once = λ k. at_most_one n m s kept k;
    none = λ k above.
        let e = kept.even (event_of k) in
        let z = none_weighs (λ (u : View). times k u.names) (λ (u : View). events_at k u.book) s.views (λ j w at z. (kept.proper j w at).own k z) (kept.none k above) in
        omega arith;
    own = λ id v k at z. (kept.proper id v at).own k z;
    parts = kept.parts;
    idle = λ id v at z. (kept.proper id v at).idle z;
  }

-- a view with one mark more
pub counts_one : (up : Bool) (v : View) → CountsOne up v (raised v up)
counts_one up v = record {
  parts = refl;
  names = refl;
  book = λ h. sum_by_push h v.book (mark_of v up);
  amount = λ h. sum_by_push h v.amount (mark_of v up);
}

-- a view that is cut in two
pub cut_keeps : (v : View) → IsMadeOf v (own_part v) (other_part v)
cut_keeps v = record {
  parts = λ some_part. (let e : v.parts ≡ 1 + (v.parts - 1) = omega arith in e);
  names = λ k. (let c = cut_sum (same k) v.names in omega arith);
  book = λ h. (let e : sum_by h v.book ≡ sum_by h v.book + 0 = omega arith in e);
  amount = λ h. (let e : sum_by h v.amount ≡ 0 + sum_by h v.amount = omega arith in e);
}

-- two views that are made one
pub join_keeps : (v w : View) → IsMadeOf (joint_view v w) v w
join_keeps v w = record {
  parts = λ some_part. refl;
  names = λ k. sum_by-append (same k) v.names w.names;
  book = λ h. sum_by-append h v.book w.book;
  amount = λ h. sum_by-append h v.amount w.amount;
}
