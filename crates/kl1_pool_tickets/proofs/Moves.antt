-- Each call on the queue keeps its rule.
use Rattle.std.proofs.Common.{◌≡◌, ℕ, zero, suc, ◌+◌, ◌-◌, ◌<◌, List, [], ◌∷◌, ◌++◌, slice_set, refl, sym, ap, ◌∙◌, inl, inr, arith}
use Rattle.std.specs.Prelude.{sum_by}
use Rattle.std.proofs.lemmas.Bool.Decides.{nat_tests}
use Rattle.std.proofs.lemmas.List.Sums.{sum_by-append, sum_by-cons, sum_by_push}
use mathlib.Core.Option.{some, some-injective, some-ne-none}
use lib.ListN.{get_elem?}
use Rattle.crossbeam_queue.specs.Fifo.{Pushes, Pops, Forks, Merges, Learns}
use Rattle.crossbeam_queue.proofs.Lists.{at_set}
use Rattle.kl1_tally.specs.declared.amounts.TheConstants.{MOST_ACCOUNTS}
use Rattle.kl1_pool_tickets.specs.declared.ticket_history.TicketHistory.{TicketHistory}
use Rattle.kl1_pool_tickets.specs.Histories.{history, all_parts, beyond, Balanced, HasAll}
use Rattle.kl1_tally.proofs.Sums.{set_sum, alone, at_end}

-- the first pass alone keeps the rule
pub begins : Balanced [] (history all_parts [] [] ∷ [])
begins = record { parts = refl; even = λ h. refl; fits = refl; idle = λ id v e z. only id v e z } where
  only : (id : ℕ) (v : TicketHistory) → get_elem? (history all_parts [] [] ∷ []) id ≡ some v → v.parts ≡ 0 → (v.put ≡ []) × (v.taken ≡ [])
  only zero v e z = absurd (let p : all_parts ≡ v.parts = ap (λ (u : TicketHistory). u.parts) (some-injective (history all_parts [] []) v e) in omega arith)
  only (suc id) v e z = absurd (some-ne-none v (sym e))

-- an account's number isn't beyond
pub within : (x : ℕ) → x < MOST_ACCOUNTS → beyond x ≡ 0
within x b = grind (arith, nat_tests)

-- what isn't beyond is an account's number
pub is_within : (x : ℕ) → beyond x ≡ 0 → x < MOST_ACCOUNTS
is_within x z = grind (arith, nat_tests)

-- a changed view among others that stay idle where they were
idle_set : (views : List TicketHistory) (id : ℕ) (w : TicketHistory) → 0 < w.parts → ((j : ℕ) (v : TicketHistory) → get_elem? views j ≡ some v → v.parts ≡ 0 → (v.put ≡ []) × (v.taken ≡ []))
    → (j : ℕ) (v : TicketHistory) → get_elem? (slice_set views id w) j ≡ some v → v.parts ≡ 0 → (v.put ≡ []) × (v.taken ≡ [])
idle_set views id w some_part idle j v e z = elim (at_set views id j w v e) [
  | inl here ↦ absurd (let p : v.parts ≡ w.parts = ap (λ (u : TicketHistory). u.parts) (sym here.1) in omega arith)
  | inr there ↦ idle j v there.1 z
]

-- a ticket is put
pub puts : (n id : ℕ) (v : TicketHistory) (x : ℕ) → 0 < v.parts → x < MOST_ACCOUNTS → Pushes Balanced n id v x (λ w. w ≡ history v.parts (v.put ++ x ∷ []) v.taken)
puts n id v x some_part b items views room kept at =
    let w : TicketHistory = history v.parts (v.put ++ x ∷ []) v.taken in (
      w,
      record {
        parts = (let s = set_sum (λ (u : TicketHistory). u.parts) views id v w at in let p = kept.parts in omega arith);
        even = λ h.
            let s = set_sum (λ (u : TicketHistory). sum_by h u.put) views id v w at in
            let t = set_sum (λ (u : TicketHistory). sum_by h u.taken) views id v w at in
            let p = kept.even h in
            omega (arith, sum_by_push h v.put x, sum_by_push h items x);
        fits = (let p = kept.fits in omega (arith, sum_by_push beyond items x, within x b));
        idle = idle_set views id w some_part kept.idle;
      },
      refl,
    )

-- a pass with all parts knows what the queue holds
pub learns : (id : ℕ) (v : TicketHistory) → Learns Balanced id v (λ items. v.parts ≡ all_parts → (h : ℕ → ℕ) → sum_by h v.put ≡ sum_by h v.taken + sum_by h items)
learns id v items views kept at all h =
    let p = kept.parts in
    let put = alone (λ (u : TicketHistory). u.parts) (λ (u : TicketHistory). sum_by h u.put) views id v at (λ j w e z. ap (sum_by h) (kept.idle j w e z).0) (omega arith) in
    let taken = alone (λ (u : TicketHistory). u.parts) (λ (u : TicketHistory). sum_by h u.taken) views id v at (λ j w e z. ap (sum_by h) (kept.idle j w e z).1) (omega arith) in
    let e = kept.even h in
    omega arith

-- a ticket is taken
pub takes : (id : ℕ) (v : TicketHistory) → 0 < v.parts → Pops Balanced id v (λ x w. (w ≡ history v.parts v.put (v.taken ++ x ∷ [])) × (x < MOST_ACCOUNTS) × HasAll w)
takes id v some_part x items views kept at =
    let w : TicketHistory = history v.parts v.put (v.taken ++ x ∷ []) in (
      w,
      record {
        parts = (let s = set_sum (λ (u : TicketHistory). u.parts) views id v w at in let p = kept.parts in omega arith);
        even = λ h.
            let s = set_sum (λ (u : TicketHistory). sum_by h u.put) views id v w at in
            let t = set_sum (λ (u : TicketHistory). sum_by h u.taken) views id v w at in
            let p = kept.even h in
            omega (arith, sum_by_push h v.taken x, sum_by-cons h x items);
        fits = (let p = kept.fits in omega (arith, sum_by-cons beyond x items));
        idle = idle_set views id w some_part kept.idle;
      },
      (refl, is_within x (let p = kept.fits in omega (arith, sum_by-cons beyond x items)), λ all h. let l = learns id v (x ∷ items) views kept at all h in omega (arith, sum_by_push h v.taken x, sum_by-cons h x items)),
    )

-- one part is cut off
pub forks : (id : ℕ) (v : TicketHistory) → 1 < v.parts → Forks Balanced id v (history (v.parts - 1) v.put v.taken) (history 1 [] [])
forks id v more items views kept at = record {
  parts = cut (λ u. u.parts) (omega arith) ∙ kept.parts;
  even = λ h. cut (λ u. sum_by h u.put) (omega arith) ∙ kept.even h ∙ sym (ap (λ n. n + sum_by h items) (cut (λ u. sum_by h u.taken) (omega arith)));
  fits = kept.fits;
  idle = λ j u e z. elim (at_end (slice_set views id a) b u j e) [
    | inl before ↦ idle_set views id a (omega arith) kept.idle j u before z
    | inr new ↦ absurd (let p : 1 ≡ u.parts = ap (λ (y : TicketHistory). y.parts) new in omega arith)
  ];
} where
  a : TicketHistory
  a = history (v.parts - 1) v.put v.taken

  b : TicketHistory
  b = history 1 [] []

  cut : (f : TicketHistory → ℕ) → f a + f b ≡ f v → sum_by f (slice_set views id a ++ b ∷ []) ≡ sum_by f views
  cut f e = omega (arith, sum_by_push f (slice_set views id a) b, set_sum f views id v a at)

-- two passes are made one
pub merges : (id : ℕ) (v : TicketHistory) (other : ℕ) (w : TicketHistory) → 0 < v.parts → Merges Balanced id v other w (history (v.parts + w.parts) (v.put ++ w.put) (v.taken ++ w.taken)) (history 0 [] [])
merges id v other w some_part items views kept at differ e = record {
  parts = both (λ u. u.parts) refl refl ∙ kept.parts;
  even = λ h. both (λ u. sum_by h u.put) refl (sum_by-append h v.put w.put) ∙ kept.even h ∙ sym (ap (λ n. n + sum_by h items) (both (λ u. sum_by h u.taken) refl (sum_by-append h v.taken w.taken)));
  fits = kept.fits;
  idle = λ j u is z. elim (at_set (slice_set views id joint) other j spent u is) [
    | inl here ↦ (ap (λ (y : TicketHistory). y.put) (sym here.1), ap (λ (y : TicketHistory). y.taken) (sym here.1))
    | inr there ↦ idle_set views id joint (omega arith) kept.idle j u there.1 z
  ];
} where
  joint : TicketHistory
  joint = history (v.parts + w.parts) (v.put ++ w.put) (v.taken ++ w.taken)

  spent : TicketHistory
  spent = history 0 [] []

  both : (f : TicketHistory → ℕ) → f spent ≡ 0 → f joint ≡ f v + f w → sum_by f (slice_set (slice_set views id joint) other spent) ≡ sum_by f views
  both f z j = omega (arith, set_sum f views id v joint at, set_sum f (slice_set views id joint) other w spent e)
