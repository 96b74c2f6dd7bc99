-- What follows of the rule of the queue, and of the kinds of step.
use Rattle.std.proofs.Common.{◌≡◌, ℕ, ◌+◌, ◌-◌, ◌*◌, ◌≤◌, List, [], ◌∷◌, ◌++◌, refl, sym, ap, arith}
use Rattle.std.specs.Prelude.{sum_by}
use Rattle.std.proofs.lemmas.Bool.Decides.{nat_tests}
use Rattle.std.proofs.lemmas.List.Sums.{sum_by-append, sum_by-cons, sum_by_push}
use Rattle.kl1_tally.specs.declared.amounts.TheConstants.{MOST_ACCOUNTS}
use Rattle.kl1_tally.specs.Numbers.{same, times}
use Rattle.kl1_tally.proofs.Sums.{alone}
use Rattle.kl1_pool_tickets.specs.declared.ticket_history.TicketHistory.{TicketHistory}
use Rattle.kl1_pool_tickets.specs.Histories.{history, beyond, Balanced}
use Rattle.kl1_pool_tickets.specs.Laws.{PassesAddUp, PassMoved, IsMadeOf}

-- a number that is no account's is at most counted as one beyond
same_beyond : (k x : ℕ) → MOST_ACCOUNTS ≤ k → same k x ≤ beyond x
same_beyond k x above = grind (arith, nat_tests)

-- of what is no account there are at most as many as are beyond
times_beyond : (k : ℕ) (items : List ℕ) → MOST_ACCOUNTS ≤ k → times k items ≤ sum_by beyond items
times_beyond k [] above = omega arith
times_beyond k (x ∷ xs) above = omega (arith, sum_by-cons (same k) x xs, sum_by-cons beyond x xs, same_beyond k x above, times_beyond k xs above)

-- the rule adds up
pub adds_up : (items : List ℕ) (views : List TicketHistory) → Balanced items views → PassesAddUp items views
adds_up items views kept = record {
  tickets = λ k. kept.even (same k);
  few = λ k. let e = kept.even (same k) in omega arith;
  accounts = λ k above. let f = kept.fits in let t = times_beyond k items above in omega arith;
  parts = kept.parts;
  whole = λ id v at all k.
      let p = kept.parts in
      let put = alone (λ (u : TicketHistory). u.parts) (λ (u : TicketHistory). times k u.put) views id v at (λ j w e z. ap (times k) (kept.idle j w e z).0) (omega arith) in
      let taken = alone (λ (u : TicketHistory). u.parts) (λ (u : TicketHistory). times k u.taken) views id v at (λ j w e z. ap (times k) (kept.idle j w e z).1) (omega arith) in
      (sym put, sym taken);
  idle = kept.idle;
}

-- one ticket more was put
pub put_one : (v : TicketHistory) (x : ℕ) → PassMoved 1 0 x v (history v.parts (v.put ++ x ∷ []) v.taken)
put_one v x = record { parts = refl; put = λ h. (let p = sum_by_push h v.put x in omega arith); taken = λ h. (let e : sum_by h v.taken ≡ sum_by h v.taken + 0 * h x = omega arith in e) }

-- one ticket more was taken
pub take_one : (v : TicketHistory) (x : ℕ) → PassMoved 0 1 x v (history v.parts v.put (v.taken ++ x ∷ []))
take_one v x = record { parts = refl; put = λ h. (let e : sum_by h v.put ≡ sum_by h v.put + 0 * h x = omega arith in e); taken = λ h. (let p = sum_by_push h v.taken x in omega arith) }

-- a pass of which one part is cut off
pub cut_keeps : (v : TicketHistory) → IsMadeOf v (history (v.parts - 1) v.put v.taken) (history 1 [] [])
cut_keeps v = record {
  parts = λ some_part. (let e : v.parts ≡ v.parts - 1 + 1 = omega arith in e);
  put = λ h. (let e : sum_by h v.put ≡ sum_by h v.put + 0 = omega arith in e);
  taken = λ h. (let e : sum_by h v.taken ≡ sum_by h v.taken + 0 = omega arith in e);
}

-- two passes that are made one
pub join_keeps : (v w : TicketHistory) → IsMadeOf (history (v.parts + w.parts) (v.put ++ w.put) (v.taken ++ w.taken)) v w
join_keeps v w = record { parts = λ some_part. refl; put = λ h. sum_by-append h v.put w.put; taken = λ h. sum_by-append h v.taken w.taken }
