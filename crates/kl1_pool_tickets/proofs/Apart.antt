-- Taking shares apart, and tickets out of the queue.
use Rattle.std.proofs.Common.{◌≡◌, ℕ, ◌+◌, ◌<◌, ◌≤◌, ◌^◌, List, [], ◌∷◌, ◌++◌, slice_index, refl, ap, ◌∙◌, arith}
use Rattle.std.proofs.lemmas.List.Sums.{sum_by-append, sum_by_push}
use Rattle.std.proofs.Common.{length-append}
use Rattle.kl1_tally.specs.declared.amounts.TheConstants.{MOST_ACCOUNTS}
use Rattle.kl1_tally.specs.Numbers.{same, times}
use Rattle.kl1_tally.proofs.Numbers.{same_here}
use Rattle.kl1_tally.specs.Seats.{Share}
use Rattle.kl1_pool_tickets.specs.declared.ticket_history.TicketHistory.{TicketHistory}
use Rattle.kl1_pool_tickets.specs.Histories.{history, all_parts, HasAll}
use Rattle.kl1_pool_tickets.specs.Counts.{Counts, Keeps}
use Rattle.kl1_pool_tickets.specs.Totals.{TookIn}

-- of an account no more tickets are counted than were put
pub has_room : (v w first : TicketHistory) (x left : ℕ) → w ≡ history v.parts v.put (v.taken ++ x ∷ []) → v.parts ≡ all_parts → HasAll w → v.put ≡ first.put → times x first.put < 2 ^ 127 → times x v.taken ≡ times x first.taken + left → left + 1 < 2 ^ 128
has_room v w first x left is all has put few counted =
    let h : times x w.taken ≤ times x w.put = has (ap (λ (u : TicketHistory). u.parts) is ∙ all) (same x) in
    let t : times x w.taken ≡ times x (v.taken ++ x ∷ []) = ap (λ (u : TicketHistory). times x u.taken) is in
    let p : times x w.put ≡ times x first.put = ap (λ (u : TicketHistory). times x u.put) is ∙ ap (times x) put in
    omega (arith, sum_by_push (same x) v.taken x, same_here x x refl)

-- one share more is taken apart
pub took_share : (all left : List Counts) (seats : List Share) (before v w after : TicketHistory) (puts takes more_puts more_takes : List ℕ) (c : Counts) (seat : Share)
    → TookIn all (left ++ c ∷ []) seats before v puts takes
    → Keeps c.puts c.takes w
    → w.parts ≡ 1
    → after ≡ history (v.parts + w.parts) (v.put ++ w.put) (v.taken ++ w.taken)
    → ((k : ℕ) → k < MOST_ACCOUNTS → slice_index more_puts k ≡ slice_index puts k + slice_index c.puts k)
    → ((k : ℕ) → k < MOST_ACCOUNTS → slice_index more_takes k ≡ slice_index takes k + slice_index c.takes k)
    → seat.events ≡ c.events → seat.steps ≡ c.steps
    → TookIn all left (seats ++ seat ∷ []) before after more_puts more_takes
took_share all left seats before v w after puts takes more_puts more_takes c seat t keeps one is added_puts added_takes events steps = record {
  parts = (let p = t.parts in let l = length-append left (c ∷ []) in let a : after.parts ≡ v.parts + w.parts = ap (λ (u : TicketHistory). u.parts) is in omega arith);
  count = (let n = t.count in let l = length-append left (c ∷ []) in let m = length-append seats (seat ∷ []) in omega arith);
  events = λ k.
      let e = t.events k in
      let s : slice_index seat.events k ≡ slice_index c.events k = ap (λ (l : List ℕ). slice_index l k) events in
      omega (arith, sum_by_push (λ (s : Share). slice_index s.events k) seats seat, sum_by_push (λ (c : Counts). slice_index c.events k) left c);
  steps = λ k.
      let e = t.steps k in
      let s : slice_index seat.steps k ≡ slice_index c.steps k = ap (λ (l : List ℕ). slice_index l k) steps in
      omega (arith, sum_by_push (λ (s : Share). slice_index s.steps k) seats seat, sum_by_push (λ (c : Counts). slice_index c.steps k) left c);
  puts_are = λ k b. let e = t.puts_are k b in let a = added_puts k b in omega (arith, sum_by_push (λ (c : Counts). slice_index c.puts k) left c);
  takes_are = λ k b. let e = t.takes_are k b in let a = added_takes k b in omega (arith, sum_by_push (λ (c : Counts). slice_index c.takes k) left c);
  put = λ k b.
      let e = t.put k b in
      let a = added_puts k b in
      let h = keeps.put_are k b in
      let p : times k after.put ≡ times k (v.put ++ w.put) = ap (λ (u : TicketHistory). times k u.put) is in
      omega (arith, sum_by-append (same k) v.put w.put);
  taken = λ k b.
      let e = t.taken k b in
      let a = added_takes k b in
      let h = keeps.take_are k b in
      let p : times k after.taken ≡ times k (v.taken ++ w.taken) = ap (λ (u : TicketHistory). times k u.taken) is in
      omega (arith, sum_by-append (same k) v.taken w.taken);
  few_puts = λ k b. let e = t.few_puts k b in let a = added_puts k b in let h = keeps.put_few k b in let m = length-append seats (seat ∷ []) in omega arith;
  few_takes = λ k b. let e = t.few_takes k b in let a = added_takes k b in let h = keeps.take_few k b in let m = length-append seats (seat ∷ []) in omega arith;
}
