-- Tickets that are taken and served.
use Rattle.std.proofs.Common.{◌≡◌, ℕ, ◌+◌, ◌<◌, ◌≤◌, Bool, true, false, cond, List, [], ◌∷◌, ◌++◌, refl, sym, subst, arith}
use Rattle.kl1_tally.specs.declared.amounts.TheConstants.{MOST_ACCOUNTS}
use Rattle.kl1_pool_tickets.specs.declared.serving.TimeSlice.{TimeSlice}
use Rattle.kl1_pool_tickets.specs.Counts.{Counts, Moved, Acts, Serves, TakesAndServes, ServesEach, ServesTickets, Worked}
use Rattle.kl1_pool_tickets.proofs.Counting.{more_by, moved_moved, not_moved, not_worked, worked_turn, worked_worked}

-- at most one is at most what may be put if a turn said `again`
few_if_again : (p : ℕ) (again : Bool) → again ≡ true → p ≤ 1 → p ≤ cond again 1 0
few_if_again p true is few = few
few_if_again p false is few = cc

module _ (turned : ℕ → TimeSlice → Counts → Counts → Type 0) where
  -- a turn that said `again`, and then at most one put
  pub served_again : (a : ℕ) (s : TimeSlice) (x y z : Counts) → turned a s x y → s.steps ≤ 64 → Moved a s.steps s.steps 0 0 x y → s.again ≡ true → Acts a 0 0 y z → Serves turned a s x z
  served_again a s x y z told few steps again put =
      record { between = y; puts = put.0; turn = told; steps = steps; steps_few = few; put = put.2; puts_few = few_if_again put.0 s.again again put.1 }

  -- a turn, and no put
  pub served_once : (a : ℕ) (s : TimeSlice) (x y : Counts) → turned a s x y → s.steps ≤ 64 → Moved a s.steps s.steps 0 0 x y → Serves turned a s x y
  served_once a s x y told few steps = record { between = y; puts = 0; turn = told; steps = steps; steps_few = few; put = not_moved a y; puts_few = omega arith }

  -- one ticket
  pub serves_one : (a : ℕ) (s : TimeSlice) (x y z : Counts) → a < MOST_ACCOUNTS → Moved a 0 0 0 1 x y → Serves turned a s y z → ServesTickets turned x z
  serves_one a s x y z within take serve = ((a, s) ∷ [], (z, record { between = y; within = within; take = take; serve = serve }, refl))

  -- no ticket
  pub serves_none : (x y : Counts) → y ≡ x → ServesTickets turned x y
  serves_none x y is = ([], is)

  serves_after : (ts us : List (ℕ × TimeSlice)) (x y z : Counts) → ServesEach turned ts x y → ServesEach turned us y z → ServesEach turned (ts ++ us) x z
  serves_after [] us x y z p q = subst (λ w. ServesEach turned us w z) p q
  serves_after (t ∷ ts) us x y z p q = (p.0, p.1, serves_after ts us p.0 y z p.2 q)

  -- tickets, and then others
  pub serves_more : (x y z : Counts) → ServesTickets turned x y → ServesTickets turned y z → ServesTickets turned x z
  serves_more x y z p q = (p.0 ++ q.0, serves_after p.0 q.0 x y z p.1 q.1)

  served_works : (a : ℕ) (s : TimeSlice) (x y : Counts) → TakesAndServes turned a s x y → Worked x y
  served_works a s x y t =
      let v = t.serve in
      let begun = moved_moved a 0 0 0 1 s.steps s.steps 0 0 x t.between v.between t.take v.steps in
      let all = moved_moved a (0 + s.steps) (0 + s.steps) (0 + 0) (1 + 0) 0 0 v.puts 0 x v.between y begun v.put in
      worked_turn a s.steps v.puts x y v.steps_few (most s.again v.puts v.puts_few) (record {
        events = more_by a (0 + s.steps + 0) s.steps x.events y.events (omega arith) all.events;
        steps = more_by a (0 + s.steps + 0) s.steps x.steps y.steps (omega arith) all.steps;
        puts = more_by a (0 + 0 + v.puts) v.puts x.puts y.puts (omega arith) all.puts;
        takes = more_by a (1 + 0 + 0) 1 x.takes y.takes (omega arith) all.takes;
      }) where
        most : (again : Bool) (p : ℕ) → p ≤ cond again 1 0 → p ≤ 1
        most true p few = few
        most false p few = omega arith

  each_works : (ts : List (ℕ × TimeSlice)) (x y : Counts) → ServesEach turned ts x y → Worked x y
  each_works [] x y is = subst (λ z. Worked x z) (sym is) (not_worked x)
  each_works (t ∷ ts) x y s = worked_worked x s.0 y (served_works t.0 t.1 x s.0 s.1) (each_works ts s.0 y s.2)

  -- whoever serves tickets does a worker's work
  pub serves_works : (x y : Counts) → ServesTickets turned x y → Worked x y
  serves_works x y s = each_works s.0 x y s.1
