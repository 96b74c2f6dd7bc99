-- How a journal counts, and when it has room.
use Rattle.kl1_user_account.proofs.Words.{◌≡◌, ℕ, zero, suc, ◌≤◌, ◌==◌, not, ◌||◌, Bool, true, false, arith, nat_lt, if◌then◌else◌, refl, sym, subst, nat_le, ltb-true, ne_eqb, nat_tests, MOST_RUN, Rules, Limits, AreLow, limits_are_low, limits_of, run_after, CountsWork}
use Rattle.kl1_goals.proofs.Changing.{not_false}

-- ---- how a journal counts reductions

-- limits of whichever rules are low
pub low_limits : (rules : Rules) (most : Limits) → most ≡ limits_of rules → AreLow most
low_limits rules most e = subst (λ (l : Limits). AreLow l) (sym e) (limits_are_low rules)

-- one reduction more is counted, in a run or as an entry
pub counts_reduction : (in_run : Bool) (work after entries run : ℕ) → after ≤ suc work → CountsWork work entries run → CountsWork after (if not in_run || run_after run == 1 then suc entries else entries) (if in_run then run_after run else 0)
counts_reduction false work after entries run le w = let all = w.all in record { longest = omega arith; all = omega (arith, le, all); last = λ lt. absurd (omega (arith, lt)) }
counts_reduction true work after entries run le w = by run (nat_lt run MOST_RUN) refl w
  where
    by : (n : ℕ) (b : Bool) → nat_lt n MOST_RUN ≡ b → CountsWork work entries n → CountsWork after (if (if b then suc n else 1) == 1 then suc entries else entries) (if b then suc n else 1)
    by n false e v = let all = v.all in record { longest = omega arith; all = omega (arith, le, all); last = λ lt. omega (arith, le, all) }
    by zero true e v = let all = v.all in record { longest = omega arith; all = omega (arith, le, all); last = λ lt. omega (arith, le, all) }
    by (suc n) true e v =
        let all = v.all in
        let more = v.last (omega arith) in
        let lt = ltb-true (suc n) MOST_RUN e in
        subst (λ b. CountsWork after (if b then suc entries else entries) (suc (suc n))) (sym (ne_eqb (suc (suc n)) 1 (λ e. omega (arith, e))))
        (record { longest = omega (arith, lt); all = omega (arith, le, more, lt); last = λ l. omega (arith, le, more) })

-- of two numbers one isn't less just if the other is at most as great
pub not_less : (most n : ℕ) → nat_le most n ≡ not (nat_lt n most)
not_less most n = grind (arith, nat_tests)

-- if a journal isn't without room, it may have one entry more
pub more_entry : (entries most : ℕ) → not (nat_lt entries most) ≡ false → suc entries ≤ most
more_entry entries most e = ltb-true entries most (not_false (nat_lt entries most) e)
