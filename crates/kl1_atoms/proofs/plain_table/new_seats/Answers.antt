use Rattle.std.proofs.Common.{◌≡◌, [], length, sym, ◌∙◌, subst, inl, inr, arith}
use Rattle.kl1_atoms.specs.declared.plain_seat.PlainSeat.{PlainSeat}
use Rattle.kl1_atoms.proofs.Rows.{pushed}
use Rattle.kl1_atoms.proofs.plain_table.new_seats.Goals as goal

pub loop-account-preserved : goal.loop-account-preserved
loop-account-preserved c =
    let n : length c.loop-account.seats.items ≡ c.loop-account.account = (let o = c.loop-account.seats.ok in let m = c.loop-account.invariant.count in omega (arith, o, m)) in
    record {
      room = (let r = c.push_reserved.ensures.capacity in let o = c.loop-account.invariant.room in omega (arith, r, o));
      count = (let m = c.push_reserved.ensures.len in omega (arith, m));
      each = λ k seat e. elim (pushed c.loop-account.seats.items c.in_ok-seat.seat k seat (rw c.push_reserved.ensures.items at e)) [
        | inl was ↦ c.loop-account.invariant.each k seat was
        | inr is ↦
            subst (λ (s : PlainSeat). (s.account ≡ k) × (s.used ≡ 0) × (s.known.items ≡ [])) is.1 (c.in_ok-seat.ensures.account ∙ sym (is.0 ∙ n), c.in_ok-seat.ensures.used, c.in_ok-seat.ensures.known)
      ];
    }
