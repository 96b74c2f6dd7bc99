use Rattle.std.proofs.Common.{◌≡◌, ℕ, length, sym, ◌∙◌, subst, inl, inr, arith}
use Rattle.kl1_atoms.specs.declared.atom_seat.AtomSeat.{AtomSeat}
use Rattle.kl1_atoms.specs.Seats.{face_in, IsNewSharedSeat}
use Rattle.kl1_atoms.proofs.Rows.{pushed}
use Rattle.kl1_atoms.proofs.Seating.{range_step}
use Rattle.kl1_atoms.proofs.atom_table.AtomTable.seats.Goals as goal

pub loop-account-preserved : goal.loop-account-preserved
loop-account-preserved c =
    let n : length c.loop-account.seats.items ≡ c.loop-account.account = (let o = c.loop-account.seats.ok in let m = c.loop-account.invariant.count in omega (arith, o, m)) in
    record {
      of = c.next_seat-seat.ensures.of ∙ c.loop-account.invariant.of;
      others = c.next_seat-seat.ensures.left;
      range = (range_step c.args.self.now.entries c.args.self.now.room c.loop-account.from c.args.self.now.accounts c.loop-account.account c.loop-account-test.true c.loop-account.invariant.range).1;
      capacity = (let r = c.push_reserved.ensures.capacity in let o = c.loop-account.invariant.capacity in omega (arith, r, o));
      count = (let m = c.push_reserved.ensures.len in omega (arith, m));
      each = λ k seat e. elim (pushed c.loop-account.seats.items c.next_seat-seat.result k seat (rw c.push_reserved.ensures.items at e)) [
        | inl was ↦ c.loop-account.invariant.each k seat was
        | inr is ↦
            subst (λ (s : AtomSeat). IsNewSharedSeat c.args.self.now.table.shared.table_id s.badge.table_id c.args.self.now.accounts (face_in s.badge.views) s.account k) is.1
            (subst (λ (j : ℕ). IsNewSharedSeat c.args.self.now.table.shared.table_id c.next_seat-seat.result.badge.table_id c.args.self.now.accounts (face_in c.next_seat-seat.result.badge.views) c.next_seat-seat.result.account j) (sym (is.0 ∙ n))
            c.next_seat-seat.ensures.seat)
      ];
      room = λ k seat e. elim (pushed c.loop-account.seats.items c.next_seat-seat.result k seat (rw c.push_reserved.ensures.items at e)) [
        | inl was ↦ c.loop-account.invariant.room k seat was
        | inr is ↦ subst (λ (s : AtomSeat). (face_in s.badge.views).room ≡ c.args.self.now.room) is.1 c.next_seat-seat.ensures.room
      ];
    }

pub next_seat-seat-requires-clause-range : goal.next_seat-seat-requires-clause-range
next_seat-seat-requires-clause-range c =
    (range_step c.args.self.now.entries c.args.self.now.room c.loop-account.from c.args.self.now.accounts c.loop-account.account c.loop-account-test.true c.loop-account.invariant.range).0
