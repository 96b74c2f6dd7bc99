use Rattle.std.proofs.Common.{◌≡◌, ◌≤◌, ◌<◌, ◌∷◌, [], ◌+◌, cond, slice_index, length, sym, ap, ◌∙◌, subst, arith}
use Rattle.kl1_tally.specs.Views.{joint_view, other_part}
use Rattle.kl1_tally.specs.Seats.{raised_at}
use Rattle.kl1_tally.specs.Plays.{raised}
use Rattle.kl1_tally.specs.Keeping.{view_in, IsShare}
use Rattle.kl1_tally.proofs.Raising.{byte_le, set_length, book_steps, steps_below, share_raised, parted_share}
use Rattle.kl1_tally.proofs.tally.Tally.raise.Goals as goal

pub overflow_add-book-2 : goal.overflow_add-book-2
overflow_add-book-2 c =
    let f : c.from.result ≤ 1 = subst (λ n. n ≤ 1) (sym c.from.ensures) (byte_le c.args.step) in
    let s = book_steps c.book.inside.badge.views c.book.inside.account c.book.inside.events c.book.inside.steps c.book.invariant.1 in
    let v : c.book.inside.events ≡ c.args.book.now.events = ap (λ b. b.events) c.book.view_is in
    let r = c.requires.room in
    omega arith

pub add-requires-clause-steps : goal.add-requires-clause-steps
add-requires-clause-steps c =
    let b = sym (ap view_in (sym (ap (λ x. x.views) c.replace.ensures.value) ∙ c.into_seat-joint.ensures.2)) in
    let s = sym (ap view_in (sym (ap (λ x. x.views) c.replace-2.ensures.value) ∙ c.into_seat-other.ensures.2)) in
    let j = ap (λ m. m.0) c.join.ensures.both ∙ ap (λ v. joint_view v c.into_seat-other.result.me.0) b ∙ ap (joint_view (view_in c.book.inside.badge.views)) s in
    let below : c.book.inside.account < length c.share.inside.amounts.steps = (let p = c.book.invariant.0 in let q = c.share.invariant.1 in omega arith) in
    let most = steps_below c.book.inside.badge.views c.share.inside.badge.views c.join.new.seat.me.0 c.book.inside.account c.book.inside.events c.book.inside.steps c.share.inside.amounts.events
    c.share.inside.amounts.steps c.book.invariant.1 c.share.invariant.2 j c.count.ensures.bound below in
    let v : c.book.inside.events ≡ c.args.book.now.events = ap (λ b. b.events) c.book.view_is in
    let r = c.requires.room in
    omega arith

pub invariant_of-share : goal.invariant_of-share
invariant_of-share c =
    let b = sym (ap view_in (sym (ap (λ x. x.views) c.replace.ensures.value) ∙ c.into_seat-joint.ensures.2)) in
    let s = sym (ap view_in (sym (ap (λ x. x.views) c.replace-2.ensures.value) ∙ c.into_seat-other.ensures.2)) in
    let j = ap (λ m. m.0) c.join.ensures.both ∙ ap (λ v. joint_view v c.into_seat-other.result.me.0) b ∙ ap (joint_view (view_in c.book.inside.badge.views)) s in
    let a = c.book.inside.account in
    let events = c.share.inside.amounts.events in
    let steps = c.share.inside.amounts.steps in
    let parted = ap (λ m. m.0) c.part-parted.ensures.other ∙ ap (λ m. other_part m.0) c.count.ensures.raised ∙ ap (λ v. other_part (raised v c.args.step)) j
    ∙ parted_share c.book.inside.badge.views c.share.inside.badge.views a c.book.inside.events c.book.inside.steps events steps c.args.step c.book.invariant.1 c.share.invariant.2 in
    let after = share_raised c.share.inside.badge.views c.into_badge-2.result.views a c.args.step events steps c.share.invariant.2 (c.into_badge-2.ensures.2 ∙ ap (λ v. v ∷ []) parted) in (
      ap length c.add.ensures.events ∙ set_length events a (slice_index events a + 1) ∙ c.share.invariant.0,
      ap length c.add.ensures.steps ∙ set_length steps a (slice_index steps a + cond c.args.step 1 0) ∙ c.share.invariant.1,
      subst (λ es. IsShare c.into_badge-2.result.views es c.add.new.self.steps) (sym c.add.ensures.events)
          (subst (λ ss. IsShare c.into_badge-2.result.views (raised_at events a 1) ss) (sym c.add.ensures.steps) after),
    )
