use Rattle.std.proofs.Common.{◌≡◌, map, refl, sym, ap, ◌∙◌, subst, arith}
use Rattle.std.specs.Prelude.{All}
use Rattle.std.proofs.lemmas.List.Elements.{All-replicate}
use Rattle.kl1_tally.specs.Numbers.{up_from}
use Rattle.kl1_tally.specs.Seats.{Share, new_book, new_share}
use Rattle.kl1_pool_tickets.proofs.parts.Parts.new.Goals as goal

pub invariant_of-result : goal.invariant_of-result
invariant_of-result c =
    let id = c.in_ok-tally.tally.id in
    let t = c.in_ok-tally.ensures in
    let q = c.in_ok-queue.ensures in (
      q.1.0,
      q.1.1,
      q.3,
      t.books ∙ ap (λ n. map (new_book id) (up_from 0 n)) (sym t.tally.0),
      subst (All (λ (seat : Share). seat ≡ new_share id)) (sym t.shares) (All-replicate (λ (seat : Share). seat ≡ new_share id) c.args.shares (new_share id) refl),
      t.counts.0 ∙ sym t.tally.0,
      t.counts.1 ∙ sym t.tally.1,
      (let r = c.requires.few in let a = t.tally.0 in omega (arith, r, a)),
    )
