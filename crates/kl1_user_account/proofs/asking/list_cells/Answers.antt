use Rattle.kl1_user_account.proofs.Words.{List, sym, ◌∙◌, subst, Known, Fits, keeps_then}
use Rattle.kl1_user_account.proofs.Listing.{listed_more}
use Rattle.kl1_user_account.proofs.asking.list_cells.Goals as goal

pub loop-left-preserved : goal.loop-left-preserved
loop-left-preserved g c =
    let i = c.loop-left.invariant in
    let p = c.in_ok-text.ensures in
    record {
      listing =
          listed_more _ c.loop-left.at c.loop-left.left c.loop-left.listed c.push.new.self c.in_ok-text.text.items (c.in-Some.element, c.in-Some.rest) i.listing c.in-Some.ensures c.loop-left-test.true c.in_ok-push.ensures.ok
          (λ f fits. p.text f (subst (λ (ks : List Known). Fits ks f) (sym i.knows) fits));
      keeps =
          keeps_then g.A.AtomSource.is_of g.A.AtomSource.place g.A.AtomSource.knows g.A.AtomSource.published c.args.names.now c.loop-left.names c.print_cell.new.names c.args.seat.now c.loop-left.seat c.print_cell.new.seat i.keeps p.keeps;
      knows = p.knows ∙ i.knows;
    }
