use Rattle.std.proofs.Common.{sym, subst}
use Rattle.kl1_codes.specs.Indexes.{Rows, IsAt, IsGap, IsInOrder, HasPut}
use Rattle.kl1_codes.proofs.Rows.{puts_over, order_over, puts_more, order_more}
use Rattle.kl1_codes.proofs.indexing.put_span.Goals as goal

pub returns-in-Ok-clause-puts : goal.returns-in-Ok-clause-puts
returns-in-Ok-clause-puts c =
    puts_over c.args.index.now.items c.args.key c.in-Ok.place c.args.span c.requires.order (subst (λ (l : Rows). IsAt l c.args.key c.in-Ok.place) c.deref.ensures.value c.in-Ok.ensures.found)

pub returns-in-Ok-clause-order : goal.returns-in-Ok-clause-order
returns-in-Ok-clause-order c =
    order_over c.args.index.now.items c.args.key c.in-Ok.place c.args.span c.requires.order (subst (λ (l : Rows). IsAt l c.args.key c.in-Ok.place) c.deref.ensures.value c.in-Ok.ensures.found)

pub returns-in-Ok-insert-clause-puts : goal.returns-in-Ok-insert-clause-puts
returns-in-Ok-insert-clause-puts c =
    let gap = subst (λ (l : Rows). IsGap l c.args.key c.in-Err.place) c.deref.ensures.value c.in-Err.ensures.absent in
    subst (λ (l : Rows). HasPut c.args.index.now.items l c.args.key c.args.span) (sym c.in-Ok-insert.ensures.items) (puts_more c.args.index.now.items c.args.key c.in-Err.place c.args.span gap)

pub returns-in-Ok-insert-clause-order : goal.returns-in-Ok-insert-clause-order
returns-in-Ok-insert-clause-order c =
    let gap = subst (λ (l : Rows). IsGap l c.args.key c.in-Err.place) c.deref.ensures.value c.in-Err.ensures.absent in
    subst (λ (l : Rows). IsInOrder l) (sym c.in-Ok-insert.ensures.items) (order_more c.args.index.now.items c.args.key c.in-Err.place c.args.span c.requires.order gap)
