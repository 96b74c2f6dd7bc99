use Rattle.std.proofs.Common.{◌+◌, sym, ap, ◌∙◌, arith}
use Rattle.kl1_reasons_items.proofs.Steps.{behind_feed, behind_other}
use Rattle.kl1_reasons_items.proofs.place.line_start.Goals as goal
use Rattle.kl1_reasons_items.proofs.place.line_start.Goals.{then-text-at-eq10, else-text-at-eq10}

pub loop-at-preserved : goal.loop-at-preserved
loop-at-preserved c =
    record {
      within = omega (arith, c.loop-at-test.true);
      here = elim c.if-text-at-eq10.branch [
        | then-text-at-eq10 w ↦ behind_feed c.args.text.now c.loop-at.at 0 c.loop-at-test.true w.if-text-at-eq10.true ∙ ap (λ n. n + 1) c.loop-at.invariant.here ∙ sym w.here-is
        | else-text-at-eq10 w ↦ behind_other c.args.text.now c.loop-at.at 0 c.loop-at-test.true w.if-text-at-eq10.false ∙ c.loop-at.invariant.here ∙ sym w.here-is
      ];
      before = elim c.if-text-at-eq10.branch [
        | then-text-at-eq10 w ↦ omega (arith, w.here-is, c.if-here-line.true)
        | else-text-at-eq10 w ↦ omega (arith, w.here-is, c.loop-at.invariant.before)
      ];
    }
