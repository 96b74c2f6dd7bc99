use Rattle.std.proofs.Common.{◌≡◌, suc, ◌-◌, false, sym, ap, ◌∙◌, subst, arith}
use Rattle.std.specs.Prelude.{◌&&◌, Option, MatchOption}
use Rattle.kl1_model.specs.Forgetting.{waits, without_cells}
use Rattle.kl1_store.specs.declared.cell.Cell.{Cell}
use Rattle.kl1_store.specs.Meaning.{term_of}
use Rattle.kl1_stream.specs.Letting.{may_leave, LeavesAfter}
use Rattle.kl1_stream.proofs.LettingGo.{both_true, left_false, right_false, none_to_go, none_there, first_waits, one_less, cells_less}
use Rattle.kl1_stream.proofs.letting.without_reports.Goals.{else-lives-via-then-lives+else-waits, else-lives-via-else-lives}
use Rattle.kl1_stream.proofs.letting.without_reports.Goals as goal

pub returns-in_err-report-clause-goes : goal.returns-in_err-report-clause-goes
returns-in_err-report-clause-goes g c = λ f reads.
    let h = c.args.store.now.held in
    let n = c.loop-left.left - 1 in
    let more : c.loop-left.left ≡ suc n = omega (arith, c.loop-left-test.true) in
    let all = term_of f h c.args.reports in
    let M : Option (Cell g.row.N.Denot) → Type 0 = λ o. MatchOption o (may_leave c.args.lives c.args.count all ≡ false) (LeavesAfter f h c.args.lives c.args.count all) in
    subst M (sym c.from_residual.ensures)
    (sym (c.loop-left.invariant.may f reads) ∙ (ap (λ k. may_leave c.args.lives k (term_of f h c.loop-left.at)) more ∙ none_there c.args.lives n (term_of f h c.loop-left.at) (c.in_err-report.ensures f reads)))

pub returns-then-waits-clause-goes : goal.returns-then-waits-clause-goes
returns-then-waits-clause-goes g c = λ f reads.
    let h = c.args.store.now.held in
    let n = c.loop-left.left - 1 in
    let at = term_of f h c.loop-left.at in
    let report = term_of f h c.in_ok-report.report in
    let more : c.loop-left.left ≡ suc n = omega (arith, c.loop-left-test.true) in
    let stays = both_true c.args.lives (waits report) c.if-lives.true (sym (c.waits.ensures f reads) ∙ c.if-waits.true) in
    sym (c.loop-left.invariant.may f reads)
    ∙ (ap (λ k. may_leave c.args.lives k at) more ∙ first_waits c.args.lives n at report (term_of f h c.in_ok-report.rest) (c.in_ok-report.ensures.is f reads) stays)

pub loop-left-preserved : goal.loop-left-preserved
loop-left-preserved g c =
    let h = c.args.store.now.held in
    let n = c.loop-left.left - 1 in
    let more : c.loop-left.left ≡ suc n = omega (arith, c.loop-left-test.true) in
    let at = c.loop-left.at in
    record {
      inside = c.in_ok-report.ensures.rest_in;
      may = λ f reads.
          let report = term_of f h c.in_ok-report.report in
          let goes : (c.args.lives && waits report) ≡ false = elim c.else-lives.branch [
            | else-lives-via-then-lives+else-waits w ↦ right_false c.args.lives (waits report) (sym (w.waits.ensures f reads) ∙ w.if-waits.false)
            | else-lives-via-else-lives w ↦ left_false c.args.lives (waits report) w.if-lives.false
          ] in
          sym (one_less c.args.lives n (term_of f h at) report (term_of f h c.in_ok-report.rest) (c.in_ok-report.ensures.is f reads) goes)
          ∙ (ap (λ k. may_leave c.args.lives k (term_of f h at)) (sym more) ∙ c.loop-left.invariant.may f reads);
      leaves = λ f reads.
          sym (cells_less n (term_of f h at) (term_of f h c.in_ok-report.report) (term_of f h c.in_ok-report.rest) (c.in_ok-report.ensures.is f reads))
          ∙ (ap (λ k. without_cells k (term_of f h at)) (sym more) ∙ c.loop-left.invariant.leaves f reads);
    }

pub returns-clause-goes : goal.returns-clause-goes
returns-clause-goes g c = λ f reads.
    let h = c.args.store.now.held in
    let none : c.loop-left.left ≡ 0 = omega (arith, c.loop-left-test.false) in
    record {
      may = sym (c.loop-left.invariant.may f reads) ∙ (ap (λ k. may_leave c.args.lives k (term_of f h c.loop-left.at)) none ∙ none_to_go c.args.lives (term_of f h c.loop-left.at));
      left = ap (λ k. without_cells k (term_of f h c.loop-left.at)) (sym none) ∙ c.loop-left.invariant.leaves f reads;
    }
