use Rattle.std.proofs.Common.{sym, subst, ◌∙◌}
use Rattle.kl1_pool.proofs.RestoredEvents.{none_of, run_without, run_done, run_told}
use Rattle.kl1_model_server.specs.Journal.{runs}
use Rattle.kl1_pool.proofs.restoring.restore_run.Goals as goal

pub returns-then-not-has_runs-clause-does : goal.returns-then-not-has_runs-clause-does
returns-then-not-has_runs-clause-does g c = λ f fits. run_without (g.H.Host.kept f c.args.host.now).state c.args.reductions (sym (c.has_runs.ensures f fits) ∙ c.if-not-has_runs.true)

pub returns-then-not-has_runs-clause-counted : goal.returns-then-not-has_runs-clause-counted
returns-then-not-has_runs-clause-counted g c = λ f fits. g.met.H.Host.none_counted c.args.host.now

pub returns-then-not-has_room-clause-does : goal.returns-then-not-has_room-clause-does
returns-then-not-has_room-clause-does g c = λ f fits. none_of (g.H.Host.kept f c.args.host.now).state (runs c.args.reductions)

pub returns-then-not-has_room-clause-counted : goal.returns-then-not-has_room-clause-counted
returns-then-not-has_room-clause-counted g c = λ f fits. g.met.H.Host.none_counted c.args.host.now

pub returns-clause-does : goal.returns-clause-does
returns-clause-does g c = λ f fits.
    let h = c.metered_steps-run.ensures in
    let run = c.metered_steps-run.result in
    let old = c.args.host.now in
    run_done (g.H.Host.kept f old) (g.H.Host.kept f c.metered_steps-run.new.host) c.args.reductions run.done run.last c.result_of_run.result (sym (c.has_runs.ensures f (h.before f fits)) ∙ c.if-not-has_runs.false) h.few (h.goes f fits) (h.last f fits) c.result_of_run.ensures

pub returns-clause-counted : goal.returns-clause-counted
returns-clause-counted g c = λ f fits.
    let h = c.metered_steps-run.ensures in
    let run = c.metered_steps-run.result in
    let old = c.args.host.now in
    subst (λ t. g.H.Host.counted old t c.metered_steps-run.new.host)
    (run_told (g.H.Host.kept f old) (g.H.Host.kept f c.metered_steps-run.new.host) c.args.reductions run.done run.last c.result_of_run.result (h.last f fits) c.result_of_run.ensures)
    h.counted
