use Rattle.kl1_machine.proofs.Words.{◌∙◌, on_ok_weaker, exhausted_report, report_each_late, finished_each_late, LivesEnd}
use Rattle.kl1_machine.proofs.Late.{late_settles, late_then, within_then}
use Rattle.kl1_machine.proofs.machine.Machine.end_path.Goals as goal

pub report_each-requires-clause-within : goal.report_each-requires-clause-within
report_each-requires-clause-within c = within_then c.args.late c.args.self.now c.end_lives.new.self c.requires.within (c.in_ok-end_lives.ensures.since c.args.self.now)

pub finish_each-requires-clause-within : goal.finish_each-requires-clause-within
finish_each-requires-clause-within c =
    within_then c.args.late c.args.self.now c.report_each.new.self c.requires.within (λ s. c.in_ok-report_each.ensures.since c.args.self.now (c.in_ok-end_lives.ensures.since c.args.self.now s))

pub returns-clause-ok : goal.returns-clause-ok
returns-clause-ok c =
    let m = c.args.self.now in
    let u = c.end_lives.new.self in
    let ending = c.as_slice-ending.result.now in
    let ends : LivesEnd c.args.number ending m u = rw c.as_slice-ending.ensures.value c.in_ok-end_lives.ensures.ok in
    on_ok_weaker c.finish_each.result
    (λ finished. late_settles m u c.finish_each.new.self c.args.number c.args.late ending c.as_slice.result.now c.requires.machine ends (c.as_slice.ensures.value ∙ c.in_ok-find_reached.ensures)
    (late_then c.args.late (λ f. report_each_late c.args.late c.as_slice.result.now exhausted_report) (λ f. finished_each_late c.args.late ending) u _ _ c.in_ok-report_each.ensures.ok finished))
    c.finish_each.ensures.ok
