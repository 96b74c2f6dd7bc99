use Rattle.kl1_machine.proofs.Words.{◌∙◌, sym, subst, on_ok_weaker, atom, text_of, broken_at, report, report_late, Machine, LateAs}
use Rattle.kl1_machine.proofs.Late.{late_torn, late_else}
use Rattle.kl1_machine.proofs.machine.Machine.report_late.Goals as goal

pub returns-then-is_late-clause-ok : goal.returns-then-is_late-clause-ok
returns-then-is_late-clause-ok c =
    let m = c.args.self.now in
    let message = atom (text_of c.args.name) in
    let T : Machine → Type 0 = λ x. LateAs c.args.late (λ f. report_late c.args.late c.args.number message) m x in
    on_ok_weaker c.break_stream.result (λ b. subst T (sym b.is) (late_torn m c.args.number c.args.late message c.requires.machine (λ f. c.is_late.ensures f ∙ c.if-is_late.true))) c.break_stream.ensures.ok

pub returns-clause-ok : goal.returns-clause-ok
returns-clause-ok c =
    let n = c.args.number in
    late_else c.report_name.result c.args.self.now c.report_name.new.self n c.args.late (λ s. broken_at n s) (λ s. report n (atom (text_of c.args.name)) s) c.requires.within
    (λ f. c.is_late.ensures f ∙ c.if-is_late.false) c.report_name.ensures.ok c.report_name.ensures.free
