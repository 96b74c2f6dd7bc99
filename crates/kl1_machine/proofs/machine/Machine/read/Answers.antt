use Rattle.kl1_machine.proofs.Words.{on_ok_weaker, settle, heard, control_as}
use Rattle.kl1_machine.proofs.Ending.{as_then, settles}
use Rattle.kl1_machine.proofs.machine.Machine.read.Goals as goal

pub returns-clause-ok : goal.returns-clause-ok
returns-clause-ok c =
    let m = c.args.self.now in
    let u = c.hear.new.self in
    let hear = c.in_ok-hear.ensures.ok in
    on_ok_weaker c.finish_each.result
    (λ ok. as_then (λ f. heard c.args.number (control_as f m.store.held c.args.control)) (λ f. settle c.args.number) m u c.finish_each.new.self hear
    (settles u c.end_lives.new.self c.finish_each.new.self c.args.number c.as_slice.result.now hear.machine (rw c.as_slice.ensures.value c.in_ok-end_lives.ensures.ok) ok.does))
    c.finish_each.ensures.ok
