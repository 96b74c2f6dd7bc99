use Rattle.std.proofs.Common.{List, ap, ◌∙◌}
use Rattle.kl1_session.specs.Files.{Entry}
use Rattle.kl1_host_door.specs.Doors.{mark_at}
use Rattle.kl1_host_door.specs.declared.refusal.Refusal.TheVariants as refusal
use Rattle.kl1_host_web.proofs.Serving.{begun_refused, begun_failed, begun_full, begun_told}
use Rattle.kl1_host_web.proofs.serve.Service.begin.Goals as goal

pub returns-in_default-clause-asked : goal.returns-in_default-clause-asked
returns-in_default-clause-asked g c =
    let asked = g.A.Accounts.asked in
    begun_refused (g.M.Machine.tells c.args.self.now.machine.now) (g.M.Machine.gives c.args.self.now.machine.now) (g.A.Accounts.house c.args.accounts.now) c.args.account (asked c.args.accounts.now) (asked c.act.new.self) c.act.result refusal.Memory c.refused.result c.act.ensures.asked c.refused.ensures

pub returns-in-Err-clause-asked : goal.returns-in-Err-clause-asked
returns-in-Err-clause-asked g c =
    let asked = g.A.Accounts.asked in
    begun_failed (g.M.Machine.tells c.args.self.now.machine.now) (g.M.Machine.gives c.args.self.now.machine.now) (g.A.Accounts.house c.args.accounts.now) c.args.account (asked c.args.accounts.now) (asked c.act-in-Err.new.self) c.act-in-Err.result c.in-Err.error c.act-in-Err.ensures.asked

pub returns-then-not-add-clause-asked : goal.returns-then-not-add-clause-asked
returns-then-not-add-clause-asked g c =
    let asked = g.A.Accounts.asked in
    begun_full (g.M.Machine.tells c.args.self.now.machine.now) (g.M.Machine.gives c.args.self.now.machine.now) (g.A.Accounts.house c.args.accounts.now) c.args.account (asked c.args.accounts.now) (asked c.add.new.accounts) (asked c.act-then-not-add.new.self) c.in-Some.session c.add.ensures.asked.0 c.add.result c.act-then-not-add.result refusal.ManySessions c.refused-then-not-add.result c.in-Some.ensures.account c.if-not-add.true c.add.ensures.asked.1 c.add.ensures.asked.2 c.act-then-not-add.ensures.asked c.refused-then-not-add.ensures

pub returns-clause-asked : goal.returns-clause-asked
returns-clause-asked g c =
    let asked = g.A.Accounts.asked in
    begun_told (g.M.Machine.tells c.args.self.now.machine.now) (g.M.Machine.gives c.args.self.now.machine.now) (g.A.Accounts.house c.args.accounts.now) c.args.account (asked c.args.accounts.now) (asked c.add.new.accounts) c.in-Some.session c.add.ensures.asked.0 c.add.result c.in-Ok.answer c.in-Some.ensures.account (c.in-Some.ensures.mark ∙ ap (λ (es : List Entry). mark_at es c.args.account) c.keys.ensures) c.in-Some.ensures.drawn c.if-not-add.false c.add.ensures.asked.1 c.add.ensures.asked.2 c.in-Ok.ensures
