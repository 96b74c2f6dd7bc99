use Rattle.std.proofs.Common.{Ok, Err, refl, subst}
use Rattle.kl1_host_web.specs.Asking.{House}
use Rattle.kl1_host_web.specs.Serving.{is_within, AnswersWithin}
use Rattle.kl1_host_web.proofs.Serving.{attended}
use Rattle.kl1_host_web.proofs.serve.Service.attend.Goals as goal

pub returns-in-Err-clause-answers : goal.returns-in-Err-clause-answers
returns-in-Err-clause-answers g c =
    let asked = g.A.Accounts.asked in
    let self = c.args.self.now in
    attended (g.M.Machine.tells self.machine.now) (g.M.Machine.gives self.machine.now) self.page.idle (g.A.Accounts.house c.args.accounts.now) self.page.sites.now self.is_local c.args.head.now c.args.body.now (asked c.args.accounts.now) (asked c.allowed.new.accounts) (asked c.allowed.new.accounts) c.refused.result (Err c.in-Err.refusal) c.in-Err.ensures.admits (record { asked = refl; refusal = c.refused.ensures })

pub returns-in-Ok-clause-answers : goal.returns-in-Ok-clause-answers
returns-in-Ok-clause-answers g c =
    let asked = g.A.Accounts.asked in
    let self = c.args.self.now in
    let H : House → Type 0 = λ h. AnswersWithin (g.M.Machine.tells self.machine.now) (g.M.Machine.gives self.machine.now) (is_within h.accounts c.in-Ok.allowed) h c.in-Ok.allowed c.args.head.now.target.items c.args.body.now (asked c.allowed.new.accounts) (asked c.answer.new.accounts) c.answer.result in
    attended (g.M.Machine.tells self.machine.now) (g.M.Machine.gives self.machine.now) self.page.idle (g.A.Accounts.house c.args.accounts.now) self.page.sites.now self.is_local c.args.head.now c.args.body.now (asked c.args.accounts.now) (asked c.allowed.new.accounts) (asked c.answer.new.accounts) c.answer.result (Ok c.in-Ok.allowed) c.in-Ok.ensures.admits (subst H c.allowed.ensures.house c.answer.ensures.answers)
