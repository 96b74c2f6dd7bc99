use Rattle.std.proofs.Common.{List, ℕ, Ok, Err, refl, sym, subst, inl, inr}
use Rattle.std.specs.declared.option.Option.{Option}
use Rattle.std.specs.Io.KnownBytes.{prepend_known}
use Rattle.kl1_host_web.specs.Asking.{House}
use Rattle.kl1_host_web.specs.Serving.{Attends, ComesIn, HasHead, HasBody}
use Rattle.kl1_host_web.specs.declared.incoming.Incoming.{Incoming}
use Rattle.kl1_host_web.proofs.Serving.{exchanges, no_body, no_more, kept_out, failed_before, failed, body_is}
use Rattle.kl1_host_web.proofs.serve.Service.serve_request.Goals as goal

pub returns-in-Err-clause-steps : goal.returns-in-Err-clause-steps
returns-in-Err-clause-steps g c =
    let remaining = g.S.Source.remaining in
    let asked = g.A.Accounts.asked in
    let house = g.A.Accounts.house c.args.accounts.now in
    let self = c.args.self.now in
    let tells = g.M.Machine.tells self.machine.now in
    let gives = g.M.Machine.gives self.machine.now in
    let old : Option (List ℕ) = prepend_known c.args.inbox.now.kept.items (remaining c.args.source.now) in
    let middle : Option (List ℕ) = prepend_known c.head.new.self.kept.items (remaining c.head.new.source) in
    let comes : HasHead c.in-Head.head old middle = subst (λ (x : Incoming). ComesIn old middle x) c.in-Head.is c.in_ok-head.ensures in
    inl (refl, inr (no_body c.in-Head.head c.in-Err.refusal old middle comes (sym c.in-Err.ensures)))

pub returns-in-Err-may_send-clause-steps : goal.returns-in-Err-may_send-clause-steps
returns-in-Err-may_send-clause-steps g c =
    let remaining = g.S.Source.remaining in
    let asked = g.A.Accounts.asked in
    let house = g.A.Accounts.house c.args.accounts.now in
    let self = c.args.self.now in
    let tells = g.M.Machine.tells self.machine.now in
    let gives = g.M.Machine.gives self.machine.now in
    let old : Option (List ℕ) = prepend_known c.args.inbox.now.kept.items (remaining c.args.source.now) in
    let middle : Option (List ℕ) = prepend_known c.head.new.self.kept.items (remaining c.head.new.source) in
    let comes : HasHead c.in-Head.head old middle = subst (λ (x : Incoming). ComesIn old middle x) c.in-Head.is c.in_ok-head.ensures in
    inr (kept_out tells self.page.idle house self.page.sites.now self.is_local c.in-Head.head c.in-Ok.count c.in-Err-may_send.refusal c.may_send.result old middle (asked c.args.accounts.now) (asked c.may_send.new.accounts) comes (sym c.in-Ok.ensures) c.in-Err-may_send.is c.may_send.ensures.looks)

pub returns-in_err-body-clause-steps : goal.returns-in_err-body-clause-steps
returns-in_err-body-clause-steps g c =
    let remaining = g.S.Source.remaining in
    let asked = g.A.Accounts.asked in
    let house = g.A.Accounts.house c.args.accounts.now in
    let self = c.args.self.now in
    let tells = g.M.Machine.tells self.machine.now in
    let gives = g.M.Machine.gives self.machine.now in
    let old : Option (List ℕ) = prepend_known c.args.inbox.now.kept.items (remaining c.args.source.now) in
    let new : Option (List ℕ) = prepend_known c.body.new.self.kept.items (remaining c.body.new.source) in
    failed_before tells gives self.page.idle house self.page.sites.now self.is_local old new (asked c.args.accounts.now) (asked c.may_send.new.accounts) c.from_residual-in_err-body.result c.from_residual-in_err-body.ensures.0
    (no_more tells house self.page.idle self.page.sites.now self.is_local c.in-Head.head c.in-Ok.count _ c.may_send.result (asked c.args.accounts.now) (asked c.may_send.new.accounts) c.in-Ok-may_send.is c.may_send.ensures.looks)

pub returns-in_default-clause-steps : goal.returns-in_default-clause-steps
returns-in_default-clause-steps g c =
    let asked = g.A.Accounts.asked in
    let house = g.A.Accounts.house c.args.accounts.now in
    let self = c.args.self.now in
    let tells = g.M.Machine.tells self.machine.now in
    no_more tells house self.page.idle self.page.sites.now self.is_local c.in-Head.head c.in-Ok.count _ c.may_send.result (asked c.args.accounts.now) (asked c.may_send.new.accounts) c.in-Ok-may_send.is c.may_send.ensures.looks

pub returns-in_err-answer-clause-steps : goal.returns-in_err-answer-clause-steps
returns-in_err-answer-clause-steps g c =
    let remaining = g.S.Source.remaining in
    let asked = g.A.Accounts.asked in
    let house = g.A.Accounts.house c.args.accounts.now in
    let self = c.args.self.now in
    let tells = g.M.Machine.tells self.machine.now in
    let gives = g.M.Machine.gives self.machine.now in
    let old : Option (List ℕ) = prepend_known c.args.inbox.now.kept.items (remaining c.args.source.now) in
    let middle : Option (List ℕ) = prepend_known c.head.new.self.kept.items (remaining c.head.new.source) in
    let comes : HasHead c.in-Head.head old middle = subst (λ (x : Incoming). ComesIn old middle x) c.in-Head.is c.in_ok-head.ensures in
    let new : Option (List ℕ) = prepend_known c.body.new.self.kept.items (remaining c.body.new.source) in
    let follows : HasBody c.in-Ok.count c.in-Some.body.items middle new = body_is c.in-Ok.count middle new c.in_ok-body.field-0 c.in-Some.body c.in-Some.is c.in_ok-body.ensures in
    let H : House → Type 0 = λ h. Attends tells gives self.page.idle h self.page.sites.now self.is_local c.in-Head.head c.in-Some.body.items (asked c.may_send.new.accounts) (asked c.attend.new.accounts) (Err c.in_err-answer.field-0.0) in
    failed tells gives self.page.idle house self.page.sites.now self.is_local old new (asked c.args.accounts.now) (asked c.attend.new.accounts) c.in-Head.head c.in-Some.body.items c.in_err-answer.field-0.0 c.from_residual-in_err-answer.result c.from_residual-in_err-answer.ensures.1
    (exchanges tells gives self.page.idle house self.page.sites.now self.is_local c.in-Head.head c.in-Some.body.items c.in-Ok.count c.may_send.result _ (Err c.in_err-answer.field-0.0) old middle new (asked c.args.accounts.now) (asked c.may_send.new.accounts) (asked c.attend.new.accounts) comes (sym c.in-Ok.ensures) c.in-Ok-may_send.is c.may_send.ensures.looks follows (subst H c.may_send.ensures.house (rw c.as_slice.ensures.value at c.in_err-answer.ensures.answers)))

pub returns-clause-steps : goal.returns-clause-steps
returns-clause-steps g c =
    let remaining = g.S.Source.remaining in
    let asked = g.A.Accounts.asked in
    let house = g.A.Accounts.house c.args.accounts.now in
    let self = c.args.self.now in
    let tells = g.M.Machine.tells self.machine.now in
    let gives = g.M.Machine.gives self.machine.now in
    let old : Option (List ℕ) = prepend_known c.args.inbox.now.kept.items (remaining c.args.source.now) in
    let middle : Option (List ℕ) = prepend_known c.head.new.self.kept.items (remaining c.head.new.source) in
    let comes : HasHead c.in-Head.head old middle = subst (λ (x : Incoming). ComesIn old middle x) c.in-Head.is c.in_ok-head.ensures in
    let new : Option (List ℕ) = prepend_known c.body.new.self.kept.items (remaining c.body.new.source) in
    let follows : HasBody c.in-Ok.count c.in-Some.body.items middle new = body_is c.in-Ok.count middle new c.in_ok-body.field-0 c.in-Some.body c.in-Some.is c.in_ok-body.ensures in
    let H : House → Type 0 = λ h. Attends tells gives self.page.idle h self.page.sites.now self.is_local c.in-Head.head c.in-Some.body.items (asked c.may_send.new.accounts) (asked c.attend.new.accounts) (Ok c.in_ok-answer.answer) in
    (c.in-Head.head, c.in-Some.body.items, c.is_secure.ensures, c.goes_on.ensures, exchanges tells gives self.page.idle house self.page.sites.now self.is_local c.in-Head.head c.in-Some.body.items c.in-Ok.count c.may_send.result _ (Ok c.in_ok-answer.answer) old middle new (asked c.args.accounts.now) (asked c.may_send.new.accounts) (asked c.attend.new.accounts) comes (sym c.in-Ok.ensures) c.in-Ok-may_send.is c.may_send.ensures.looks follows (subst H c.may_send.ensures.house (rw c.as_slice.ensures.value at c.in_ok-answer.ensures.answers)))
