use Rattle.std.proofs.Common.{◌≡◌, List, ℕ, Result, Ok, Err, refl, subst, ◌∙◌, inl}
use Rattle.std.specs.declared.option.Option.{Option}
use Rattle.std.specs.declared.alloc.AllocError.{AllocError}
use Rattle.std.specs.Io.KnownBytes.{prepend_known}
use Rattle.kl1_host_web.specs.Asking.{House}
use Rattle.kl1_host_web.specs.Serving.{Steps}
use Rattle.kl1_host_web.specs.declared.serve.Served.{Served}
use Rattle.kl1_host_web.specs.declared.serve.Served.TheVariants as served_as
use Rattle.kl1_host_web.proofs.Coming.{none_kept}
use Rattle.kl1_host_web.proofs.Writing.{begins, goes_more, ends, breaks, refuses, fails_for_memory}
use Rattle.kl1_host_web.proofs.serve.Service.serve.Goals as goal

pub loop-init : goal.loop-init
loop-init g c =
    let house = g.A.Accounts.house in
    let asked = g.A.Accounts.asked in
    let remaining = g.S.Source.remaining in
    let contents = g.T.Sink.contents in
    let self = c.args.self.now in
    record {
      house = refl;
      failures = refl;
      underway = begins (g.M.Machine.tells self.machine.now) (g.M.Machine.gives self.machine.now) self.page.idle (house c.args.accounts.now) self.page.sites.now self.is_local (remaining c.args.source.now) (contents c.args.sink.now) (asked c.args.accounts.now) (prepend_known c.new-inbox.result.kept.items (remaining c.args.source.now)) (none_kept (remaining c.args.source.now) c.new-inbox.result.kept.items c.new-inbox.ensures);
    }

pub returns-then-not-send-clause-connects : goal.returns-then-not-send-clause-connects
returns-then-not-send-clause-connects g c =
    let house = g.A.Accounts.house in
    let asked = g.A.Accounts.asked in
    let remaining = g.S.Source.remaining in
    let contents = g.T.Sink.contents in
    let failures = g.T.Sink.failures in
    let self = c.args.self.now in
    let tells = g.M.Machine.tells self.machine.now in
    let gives = g.M.Machine.gives self.machine.now in
    let middle : Option (List ℕ) = prepend_known c.loop.inbox.kept.items (remaining c.loop.source) in
    let left : Option (List ℕ) = prepend_known c.serve_request.new.inbox.kept.items (remaining c.serve_request.new.source) in
    let S : House → Type 0 = λ h. Steps tells gives self.page.idle h self.page.sites.now self.is_local middle left (asked c.loop.accounts) (asked c.serve_request.new.accounts) c.serve_request.result in
    let R : Result Served AllocError → Type 0 = λ r. Steps tells gives self.page.idle (house c.args.accounts.now) self.page.sites.now self.is_local middle left (asked c.loop.accounts) (asked c.serve_request.new.accounts) r in
    let is : c.serve_request.result ≡ Ok (served_as.Answered c.in-Ok-Answered.answer c.in-Ok-Answered.secure c.in-Ok-Answered.goes_on) = cc in
    breaks tells gives self.page.idle (house c.args.accounts.now) self.page.sites.now self.is_local (remaining c.args.source.now) (contents c.args.sink.now) (asked c.args.accounts.now) middle left (contents c.loop.sink) (contents c.send.new.sink) (failures c.args.sink.now) (failures c.loop.sink) (failures c.send.new.sink) (asked c.loop.accounts) (asked c.serve_request.new.accounts) c.in-Ok-Answered.answer c.in-Ok-Answered.secure c.in-Ok-Answered.goes_on c.loop.invariant.underway (subst R is (subst S c.loop.invariant.house c.serve_request.ensures.steps)) c.loop.invariant.failures (c.send.ensures.breaks c.if-not-send.true)

pub returns-then-not-goes_on-clause-connects : goal.returns-then-not-goes_on-clause-connects
returns-then-not-goes_on-clause-connects g c =
    let house = g.A.Accounts.house in
    let asked = g.A.Accounts.asked in
    let remaining = g.S.Source.remaining in
    let contents = g.T.Sink.contents in
    let failures = g.T.Sink.failures in
    let self = c.args.self.now in
    let tells = g.M.Machine.tells self.machine.now in
    let gives = g.M.Machine.gives self.machine.now in
    let middle : Option (List ℕ) = prepend_known c.loop.inbox.kept.items (remaining c.loop.source) in
    let left : Option (List ℕ) = prepend_known c.serve_request.new.inbox.kept.items (remaining c.serve_request.new.source) in
    let S : House → Type 0 = λ h. Steps tells gives self.page.idle h self.page.sites.now self.is_local middle left (asked c.loop.accounts) (asked c.serve_request.new.accounts) c.serve_request.result in
    let R : Result Served AllocError → Type 0 = λ r. Steps tells gives self.page.idle (house c.args.accounts.now) self.page.sites.now self.is_local middle left (asked c.loop.accounts) (asked c.serve_request.new.accounts) r in
    let is : c.serve_request.result ≡ Ok (served_as.Answered c.in-Ok-Answered.answer c.in-Ok-Answered.secure c.in-Ok-Answered.goes_on) = cc in
    ends tells gives self.page.idle (house c.args.accounts.now) self.page.sites.now self.is_local (remaining c.args.source.now) (contents c.args.sink.now) (asked c.args.accounts.now) left (contents c.send.new.sink) (failures c.args.sink.now) (failures c.send.new.sink) (asked c.serve_request.new.accounts) (asked c.serve_request.new.accounts)
    (goes_more tells gives self.page.idle (house c.args.accounts.now) self.page.sites.now self.is_local (remaining c.args.source.now) (contents c.args.sink.now) (asked c.args.accounts.now) middle left (contents c.loop.sink) (contents c.send.new.sink) (asked c.loop.accounts) (asked c.serve_request.new.accounts) c.in-Ok-Answered.answer c.in-Ok-Answered.secure c.in-Ok-Answered.goes_on c.loop.invariant.underway (subst R is (subst S c.loop.invariant.house c.serve_request.ensures.steps)) (c.send.ensures.sent c.if-not-send.false))
    (inl refl)

pub returns-in-Ok-Refused-clause-connects : goal.returns-in-Ok-Refused-clause-connects
returns-in-Ok-Refused-clause-connects g c =
    let house = g.A.Accounts.house in
    let asked = g.A.Accounts.asked in
    let remaining = g.S.Source.remaining in
    let contents = g.T.Sink.contents in
    let failures = g.T.Sink.failures in
    let self = c.args.self.now in
    let tells = g.M.Machine.tells self.machine.now in
    let gives = g.M.Machine.gives self.machine.now in
    let middle : Option (List ℕ) = prepend_known c.loop.inbox.kept.items (remaining c.loop.source) in
    let left : Option (List ℕ) = prepend_known c.serve_request.new.inbox.kept.items (remaining c.serve_request.new.source) in
    let S : House → Type 0 = λ h. Steps tells gives self.page.idle h self.page.sites.now self.is_local middle left (asked c.loop.accounts) (asked c.serve_request.new.accounts) c.serve_request.result in
    let R : Result Served AllocError → Type 0 = λ r. Steps tells gives self.page.idle (house c.args.accounts.now) self.page.sites.now self.is_local middle left (asked c.loop.accounts) (asked c.serve_request.new.accounts) r in
    let is : c.serve_request.result ≡ Ok (served_as.Refused c.in-Ok-Refused.refusal) = cc in
    refuses tells gives self.page.idle (house c.args.accounts.now) self.page.sites.now self.is_local (remaining c.args.source.now) (contents c.args.sink.now) (asked c.args.accounts.now) middle left (contents c.loop.sink) (contents c.send_refusal.new.sink) (failures c.args.sink.now) (failures c.loop.sink) (failures c.send_refusal.new.sink) (asked c.loop.accounts) (asked c.serve_request.new.accounts) c.in-Ok-Refused.refusal c.loop.invariant.underway (subst R is (subst S c.loop.invariant.house c.serve_request.ensures.steps)) c.loop.invariant.failures c.send_refusal.ensures

pub returns-in-Ok-Ended-clause-connects : goal.returns-in-Ok-Ended-clause-connects
returns-in-Ok-Ended-clause-connects g c =
    let house = g.A.Accounts.house in
    let asked = g.A.Accounts.asked in
    let remaining = g.S.Source.remaining in
    let contents = g.T.Sink.contents in
    let failures = g.T.Sink.failures in
    let self = c.args.self.now in
    let tells = g.M.Machine.tells self.machine.now in
    let gives = g.M.Machine.gives self.machine.now in
    let middle : Option (List ℕ) = prepend_known c.loop.inbox.kept.items (remaining c.loop.source) in
    let left : Option (List ℕ) = prepend_known c.serve_request.new.inbox.kept.items (remaining c.serve_request.new.source) in
    let S : House → Type 0 = λ h. Steps tells gives self.page.idle h self.page.sites.now self.is_local middle left (asked c.loop.accounts) (asked c.serve_request.new.accounts) c.serve_request.result in
    let R : Result Served AllocError → Type 0 = λ r. Steps tells gives self.page.idle (house c.args.accounts.now) self.page.sites.now self.is_local middle left (asked c.loop.accounts) (asked c.serve_request.new.accounts) r in
    let is : c.serve_request.result ≡ Ok served_as.Ended = cc in
    ends tells gives self.page.idle (house c.args.accounts.now) self.page.sites.now self.is_local (remaining c.args.source.now) (contents c.args.sink.now) (asked c.args.accounts.now) middle (contents c.loop.sink) (failures c.args.sink.now) (failures c.loop.sink) (asked c.loop.accounts) (asked c.serve_request.new.accounts) c.loop.invariant.underway (subst R is (subst S c.loop.invariant.house c.serve_request.ensures.steps))

pub returns-in-Err-clause-connects : goal.returns-in-Err-clause-connects
returns-in-Err-clause-connects g c =
    let house = g.A.Accounts.house in
    let asked = g.A.Accounts.asked in
    let remaining = g.S.Source.remaining in
    let contents = g.T.Sink.contents in
    let failures = g.T.Sink.failures in
    let self = c.args.self.now in
    let tells = g.M.Machine.tells self.machine.now in
    let gives = g.M.Machine.gives self.machine.now in
    let middle : Option (List ℕ) = prepend_known c.loop.inbox.kept.items (remaining c.loop.source) in
    let left : Option (List ℕ) = prepend_known c.serve_request.new.inbox.kept.items (remaining c.serve_request.new.source) in
    let S : House → Type 0 = λ h. Steps tells gives self.page.idle h self.page.sites.now self.is_local middle left (asked c.loop.accounts) (asked c.serve_request.new.accounts) c.serve_request.result in
    let R : Result Served AllocError → Type 0 = λ r. Steps tells gives self.page.idle (house c.args.accounts.now) self.page.sites.now self.is_local middle left (asked c.loop.accounts) (asked c.serve_request.new.accounts) r in
    let is : c.serve_request.result ≡ Err c.in-Err.field-0 = cc in
    fails_for_memory tells gives self.page.idle (house c.args.accounts.now) self.page.sites.now self.is_local (remaining c.args.source.now) (contents c.args.sink.now) (asked c.args.accounts.now) middle left (contents c.loop.sink) (contents c.send_refusal-in-Err.new.sink) (failures c.args.sink.now) (failures c.loop.sink) (failures c.send_refusal-in-Err.new.sink) (asked c.loop.accounts) (asked c.serve_request.new.accounts) c.in-Err.field-0 c.loop.invariant.underway (subst R is (subst S c.loop.invariant.house c.serve_request.ensures.steps)) c.loop.invariant.failures c.send_refusal-in-Err.ensures

pub loop-preserved : goal.loop-preserved
loop-preserved g c =
    let house = g.A.Accounts.house in
    let asked = g.A.Accounts.asked in
    let remaining = g.S.Source.remaining in
    let contents = g.T.Sink.contents in
    let failures = g.T.Sink.failures in
    let self = c.args.self.now in
    let tells = g.M.Machine.tells self.machine.now in
    let gives = g.M.Machine.gives self.machine.now in
    let middle : Option (List ℕ) = prepend_known c.loop.inbox.kept.items (remaining c.loop.source) in
    let left : Option (List ℕ) = prepend_known c.serve_request.new.inbox.kept.items (remaining c.serve_request.new.source) in
    let S : House → Type 0 = λ h. Steps tells gives self.page.idle h self.page.sites.now self.is_local middle left (asked c.loop.accounts) (asked c.serve_request.new.accounts) c.serve_request.result in
    let R : Result Served AllocError → Type 0 = λ r. Steps tells gives self.page.idle (house c.args.accounts.now) self.page.sites.now self.is_local middle left (asked c.loop.accounts) (asked c.serve_request.new.accounts) r in
    let is : c.serve_request.result ≡ Ok (served_as.Answered c.in-Ok-Answered.answer c.in-Ok-Answered.secure c.in-Ok-Answered.goes_on) = cc in
    record {
      house = c.serve_request.ensures.house ∙ c.loop.invariant.house;
      failures = c.send.ensures.kept c.if-not-send.false ∙ c.loop.invariant.failures;
      underway = goes_more tells gives self.page.idle (house c.args.accounts.now) self.page.sites.now self.is_local (remaining c.args.source.now) (contents c.args.sink.now) (asked c.args.accounts.now) middle left (contents c.loop.sink) (contents c.send.new.sink) (asked c.loop.accounts) (asked c.serve_request.new.accounts) c.in-Ok-Answered.answer c.in-Ok-Answered.secure c.in-Ok-Answered.goes_on c.loop.invariant.underway (subst R is (subst S c.loop.invariant.house c.serve_request.ensures.steps)) (c.send.ensures.sent c.if-not-send.false);
    }

pub returns-clause-connects : goal.returns-clause-connects
returns-clause-connects g c =
    let house = g.A.Accounts.house in
    let asked = g.A.Accounts.asked in
    let remaining = g.S.Source.remaining in
    let contents = g.T.Sink.contents in
    let failures = g.T.Sink.failures in
    let self = c.args.self.now in
    ends (g.M.Machine.tells self.machine.now) (g.M.Machine.gives self.machine.now) self.page.idle (house c.args.accounts.now) self.page.sites.now self.is_local (remaining c.args.source.now) (contents c.args.sink.now) (asked c.args.accounts.now) (prepend_known c.loop.inbox.kept.items (remaining c.loop.source)) (contents c.loop.sink) (failures c.args.sink.now) (failures c.loop.sink) (asked c.loop.accounts) (asked c.loop.accounts) c.loop.invariant.underway (inl refl)
