use Rattle.std.proofs.Common.{Ok, Err, refl, sym, ap, subst, ◌∙◌}
use Rattle.kl1_host_web.specs.Asking.{House}
use Rattle.kl1_host_web.specs.Telling.{IsOpenedIn}
use Rattle.kl1_host_web.specs.Serving.{is_within, Ends}
use Rattle.kl1_host_web.proofs.Serving.{performs, within, fails, denied}
use Rattle.kl1_host_web.proofs.Wanting.{of_wish}
use Rattle.kl1_host_web.proofs.serve.Service.answer.Goals as goal

pub returns-then-not-is_within-clause-answers : goal.returns-then-not-is_within-clause-answers
returns-then-not-is_within-clause-answers g c =
    let house : House = g.A.Accounts.house c.args.accounts.now in
    let asked = g.A.Accounts.asked c.args.accounts.now in
    let is = ap (λ n. is_within n c.args.allowed.now) (sym c.count.ensures) ∙ sym c.is_within.ensures ∙ c.if-not-is_within.true in
    denied (g.M.Machine.tells c.args.self.now.machine.now) (g.M.Machine.gives c.args.self.now.machine.now) house c.args.allowed.now c.args.head.now.target.items c.args.body.now asked asked c.refused.result (is_within house.accounts c.args.allowed.now) is refl c.refused.ensures

pub returns-in_err-wish-clause-answers : goal.returns-in_err-wish-clause-answers
returns-in_err-wish-clause-answers g c =
    let house : House = g.A.Accounts.house c.args.accounts.now in
    let asked = g.A.Accounts.asked c.args.accounts.now in
    let is = ap (λ n. is_within n c.args.allowed.now) (sym c.count.ensures) ∙ sym c.is_within.ensures ∙ c.if-not-is_within.false in
    fails (g.M.Machine.tells c.args.self.now.machine.now) (g.M.Machine.gives c.args.self.now.machine.now) house c.args.allowed.now c.args.head.now.target.items c.args.body.now asked asked c.from_residual.result (is_within house.accounts c.args.allowed.now) is refl c.from_residual.ensures.0

pub grant-requires : goal.grant-requires
grant-requires g c =
    let house : House = g.A.Accounts.house c.args.accounts.now in
    let is = ap (λ n. is_within n c.args.allowed.now) (sym c.count.ensures) ∙ sym c.is_within.ensures ∙ c.if-not-is_within.false in
    of_wish house.accounts c.args.allowed.now c.args.body.now c.in_ok-wish.wish is c.in_ok-wish.ensures

pub returns-in_err-outcome-clause-answers : goal.returns-in_err-outcome-clause-answers
returns-in_err-outcome-clause-answers g c =
    let house : House = g.A.Accounts.house c.args.accounts.now in
    let asked = g.A.Accounts.asked in
    let is = ap (λ n. is_within n c.args.allowed.now) (sym c.count.ensures) ∙ sym c.is_within.ensures ∙ c.if-not-is_within.false in
    within (g.M.Machine.tells c.args.self.now.machine.now) (g.M.Machine.gives c.args.self.now.machine.now) house c.args.allowed.now c.args.head.now.target.items c.args.body.now (asked c.args.accounts.now) (asked c.grant.new.accounts) c.from_residual-in_err-outcome.result (is_within house.accounts c.args.allowed.now) is
    (performs (g.M.Machine.tells c.args.self.now.machine.now) (g.M.Machine.gives c.args.self.now.machine.now) house c.args.allowed.now c.args.head.now.target.items c.args.body.now c.in_ok-wish.wish (asked c.args.accounts.now) (asked c.grant.new.accounts) (asked c.grant.new.accounts) (Err c.in_err-outcome.field-0.0) c.from_residual-in_err-outcome.result c.in_ok-wish.ensures (rw c.as_slice.ensures.value at c.in_err-outcome.ensures.grants) (refl, c.from_residual-in_err-outcome.ensures.0))

pub settle-requires : goal.settle-requires
settle-requires g c = subst (λ (h : House). IsOpenedIn h.accounts c.in_ok-outcome.outcome) (sym c.grant.ensures.house) c.in_ok-outcome.ensures.within

pub returns-clause-answers : goal.returns-clause-answers
returns-clause-answers g c =
    let house : House = g.A.Accounts.house c.args.accounts.now in
    let asked = g.A.Accounts.asked in
    let is = ap (λ n. is_within n c.args.allowed.now) (sym c.count.ensures) ∙ sym c.is_within.ensures ∙ c.if-not-is_within.false in
    let E : House → Type 0 = λ h. Ends (g.M.Machine.tells c.args.self.now.machine.now) (g.M.Machine.gives c.args.self.now.machine.now) h c.args.allowed.now (Ok c.in_ok-outcome.outcome) (asked c.grant.new.accounts) (asked c.settle.new.accounts) c.settle.result in
    within (g.M.Machine.tells c.args.self.now.machine.now) (g.M.Machine.gives c.args.self.now.machine.now) house c.args.allowed.now c.args.head.now.target.items c.args.body.now (asked c.args.accounts.now) (asked c.settle.new.accounts) c.settle.result (is_within house.accounts c.args.allowed.now) is
    (performs (g.M.Machine.tells c.args.self.now.machine.now) (g.M.Machine.gives c.args.self.now.machine.now) house c.args.allowed.now c.args.head.now.target.items c.args.body.now c.in_ok-wish.wish (asked c.args.accounts.now) (asked c.grant.new.accounts) (asked c.settle.new.accounts) (Ok c.in_ok-outcome.outcome) c.settle.result c.in_ok-wish.ensures (rw c.as_slice.ensures.value at c.in_ok-outcome.ensures.grants) (subst E c.grant.ensures.house c.settle.ensures.ends))
