use Rattle.kl1_user_account.proofs.Words.{◌≡◌, sym, ◌∙◌, arith, origin_in}
use Rattle.kl1_user_account.proofs.ForgetSteps.{refused_syntax, refused_unkept, refused_full, refused_living, refused_left, goes_whole, goes_in_part}
use Rattle.kl1_user_account.proofs.forgettable.forgetting_of.Goals as goal

pub returns-then-not-may_forget : goal.returns-then-not-may_forget
returns-then-not-may_forget c =
    let m = c.args.machine.now in
    refused_syntax m.rules m.store.held m.shoens.shoens c.args.is_full c.args.number c.args.count (sym c.may_forget.ensures ∙ c.if-not-may_forget.true)

pub returns-in_default : goal.returns-in_default
returns-in_default c =
    let m = c.args.machine.now in
    refused_unkept m.rules m.store.held m.shoens.shoens c.args.is_full c.args.number c.args.count (sym c.may_forget.ensures ∙ c.if-not-may_forget.false) (sym c.origin_at.ensures ∙ c.in_default.is)

pub returns-then-is_full : goal.returns-then-is_full
returns-then-is_full c =
    let m = c.args.machine.now in
    refused_full m.rules m.store.held m.shoens.shoens c.args.is_full c.args.number c.args.count c.in-Some.origin (sym c.may_forget.ensures ∙ c.if-not-may_forget.false) (sym c.origin_at.ensures ∙ c.in-Some.is) c.if-is_full.true

pub returns-then-lives : goal.returns-then-lives
returns-then-lives c =
    let m = c.args.machine.now in
    refused_living m.rules m.store.held m.shoens.shoens c.args.is_full c.args.number c.args.count c.in-Some.origin (sym c.may_forget.ensures ∙ c.if-not-may_forget.false) (sym c.origin_at.ensures ∙ c.in-Some.is) c.if-is_full.false
    (omega (arith, c.if-count-eq0.true)) (sym c.lives-lives.ensures ∙ c.if-lives.true)

pub returns-then-count-eq0 : goal.returns-then-count-eq0
returns-then-count-eq0 c =
    let m = c.args.machine.now in
    goes_whole m.rules m.store.held m.shoens.shoens c.args.is_full c.args.number c.args.count c.in-Some.origin (sym c.may_forget.ensures ∙ c.if-not-may_forget.false) (sym c.origin_at.ensures ∙ c.in-Some.is) c.if-is_full.false
    (omega (arith, c.if-count-eq0.true)) (sym c.lives-lives.ensures ∙ c.if-lives.false)

pub left_of-requires : goal.left_of-requires
left_of-requires c =
    let m = c.args.machine.now in
    (origin_in m.store.held c.args.number m.shoens.shoens c.in-Some.origin c.requires (sym c.origin_at.ensures ∙ c.in-Some.is)).reports

pub returns-in-None : goal.returns-in-None
returns-in-None c =
    let m = c.args.machine.now in
    refused_left m.rules m.store.held m.shoens.shoens c.args.is_full c.args.number c.args.count c.in-Some.origin c.lives-lives.result (sym c.may_forget.ensures ∙ c.if-not-may_forget.false) (sym c.origin_at.ensures ∙ c.in-Some.is) c.if-is_full.false
    (omega (arith, c.if-count-eq0.false)) (sym c.lives-lives.ensures) (rw c.in-None.is at c.left_of.ensures)

pub returns-in-Some-left_of : goal.returns-in-Some-left_of
returns-in-Some-left_of c =
    let m = c.args.machine.now in
    goes_in_part m.rules m.store.held m.shoens.shoens c.args.is_full c.args.number c.args.count c.in-Some.origin c.lives-lives.result c.in-Some-left_of.left c.len-numbered.ensures.numbered (sym c.may_forget.ensures ∙ c.if-not-may_forget.false) (sym c.origin_at.ensures ∙ c.in-Some.is) c.if-is_full.false
    (omega (arith, c.if-count-eq0.false)) (sym c.lives-lives.ensures) (rw c.in-Some-left_of.is at c.left_of.ensures)
