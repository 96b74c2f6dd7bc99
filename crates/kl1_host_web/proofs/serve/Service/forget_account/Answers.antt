use Rattle.std.proofs.Common.{[], refl, ◌∙◌}
use Rattle.kl1_host_web.proofs.Ending.{one_more_forgotten, none_forgotten}
use Rattle.kl1_host_web.proofs.serve.Service.forget_account.Goals as goal

pub loop-init : goal.loop-init
loop-init g c = record { house = refl; forgot = ([], refl, λ few. refl) }

pub loop-preserved : goal.loop-preserved
loop-preserved g c =
    let asked = g.A.Accounts.asked in
    record {
      house = c.take_of.ensures.house ∙ c.loop.invariant.house;
      forgot = one_more_forgotten c.args.account c.loop.count c.saturating_add-count.result c.loop.invariant.forgot.0 (asked c.args.accounts.now) (asked c.loop.accounts) (asked c.take_of.new.accounts) c.take_of.result c.in-Some-take_of._session c.take_of.ensures.seeks.0 c.loop.invariant.forgot.1 c.loop.invariant.forgot.2 c.in-Some-take_of.is c.take_of.ensures.seeks.1 c.take_of.ensures.seeks.2 c.saturating_add-count.ensures;
    }

pub returns-in-None-take_of-clause-forgets : goal.returns-in-None-take_of-clause-forgets
returns-in-None-take_of-clause-forgets g c =
    let asked = g.A.Accounts.asked in
    none_forgotten c.args.account c.loop.count c.loop.invariant.forgot.0 (asked c.args.accounts.now) (asked c.loop.accounts) (asked c.take_of.new.accounts) c.take_of.result c.take_of.ensures.seeks.0 c.loop.invariant.forgot.1 c.loop.invariant.forgot.2 c.in-None-take_of.is c.take_of.ensures.seeks.1 c.take_of.ensures.seeks.2
