use Rattle.std.proofs.Common.{sym, ap}
use Rattle.kl1_model.specs.Event as model
use Rattle.kl1_user_events.specs.Views.{query_of}
use Rattle.kl1_user.proofs.Steps.{asks_same}
use Rattle.kl1_user.proofs.user_state.UserState.tell.Goals as goal

pub returns-in-Value-clause-step : goal.returns-in-Value-clause-step
returns-in-Value-clause-step g c =
    asks_same c.value.result c.args.self.now c.self.inside.account (model.read (model.value c.in-Value.number.0)) (model.read (query_of c.args.query)) c.self.view_is (sym (ap (λ q. model.read (query_of q)) c.in-Value.is)) c.value.ensures.step

pub returns-in-Status-clause-step : goal.returns-in-Status-clause-step
returns-in-Status-clause-step g c =
    asks_same c.status.result c.args.self.now c.self.inside.account (model.read (model.status c.in-Status.number.0)) (model.read (query_of c.args.query)) c.self.view_is (sym (ap (λ q. model.read (query_of q)) c.in-Status.is)) c.status.ensures.step

pub returns-in-Reports-clause-step : goal.returns-in-Reports-clause-step
returns-in-Reports-clause-step g c =
    asks_same c.reports.result c.args.self.now c.self.inside.account (model.read (model.reports c.in-Reports.shoen.0 c.in-Reports.from)) (model.read (query_of c.args.query)) c.self.view_is (sym (ap (λ q. model.read (query_of q)) c.in-Reports.is)) c.reports.ensures.step
