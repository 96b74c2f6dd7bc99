use Rattle.std.proofs.Common.{◌∙◌, sym, ap}
use Rattle.kl1_model.specs.Event as model
use Rattle.kl1_user_events.specs.Views.{event_of}
use Rattle.kl1_user.proofs.Steps.{does_same, reduces_same, leaves_names}
use Rattle.kl1_user.proofs.user_state.UserState.apply.Goals as goal

pub returns-in_ok-reduce-in-Reduce-clause-step : goal.returns-in_ok-reduce-in-Reduce-clause-step
returns-in_ok-reduce-in-Reduce-clause-step g c =
    reduces_same c.in_ok-reduce-in-Reduce.field-0 c.reply_to.result c.args.self.now c.self.inside.account c.reduce.new.self (model.reduce c.in-Reduce.goal.0 c.in-Reduce.clause.0) (event_of c.args.event.now) c.self.view_is (sym (ap event_of c.in-Reduce.is)) c.reply_to.ensures c.in_ok-reduce-in-Reduce.ensures.step

pub returns-in-Load-clause-step : goal.returns-in-Load-clause-step
returns-in-Load-clause-step g c =
    does_same c.load.result c.args.self.now c.self.inside.account c.load.new.self (model.load c.as_slice.result.now) (event_of c.args.event.now) c.self.view_is (ap model.load c.as_slice.ensures.value ∙ sym (ap event_of c.in-Load.is)) c.load.ensures.step

pub returns-in-Start-clause-step : goal.returns-in-Start-clause-step
returns-in-Start-clause-step g c =
    does_same c.start.result c.args.self.now c.self.inside.account c.start.new.self (model.start c.in-Start.allowance c.in-Start.low c.in-Start.high c.in-Start.goal) (event_of c.args.event.now) c.self.view_is (sym (ap event_of c.in-Start.is)) c.start.ensures.step

pub returns-in-Control-clause-step : goal.returns-in-Control-clause-step
returns-in-Control-clause-step g c =
    leaves_names c.send.result c.args.self.now c.self.inside.account c.send.new.self (model.control c.in-Control.shoen.0 c.in-Control.message) (event_of c.args.event.now) c.self.view_is (sym (ap event_of c.in-Control.is)) c.send.ensures.names c.send.ensures.step

pub returns-in-Answer-clause-step : goal.returns-in-Answer-clause-step
returns-in-Answer-clause-step g c =
    does_same c.answer.result c.args.self.now c.self.inside.account c.answer.new.self (model.answer c.in-Answer.shoen.0 c.in-Answer.report c.in-Answer.goal) (event_of c.args.event.now) c.self.view_is (sym (ap event_of c.in-Answer.is)) c.answer.ensures.step

pub returns-in-Forget-clause-step : goal.returns-in-Forget-clause-step
returns-in-Forget-clause-step g c =
    leaves_names c.forget.result c.args.self.now c.self.inside.account c.forget.new.self (model.forget c.in-Forget.shoen.0 c.in-Forget.count) (event_of c.args.event.now) c.self.view_is (sym (ap event_of c.in-Forget.is)) c.forget.ensures.names c.forget.ensures.step
