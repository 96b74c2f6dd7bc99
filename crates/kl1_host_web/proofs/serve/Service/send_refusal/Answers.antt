use Rattle.std.proofs.Common.{refl, inl, inr}
use Rattle.kl1_host_web.proofs.Writing.{refusal_written}
use Rattle.kl1_host_web.proofs.serve.Service.send_refusal.Goals as goal

pub returns-in_default : goal.returns-in_default
returns-in_default g c = inl refl

pub returns : goal.returns
returns g c =
    let contents = g.T.Sink.contents in
    let failures = g.T.Sink.failures in
    inr (refusal_written c.args.refusal c.in-Ok.answer (contents c.args.sink.now) (contents c.send-is_sent.new.sink) (failures c.args.sink.now) (failures c.send-is_sent.new.sink) c.send-is_sent.result c.in-Ok.ensures c.send-is_sent.ensures.sent c.send-is_sent.ensures.breaks)
