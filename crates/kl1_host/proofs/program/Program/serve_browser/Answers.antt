use Rattle.std.proofs.Common.{List, length, ap, sym}
use Rattle.kl1_session.specs.Views.{entries_view}
use Rattle.kl1_session.specs.declared.key.Key.{Key}
use Rattle.kl1_host_front.specs.Sums.{opened_by_sum}
use Rattle.kl1_host_web.specs.Asking.{House}
use Rattle.kl1_host_web.specs.Records.{asked_in}
use Rattle.kl1_host.specs.Browsers.{name_at}
use Rattle.kl1_host.proofs.Browsing.{served_by}
use Rattle.kl1_host.proofs.program.Program.serve_browser.Goals as goal

pub returns : goal.returns
returns g c =
    let done = g.P.Performer.done in
    let contents = g.T.Sink.contents in
    let failures = g.T.Sink.failures in
    let self = c.args.self.now in
    let old = c.args.accounts.now in
    let new = c.serve.new.accounts in
    let house : List Key → House = λ d. record { accounts = length d; names = name_at (entries_view old.keys.now); opens = opened_by_sum (entries_view d); entries = entries_view old.keys.now; before = done old.begun.value } in
    served_by (entries_view old.keys.now) (length old.keys.now) c.service.result.page.idle c.service.result.page.sites.now self.sites.now c.args.address c.service.result.is_local c.is_local.result (g.S.Source.remaining c.args.source.now) (contents c.args.sink.now) (contents c.serve.new.sink) (failures c.args.sink.now) (failures c.serve.new.sink) (done old.begun.value) (done new.begun.value) (done new.performer) (asked_in old.noted) (asked_in new.noted) (house old.door.keys.now) (ap house (sym c.requires.keys)) c.service.ensures.sites c.service.ensures.is_local c.is_local.ensures c.requires.fresh (ap (λ (h : House). h.before) c.serve.ensures.house) c.serve.ensures.connects new.is_done
