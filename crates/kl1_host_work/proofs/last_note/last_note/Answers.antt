use Rattle.kl1_pool.specs.Names.{called_at}
use Rattle.kl1_host_work.proofs.Notices.{last_noted}
use Rattle.kl1_host_work.proofs.last_note.last_note.Goals as goal

-- what was read for the last time was noted
pub returns : goal.returns
returns g c =
    let shown = c.in_ok-shown.shown in
    (c.in_ok-shown.ensures.history, last_noted g.K.PoolIds.rules (called_at g.K.Names.names c.args.account) shown c.close_account.new.reader.outgoing c.in_ok-shown.ensures.read c.in_ok-shown.ensures.seen)
