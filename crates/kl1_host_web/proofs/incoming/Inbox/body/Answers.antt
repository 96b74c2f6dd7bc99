use Rattle.std.proofs.Common.{arith}
use Rattle.std.specs.Io.KnownBytes.{prepend_known}
use Rattle.kl1_host_web.proofs.Coming.{body_comes}
use Rattle.kl1_host_web.proofs.incoming.Inbox.body.Goals as goal

pub returns-then-len-count : goal.returns-then-len-count
returns-then-len-count g c =
    body_comes (prepend_known c.args.self.now.kept.items (g.S.Source.remaining c.args.source.now)) (g.S.Source.remaining c.loop.source) c.loop.self.kept.items c.take.new.self.kept.items c.in_ok-take.field-0.items c.args.count c.loop.invariant (omega (arith, c.len.ensures)) c.in_ok-take.ensures.taken c.in_ok-take.ensures.rest
