use Rattle.std.proofs.Common.{subst}
use Rattle.std.specs.declared.net.ip_addr.IpAddr.{IpAddr}
use Rattle.kl1_host_front.specs.Addresses.{IsCanonical}
use Rattle.kl1_host.proofs.web.is_local.Goals as goal

pub returns : goal.returns
returns c = (c.to_canonical.result, subst (λ (a : IpAddr). IsCanonical a c.to_canonical.result) c.ip.ensures c.to_canonical.ensures, c.is_loopback.ensures)
