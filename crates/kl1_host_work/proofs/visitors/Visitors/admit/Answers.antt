use Rattle.std.proofs.Common.{ℕ, subst}
use Rattle.std.specs.declared.net.ip_addr.IpAddr.{IpAddr}
use Rattle.kl1_host_work.specs.Strangers.{IsCanonical}
use Rattle.kl1_host_work.specs.Visitors.{IsAdmitted}
use Rattle.kl1_host_work.proofs.visitors.Visitors.admit.Goals as goal

-- by what was seen of the others, and by the network of its address
pub returns : goal.returns
returns g c =
    let n = c.network_of.ensures in
    let P : IpAddr → Type 0 = λ a. IsCanonical a n.0 in
    let Q : ℕ → Type 0 = λ m. IsAdmitted m c.args.limits.each c.args.limits.waiting_each c.look.new.self c.admit_from.new.self c.admit_from.result in
    (c.look.new.self, c.look.ensures, n.0, subst P c.ip.ensures n.1, subst Q n.2 c.admit_from.ensures)
