-- By which number connections are counted.
use Rattle.std.specs.Prelude.{◌≡◌, ℕ, ◌+◌, ◌/◌, ◌^◌}
use Rattle.std.specs.Net.Addr.{ipv4_bits, ipv6_bits, IsCanonicalOf, MatchIp}
use Rattle.std.specs.declared.net.ip_addr.IpAddr.{IpAddr}
use Rattle.std.specs.declared.net.ip_addr.IpAddr.TheVariants.{V4, V6}

-- an address as one of version 4, if it is one of version 6 in which such a one is mapped, and else as it is
abbrev pub IsCanonical : IpAddr → IpAddr → Type 0
IsCanonical a canonical = MatchIp a (λ _. canonical ≡ a) (λ long. IsCanonicalOf long canonical)

-- the number by which connections from an address are counted: that of an address of version 4, or of the network of one of version 6
abbrev pub network_in : IpAddr → ℕ
network_in (V4 short) = ipv4_bits short
network_in (V6 long) = 2 ^ 64 + ipv6_bits long / 2 ^ 64
