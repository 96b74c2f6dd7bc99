-- The numbers of addresses.
use Rattle.std.specs.Prelude.{◌≡◌, ℕ, ◌+◌, ◌/◌}
use Rattle.std.specs.Net.Addr.{ipv4_bits, ipv6_bits, IsCanonicalOf, MatchIp}
use Rattle.std.specs.declared.net.ip_addr.IpAddr.{IpAddr}
use Rattle.std.specs.declared.net.ip_addr.IpAddr.TheVariants.{V4, V6}
use Rattle.kl1_host_front.specs.declared.address.TheConstants.{FIRST_ADDRESS, FIRST_LONG_ADDRESS, ADDRESSES_OF_A_NETWORK}

-- an address as one of version 4, if it is one of version 6 in which such a one is mapped, and else as it is
abbrev pub IsCanonical : IpAddr → IpAddr → Type 0
IsCanonical a canonical = MatchIp a (λ _. canonical ≡ a) (λ long. IsCanonicalOf long canonical)

-- the number of an address of version 4 is its own, and that of one of version 6 its network's
abbrev pub number_in : IpAddr → ℕ
number_in (V4 short) = FIRST_ADDRESS + ipv4_bits short
number_in (V6 long) = FIRST_LONG_ADDRESS + ipv6_bits long / ADDRESSES_OF_A_NETWORK
