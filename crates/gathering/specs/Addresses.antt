-- From whom a connection comes.
use Rattle.std.specs.Prelude.{◌≡◌, ℕ, ◌+◌, ◌*◌, ◌/◌, ◌^◌}
use Rattle.std.specs.Ordering.{nat_cmp}
use Rattle.std.specs.declared.cmp.Ordering.{Ordering}
use Rattle.std.specs.Net.Addr.{ipv4_bits, ipv6_bits, MatchIp, IsCanonicalOf}
use Rattle.std.specs.declared.net.ip_addr.IpAddr.{IpAddr}
use Rattle.std.specs.declared.net.ip_addr.IpAddr.TheVariants.{V4, V6}
use Rattle.gathering.specs.declared.addresses.Address.{Address}

-- an IPv4 address as it is mapped to IPv6 (RFC 4291, section 2.5.5.2), and the first 64 bits of an IPv6 address
abbrev pub number_of_ip : IpAddr → ℕ
number_of_ip (V4 ip) = 0xffff00000000 + ipv4_bits ip
number_of_ip (V6 ip) = ipv6_bits ip / 2 ^ 64 * 2 ^ 64

-- an address that is mapped is the IPv4 address
abbrev pub IsCanonicalIp : IpAddr → IpAddr → Type 0
IsCanonicalIp ip canonical = MatchIp ip (λ _. canonical ≡ ip) (λ six. IsCanonicalOf six canonical)

pub record IsAddressOfIp (ip : IpAddr) (address : Address) : Type 0 where
  pub canonical : IpAddr
  pub is : IsCanonicalIp ip canonical
  pub number : address.bits ≡ number_of_ip canonical

-- the order of addresses: that of their numbers
abbrev pub address_cmp : Address → Address → Ordering
address_cmp a b = nat_cmp a.bits b.bits
