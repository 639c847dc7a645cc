-- Networks of addresses, which sources they let in, and how large a datagram goes out.
use Rattle.std.specs.Prelude.{ℕ, List, Option, Some, None, Bool, true, false, not, nat_le, take, ◌&&◌, ◌||◌, ◌≤◌, if◌then◌else◌}
use Rattle.std.specs.List.{list_any}
use Rattle.std.specs.Str.{bytes_eq}
use Rattle.dns_io.specs.declared.peer.Ip.{Ip}
use Rattle.dns_io.specs.declared.peer.Ip.TheVariants.{V4, V6}
use Rattle.dns_book.specs.declared.access.IpNet.{IpNet}
use Rattle.dns_book.specs.Bits.{bits_of, front_of}

-- two addresses are of one family
abbrev pub is_one_family : Ip → Ip → Bool
is_one_family (V4 a) (V4 b) = true
is_one_family (V4 a) (V6 b) = false
is_one_family (V6 a) (V4 b) = false
is_one_family (V6 a) (V6 b) = true

-- the bits of an address, from the most significant down: 32 of IPv4 (RFC 791 2.3), 128 of IPv6 (RFC 4291 2)
abbrev pub address_bits : Ip → List ℕ
address_bits (V4 n) = bits_of 32 n
address_bits (V6 n) = bits_of 128 n

-- two addresses are of one family, and their first bits agree, as many as the count says
abbrev pub share_front : ℕ → Ip → Ip → Bool
share_front count a b = is_one_family a b && bytes_eq (take count (address_bits a)) (take count (address_bits b))

-- the network of an address's first bits, its other bits cleared; none where it has no such number of bits
-- (RFC 4632 3.1, RFC 4291 2.3)
abbrev pub net_of : Ip → ℕ → Option IpNet
net_of (V4 n) prefix = if nat_le prefix 32 then Some (record { ip = V4 (front_of 32 prefix n); prefix = prefix }) else None
net_of (V6 n) prefix = if nat_le prefix 128 then Some (record { ip = V6 (front_of 128 prefix n); prefix = prefix }) else None

-- an address lies in a network: it is of its family, and has its first bits
abbrev pub lies_in : Ip → IpNet → Bool
lies_in ip net = share_front net.prefix ip net.ip

abbrev pub lies_in_any : Ip → List IpNet → Bool
lies_in_any ip nets = list_any (λ net. lies_in ip net) nets

-- there is a network of an address's family
abbrev pub has_own : Ip → List IpNet → Bool
has_own ip nets = list_any (λ net. is_one_family ip net.ip) nets

-- the networks that are let in, those that are shut out, and how many bytes a datagram has at most that is sent
pub record Access : Type 0 where
  pub allowed : List IpNet
  pub denied : List IpNet
  pub payload : ℕ

-- how many bytes a datagram may have: at least the 512 that every receiver takes (RFC 1035 4.2.1, RFC 6891 6.2.3), at most what IPv4
-- carries: 65,535, less 20 of its own header (RFC 791 3.1) and 8 of UDP's (RFC 768)
pub record IsPayload (bytes : ℕ) : Type 0 where
  pub least : 512 ≤ bytes
  pub most : bytes ≤ 65507

-- whether a source is let in, by the networks of its own family: one in an allowed network is; else one in a denied
-- network is not; else it is, unless there are allowed networks and no denied ones
unfoldable pub lets_in : Access → Ip → Bool
lets_in access ip =
    if lies_in_any ip access.allowed then true
    else if lies_in_any ip access.denied then false
    else not (has_own ip access.allowed) || has_own ip access.denied
