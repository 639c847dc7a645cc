-- Peers as addresses of the operating system.
use Rattle.std.specs.Prelude.{ℕ, ◌+◌, ◌*◌, ◌/◌, ◌%◌, ◌^◌, Bool, true, false, nat_eq, if◌then◌else◌}
use Rattle.std.specs.Net.Addr.{ipv4_bits, ipv6_bits, IsIpv4OfBits, IsIpv6OfBits}
use Rattle.std.specs.declared.net.ip_addr.IpAddr.{IpAddr}
use Rattle.std.specs.declared.net.ip_addr.IpAddr.TheVariants as system
use Rattle.dns_io.specs.declared.peer.Ip.{Ip}
use Rattle.dns_io.specs.declared.peer.Ip.TheVariants.{V4, V6}

-- the address whose bytes are this number of 128 bits: ::ffff:a.b.c.d is the address a.b.c.d of IPv4 (RFC 4291 2.5.5.2)
abbrev pub unmapped : ℕ → Ip
unmapped bits = if nat_eq (bits / 2 ^ 32) 0xffff then V4 (bits % 2 ^ 32) else V6 bits

-- the address, its bytes read as one number
abbrev pub ip_of : IpAddr → Ip
ip_of (system.V4 address) = V4 (ipv4_bits address)
ip_of (system.V6 address) = unmapped (ipv6_bits address)

-- the address by which a socket reaches a peer: where it is one of IPv6, an address of IPv4 is mapped
abbrev pub ip_for : Bool → Ip → Ip
ip_for true (V4 bits) = V6 (0xffff * 2 ^ 32 + bits)
ip_for true (V6 bits) = V6 bits
ip_for false ip = ip

-- the address has these bytes
abbrev pub HasBytes : IpAddr → Ip → Type 0
HasBytes (system.V4 address) (V4 bits) = IsIpv4OfBits address bits
HasBytes (system.V4 address) (V6 bits) = ⊥
HasBytes (system.V6 address) (V4 bits) = ⊥
HasBytes (system.V6 address) (V6 bits) = IsIpv6OfBits address bits
