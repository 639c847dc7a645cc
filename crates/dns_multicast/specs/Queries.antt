-- How one takes part in multicast DNS (RFC 6762 3, 5, 11).
use Rattle.std.specs.Prelude.{ℕ, ◌+◌, ◌*◌, ◌%◌, ◌^◌, nat_le, nat_lt, Bool, true, false, ◌&&◌, Option, Some, None}
use Rattle.dns_io.specs.declared.peer.Ip.{Ip}
use Rattle.dns_io.specs.declared.peer.Ip.TheVariants.{V4, V6}
use Rattle.dns_io.specs.declared.peer.Peer.{Peer}
use Rattle.dns_multicast.specs.declared.query_type.MdnsQueryType.{MdnsQueryType}
use Rattle.dns_multicast.specs.declared.query_type.MdnsQueryType.TheVariants.{OneShot, Continuous, OneShotJoin, Passive}

-- it sends queries
abbrev pub is_sender : MdnsQueryType → Bool
is_sender OneShot = true
is_sender Continuous = true
is_sender OneShotJoin = true
is_sender Passive = false

-- its queries come from port 5353
abbrev pub binds_on_5353 : MdnsQueryType → Bool
binds_on_5353 OneShot = false
binds_on_5353 Continuous = true
binds_on_5353 OneShotJoin = false
binds_on_5353 Passive = false

-- it joins the multicast group
abbrev pub is_joined : MdnsQueryType → Bool
is_joined OneShot = false
is_joined Continuous = true
is_joined OneShotJoin = true
is_joined Passive = true

-- the port of its queries, where it sends any: 5353, or one of the free ports (RFC 6335 6), which a number of 32 bits chooses
abbrev pub port_of : MdnsQueryType → ℕ → Option ℕ
port_of OneShot word = Some (49152 + word % 16384)
port_of Continuous word = Some 5353
port_of OneShotJoin word = Some (49152 + word % 16384)
port_of Passive word = None

-- an address of a group: 224.0.0.0/4 (RFC 5771), or ff00::/8 (RFC 4291 2.7)
abbrev pub is_group : Ip → Bool
is_group (V4 ip) = nat_le (224 * 2 ^ 24) ip && nat_lt ip (240 * 2 ^ 24)
is_group (V6 ip) = nat_le (255 * 2 ^ 120) ip

-- the group of multicast DNS by version 4, 224.0.0.251, and its port (RFC 6762 3)
abbrev pub group_v4 : Peer
group_v4 = record { ip = V4 (224 * 2 ^ 24 + 251); port = 5353 }

-- the group of multicast DNS by version 6, ff02::fb, and its port (RFC 6762 3)
abbrev pub group_v6 : Peer
group_v6 = record { ip = V6 (255 * 2 ^ 120 + 2 * 2 ^ 112 + 251); port = 5353 }
