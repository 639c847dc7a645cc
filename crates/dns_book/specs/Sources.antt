-- Sources that may be answered.
use Rattle.std.specs.Prelude.{◌≡◌, Result, Ok, Err, ◌==◌, if◌then◌else◌}
use Rattle.dns_io.specs.declared.peer.Peer.{Peer}
use Rattle.dns_io.specs.declared.peer.Ip.{Ip}
use Rattle.dns_io.specs.declared.peer.Ip.TheVariants.{V4, V6}
use Rattle.dns_book.specs.declared.ask.UnsafeSource.{UnsafeSource}
use Rattle.dns_book.specs.declared.ask.UnsafeSource.TheVariants.{Port0, Unspecified, Broadcast}

-- an address, or why no reply may go there
abbrev pub sanitized_ip : Ip → Result (Unit {0}) UnsafeSource
sanitized_ip (V4 n) = if n == 0 then Err Unspecified else if n == 4294967295 then Err Broadcast else Ok tt
sanitized_ip (V6 n) = if n == 0 then Err Unspecified else Ok tt

-- a source, or why no reply may go there
abbrev pub sanitized : Peer → Result (Unit {0}) UnsafeSource
sanitized peer = if peer.port == 0 then Err Port0 else sanitized_ip peer.ip

-- a source that may be answered
abbrev pub IsSafe : Peer → Type 0
IsSafe peer = sanitized peer ≡ Ok tt
