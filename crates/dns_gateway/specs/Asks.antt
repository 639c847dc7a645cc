-- Messages as a handler is asked them.
use Rattle.std.specs.Prelude.{ℕ, List}
use Rattle.dns_io.specs.declared.peer.Peer.{Peer}
use Rattle.dns_io.specs.declared.peer.Protocol.{Protocol}
use Rattle.dns_io.specs.declared.peer.Protocol.TheVariants.{Https, H3}
use Rattle.dns_book.specs.declared.ask.Ask.{Ask}
use Rattle.dns_net.specs.declared.version.Version.{Version}
use Rattle.dns_net.specs.declared.version.Version.TheVariants.{Http2, Http3}

-- the protocol by which messages come in a version of HTTP
abbrev pub protocol_of : Version → Protocol
protocol_of Http2 = Https
protocol_of Http3 = H3

-- a message that came from a peer, by a protocol, at a moment; its rows bear the number 0
abbrev pub ask_of : Peer → Protocol → ℕ → List ℕ → Ask
ask_of peer protocol at bytes = record { bytes = bytes; source = peer; protocol = protocol; at = at; client = 0 }
