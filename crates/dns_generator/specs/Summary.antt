-- What is told of the replies to a list of events.
use Rattle.std.specs.Prelude.{ℕ, List, length, drop, count_by, Bool, false, ◌==◌}
use Rattle.std.specs.List.{sum_by}
use Rattle.std.specs.Option.{option_map_or}
use Rattle.dns_wire.specs.Header.{header_of}
use Rattle.dns_wire.specs.declared.response_code.TheConstants.{NO_ERROR, NX_DOMAIN}
use Rattle.dns_server_core.specs.declared.event.Out.{Out}
use Rattle.dns_server_core.specs.declared.event.Receiver.{Receiver}
use Rattle.dns_server_core.specs.declared.event.Receiver.TheVariants.{Conn, Peer}
use Rattle.dns_generator.specs.declared.summary.Summary.{Summary}

-- the message in what is sent: behind its length on a connection
abbrev pub message_in : Receiver → List ℕ → List ℕ
message_in (Conn number) bytes = drop 2 bytes
message_in (Peer peer) bytes = bytes

-- the reply has this code in its header (RFC 1035 4.1.1)
abbrev pub has_code : ℕ → Out → Bool
has_code code out = option_map_or (λ header. header.code == code) (header_of (message_in out.to out.bytes)) false

-- of these replies: how many they are, how many bytes they take with those of their length, and how many say that there is no
-- error and that there is no such name
abbrev pub summary_of : List Out → Summary
summary_of outs = record {
  replies = length outs;
  bytes = sum_by (λ out. length out.bytes) outs;
  no_error = count_by (has_code NO_ERROR) outs;
  nx_domain = count_by (has_code NX_DOMAIN) outs;
}
