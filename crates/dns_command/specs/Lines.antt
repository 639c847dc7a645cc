-- The lines that the program writes.
use Rattle.std.specs.Prelude.{ℕ, ◌++◌, List, codes, Option, Some, None}
use Rattle.std.specs.List.{flat_map}
use Rattle.std.specs.Fmt.{decimal}
use Rattle.std.specs.Int.{w32, w128, to_be_bytes}
use Rattle.hex.specs.Hex.{encode_lower}
use Rattle.dns_io.specs.declared.peer.Ip.{Ip}
use Rattle.dns_io.specs.declared.peer.Ip.TheVariants.{V4, V6}
use Rattle.dns_server_core.specs.declared.event.Out.{Out}
use Rattle.dns_server_core.specs.declared.event.Receiver.{Receiver}
use Rattle.dns_server_core.specs.declared.event.Receiver.TheVariants as to
use Rattle.dns_generator.specs.declared.summary.Summary.{Summary}
use Rattle.dns_generator.specs.Summary.{summary_of}
use Rattle.dns_command.specs.declared.command_line.Drawn.{Drawn}

-- an address: eight small hex digits, or thirty-two
abbrev pub ip_text : Ip → List ℕ
ip_text (V4 n) = encode_lower (to_be_bytes w32 n)
ip_text (V6 n) = encode_lower (to_be_bytes w128 n)

-- where a reply goes: `C` and a connection's number, or `P` and an address and a port
abbrev pub receiver_text : Receiver → List ℕ
receiver_text (to.Conn number) = codes "C " ++ decimal number
receiver_text (to.Peer peer) = codes "P " ++ (ip_text peer.ip ++ (codes " " ++ decimal peer.port))

-- the line of a reply: where it goes, and its bytes in small hex digits
abbrev pub out_line : Out → List ℕ
out_line out = receiver_text out.to ++ (codes " " ++ (encode_lower out.bytes ++ codes "\n"))

-- the line of a name and its number
abbrev pub number_line : List ℕ → ℕ → List ℕ
number_line name n = name ++ (codes " " ++ (decimal n ++ codes "\n"))

-- the closing lines: the zone's serial, how many rows the journal has, and how many connections are open
abbrev pub closing_lines : ℕ → ℕ → ℕ → List ℕ
closing_lines serial rows open_ =
    number_line (codes "serial") serial ++ number_line (codes "journal_len") rows ++ number_line (codes "open") open_

-- the whole output: a line for each reply, and the closing lines
abbrev pub output_lines : List Out → ℕ → ℕ → ℕ → List ℕ
output_lines outs serial rows open_ = flat_map out_line outs ++ closing_lines serial rows open_

-- the whole output of `serve`: the zone's serial, and how many rows the journal has
abbrev pub serve_lines : ℕ → ℕ → List ℕ
serve_lines serial rows = number_line (codes "serial") serial ++ number_line (codes "journal_len") rows

-- what is told of the replies to so many messages
abbrev pub counted_lines : ℕ → Summary → List ℕ
counted_lines messages summary =
    number_line (codes "messages") messages ++ (number_line (codes "replies") summary.replies ++ (number_line (codes "bytes") summary.bytes
    ++ (number_line (codes "noerror") summary.no_error ++ number_line (codes "nxdomain") summary.nx_domain)))

-- the whole output for a drawn list of so many messages: what is told of the replies, and the closing lines
abbrev pub summary_lines : ℕ → Summary → ℕ → ℕ → ℕ → List ℕ
summary_lines messages summary serial rows open_ = counted_lines messages summary ++ closing_lines serial rows open_

-- the whole output: for a drawn list the summary, else a line for each reply
abbrev pub lines_by : Option Drawn → List Out → ℕ → ℕ → ℕ → List ℕ
lines_by None outs serial rows open_ = output_lines outs serial rows open_
lines_by (Some drawn) outs serial rows open_ = summary_lines drawn.count (summary_of outs) serial rows open_
