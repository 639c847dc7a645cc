-- The list of events that a seed and a count of messages stand for.
use Rattle.std.specs.Prelude.{ℕ, zero, suc, ◌+◌, ◌*◌, ◌%◌, ◌^◌, List, [], ◌∷◌, ◌++◌, take, drop, length}
use Rattle.dns_io.specs.declared.peer.Ip.TheVariants.{V4}
use Rattle.dns_io.specs.declared.peer.Peer.{Peer}
use Rattle.dns_wire.specs.MessageBytes.{message_bytes}
use Rattle.dns_frames.specs.Frames.{frame_of}
use Rattle.dns_server_core.specs.declared.event.Event.{Event}
use Rattle.dns_server_core.specs.declared.event.Event.TheVariants.{Accepted, Bytes, Datagram}
use Rattle.dns_generator.specs.declared.draws.Kind.{Kind}
use Rattle.dns_generator.specs.declared.draws.Kind.TheVariants.{Query, QueryInPieces, Addition, Deletion}
use Rattle.dns_generator.specs.Draws.{state_after, drawn, kind_of, rest_of}
use Rattle.dns_generator.specs.Requests.{query, update, addition, deletion}

-- a port of 127.0.0.1
abbrev pub local : ℕ → Peer
local port = record { ip = V4 (127 * 2 ^ 24 + 1); port = port }

-- four connections are accepted at the moment 0, without limit
abbrev pub accepted : ℕ → Event
accepted conn = Accepted 0 conn (local (5000 + conn)) 0

abbrev pub acceptances : List Event
acceptances = accepted 1 ∷ accepted 2 ∷ accepted 3 ∷ accepted 4 ∷ []

-- a message comes by datagram, at the moment that is its number
abbrev pub datagram : ℕ → ℕ → List ℕ → List Event
datagram number draw bytes = Datagram number (local (1024 + rest_of draw % 1000)) bytes ∷ []

abbrev pub piece : ℕ → ℕ → List ℕ → List Event
piece number conn bytes = Bytes number conn bytes ∷ []

-- it comes over one of the connections, first five bytes of it, and then the others
abbrev pub in_two : ℕ → ℕ → List ℕ → List Event
in_two number draw frame = piece number (1 + rest_of draw % 4) (take 5 frame) ++ piece number (1 + rest_of draw % 4) (drop 5 frame)

-- how the message with this number comes that a drawn number asks for
abbrev pub coming_as : Kind → ℕ → ℕ → List Event
coming_as Query number draw = datagram number draw (message_bytes (query number draw))
coming_as QueryInPieces number draw = in_two number draw (frame_of (message_bytes (query number draw)))
coming_as Addition number draw = datagram number draw (message_bytes (update number (addition draw)))
coming_as Deletion number draw = datagram number draw (message_bytes (update number (deletion draw)))

abbrev pub coming : ℕ → ℕ → List Event
coming number draw = coming_as (kind_of draw) number draw

-- the events of so many messages, which are numbered from 0; each number is drawn from a state further on
abbrev pub messages : ℕ → ℕ → List Event
messages seed zero = []
messages seed (suc number) = messages seed number ++ coming number (drawn (state_after seed (suc number)))

-- the list of events of a seed and a count of messages
abbrev pub loaded : ℕ → ℕ → List Event
loaded seed count = acceptances ++ messages seed count
