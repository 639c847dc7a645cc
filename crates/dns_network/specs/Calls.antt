-- The calls of a network, in order.
use Rattle.std.specs.Prelude.{ℕ, List, [], take, length, Bool, Result, Ok, Err}
use Rattle.std.specs.declared.net.socket_addr.SocketAddr.{SocketAddr}
use Rattle.dns_network.specs.declared.call.Call.{Call}
use Rattle.dns_network.specs.declared.call.Call.TheVariants as call
use Rattle.dns_network.specs.declared.call.Reading.{Reading}
use Rattle.dns_network.specs.declared.call.Watch.{Watch}
use Rattle.dns_network.specs.declared.call.Why.{Why}
use Rattle.dns_network.specs.declared.refused.Refused.{Refused}

-- a call, and the bytes that it moved
abbrev pub Noted : Type 0
Noted = Call × List ℕ

-- the bytes that a call moved, which gave how many, from the front of those that it was about
abbrev pub moved : Result ℕ Refused → List ℕ → List ℕ
moved (Ok count) bytes = take count bytes
moved (Err refused) bytes = []

-- from whom something came
abbrev pub from_whom : {T : Type 0} → Result (T × SocketAddr) Refused → Result SocketAddr Refused
from_whom (Ok came) = Ok came.1
from_whom (Err refused) = Err refused

-- how much of it came
abbrev pub how_much : {T : Type 0} → Result (ℕ × T) Refused → Result ℕ Refused
how_much (Ok came) = Ok came.0
how_much (Err refused) = Err refused

-- what is noted of each call

abbrev pub looked : Bool → Noted
looked stopped = (call.Looked stopped, [])

abbrev pub clock : Result Reading Refused → Noted
clock given = (call.Clock given, [])

abbrev pub ceased : Noted
ceased = (call.Ceased, [])

abbrev pub rested : ℕ → Noted
rested millis = (call.Rested millis, [])

abbrev pub waited : ℕ → Result ℕ Refused → Noted
waited most given = (call.Waited most given, [])

abbrev pub accepted : {Stream : Type 0} → ℕ → Result (Stream × SocketAddr) Refused → Noted
accepted number given = (call.Accepted number (from_whom given), [])

abbrev pub watched : ℕ → Watch → Result (Unit {0}) Refused → Noted
watched number what given = (call.Watched number what given, [])

-- a read into this room, as it stands behind it
abbrev pub read : ℕ → List ℕ → Result ℕ Refused → Noted
read number room given = (call.Read number (length room) given, moved given room)

-- a write of these bytes
abbrev pub wrote : ℕ → List ℕ → Result ℕ Refused → Noted
wrote number bytes given = (call.Wrote number (length bytes) given, moved given bytes)

abbrev pub shut : ℕ → Result (Unit {0}) Refused → Noted
shut number given = (call.Shut number given, [])

abbrev pub closed : ℕ → Why → Noted
closed number why = (call.Closed number why, [])

-- a receive into this room, as it stands behind it
abbrev pub received : List ℕ → Result (ℕ × SocketAddr) Refused → Noted
received room given = (call.Received (from_whom given), moved (how_much given) room)

-- a sending of these bytes
abbrev pub sent : SocketAddr → List ℕ → Result ℕ Refused → Noted
sent to bytes given = (call.Sent to (length bytes) given, moved given bytes)
