-- How long one rests before a call that the system refused is made again.
use Rattle.std.specs.Prelude.{ℕ, List, [], ◌∷◌, ◌+◌, if◌then◌else◌, nat_le, min, Bool, true, false, Option, Some, None, Result, Ok, Err}
use Rattle.std.specs.declared.io.ErrorKind.{ErrorKind}
use Rattle.std.specs.declared.io.ErrorKind.TheVariants as kind
use Rattle.dns_io.specs.declared.io_fault.IoFault.{IoFault}
use Rattle.dns_network.specs.Calls.{Noted, rested}
use Rattle.dns_network.specs.declared.refused.Refused.{Refused}
use Rattle.dns_network.specs.declared.refused.Refused.TheVariants as refusal
use Rattle.dns_ports.specs.Sockets.{arrival_after, fault_for}

-- how long the next rest is, in milliseconds, where one rested for so long in a row: 1, 2, 4 and so on to a second, and behind five
-- seconds none
abbrev pub rest_behind : ℕ → Option ℕ
rest_behind rested = if nat_le 5000 rested then None else Some (min (rested + 1) 1000)

-- for how long one rested in a row behind that rest
abbrev pub with_rest : ℕ → Option ℕ → Option ℕ
with_rest rested None = None
with_rest rested (Some rest) = Some (rested + rest)

abbrev pub rested_behind : ℕ → Option ℕ
rested_behind rested = with_rest rested (rest_behind rested)

-- a wait ended with nothing
abbrev pub is_wait : ErrorKind → Bool
is_wait kind.WouldBlock = true
is_wait kind.TimedOut = true
is_wait _ = false

-- for how long one rested in a row before a receive of datagrams is made again, where the last one ended so: it is made again behind a rest,
-- and fails behind five seconds of rests, whatever the error. An error that came back for a datagram to one peer says nothing of the socket,
-- but where nothing else is received for so long, nobody is served
abbrev pub received_with : IoFault → Option ℕ → Result ℕ IoFault
received_with fault (Some in_a_row) = Ok in_a_row
received_with fault None = Err fault

abbrev pub is_not_yet : Refused → Bool
is_not_yet refusal.NotYet = true
is_not_yet other = false

abbrev pub rested_to_receive : Refused → ℕ → Result ℕ IoFault
rested_to_receive refused before = if is_not_yet refused then Ok 0 else received_with (fault_for refused) (rested_behind before)

-- the rest that is made of the network before that
abbrev pub one_rest : Option ℕ → List Noted
one_rest None = []
one_rest (Some millis) = rested millis ∷ []

abbrev pub rests_to_receive : Refused → ℕ → List Noted
rests_to_receive refused before = if is_not_yet refused then [] else one_rest (rest_behind before)

-- the same before an accept is made again: for however long where the error is one peer's, since each is of another connection, and else it
-- fails behind five seconds of rests
abbrev pub accepted_with : Result (Unit {0}) IoFault → ℕ → Option ℕ → Result ℕ IoFault
accepted_with ended rested (Some in_a_row) = Ok in_a_row
accepted_with (Ok passed) rested None = Ok rested
accepted_with (Err fault) rested None = Err fault

abbrev pub rested_to_accept : ErrorKind → ℕ → Result ℕ IoFault
rested_to_accept error rested = if is_wait error then Ok 0 else accepted_with (arrival_after error) rested (rested_behind rested)
