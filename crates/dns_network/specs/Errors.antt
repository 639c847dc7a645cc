-- What the system's errors mean for the calls of a network.
use Rattle.std.specs.Prelude.{ℕ, ℤ, List, [], ◌∷◌, nat_eq, unsigned_abs, if◌then◌else◌, Bool, Option, Some, None, Result, Ok, Err}
use Rattle.std.specs.List.{list_any}
use Rattle.std.specs.IoError.{error_kind, raw_os_error}
use Rattle.std.specs.declared.io.Error.{Error}
use Rattle.std.specs.declared.io.ErrorKind.{ErrorKind}
use Rattle.std.specs.declared.io.ErrorKind.TheVariants as kind
use Rattle.dns_network.specs.declared.refused.Refused.{Refused}
use Rattle.dns_network.specs.declared.refused.Refused.TheVariants as refusal

-- the number of an error (errno(3)), 0 for one that has none
abbrev pub error_number : Option ℤ → ℕ
error_number None = 0
error_number (Some code) = unsigned_abs code

abbrev pub is_among : List ℕ → ℕ → Bool
is_among errors error = list_any (λ one. nat_eq one error) errors

-- a read, a write or a shutdown of a stream: whatever is more than a wait is the end of the stream
abbrev pub transfer_refused : ErrorKind → Refused
transfer_refused kind.Interrupted = refusal.Interrupted
transfer_refused kind.WouldBlock = refusal.NotYet
transfer_refused _ = refusal.Gone

-- the errors of an accept that are one connection's, so that the next one may be taken at once (accept(2)): EPERM, ENONET, EPROTO,
-- ENOPROTOOPT, EOPNOTSUPP, ENETDOWN, ENETUNREACH, ECONNABORTED, ECONNRESET, ETIMEDOUT, ECONNREFUSED, EHOSTDOWN, EHOSTUNREACH
abbrev pub errors_of_one : List ℕ
errors_of_one = 1 ∷ 64 ∷ 71 ∷ 92 ∷ 95 ∷ 100 ∷ 101 ∷ 103 ∷ 104 ∷ 110 ∷ 111 ∷ 112 ∷ 113 ∷ []

-- those that tell that no descriptor is left: ENFILE, EMFILE
abbrev pub errors_of_descriptors : List ℕ
errors_of_descriptors = 23 ∷ 24 ∷ []

-- EAGAIN, EINTR
abbrev pub nothing_waits : ℕ
nothing_waits = 11

abbrev pub was_interrupted : ℕ
was_interrupted = 4

-- an accept, by the number of its error
abbrev pub accept_refused : ℕ → Refused
accept_refused error = if nat_eq error nothing_waits then refusal.NotYet
    else (if nat_eq error was_interrupted then refusal.Interrupted
    else (if is_among errors_of_one error then refusal.Gone
    else (if is_among errors_of_descriptors error then refusal.Wanting else refusal.Useless)))

-- EMSGSIZE
abbrev pub too_long : ℕ
too_long = 90

-- a receive or a sending of a datagram: errors of the network and of one peer, which the system tells at the next call, are that peer's
abbrev pub datagram_refused_as : ErrorKind → Refused
datagram_refused_as kind.Interrupted = refusal.Interrupted
datagram_refused_as kind.WouldBlock = refusal.NotYet
datagram_refused_as kind.TimedOut = refusal.NotYet
datagram_refused_as kind.ConnectionAborted = refusal.Gone
datagram_refused_as kind.ConnectionReset = refusal.Gone
datagram_refused_as kind.ConnectionRefused = refusal.Gone
datagram_refused_as kind.HostUnreachable = refusal.Gone
datagram_refused_as kind.NetworkUnreachable = refusal.Gone
datagram_refused_as kind.NetworkDown = refusal.Gone
datagram_refused_as kind.OutOfMemory = refusal.Wanting
datagram_refused_as _ = refusal.Useless

abbrev pub datagram_refused : ErrorKind → ℕ → Refused
datagram_refused error number = if nat_eq number too_long then refusal.TooLong else datagram_refused_as error

-- a wait, a watch or a look at a clock
abbrev pub call_refused : ErrorKind → Refused
call_refused kind.Interrupted = refusal.Interrupted
call_refused kind.WouldBlock = refusal.NotYet
call_refused kind.OutOfMemory = refusal.Wanting
call_refused _ = refusal.Useless

-- what a call of each kind gave, where its error is what it means
abbrev pub transferred : {T : Type 0} → Result T Error → Result T Refused
transferred (Ok it) = Ok it
transferred (Err error) = Err (transfer_refused (error_kind error))

abbrev pub accepted_as : {T : Type 0} → Result T Error → Result T Refused
accepted_as (Ok it) = Ok it
accepted_as (Err error) = Err (accept_refused (error_number (raw_os_error error)))

abbrev pub datagram_as : {T : Type 0} → Result T Error → Result T Refused
datagram_as (Ok it) = Ok it
datagram_as (Err error) = Err (datagram_refused (error_kind error) (error_number (raw_os_error error)))

abbrev pub called : {T : Type 0} → Result T Error → Result T Refused
called (Ok it) = Ok it
called (Err error) = Err (call_refused (error_kind error))
