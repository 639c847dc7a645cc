-- Messages on a stream, each behind its length (RFC 9250 4.2, RFC 1035 4.2.2).
use Rattle.std.specs.Prelude.{◌≡◌, ℕ, ◌+◌, ◌*◌, ◌<◌, ◌≤◌, ◌==◌, nat_lt, true, List, [], ◌∷◌, ◌++◌, length, Option, Result, Ok, Err, MatchBool, MatchResult}
use Rattle.dns_frames.specs.Frames.{frame_of}
use Rattle.dns_io.specs.Told.{Told, Keeps, Grows, GrowsByPrefix}
use Rattle.dns_io.specs.declared.io_fault.IoFault.{IoFault}
use Rattle.dns_name.specs.declared.fault.ProtoError.{ProtoError}
use Rattle.dns_wire.specs.declared.message.Message.{Message}
use Rattle.dns_wire.specs.MessageBytes.{message_bytes, TellsTooLong}
use Rattle.dns_transport.specs.Faults.{of_io, of_proto}
use Rattle.dns_transport.specs.Messages.{with_id_0, ReadsMessage}
use Rattle.dns_transport.specs.declared.error.NetError.{NetError}
use Rattle.dns_transport.specs.declared.error.NetError.TheVariants.{QuicMessageIdNot0, FinishedEarly, MaxBufferSizeExceeded, UnknownStream, Io, OutOfMemory}
use Rattle.dns_quic.specs.Halves.{SendOf, RecvTold, EndsHalf}
use Rattle.dns_quic.specs.declared.halves.StreamEnd.{StreamEnd}
use Rattle.dns_quic.specs.declared.halves.StreamEnd.TheVariants.{Reset}
use Rattle.dns_quic.specs.declared.quic_stream.QuicStream.{QuicStream}

-- a fault of reading or writing
abbrev pub IsIoFault : NetError → Type 0
IsIoFault Io = Unit {0}
IsIoFault OutOfMemory = Unit {0}
IsIoFault _ = ⊥

-- all these bytes were taken, or after a fault a front of them
abbrev pub TakesBytes : Option (List ℕ) → Option (List ℕ) → List ℕ → Result (Unit {0}) NetError → Type 0
TakesBytes before now bytes result =
    MatchResult result
    (λ _. Grows before now bytes)
    (λ fault. IsIoFault fault × ((rest : List ℕ) × GrowsByPrefix before now bytes rest))

-- what sending these bytes as a message does: they are too many, or else the sending half was ended before, or else it took
-- them
abbrev pub SendsBytes : {S R : Type 0} → SendOf S → QuicStream S R → List ℕ → Result (Unit {0}) NetError → QuicStream S R → Type 0
SendsBytes sending before bytes result after =
    MatchBool (nat_lt 65535 (length bytes))
    ((result ≡ Err (MaxBufferSizeExceeded (length bytes))) × (after ≡ before))
    (MatchBool before.is_ended
    ((result ≡ Err UnknownStream) × (after ≡ before))
    (TakesBytes (sending.told before.send).taken (sending.told after.send).taken (frame_of bytes) result
    × Keeps (sending.told before.send).ends (sending.told after.send).ends
    × (after ≡ record before { send = after.send })))

-- the bytes of a message with the id 0, or why there are none
abbrev pub Encodes : Message → Result (List ℕ) NetError → Type 0
Encodes message made =
    MatchResult made
    (λ bytes. (bytes ≡ message_bytes (with_id_0 message)) × (length bytes ≤ 65535))
    (λ fault. (error : ProtoError) × (fault ≡ of_proto error) × TellsTooLong message error)

-- what sending a message does
abbrev pub SendsMessage : {S R : Type 0} → SendOf S → QuicStream S R → Message → Result (Unit {0}) NetError → QuicStream S R → Type 0
SendsMessage sending before message result after =
    (made : Result (List ℕ) NetError) × Encodes message made
    × MatchResult made
    (λ bytes. SendsBytes sending before bytes result after)
    (λ fault. (result ≡ Err fault) × (after ≡ before))

-- what a call of a half answers, as it is told outside
abbrev pub told_as : Result (Unit {0}) IoFault → Result (Unit {0}) NetError
told_as (Ok done) = Ok done
told_as (Err fault) = Err (of_io fault)

-- the half is ended so by one call, and what that answers is told
abbrev pub EndsOnce : {S : Type 0} → SendOf S → S → StreamEnd → Result (Unit {0}) NetError → S → Type 0
EndsOnce sending before how result after =
    (answer : Result (Unit {0}) IoFault) × EndsHalf sending before how answer after × (result ≡ told_as answer)

-- what ending the sending half so does, where it was not ended before: after a fault it is not
abbrev pub EndsSo : {S R : Type 0} → SendOf S → QuicStream S R → StreamEnd → Result (Unit {0}) NetError → QuicStream S R → Type 0
EndsSo sending before how result after =
    EndsOnce sending before.send how result after.send
    × Keeps (sending.told before.send).taken (sending.told after.send).taken
    × MatchResult result
    (λ _. Grows (sending.told before.send).ends (sending.told after.send).ends (how ∷ [])
    × (after ≡ record before { send = after.send; is_ended = true }))
    (λ fault. IsIoFault fault × Keeps (sending.told before.send).ends (sending.told after.send).ends
    × (after ≡ record before { send = after.send }))

-- what ending the sending half so does
abbrev pub Ends : {S R : Type 0} → SendOf S → QuicStream S R → StreamEnd → Result (Unit {0}) NetError → QuicStream S R → Type 0
Ends sending before how result after =
    MatchBool before.is_ended ((result ≡ Err UnknownStream) × (after ≡ before)) (EndsSo sending before how result after)

-- what stopping the receiving half does
abbrev pub Stops : {S R : Type 0} → (R → RecvTold) → QuicStream S R → ℕ → Result (Unit {0}) NetError → QuicStream S R → Type 0
Stops receiving before code result after =
    MatchBool before.is_stopped ((result ≡ Err UnknownStream) × (after ≡ before))
    (Keeps (receiving before.recv).left (receiving after.recv).left
    × MatchResult result
    (λ _. Grows (receiving before.recv).stops (receiving after.recv).stops (code ∷ [])
    × (after ≡ record before { recv = after.recv; is_stopped = true }))
    (λ fault. IsIoFault fault × Keeps (receiving before.recv).stops (receiving after.recv).stops
    × (after ≡ record before { recv = after.recv })))

-- the bytes end before a message and its length do, after so many bytes of the length or of the message
abbrev pub EndsEarly : List ℕ → ℕ → Type 0
EndsEarly [] count = count ≡ 0
EndsEarly (high ∷ []) count = count ≡ 1
EndsEarly (high ∷ low ∷ bytes) count = (length bytes < high * 256 + low) × (count ≡ length bytes)

-- no more bytes than one message and its length have
abbrev pub IsPart : List ℕ → Type 0
IsPart [] = Unit {0}
IsPart (high ∷ []) = Unit {0}
IsPart (high ∷ low ∷ bytes) = length bytes ≤ high * 256 + low

-- a part of a message and its length was taken
pub record TakesPart (left rest : List ℕ) : Type 0 where
  pub front : List ℕ
  pub parts : left ≡ front ++ rest
  pub is_part : IsPart front

-- what comes of the bytes that are left: the message that they begin with
abbrev pub ReceivesFrame : Result (List ℕ) NetError → List ℕ → List ℕ → Type 0
ReceivesFrame (Ok message) left rest = left ≡ frame_of message ++ rest
ReceivesFrame (Err (FinishedEarly count)) left rest = (rest ≡ []) × EndsEarly left count
ReceivesFrame (Err Io) left rest = TakesPart left rest
ReceivesFrame (Err OutOfMemory) left rest = TakesPart left rest
ReceivesFrame (Err _) left rest = ⊥

-- what may come whatever is told: a message of at most 65,535 bytes, the end of the stream, or a fault of reading
abbrev pub IsReceived : Result (List ℕ) NetError → Type 0
IsReceived (Ok message) = length message ≤ 65535
IsReceived (Err (FinishedEarly count)) = count < 65535
IsReceived (Err Io) = Unit {0}
IsReceived (Err OutOfMemory) = Unit {0}
IsReceived (Err _) = ⊥

-- what receiving the bytes of a message does
abbrev pub ReceivesBytes : {S R : Type 0} → (R → RecvTold) → QuicStream S R → Result (List ℕ) NetError → QuicStream S R → Type 0
ReceivesBytes receiving before result after =
    MatchBool before.is_stopped ((result ≡ Err UnknownStream) × (after ≡ before))
    (Told (ReceivesFrame result) (receiving before.recv).left (receiving after.recv).left
    × IsReceived result
    × Keeps (receiving before.recv).stops (receiving after.recv).stops
    × (after ≡ record before { recv = after.recv }))

-- a message must have the id 0 (RFC 9250 4.2.1): else the sending half is reset, whatever that answers
abbrev pub ChecksId : {S R : Type 0} → SendOf S → QuicStream S R → Message → Result Message NetError → QuicStream S R → Type 0
ChecksId sending before message result after =
    MatchBool (message.header.id == 0)
    ((result ≡ Ok message) × (after ≡ before))
    ((result ≡ Err (QuicMessageIdNot0 message.header.id))
    × ((answer : Result (Unit {0}) NetError) × EndsSo sending before (Reset 2) answer after))

-- what a received message says: it reads, and has the id 0
abbrev pub ReadsChecked : {S R : Type 0} → SendOf S → QuicStream S R → List ℕ → Result Message NetError → QuicStream S R → Type 0
ReadsChecked sending before bytes result after =
    (read : Result Message NetError) × ReadsMessage bytes read
    × MatchResult read
    (λ message. ChecksId sending before message result after)
    (λ fault. (result ≡ Err fault) × (after ≡ before))

-- what receiving a message does
abbrev pub ReceivesMessage : {S R : Type 0} → SendOf S → (R → RecvTold) → QuicStream S R → Result Message NetError → QuicStream S R → Type 0
ReceivesMessage {S} {R} sending receiving before result after =
    (between : QuicStream S R) × (received : Result (List ℕ) NetError) × ReceivesBytes receiving before received between
    × MatchResult received
    (λ bytes. ReadsChecked sending between bytes result after)
    (λ fault. (result ≡ Err fault) × (after ≡ between))

-- a message was refused by its id
abbrev pub IsOtherId : {T : Type 0} → Result T NetError → Type 0
IsOtherId (Err (QuicMessageIdNot0 id)) = Unit {0}
IsOtherId _ = ⊥
