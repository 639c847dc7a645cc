-- What is exchanged with a server: messages are sent one after another, each behind its length, and each is answered by a reply
-- behind its length before the next one is sent (RFC 1035 4.2.2, RFC 2136 2).
use Rattle.std.specs.Prelude.{◌≡◌, ◌≢◌, ℕ, ◌+◌, ◌*◌, ◌≤◌, List, [], ◌∷◌, ◌++◌, length, true, Option, Some, None}
use Rattle.std.specs.List.{flat_map}
use Rattle.dns_io.specs.Told.{Told, Takes, Grows}
use Rattle.dns_name.specs.declared.fault.ProtoError.{ProtoError}
use Rattle.dns_name.specs.declared.fault.ProtoError.TheVariants as proto
use Rattle.dns_wire.specs.declared.edns.Edns.{Edns}
use Rattle.dns_wire.specs.declared.message.Message.{Message}
use Rattle.dns_wire.specs.MessageBytes.{message_bytes, TellsTooLong}
use Rattle.dns_wire.specs.Messages.{MessageAt, TellsWhere}
use Rattle.dns_update_client.specs.declared.submit_fault.SubmitFault.{SubmitFault}
use Rattle.dns_update_client.specs.declared.submit_fault.SubmitFault.TheVariants.{Proto, Write, Read, Ended, Mismatch, NotReply, OutOfMemory}
use Rattle.dns_update_client.specs.Framed.{frame, frames_of, IsPart, IsUnfinished}

-- the bits of a code above the four of the header (RFC 6891 6.1.3)
abbrev pub upper_bits : Option Edns → ℕ
upper_bits None = 0
upper_bits (Some e) = e.extended

-- the code of a message
abbrev pub full_code : Message → ℕ
full_code m = upper_bits m.edns * 16 + m.header.code

-- a message that says it is the reply (QR) to an update (opcode 5)
abbrev pub IsUpdateReply : Message → Type 0
IsUpdateReply m = (m.header.qr ≡ true) × (m.header.opcode ≡ 5)

-- these bytes are the reply to an update of this id, with this code
pub record Replies (id : ℕ) (bytes : List ℕ) (code : ℕ) : Type 0 where
  pub short : length bytes ≤ 65535
  pub reply : Message
  pub stands : MessageAt bytes reply
  pub same : reply.header.id ≡ id
  pub kind : IsUpdateReply reply
  pub says : code ≡ full_code reply

-- the written form of a message goes behind a length of two bytes
pub record IsSendable (m : Message) : Type 0 where
  pub short : length (message_bytes m) ≤ 65535

-- a message as it is sent
unfoldable pub message_frame : Message → List ℕ
message_frame m = frame (message_bytes m)

-- each message can be sent, and these are the bytes of its reply and its code, in order
abbrev pub Exchanges : List Message → List (List ℕ) → List ℕ → Type 0
Exchanges [] [] [] = Unit {0}
Exchanges [] [] (c ∷ codes) = ⊥
Exchanges [] (b ∷ replies) codes = ⊥
Exchanges (m ∷ messages) [] codes = ⊥
Exchanges (m ∷ messages) (b ∷ replies) [] = ⊥
Exchanges (m ∷ messages) (b ∷ replies) (c ∷ codes) = IsSendable m × Replies m.header.id b c × Exchanges messages replies codes

-- messages as they are sent, one behind another
abbrev pub message_frames : List Message → List ℕ
message_frames messages = flat_map message_frame messages

-- all messages were sent and answered, and nothing else: the input gave the frames of the replies, and the output took those of
-- the messages
pub record Answers (messages : List Message) (codes : List ℕ) (left rest taken now : Option (List ℕ)) : Type 0 where
  pub replies : List (List ℕ)
  pub answered : Exchanges messages replies codes
  pub received : Takes left rest (frames_of replies)
  pub sent : Grows taken now (message_frames messages)

-- why a message was not sent, and how much of its frame was
pub data StopsSending (message : Message) (sent : List ℕ) : SubmitFault → Type 0 where
  -- it cannot be written
  unwritable : {error : ProtoError} → TellsTooLong message error
      → error ≢ proto.OutOfMemory → sent ≡ [] → StopsSending message sent (Proto error)
  -- the output failed behind a front of it
  unsent : (unsent : List ℕ) → message_frame message ≡ sent ++ unsent → StopsSending message sent Write
  no_memory : (unsent : List ℕ) → message_frame message ≡ sent ++ unsent → StopsSending message sent OutOfMemory

-- the faults of the input
abbrev pub IsInputFault : SubmitFault → Type 0
IsInputFault Read = Unit {0}
IsInputFault OutOfMemory = Unit {0}
IsInputFault _ = ⊥

-- why no frame was received for the message of this number, and how much of one was
pub data StopsReceiving (number : ℕ) (got : List ℕ) : SubmitFault → Type 0 where
  -- the input failed behind a part of it
  unreceived : IsPart got → StopsReceiving number got Read
  -- the input ended before it was whole
  ended : IsUnfinished got → StopsReceiving number got (Ended number)
  no_memory : IsPart got → StopsReceiving number got OutOfMemory

-- why these bytes are not taken for the reply to an update of this id: the first of the three that holds
pub data StopsReading (id : ℕ) (bytes : List ℕ) : SubmitFault → Type 0 where
  -- they are no message
  unreadable : {error : ProtoError} → TellsWhere bytes error → error ≢ proto.OutOfMemory → StopsReading id bytes (Proto error)
  -- a message of another id
  mismatched : (reply : Message) → MessageAt bytes reply → reply.header.id ≢ id → StopsReading id bytes (Mismatch id reply.header.id)
  -- not the reply to an update
  no_reply : (reply : Message) → MessageAt bytes reply → reply.header.id ≡ id
      → (IsUpdateReply reply → ⊥) → StopsReading id bytes (NotReply id)
  no_memory : StopsReading id bytes OutOfMemory

-- why a message was not answered: these bytes were sent for it, and these received
pub data Stops (message : Message) (number : ℕ) (sent got : List ℕ) (fault : SubmitFault) : Type 0 where
  sending : StopsSending message sent fault → got ≡ [] → Stops message number sent got fault
  receiving : IsSendable message → sent ≡ message_frame message → StopsReceiving number got fault → Stops message number sent got fault
  reading : IsSendable message → sent ≡ message_frame message → (bytes : List ℕ) → length bytes ≤ 65535 → got ≡ frame bytes
      → StopsReading message.header.id bytes fault → Stops message number sent got fault

-- where the input ended, nothing is left of it
abbrev pub Leaves : SubmitFault → List ℕ → Type 0
Leaves (Ended number) rest = rest ≡ []
Leaves (Proto error) rest = Unit {0}
Leaves Write rest = Unit {0}
Leaves Read rest = Unit {0}
Leaves (Mismatch want got) rest = Unit {0}
Leaves (NotReply id) rest = Unit {0}
Leaves OutOfMemory rest = Unit {0}

-- these bytes were received before this fault
abbrev pub TakesUntil : SubmitFault → Option (List ℕ) → Option (List ℕ) → List ℕ → Type 0
TakesUntil fault left rest bytes = Told (λ all r. (all ≡ bytes ++ r) × Leaves fault r) left rest

-- one message of the list was not answered, for this cause; all before it were, and none behind it was sent
pub record StopsAt (messages : List Message) (fault : SubmitFault) (left rest taken now : Option (List ℕ)) : Type 0 where
  pub front : List Message
  pub message : Message
  pub behind : List Message
  pub parts : messages ≡ front ++ message ∷ behind
  pub replies : List (List ℕ)
  pub codes : List ℕ
  pub answered : Exchanges front replies codes
  pub sent_part : List ℕ
  pub got_part : List ℕ
  pub cause : Stops message (length front + 1) sent_part got_part fault
  pub received : TakesUntil fault left rest (frames_of replies ++ got_part)
  pub sent : Grows taken now (message_frames front ++ sent_part)

-- a fault that follows from the messages and what the input has: neither the input nor the output failed, nor did memory run out
abbrev pub IsDecided : SubmitFault → Type 0
IsDecided (Proto error) = Unit {0}
IsDecided (Ended number) = Unit {0}
IsDecided (Mismatch want got) = Unit {0}
IsDecided (NotReply id) = Unit {0}
IsDecided Write = ⊥
IsDecided Read = ⊥
IsDecided OutOfMemory = ⊥
