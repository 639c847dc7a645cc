-- One message on a stream of QUIC, settled and answered (RFC 9250 4.2).
use Rattle.std.specs.Prelude.{◌≡◌, ◌⊎◌, ℕ, ◌==◌, nat_lt, if◌then◌else◌, List, length, Option, Some, None, Result, Ok, Err, MatchResult}
use Rattle.dns_wire.specs.Standing.{word_at}
use Rattle.dns_book.specs.declared.ask.Ask.{Ask}
use Rattle.dns_book.specs.declared.ask.Settled.{Settled}
use Rattle.dns_quic.specs.Streams.{Ends, ReceivesBytes, SendsBytes}
use Rattle.dns_quic.specs.Halves.{SendOf, RecvTold}
use Rattle.dns_quic.specs.declared.halves.StreamEnd.TheVariants.{Finished, Reset}
use Rattle.dns_quic.specs.declared.quic_stream.QuicStream.{QuicStream}
use Rattle.dns_transport.specs.declared.error.NetError.{NetError}
use Rattle.dns_transport.specs.declared.error.NetError.TheVariants.{QuicMessageIdNot0, OutOfMemory}

-- the id of a message that has a header, where it is not 0 (RFC 9250 4.2.1)
abbrev pub other_id : List ℕ → Option ℕ
other_id bytes =
    if nat_lt (length bytes) 12 then None else (if word_at bytes 0 == 0 then None else Some (word_at bytes 0))

-- what is known of the sending half of a stream
module _ {S R : Type 0} (sending : SendOf S) where
  -- what becomes of a reply: one that is owed is sent behind its length, and where that went well the sending half is finished;
  -- where none is owed, nothing is done to the stream
  abbrev pub SendsReply : QuicStream S R → Option (List ℕ) → Result (Unit {0}) NetError → QuicStream S R → Type 0
  SendsReply before None sent after = (sent ≡ Ok tt) × (after ≡ before)
  SendsReply before (Some bytes) sent after =
      (written : Result (Unit {0}) NetError) × (between : QuicStream S R) × SendsBytes sending before bytes written between
      × MatchResult written (λ _. Ends sending between Finished sent after) (λ fault. (sent ≡ Err fault) × (after ≡ between))

  -- a message with another id is not settled: the sending half is reset with the code 2, whatever that answers (RFC 9250 4.3.3)
  abbrev pub Refuses : QuicStream S R → ℕ → Result Settled NetError → QuicStream S R → Type 0
  Refuses before id result after =
      (result ≡ Err (QuicMessageIdNot0 id)) × ((answer : Result (Unit {0}) NetError) × Ends sending before (Reset 2) answer after)

-- and of a handler
module _ {H S R : Type 0} (serves : H → Ask → Settled → H → Type 0) (skips : H → H → Type 0) (sending : SendOf S) where
  -- a message is settled by one step of the handler, which stays done whatever comes of its reply; or the handler finds no
  -- memory, and nothing is done to the stream
  abbrev pub SettlesMessage : H → QuicStream S R → Ask → Result Settled NetError → H → QuicStream S R → Type 0
  SettlesMessage before stream ask result now after =
      ((settled : Settled) × serves before ask settled now
      × ((sent : Result (Unit {0}) NetError) × SendsReply sending stream settled.reply sent after
      × MatchResult sent (λ _. result ≡ Ok settled) (λ fault. result ≡ Err fault)))
      ⊎ (skips before now × (result ≡ Err OutOfMemory) × (after ≡ stream))

  -- a message is refused by its id, and the handler stays as it is; or it is settled
  abbrev pub AnswersMessage : Option ℕ → H → QuicStream S R → Ask → Result Settled NetError → H → QuicStream S R → Type 0
  AnswersMessage (Some id) before stream ask result now after = (now ≡ before) × Refuses sending stream id result after
  AnswersMessage None before stream ask result now after = SettlesMessage before stream ask result now after

-- the bytes of one message are received, and answered; where none come, the handler stays as it is
abbrev pub SettlesStream : {H S R : Type 0} → (H → Ask → Settled → H → Type 0) → (H → H → Type 0) → SendOf S → (R → RecvTold)
    → (List ℕ → Ask) → H → QuicStream S R → Result Settled NetError → H → QuicStream S R → Type 0
SettlesStream {H} {S} {R} serves skips sending receiving ask before stream result now after =
    (received : Result (List ℕ) NetError) × (between : QuicStream S R) × ReceivesBytes receiving stream received between
    × MatchResult received
    (λ bytes. AnswersMessage serves skips sending (other_id bytes) before between (ask bytes) result now after)
    (λ fault. (now ≡ before) × (result ≡ Err fault) × (after ≡ between))
