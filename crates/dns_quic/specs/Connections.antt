-- What a connection tells of its calls, and what a client does with a stream that it opens.
use Rattle.std.specs.Prelude.{◌≡◌, ◌⊎◌, ℕ, ◌+◌, ◌≤◌, ◌<◌, List, [], ◌∷◌, Bool, false, Option, Some, None, Result, Ok, Err, IsErrOf, IfOk, OnOk, OnErr, MatchBool, MatchOption, MatchResult, unwrap_or}
use Rattle.dns_io.specs.Told.{Told, Keeps, Rose, Takes, Grows}
use Rattle.dns_io.specs.declared.io_fault.IoFault.{IoFault}
use Rattle.dns_wire.specs.declared.message.Message.{Message}
use Rattle.dns_edges.specs.Edges.{HasCause as HasIoCause}
use Rattle.dns_transport.specs.Faults.{HasCause, HasLinkCause, of_link}
use Rattle.dns_transport.specs.declared.error.LinkFault.{LinkFault}
use Rattle.dns_transport.specs.declared.error.LinkFault.TheVariants.{OutOfMemory}
use Rattle.dns_transport.specs.declared.error.NetError.{NetError}
use Rattle.dns_transport.specs.declared.error.NetError.TheVariants.{Io, Timeout, ShutDown}
use Rattle.dns_quic.specs.Halves.{SendOf, RecvTold}
use Rattle.dns_quic.specs.declared.halves.StreamEnd.TheVariants.{Finished}
use Rattle.dns_quic.specs.declared.open_streams.StreamCall.{StreamCall}
use Rattle.dns_quic.specs.declared.open_streams.StreamCall.TheVariants.{Opened, Returned}
use Rattle.dns_quic.specs.declared.quic_stream.QuicStream.{QuicStream}
use Rattle.dns_quic.specs.Streams.{IsIoFault, IsOtherId, SendsMessage, Ends, ReceivesMessage}

-- a connection: the calls so far with what was handed in, the code with which it was closed first, if it was, and the streams that are to
-- be accepted, where they are told; how many streams are opened and have not come back, and how many calls failed
pub record StreamsTold (Out In : Type 0) : Type 0 where
  pub calls : Option (List (StreamCall Out In))
  pub closed : Option (Option ℕ)
  pub coming : Option (List (Out × In))
  pub given_out : ℕ
  pub faults : ℕ

-- what is known of a connection: what it tells, and what one opening with this limit may answer, and how it may leave the connection
pub record StreamsOf (O Out In : Type 0) : Type 1 where
  pub told : O → StreamsTold Out In
  pub opens : O → Option ℕ → Result (Out × In) LinkFault → O → Type 0

-- an opening is told with its limit, but where memory ran out
abbrev pub TellsOpened : {S R : Type 0} → Option (List (StreamCall S R))
    → Option (List (StreamCall S R)) → Option ℕ → Result (S × R) LinkFault → Type 0
TellsOpened before now limit (Err OutOfMemory) = Keeps before now
TellsOpened before now limit result = Grows before now (Opened limit ∷ [])

-- the next stream was given, or none where none is left
abbrev pub GivesHalves : {S R : Type 0} → Option (List (S × R)) → Option (List (S × R)) → Option (S × R) → Type 0
GivesHalves before now None = Told (λ left rest. (left ≡ []) × (rest ≡ [])) before now
GivesHalves before now (Some halves) = Takes before now (halves ∷ [])

-- the first code with which it is closed stands
abbrev pub ClosesBy : ℕ → Option (Option ℕ) → Option (Option ℕ) → Type 0
ClosesBy code before now = Told (λ first then. then ≡ Some (unwrap_or first code)) before now

-- one opening with this limit
pub record Opens {Out In : Type 0} (before after : StreamsTold Out In)
    (limit : Option ℕ) (result : Result (Out × In) LinkFault) : Type 0 where
  pub asked : TellsOpened before.calls after.calls limit result
  pub out : OnOk result (after.given_out ≡ before.given_out + 1)
  pub none_out : OnErr result (after.given_out ≡ before.given_out)
  pub unclosed : Keeps before.closed after.closed
  pub unaccepted : Keeps before.coming after.coming
  pub cause : HasLinkCause before.faults after.faults result

-- one accepting: the next stream was given, none at the end; after an error none was taken
pub record Accepts {Out In : Type 0} (before after : StreamsTold Out In) (result : Result (Option (Out × In)) IoFault) : Type 0 where
  pub given : IfOk result (GivesHalves before.coming after.coming)
  pub kept : OnErr result (Keeps before.coming after.coming)
  pub untold : Keeps before.calls after.calls
  pub unclosed : Keeps before.closed after.closed
  pub out : after.given_out ≡ before.given_out
  pub cause : HasIoCause before.faults after.faults result

-- it was closed with this code: the first one stands
pub record Closes {Out In : Type 0} (before after : StreamsTold Out In) (code : ℕ) : Type 0 where
  pub closed : ClosesBy code before.closed after.closed
  pub untold : Keeps before.calls after.calls
  pub unaccepted : Keeps before.coming after.coming
  pub out : after.given_out ≡ before.given_out
  pub calm : after.faults ≡ before.faults

-- halves with these counts came back: the connection's count rose where one of them is above 0, and only there
pub record TakesBack {Out In : Type 0} (before after : StreamsTold Out In)
    (sent : Out) (received : In) (sent_faults received_faults : ℕ) : Type 0 where
  pub told : Grows before.calls after.calls (Returned sent received ∷ [])
  pub unclosed : Keeps before.closed after.closed
  pub unaccepted : Keeps before.coming after.coming
  pub back : after.given_out + 1 ≡ before.given_out
  pub later : before.faults ≤ after.faults
  pub counted_out : 0 < sent_faults → Rose before.faults after.faults
  pub counted_in : 0 < received_faults → Rose before.faults after.faults
  pub calm : sent_faults ≡ 0 → received_faults ≡ 0 → after.faults ≡ before.faults

-- a stream of these halves, neither of which was ended
abbrev pub stream_of : {S R : Type 0} → S × R → QuicStream S R
stream_of halves = record { send = halves.0; recv = halves.1; is_ended = false; is_stopped = false }

-- the next accepted stream, none at the end, or a fault
abbrev pub GivesStream : {S R : Type 0} → Option (List (S × R)) → Option (List (S × R)) → Option (Result (QuicStream S R) NetError) → Type 0
GivesStream before now None = Told (λ left rest. (left ≡ []) × (rest ≡ [])) before now
GivesStream before now (Some (Ok stream)) =
    (stream ≡ stream_of (stream.send, stream.recv)) × Takes before now ((stream.send, stream.recv) ∷ [])
GivesStream before now (Some (Err fault)) = IsIoFault fault × Keeps before now

-- the cause of an answer where there may be none
abbrev pub HasNextCause : {T : Type 0} → ℕ → ℕ → Option (Result T NetError) → Type 0
HasNextCause before now result = MatchOption result (now ≡ before) (λ answer. HasCause before now answer)

-- the sending half is finished, and the answer is received
abbrev pub Awaits : {S R : Type 0} → SendOf S → (R → RecvTold) → QuicStream S R → Result Message NetError → QuicStream S R → Type 0
Awaits {S} {R} sending receiving before result after =
    (between : QuicStream S R) × (finished : Result (Unit {0}) NetError) × Ends sending before Finished finished between
    × MatchResult finished
    (λ _. ReceivesMessage sending receiving between result after)
    (λ fault. (result ≡ Err fault) × (after ≡ between))

-- a message is sent, then the sending half is finished, and the answer is received
abbrev pub Talks : {S R : Type 0} → SendOf S → (R → RecvTold) → QuicStream S R → Message → Result Message NetError → QuicStream S R → Type 0
Talks {S} {R} sending receiving before message result after =
    (between : QuicStream S R) × (sent : Result (Unit {0}) NetError) × SendsMessage sending before message sent between
    × MatchResult sent
    (λ _. Awaits sending receiving between result after)
    (λ fault. (result ≡ Err fault) × (after ≡ between))

-- the counts of faults of a stream's halves did not fall. `Io` was answered only where one of them rose, and after any other
-- answer both stand still, but that of the sending half where a message is refused by its id: resetting it may fail.
pub record HasStreamCause {S R T : Type 0} (sending : SendOf S) (receiving : R → RecvTold)
    (before : QuicStream S R) (result : Result T NetError) (after : QuicStream S R) : Type 0 where
  pub later_send : (sending.told before.send).faults ≤ (sending.told after.send).faults
  pub later_recv : (receiving before.recv).faults ≤ (receiving after.recv).faults
  pub failed : IsErrOf result Io
      → Rose (sending.told before.send).faults (sending.told after.send).faults
      ⊎ Rose (receiving before.recv).faults (receiving after.recv).faults
  pub calm_send : ¬ (IsErrOf result Io) → ¬ (IsOtherId result) → (sending.told after.send).faults ≡ (sending.told before.send).faults
  pub calm_recv : ¬ (IsErrOf result Io) → (receiving after.recv).faults ≡ (receiving before.recv).faults

-- how an exchange over a connection went: what opening a stream answered, and where that is one, what was said on it, whose
-- faults its halves count, and that they came back
pub record WentOver {O S R : Type 0} (sending : SendOf S) (receiving : R → RecvTold) (streams : StreamsOf O S R)
    (before : O) (limit : Option ℕ) (message : Message) (result : Result Message NetError) (after : O) : Type 0 where
  pub between : O
  pub answer : Result (S × R) LinkFault
  pub opened : streams.opens before limit answer between
  pub asked : TellsOpened (streams.told before).calls (streams.told between).calls limit answer
  pub ended : MatchResult answer
      (λ halves. (stream : QuicStream S R) × Talks sending receiving (stream_of halves) message result stream
      × HasStreamCause sending receiving (stream_of halves) result stream
      × Grows (streams.told between).calls (streams.told after).calls (Returned stream.send stream.recv ∷ []))
      (λ fault. (result ≡ Err (of_link fault)) × (after ≡ between))

-- sending a message by a client, which was shut down or not: one that was sends nothing
abbrev pub Asks : {O S R : Type 0} → SendOf S → (R → RecvTold) → StreamsOf O S R → Bool → O → Option ℕ → Message
    → Result Message NetError → O → Type 0
Asks sending receiving streams is_shut before limit message result after =
    MatchBool is_shut ((result ≡ Err ShutDown) × (after ≡ before)) (WentOver sending receiving streams before limit message result after)

-- what asking over a connection leaves as it was; and its count of faults did not fall, `Io` and `Timeout` were answered only where it
-- rose, and after any other answer it stands still, but where a message is refused by its id: resetting its stream may fail
pub record AsksOver {Out In T : Type 0} (before after : StreamsTold Out In) (result : Result T NetError) : Type 0 where
  pub unclosed : Keeps before.closed after.closed
  pub unaccepted : Keeps before.coming after.coming
  pub out : after.given_out ≡ before.given_out
  pub later : before.faults ≤ after.faults
  pub failed : IsErrOf result Io → Rose before.faults after.faults
  pub late : IsErrOf result Timeout → Rose before.faults after.faults
  pub calm : ¬ (IsErrOf result Io) → ¬ (IsErrOf result Timeout) → ¬ (IsOtherId result) → after.faults ≡ before.faults

-- one asking for the next stream that is accepted
pub record TakesNext {S R : Type 0} (before after : StreamsTold S R) (result : Option (Result (QuicStream S R) NetError)) : Type 0 where
  pub gives : GivesStream before.coming after.coming result
  pub untold : Keeps before.calls after.calls
  pub unclosed : Keeps before.closed after.closed
  pub out : after.given_out ≡ before.given_out
  pub cause : HasNextCause before.faults after.faults result
