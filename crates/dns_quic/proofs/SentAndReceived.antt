-- What was sent is received, and codes are read from their numbers.
use Rattle.std.proofs.Common.{◌≡◌, ℕ, ◌+◌, ◌*◌, ◌/◌, ◌%◌, ◌≤◌, List, ◌++◌, length, get_or, take, drop, refl, sym, ap, ◌∙◌, arith, length-append}
use Rattle.std.proofs.lemmas.List.{take_at, drop_at}
use Rattle.std.specs.Prelude.{Result, Ok, Err, IsErrOf}
use Rattle.dns_transport.specs.declared.error.NetError.{NetError}
use Rattle.dns_transport.specs.declared.error.NetError.TheVariants.{RequestTooLarge, BadRequest, Build, Response, QuicMessageIdNot0, FinishedEarly, MaxBufferSizeExceeded, UnknownStream, NotMulticast, Timeout, Io, ShutDown, Proto, OutOfMemory}
use Rattle.dns_quic.specs.Streams.{IsReceived, ReceivesFrame}
use Rattle.dns_frames.specs.Frames.{frame_of}

said : (n : ℕ) → n ≤ 65535 → n / 256 % 256 * 256 + n % 256 ≡ n
said n short = omega (arith, short)

same-length : (m n : ℕ) → m ≤ 65535 → n ≤ 65535 → m / 256 % 256 ≡ n / 256 % 256 → m % 256 ≡ n % 256 → m ≡ n
same-length m n short other high low = omega (arith, short, other, high, low)

same-parts : (message more bytes rest : List ℕ) → length message ≡ length bytes → message ++ more ≡ bytes ++ rest → (message ≡ bytes) × (more ≡ rest)
same-parts message more bytes rest size same = (
  sym (take_at message more (length bytes) size) ∙ ap (take (length bytes)) same ∙ take_at bytes rest (length bytes) refl,
  sym (drop_at message more (length bytes) size) ∙ ap (drop (length bytes)) same ∙ drop_at bytes rest (length bytes) refl,
)

-- a message that was sent is received as it was
pub read-back : (message more rest : List ℕ) (result : Result (List ℕ) NetError) → length message ≤ 65535 → IsReceived result → ReceivesFrame result (frame_of message ++ more) rest
    → ¬ (IsErrOf result Io) → ¬ (IsErrOf result OutOfMemory) → (result ≡ Ok message) × (rest ≡ more)
read-back message more rest (Ok bytes) short kind is sound room =
    let high : length message / 256 % 256 ≡ length bytes / 256 % 256 = ap (λ (l : List ℕ). get_or l 0 0) is in
    let low : length message % 256 ≡ length bytes % 256 = ap (λ (l : List ℕ). get_or l 1 0) is in
    let behind : message ++ more ≡ bytes ++ rest = ap (drop 2) is in
    let parts = same-parts message more bytes rest (same-length (length message) (length bytes) short kind high low) behind in
    (ap Ok (sym parts.0), sym parts.1)
read-back message more rest (Err (FinishedEarly count)) short kind is sound room =
    absurd (omega (arith, is.1.0, said (length message) short, length-append message more))
read-back message more rest (Err Io) short kind is sound room = absurd (sound refl)
read-back message more rest (Err OutOfMemory) short kind is sound room = absurd (room refl)
read-back message more rest (Err RequestTooLarge) short kind is sound room = absurd is
read-back message more rest (Err (BadRequest what)) short kind is sound room = absurd is
read-back message more rest (Err (Build what)) short kind is sound room = absurd is
read-back message more rest (Err (Response what)) short kind is sound room = absurd is
read-back message more rest (Err (QuicMessageIdNot0 id)) short kind is sound room = absurd is
read-back message more rest (Err (MaxBufferSizeExceeded count)) short kind is sound room = absurd is
read-back message more rest (Err UnknownStream) short kind is sound room = absurd is
read-back message more rest (Err NotMulticast) short kind is sound room = absurd is
read-back message more rest (Err Timeout) short kind is sound room = absurd is
read-back message more rest (Err ShutDown) short kind is sound room = absurd is
read-back message more rest (Err (Proto error)) short kind is sound room = absurd is
