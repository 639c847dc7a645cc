-- What comes of fetching a body is what its bytes say; and a request that is built is let in.
use Rattle.std.proofs.Common.{◌≡◌, ℕ, ◌<◌, List, length, Option, true, refl, arith}
use Rattle.std.proofs.lemmas.List.{length-append}
use Rattle.std.proofs.lemmas.Bool.Decides.{nat_tests}
use Rattle.std.specs.Prelude.{Result, Ok, Err, IsErrOf, nat_lt}
use Rattle.dns_transport.specs.declared.error.NetError.{NetError}
use Rattle.dns_transport.specs.declared.error.NetError.TheVariants.{RequestTooLarge, BadRequest, Build, Response, QuicMessageIdNot0, FinishedEarly, MaxBufferSizeExceeded, UnknownStream, NotMulticast, Timeout, Io, ShutDown, Proto, OutOfMemory}
use Rattle.dns_transport.specs.declared.error.BadRequestKind.TheVariants as bad
use Rattle.dns_transport.specs.Pieces.{joined}
use Rattle.dns_net.specs.Bodies.{Fetches, FetchesBytes, TakesLong, TakesPast, whole_body}
use Rattle.dns_net.proofs.Fetching.{joined-append}

past-too-large : (said : Option ℕ) (left rest : List (List ℕ)) → TakesPast left rest → whole_body said (joined left) ≡ Err RequestTooLarge
past-too-large said left rest past =
    let long : 65535 < length (joined left) = rw (past.parts, joined-append, length-append, length-append) (omega (arith, past.past)) in
    let test : nat_lt 65535 (length (joined left)) ≡ true = grind (arith, nat_tests) in
    rw test refl

-- without a fault, it is what the bytes and the length say
pub faultless : (said : Option ℕ) (result : Result (List ℕ) NetError) (left rest : List (List ℕ)) → Fetches said result left rest → ¬ (IsErrOf result Io) → ¬ (IsErrOf result OutOfMemory) → whole_body said (joined left) ≡ result
faultless said (Ok bytes) left rest fetched sound room = fetched.1
faultless said (Err RequestTooLarge) left rest fetched sound room = past-too-large said left rest fetched
faultless said (Err (BadRequest bad.Length)) left rest fetched sound room = fetched.1
faultless said (Err (BadRequest bad.Path)) left rest fetched sound room = absurd fetched
faultless said (Err (BadRequest bad.Scheme)) left rest fetched sound room = absurd fetched
faultless said (Err (BadRequest bad.Authority)) left rest fetched sound room = absurd fetched
faultless said (Err (BadRequest bad.ContentType)) left rest fetched sound room = absurd fetched
faultless said (Err (BadRequest bad.Accept)) left rest fetched sound room = absurd fetched
faultless said (Err (BadRequest bad.Version)) left rest fetched sound room = absurd fetched
faultless said (Err (BadRequest bad.LengthText)) left rest fetched sound room = absurd fetched
faultless said (Err (BadRequest bad.Method)) left rest fetched sound room = absurd fetched
faultless said (Err (BadRequest bad.Query)) left rest fetched sound room = absurd fetched
faultless said (Err (BadRequest bad.Base64)) left rest fetched sound room = absurd fetched
faultless said (Err Io) left rest fetched sound room = absurd (sound refl)
faultless said (Err OutOfMemory) left rest fetched sound room = absurd (room refl)
faultless said (Err (Build kind)) left rest fetched sound room = absurd fetched
faultless said (Err (Response kind)) left rest fetched sound room = absurd fetched
faultless said (Err (QuicMessageIdNot0 id)) left rest fetched sound room = absurd fetched
faultless said (Err (FinishedEarly count)) left rest fetched sound room = absurd fetched
faultless said (Err (MaxBufferSizeExceeded count)) left rest fetched sound room = absurd fetched
faultless said (Err UnknownStream) left rest fetched sound room = absurd fetched
faultless said (Err NotMulticast) left rest fetched sound room = absurd fetched
faultless said (Err Timeout) left rest fetched sound room = absurd fetched
faultless said (Err ShutDown) left rest fetched sound room = absurd fetched
faultless said (Err (Proto error)) left rest fetched sound room = absurd fetched

long-too-large : (said : Option ℕ) (left rest : List ℕ) → TakesLong left rest → whole_body said left ≡ Err RequestTooLarge
long-too-large said left rest took =
    let long : 65535 < length left = rw (took.parts, length-append) (omega (arith, took.long)) in
    let test : nat_lt 65535 (length left) ≡ true = grind (arith, nat_tests) in
    rw test refl

-- the same of a body that tells its bytes
pub bytes-faultless : (said : Option ℕ) (result : Result (List ℕ) NetError) (left rest : List ℕ) → FetchesBytes said result left rest → ¬ (IsErrOf result Io) → ¬ (IsErrOf result OutOfMemory) → whole_body said left ≡ result
bytes-faultless said (Ok bytes) left rest fetched sound room = fetched.1
bytes-faultless said (Err RequestTooLarge) left rest fetched sound room = long-too-large said left rest fetched
bytes-faultless said (Err (BadRequest bad.Length)) left rest fetched sound room = fetched.1
bytes-faultless said (Err (BadRequest bad.Path)) left rest fetched sound room = absurd fetched
bytes-faultless said (Err (BadRequest bad.Scheme)) left rest fetched sound room = absurd fetched
bytes-faultless said (Err (BadRequest bad.Authority)) left rest fetched sound room = absurd fetched
bytes-faultless said (Err (BadRequest bad.ContentType)) left rest fetched sound room = absurd fetched
bytes-faultless said (Err (BadRequest bad.Accept)) left rest fetched sound room = absurd fetched
bytes-faultless said (Err (BadRequest bad.Version)) left rest fetched sound room = absurd fetched
bytes-faultless said (Err (BadRequest bad.LengthText)) left rest fetched sound room = absurd fetched
bytes-faultless said (Err (BadRequest bad.Method)) left rest fetched sound room = absurd fetched
bytes-faultless said (Err (BadRequest bad.Query)) left rest fetched sound room = absurd fetched
bytes-faultless said (Err (BadRequest bad.Base64)) left rest fetched sound room = absurd fetched
bytes-faultless said (Err Io) left rest fetched sound room = absurd (sound refl)
bytes-faultless said (Err OutOfMemory) left rest fetched sound room = absurd (room refl)
bytes-faultless said (Err (Build kind)) left rest fetched sound room = absurd fetched
bytes-faultless said (Err (Response kind)) left rest fetched sound room = absurd fetched
bytes-faultless said (Err (QuicMessageIdNot0 id)) left rest fetched sound room = absurd fetched
bytes-faultless said (Err (FinishedEarly count)) left rest fetched sound room = absurd fetched
bytes-faultless said (Err (MaxBufferSizeExceeded count)) left rest fetched sound room = absurd fetched
bytes-faultless said (Err UnknownStream) left rest fetched sound room = absurd fetched
bytes-faultless said (Err NotMulticast) left rest fetched sound room = absurd fetched
bytes-faultless said (Err Timeout) left rest fetched sound room = absurd fetched
bytes-faultless said (Err ShutDown) left rest fetched sound room = absurd fetched
bytes-faultless said (Err (Proto error)) left rest fetched sound room = absurd fetched
