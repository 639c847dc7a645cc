-- How a half goes on from read to read.
use Rattle.std.proofs.Common.{◌≡◌, ℕ, ◌+◌, ◌*◌, ◌<◌, ◌≤◌, List, [], ◌∷◌, ◌++◌, length, get_or, Option, Some, None, refl, sym, ap, ◌∙◌, arith}
use Rattle.std.proofs.lemmas.List.{append_assoc, append-nil}
use Rattle.std.proofs.lemmas.Nat.{be_bytes_2}
use Rattle.std.specs.Int.{w16, to_be_bytes}
use Rattle.std.specs.Prelude.{Result, Ok, Err, OnErr}
use Rattle.dns_io.specs.Told.{Told, Takes, TakesFront}
use Rattle.dns_io.proofs.ToldContents.{Told-same}
use Rattle.dns_transport.specs.Pieces.{GivesBytes}
use Rattle.dns_transport.specs.declared.error.NetError.{NetError}
use Rattle.dns_transport.specs.declared.error.NetError.TheVariants.{RequestTooLarge, BadRequest, Build, Response, QuicMessageIdNot0, FinishedEarly, MaxBufferSizeExceeded, UnknownStream, NotMulticast, Timeout, Io, ShutDown, Proto, OutOfMemory}
use Rattle.dns_quic.specs.Receiving.{GivesUpTo}
use Rattle.dns_quic.specs.Streams.{IsIoFault, EndsEarly, IsPart, TakesPart, ReceivesFrame}

pub Takes-nothing : (a : Option (List ℕ)) → Takes a a []
Takes-nothing a = Told-same (λ left rest. left ≡ [] ++ rest) (λ x. refl) a

pub took-part : (a b : Option (List ℕ)) (bytes : List ℕ) (count : ℕ) → Takes a b bytes → length bytes ≤ count → TakesFront a b count
took-part a None bytes count took short = tt
took-part None (Some rest) bytes count took short = absurd took
took-part (Some left) (Some rest) bytes count took short = (bytes, took, short)

pub took-whole : (a b : Option (List ℕ)) (bytes : List ℕ) (count : ℕ) → Takes a b bytes → count ≤ length bytes → GivesUpTo count a b bytes
took-whole a None bytes count took whole = tt
took-whole None (Some rest) bytes count took whole = absurd took
took-whole (Some left) (Some rest) bytes count took whole = (took, λ short. absurd (omega (arith, whole, short)))

pub took-to-end : (a b c : Option (List ℕ)) (bytes : List ℕ) (count : ℕ) → Takes a b bytes → GivesBytes b c None → GivesUpTo count a c bytes
took-to-end a b None bytes count took end = tt
took-to-end a None (Some rest) bytes count took end = absurd end
took-to-end None (Some left) (Some rest) bytes count took end = absurd took
took-to-end (Some all) (Some left) (Some rest) bytes count took end = (took ∙ ap (λ (l : List ℕ). bytes ++ l) (end.0 ∙ sym end.1), λ short. end.1)

-- a fault leaves a part taken
broke : (fault : NetError) (left rest : List ℕ) → IsIoFault fault → TakesPart left rest → ReceivesFrame (Err fault) left rest
broke Io left rest is part = part
broke OutOfMemory left rest is part = part
broke RequestTooLarge left rest is part = absurd is
broke (BadRequest kind) left rest is part = absurd is
broke (Build kind) left rest is part = absurd is
broke (Response kind) left rest is part = absurd is
broke (QuicMessageIdNot0 id) left rest is part = absurd is
broke (FinishedEarly count) left rest is part = absurd is
broke (MaxBufferSizeExceeded count) left rest is part = absurd is
broke UnknownStream left rest is part = absurd is
broke NotMulticast left rest is part = absurd is
broke Timeout left rest is part = absurd is
broke ShutDown left rest is part = absurd is
broke (Proto error) left rest is part = absurd is

prefix-part : (front : List ℕ) → length front ≤ 2 → IsPart front
prefix-part [] short = tt
prefix-part (high ∷ []) short = tt
prefix-part (high ∷ low ∷ []) short = omega arith
prefix-part (high ∷ low ∷ byte ∷ bytes) short = absurd (omega (arith, short))

-- a fault in the length
pub broke-in-length : (fault : NetError) (a b : Option (List ℕ)) → IsIoFault fault → TakesFront a b 2 → Told (ReceivesFrame (Err fault)) a b
broke-in-length fault a None is took = tt
broke-in-length fault None (Some rest) is took = absurd took
broke-in-length fault (Some left) (Some rest) is took =
    broke fault left rest is (record { front = took.0; parts = took.1; is_part = prefix-part took.0 took.2 })

early-in-length : (prefix : List ℕ) → length prefix < 2 → EndsEarly prefix (length prefix)
early-in-length [] short = refl
early-in-length (high ∷ []) short = refl
early-in-length (high ∷ low ∷ bytes) short = absurd (omega (arith, short))

-- the end in the length
pub ends-in-length : (prefix : List ℕ) (a b : Option (List ℕ)) → GivesUpTo 2 a b prefix → length prefix < 2 → Told (ReceivesFrame (Err (FinishedEarly (length prefix)))) a b
ends-in-length prefix a None gives short = tt
ends-in-length prefix None (Some rest) gives short = absurd gives
ends-in-length prefix (Some left) (Some rest) gives short =
    let end : rest ≡ [] = gives.1 short in
    let all : left ≡ prefix = gives.0 ∙ ap (λ (l : List ℕ). prefix ++ l) end ∙ append-nil prefix in
    (end, rw all (early-in-length prefix short))

body-part : (prefix body : List ℕ) → length prefix ≡ 2 → length body ≤ get_or prefix 0 0 * 256 + get_or prefix 1 0 → IsPart (prefix ++ body)
body-part [] body two short = absurd (omega (arith, two))
body-part (high ∷ []) body two short = absurd (omega (arith, two))
body-part (high ∷ low ∷ []) body two short = short
body-part (high ∷ low ∷ byte ∷ bytes) body two short = absurd (omega (arith, two))

-- a fault in the message
pub broke-in-message : (fault : NetError) (prefix : List ℕ) (a b c : Option (List ℕ)) → IsIoFault fault → length prefix ≡ 2 → GivesUpTo 2 a b prefix → TakesFront b c (get_or prefix 0 0 * 256 + get_or prefix 1 0) → Told (ReceivesFrame (Err fault)) a c
broke-in-message fault prefix a b None is two gives took = tt
broke-in-message fault prefix a None (Some rest) is two gives took = absurd took
broke-in-message fault prefix None (Some left) (Some rest) is two gives took = absurd gives
broke-in-message fault prefix (Some all) (Some left) (Some rest) is two gives took =
    broke fault all rest is (record {
      front = prefix ++ took.0;
      parts = gives.0 ∙ ap (λ (l : List ℕ). prefix ++ l) took.1 ∙ sym (append_assoc prefix took.0 rest);
      is_part = body-part prefix took.0 two took.2;
    })

early-in-message : (prefix body : List ℕ) → length prefix ≡ 2 → length body < get_or prefix 0 0 * 256 + get_or prefix 1 0 → EndsEarly (prefix ++ body) (length body)
early-in-message [] body two short = absurd (omega (arith, two))
early-in-message (high ∷ []) body two short = absurd (omega (arith, two))
early-in-message (high ∷ low ∷ []) body two short = (short, refl)
early-in-message (high ∷ low ∷ byte ∷ bytes) body two short = absurd (omega (arith, two))

-- the end in the message
pub ends-in-message : (prefix body : List ℕ) (a b c : Option (List ℕ)) → length prefix ≡ 2 → GivesUpTo 2 a b prefix → GivesUpTo (get_or prefix 0 0 * 256 + get_or prefix 1 0) b c body
    → length body < get_or prefix 0 0 * 256 + get_or prefix 1 0 → Told (ReceivesFrame (Err (FinishedEarly (length body)))) a c
ends-in-message prefix body a b None two gives next short = tt
ends-in-message prefix body a None (Some rest) two gives next short = absurd next
ends-in-message prefix body None (Some left) (Some rest) two gives next short = absurd gives
ends-in-message prefix body (Some all) (Some left) (Some rest) two gives next short =
    let end : rest ≡ [] = next.1 short in
    let is : all ≡ prefix ++ body = gives.0 ∙ ap (λ (l : List ℕ). prefix ++ l) (next.0 ∙ ap (λ (l : List ℕ). body ++ l) end ∙ append-nil body) in
    (end, rw is (early-in-message prefix body two short))

length-bytes : (prefix body : List ℕ) → ((i : ℕ) → get_or prefix i 0 < 256) → length prefix ≡ 2 → length body ≡ get_or prefix 0 0 * 256 + get_or prefix 1 0 → to_be_bytes w16 (length body) ≡ prefix
length-bytes [] body fits two is = absurd (omega (arith, two))
length-bytes (high ∷ []) body fits two is = absurd (omega (arith, two))
length-bytes (high ∷ low ∷ []) body fits two is = be_bytes_2 (high ∷ low ∷ []) (length body) refl fits (omega (arith, is))
length-bytes (high ∷ low ∷ byte ∷ bytes) body fits two is = absurd (omega (arith, two))

-- a whole message
pub whole-message : (prefix body : List ℕ) (a b c : Option (List ℕ)) → ((i : ℕ) → get_or prefix i 0 < 256) → length prefix ≡ 2 → GivesUpTo 2 a b prefix → GivesUpTo (get_or prefix 0 0 * 256 + get_or prefix 1 0) b c body
    → length body ≡ get_or prefix 0 0 * 256 + get_or prefix 1 0 → Told (ReceivesFrame (Ok body)) a c
whole-message prefix body a b None fits two gives next is = tt
whole-message prefix body a None (Some rest) fits two gives next is = absurd next
whole-message prefix body None (Some left) (Some rest) fits two gives next is = absurd gives
whole-message prefix body (Some all) (Some left) (Some rest) fits two gives next is =
    gives.0 ∙ ap (λ (l : List ℕ). prefix ++ l) next.0 ∙ sym (append_assoc prefix body rest) ∙ ap (λ (p : List ℕ). (p ++ body) ++ rest) (sym (length-bytes prefix body fits two is))

-- what stands whatever was answered
pub on-err : {T E P : Type 0} (result : Result T E) → P → OnErr result P
on-err (Ok done) holds = tt
on-err (Err fault) holds = holds
