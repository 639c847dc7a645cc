-- How what is told of a body goes on from piece to piece.
use Rattle.std.proofs.Common.{◌≡◌, ℕ, ◌+◌, ◌<◌, ◌≤◌, List, [], ◌∷◌, ◌++◌, length, Option, Some, None, refl, sym, ap, subst, ◌∙◌, arith}
use Rattle.std.proofs.lemmas.List.{append_assoc, append-nil, length-append}
use Rattle.std.specs.Prelude.{Result, Ok, Err, true, false, nat_lt}
use Rattle.std.proofs.lemmas.Bool.Decides.{nat_tests}
use Rattle.dns_io.specs.Told.{Told, Takes}
use Rattle.dns_io.proofs.ToldContents.{Told-same}
use Rattle.dns_transport.specs.declared.error.NetError.{NetError}
use Rattle.dns_transport.specs.declared.error.NetError.TheVariants.{BadRequest, OutOfMemory}
use Rattle.dns_transport.specs.declared.error.BadRequestKind.TheVariants.{Length}
use Rattle.dns_transport.specs.Pieces.{joined, from_bytes, NextOf, GivesNext, GivesBytes}
use Rattle.dns_net.specs.Bodies.{TakesShort, TakesPast, TakesLong, TakesWithin, Fetches, FetchesBytes, is_said, whole_body}

-- pieces with these bytes were taken
pub record TakesBytes (bytes : List ℕ) (left rest : List (List ℕ)) : Type 0 where
  pub front : List (List ℕ)
  pub parts : left ≡ front ++ rest
  pub taken : joined front ≡ bytes

pub joined-append : (front rest : List (List ℕ)) → joined (front ++ rest) ≡ joined front ++ joined rest
joined-append [] rest = refl
joined-append (piece ∷ front) rest = ap (λ more. piece ++ more) (joined-append front rest) ∙ sym (append_assoc piece (joined front) (joined rest))

-- one more piece
took-piece : (bytes piece : List ℕ) (all rest : List (List ℕ)) → TakesBytes bytes all (piece ∷ rest) → TakesBytes (bytes ++ piece) all rest
took-piece bytes piece all rest took =
    record {
      front = took.front ++ piece ∷ [];
      parts = took.parts ∙ sym (append_assoc took.front (piece ∷ []) rest);
      taken = joined-append took.front (piece ∷ []) ∙ ap (λ more. joined took.front ++ more) (append-nil piece) ∙ ap (λ front. front ++ piece) took.taken;
    }

-- empty pieces add no bytes
took-empty : (bytes : List ℕ) (all left : List (List ℕ)) → TakesBytes bytes all left → TakesBytes bytes all (from_bytes left)
took-empty bytes all [] took = took
took-empty bytes all ([] ∷ pieces) took =
    took-empty bytes all pieces (subst (λ more. TakesBytes more all pieces) (append-nil bytes) (took-piece bytes [] all pieces took))
took-empty bytes all ((byte ∷ more) ∷ pieces) took = took

took-next : (bytes : List ℕ) (all left next : List (List ℕ)) → TakesBytes bytes all left → from_bytes left ≡ next → TakesBytes bytes all next
took-next bytes all left next took is = subst (λ left. TakesBytes bytes all left) is (took-empty bytes all left took)

pub took-more : (a b c : Option (List (List ℕ))) (bytes piece : List ℕ) → Told (TakesBytes bytes) a b → GivesNext b c (Some piece) → Told (TakesBytes (bytes ++ piece)) a c
took-more a b None bytes piece told next = tt
took-more a None (Some rest) bytes piece told next = absurd next
took-more None (Some left) (Some rest) bytes piece told next = absurd told
took-more (Some all) (Some left) (Some rest) bytes piece told next = took-piece bytes piece all rest (took-next bytes all left (piece ∷ rest) told next)

pub took-past : (a b c : Option (List (List ℕ))) (bytes piece : List ℕ) → Told (TakesBytes bytes) a b → GivesNext b c (Some piece) → length bytes ≤ 65535 → 65535 < length bytes + length piece → Told TakesPast a c
took-past a b None bytes piece told next short past = tt
took-past a None (Some rest) bytes piece told next short past = absurd next
took-past None (Some left) (Some rest) bytes piece told next short past = absurd told
took-past (Some all) (Some left) (Some rest) bytes piece told next short past =
    let took = took-next bytes all left (piece ∷ rest) told next in
    record {
      front = took.front;
      piece = piece;
      parts = took.parts;
      short = rw (took.taken) short;
      past = rw (took.taken) past;
    }

pub took-all : (a b c : Option (List (List ℕ))) (bytes : List ℕ) → Told (TakesBytes bytes) a b → GivesNext b c None → Told (λ left rest. (rest ≡ []) × (joined left ≡ bytes)) a c
took-all a b None bytes told next = tt
took-all a None (Some rest) bytes told next = absurd next
took-all None (Some left) (Some rest) bytes told next = absurd told
took-all (Some all) (Some left) (Some rest) bytes told next =
    let took = took-next bytes all left [] told next.0 in
    (next.1, ap joined (took.parts ∙ append-nil took.front) ∙ took.taken)

pub took-short : (a b : Option (List (List ℕ))) (bytes : List ℕ) → Told (TakesBytes bytes) a b → length bytes ≤ 65535 → Told TakesShort a b
took-short a None bytes told short = tt
took-short None (Some rest) bytes told short = absurd told
took-short (Some left) (Some rest) bytes told short = record { front = told.front; parts = told.parts; short = rw (told.taken) short }

-- a body that is told to its end
pub ended : (said : Option ℕ) (a b : Option (List (List ℕ))) (bytes : List ℕ) (result : Result (List ℕ) NetError) → Told (λ left rest. (rest ≡ []) × (joined left ≡ bytes)) a b → whole_body said bytes ≡ result
    → ((left rest : List (List ℕ)) → rest ≡ [] → whole_body said (joined left) ≡ result → Fetches said result left rest) → Told (Fetches said result) a b
ended said a None bytes result told whole gives = tt
ended said None (Some rest) bytes result told whole gives = absurd told
ended said (Some left) (Some rest) bytes result told whole gives = gives left rest told.0 (ap (whole_body said) told.1 ∙ whole)

pub whole-as-said : (said : Option ℕ) (bytes : List ℕ) → length bytes ≤ 65535 → is_said said (length bytes) ≡ true → whole_body said bytes ≡ Ok bytes
whole-as-said said bytes short as_said =
    let within : nat_lt 65535 (length bytes) ≡ false = grind (arith, nat_tests) in
    rw (within, as_said) refl

pub whole-not-said : (said : Option ℕ) (bytes : List ℕ) → length bytes ≤ 65535 → is_said said (length bytes) ≡ false → whole_body said bytes ≡ Err (BadRequest Length)
whole-not-said said bytes short other =
    let within : nat_lt 65535 (length bytes) ≡ false = grind (arith, nat_tests) in
    rw (within, other) refl

-- want of memory ends it
pub no-memory : (said : Option ℕ) (result : Result (List ℕ) NetError) (a b : Option (List (List ℕ))) → result ≡ Err OutOfMemory → Told TakesShort a b → Told (Fetches said result) a b
no-memory said result a b is told = rw is told

-- the bytes of pieces do not depend on the empty ones
joined-from_bytes : (pieces : List (List ℕ)) → joined (from_bytes pieces) ≡ joined pieces
joined-from_bytes [] = refl
joined-from_bytes ([] ∷ pieces) = joined-from_bytes pieces
joined-from_bytes ((byte ∷ bytes) ∷ pieces) = refl

-- the next piece has the next bytes
pub gives-bytes : (piece : Option (List ℕ)) (left rest : List (List ℕ)) → NextOf piece left rest → GivesBytes (Some (joined left)) (Some (joined rest)) piece
gives-bytes None left rest next = (sym (joined-from_bytes left) ∙ ap joined next.0, ap joined next.1)
gives-bytes (Some piece) left rest next = sym (joined-from_bytes left) ∙ ap joined next

pub Takes-nothing : (a : Option (List ℕ)) → Takes a a []
Takes-nothing a = Told-same (λ left rest. left ≡ [] ++ rest) (λ x. refl) a

pub bytes-more : (a b c : Option (List ℕ)) (bytes piece : List ℕ) → Takes a b bytes → GivesBytes b c (Some piece) → Takes a c (bytes ++ piece)
bytes-more a b None bytes piece took next = tt
bytes-more a None (Some rest) bytes piece took next = absurd next
bytes-more None (Some left) (Some rest) bytes piece took next = absurd took
bytes-more (Some all) (Some left) (Some rest) bytes piece took next = took ∙ ap (λ (l : List ℕ). bytes ++ l) next ∙ sym (append_assoc bytes piece rest)

pub bytes-past : (a c : Option (List ℕ)) (bytes piece : List ℕ) → Takes a c (bytes ++ piece) → 65535 < length bytes + length piece → Told TakesLong a c
bytes-past a None bytes piece took past = tt
bytes-past None (Some rest) bytes piece took past = absurd took
bytes-past (Some all) (Some rest) bytes piece took past = record { front = bytes ++ piece; parts = took; long = rw length-append past }

pub bytes-within : (a b : Option (List ℕ)) (bytes : List ℕ) → Takes a b bytes → length bytes ≤ 65535 → Told TakesWithin a b
bytes-within a None bytes took short = tt
bytes-within None (Some rest) bytes took short = absurd took
bytes-within (Some left) (Some rest) bytes took short = record { front = bytes; parts = took; short = short }

-- a body that is told to its end
pub bytes-ended : (said : Option ℕ) (a b c : Option (List ℕ)) (bytes : List ℕ) (result : Result (List ℕ) NetError) → Takes a b bytes → GivesBytes b c None → whole_body said bytes ≡ result
    → ((left rest : List ℕ) → rest ≡ [] → whole_body said left ≡ result → FetchesBytes said result left rest) → Told (FetchesBytes said result) a c
bytes-ended said a b None bytes result took end whole gives = tt
bytes-ended said a None (Some rest) bytes result took end whole gives = absurd end
bytes-ended said None (Some left) (Some rest) bytes result took end whole gives = absurd took
bytes-ended said (Some all) (Some left) (Some rest) bytes result took end whole gives =
    gives all rest end.1 (ap (whole_body said) (took ∙ ap (λ (l : List ℕ). bytes ++ l) end.0 ∙ append-nil bytes) ∙ whole)

-- want of memory ends it
pub bytes-no-memory : (said : Option ℕ) (result : Result (List ℕ) NetError) (a b : Option (List ℕ)) → result ≡ Err OutOfMemory → Told TakesWithin a b → Told (FetchesBytes said result) a b
bytes-no-memory said result a b is told = rw is told
