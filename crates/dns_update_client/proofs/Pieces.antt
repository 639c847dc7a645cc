-- How an input goes on from read to read.
use Rattle.std.proofs.Common.{◌≡◌, ℕ, ◌+◌, ◌*◌, ◌<◌, ◌≤◌, List, [], ◌∷◌, ◌++◌, length, get_or, Option, Some, None, refl, sym, ap, ◌∙◌, arith}
use Rattle.std.proofs.lemmas.List.{append_assoc}
use Rattle.dns_io.specs.Told.{Takes, EndsAt}
use Rattle.dns_io.proofs.ToldContents.{Told-same, Takes-more}
use Rattle.dns_update_client.specs.declared.submit_fault.SubmitFault.{SubmitFault}
use Rattle.dns_update_client.specs.declared.submit_fault.SubmitFault.TheVariants.{Proto, Write, Read, Ended, Mismatch, NotReply, OutOfMemory}
use Rattle.dns_update_client.specs.Exchange.{IsInputFault, Leaves, StopsReceiving, unreceived, ended, no_memory, TakesUntil}
use Rattle.dns_update_client.specs.Framed.{frame, GivesUpTo, IsPart, IsUnfinished}
use Rattle.dns_update_client.proofs.Framing.{frame-of-parts}

pub Takes-nothing : (a : Option (List ℕ)) → Takes a a []
Takes-nothing a = Told-same (λ left rest. left ≡ [] ++ rest) (λ x. refl) a

pub took-whole : (a b : Option (List ℕ)) (bytes : List ℕ) (count : ℕ) → Takes a b bytes → count ≤ length bytes → GivesUpTo count a b bytes
took-whole a None bytes count took whole = tt
took-whole None (Some rest) bytes count took whole = absurd took
took-whole (Some left) (Some rest) bytes count took whole = (took, λ short. absurd (omega (arith, whole, short)))

pub took-to-end : (a b c : Option (List ℕ)) (bytes none : List ℕ) (count got : ℕ) → Takes a b bytes → Takes b c none → EndsAt b c got → got ≡ 0 → none ≡ [] → GivesUpTo count a c bytes
took-to-end a b None bytes none count got took next end is empty = tt
took-to-end a None (Some rest) bytes none count got took next end is empty = absurd next
took-to-end None (Some left) (Some rest) bytes none count got took next end is empty = absurd took
took-to-end (Some all) (Some left) (Some rest) bytes none count got took next end is empty =
    let same : left ≡ rest = next ∙ ap (λ (l : List ℕ). l ++ rest) empty in
    (took ∙ ap (λ (l : List ℕ). bytes ++ l) same, λ short. sym same ∙ end.0 is)

-- a fault of the input leaves nothing said of what is left
leaves : (fault : SubmitFault) (rest : List ℕ) → IsInputFault fault → Leaves fault rest
leaves Read rest is = tt
leaves OutOfMemory rest is = tt
leaves (Proto error) rest is = tt
leaves Write rest is = tt
leaves (Ended number) rest is = absurd is
leaves (Mismatch want got) rest is = tt
leaves (NotReply id) rest is = tt

pub until : (fault : SubmitFault) (a b : Option (List ℕ)) (bytes : List ℕ) → IsInputFault fault → Takes a b bytes → TakesUntil fault a b bytes
until fault a None bytes is took = tt
until fault None (Some rest) bytes is took = absurd took
until fault (Some left) (Some rest) bytes is took = (took, leaves fault rest is)

pub broke : (fault : SubmitFault) (number : ℕ) (got : List ℕ) → IsInputFault fault → IsPart got → StopsReceiving number got fault
broke Read number got is part = unreceived part
broke OutOfMemory number got is part = no_memory part
broke (Proto error) number got is part = absurd is
broke Write number got is part = absurd is
broke (Ended n) number got is part = absurd is
broke (Mismatch want have) number got is part = absurd is
broke (NotReply id) number got is part = absurd is

prefix-part : (front : List ℕ) → length front ≤ 2 → IsPart front
prefix-part [] short = tt
prefix-part (high ∷ []) short = tt
prefix-part (high ∷ low ∷ []) short = omega arith
prefix-part (high ∷ low ∷ byte ∷ bytes) short = absurd (omega (arith, short))

Stopped : ℕ → SubmitFault → Option (List ℕ) → Option (List ℕ) → Type 0
Stopped number fault a b = (got : List ℕ) × StopsReceiving number got fault × TakesUntil fault a b got

-- a fault in the length
pub broke-in-length : (fault : SubmitFault) (number : ℕ) (a b : Option (List ℕ)) → IsInputFault fault → ((got : List ℕ) × (length got ≤ 2) × Takes a b got)
    → (got : List ℕ) × StopsReceiving number got fault × TakesUntil fault a b got
broke-in-length fault number a b is part = (part.0, broke fault number part.0 is (prefix-part part.0 part.1), until fault a b part.0 is part.2)

unfinished-length : (prefix : List ℕ) → length prefix < 2 → IsUnfinished prefix
unfinished-length [] short = tt
unfinished-length (high ∷ []) short = tt
unfinished-length (high ∷ low ∷ bytes) short = absurd (omega (arith, short))

at-end : (number count : ℕ) (a b : Option (List ℕ)) (bytes : List ℕ) → GivesUpTo count a b bytes → length bytes < count → TakesUntil (Ended number) a b bytes
at-end number count a None bytes gives short = tt
at-end number count None (Some rest) bytes gives short = absurd gives
at-end number count (Some left) (Some rest) bytes gives short = (gives.0, gives.1 short)

-- the end in the length
pub ends-in-length : (number : ℕ) (prefix : List ℕ) (a b : Option (List ℕ)) → GivesUpTo 2 a b prefix → length prefix < 2
    → (got : List ℕ) × StopsReceiving number got (Ended number) × TakesUntil (Ended number) a b got
ends-in-length number prefix a b gives short = (prefix, ended (unfinished-length prefix short), at-end number 2 a b prefix gives short)

body-part : (prefix body : List ℕ) → length prefix ≡ 2 → length body ≤ get_or prefix 0 0 * 256 + get_or prefix 1 0 → IsPart (prefix ++ body)
body-part [] body two short = absurd (omega (arith, two))
body-part (high ∷ []) body two short = absurd (omega (arith, two))
body-part (high ∷ low ∷ []) body two short = short
body-part (high ∷ low ∷ byte ∷ bytes) body two short = absurd (omega (arith, two))

took : (count : ℕ) (a b : Option (List ℕ)) (bytes : List ℕ) → GivesUpTo count a b bytes → Takes a b bytes
took count a None bytes gives = tt
took count None (Some rest) bytes gives = absurd gives
took count (Some left) (Some rest) bytes gives = gives.0

-- a fault in the message
pub broke-in-message : (fault : SubmitFault) (number : ℕ) (prefix : List ℕ) (a b c : Option (List ℕ)) → IsInputFault fault → length prefix ≡ 2 → GivesUpTo 2 a b prefix
    → ((got : List ℕ) × (length got ≤ get_or prefix 0 0 * 256 + get_or prefix 1 0) × Takes b c got)
    → (got : List ℕ) × StopsReceiving number got fault × TakesUntil fault a c got
broke-in-message fault number prefix a b c is two gives part = (
  prefix ++ part.0,
  broke fault number (prefix ++ part.0) is (body-part prefix part.0 two part.1),
  until fault a c (prefix ++ part.0) is (Takes-more a b c prefix part.0 (took 2 a b prefix gives) part.2),
)

unfinished-message : (prefix body : List ℕ) → length prefix ≡ 2 → length body < get_or prefix 0 0 * 256 + get_or prefix 1 0 → IsUnfinished (prefix ++ body)
unfinished-message [] body two short = absurd (omega (arith, two))
unfinished-message (high ∷ []) body two short = absurd (omega (arith, two))
unfinished-message (high ∷ low ∷ []) body two short = short
unfinished-message (high ∷ low ∷ byte ∷ bytes) body two short = absurd (omega (arith, two))

both-to-end : (number count : ℕ) (prefix body : List ℕ) (a b c : Option (List ℕ)) → GivesUpTo 2 a b prefix → GivesUpTo count b c body → length body < count → TakesUntil (Ended number) a c (prefix ++ body)
both-to-end number count prefix body a b None gives next short = tt
both-to-end number count prefix body a None (Some rest) gives next short = absurd next
both-to-end number count prefix body None (Some left) (Some rest) gives next short = absurd gives
both-to-end number count prefix body (Some all) (Some left) (Some rest) gives next short =
    (gives.0 ∙ ap (λ (l : List ℕ). prefix ++ l) next.0 ∙ sym (append_assoc prefix body rest), next.1 short)

-- the end in the message
pub ends-in-message : (number : ℕ) (prefix body : List ℕ) (a b c : Option (List ℕ)) → length prefix ≡ 2 → GivesUpTo 2 a b prefix → GivesUpTo (get_or prefix 0 0 * 256 + get_or prefix 1 0) b c body
    → length body < get_or prefix 0 0 * 256 + get_or prefix 1 0
    → (got : List ℕ) × StopsReceiving number got (Ended number) × TakesUntil (Ended number) a c got
ends-in-message number prefix body a b c two gives next short =
    (prefix ++ body, ended (unfinished-message prefix body two short), both-to-end number (get_or prefix 0 0 * 256 + get_or prefix 1 0) prefix body a b c gives next short)

-- a whole message
pub whole-message : (prefix body : List ℕ) (a b c : Option (List ℕ)) → ((i : ℕ) → get_or prefix i 0 < 256) → length prefix ≡ 2 → GivesUpTo 2 a b prefix → GivesUpTo (get_or prefix 0 0 * 256 + get_or prefix 1 0) b c body
    → length body ≡ get_or prefix 0 0 * 256 + get_or prefix 1 0 → Takes a c (frame body)
whole-message prefix body a b c fits two gives next is =
    let count = get_or prefix 0 0 * 256 + get_or prefix 1 0 in
    rw (← frame-of-parts prefix body fits two is) (Takes-more a b c prefix body (took 2 a b prefix gives) (took count b c body next))
