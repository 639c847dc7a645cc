-- Replies that go into a buffer.
use Rattle.std.proofs.Common.{◌≡◌, ℕ, ◌≤◌, List, [], ◌++◌, length, drop, Option, Some, None, Bool, true, false, is_some, if◌then◌else◌, Result, Ok, Err, IfOk, refl, sym, ap, ◌∙◌, subst}
use Rattle.std.specs.Prelude.{IfSome, IsSome}
use Rattle.dns_io.specs.declared.fault.OutOfMemory.{OutOfMemory}
use Rattle.dns_book.specs.declared.ask.Settled.{Settled}
use Rattle.dns_book.specs.declared.ask.SettledInto.{SettledInto}
use Rattle.dns_book.specs.Framed.{IsFrame}
use Rattle.dns_book.specs.Into.{sent_for, told_of, settled_of, SettlesInto}

-- what holds of a settled message holds where its reply went into a buffer
pub into_by : (P : Settled → Type 0) (settled : Settled) (framed : Bool) (before after : List ℕ) (into : SettledInto) → P settled → SettlesInto (λ s. s ≡ settled) framed before after into
    → SettlesInto P framed before after into
into_by P settled framed before after into holds i = record { settled = i.settled; is = subst P (sym i.is) holds; sent = i.sent; short = i.short; told = i.told }

-- what follows for a settled message follows where its reply went into a buffer
pub into_map : (P Q : Settled → Type 0) (framed : Bool) (before after : List ℕ) (into : SettledInto) → ((settled : Settled) → into ≡ told_of settled → P settled → Q settled) → SettlesInto P framed before after into
    → SettlesInto Q framed before after into
into_map P Q framed before after into step i = record { settled = i.settled; is = step i.settled i.told i.is; sent = i.sent; short = i.short; told = i.told }

-- so it does where no memory may have been found
pub into_ok : (P Q : Settled → Type 0) (framed : Bool) (before after : List ℕ) (answer : Result SettledInto OutOfMemory) → ((settled : Settled) → P settled → Q settled)
    → IfOk answer (SettlesInto P framed before after) → IfOk answer (SettlesInto Q framed before after)
into_ok P Q framed before after (Ok into) step i = into_map P Q framed before after into (λ settled told. step settled) i
into_ok P Q framed before after (Err fault) step i = tt

-- a frame of a reply that is owed
owed_frame : (reply : Option (List ℕ)) (frame : List ℕ) → frame ≡ sent_for true reply → IfSome reply (λ bytes. length bytes ≤ 65535) → is_some reply ≡ true → IsFrame frame
owed_frame None frame is short owed = absurd cc
owed_frame (Some bytes) frame is short owed = (bytes, is, short)

-- the reply of a frame
framed_reply : (reply : Option (List ℕ)) (frame : List ℕ) → frame ≡ sent_for true reply → (if is_some reply then Some (drop 2 frame) else None) ≡ reply
framed_reply None frame is = refl
framed_reply (Some bytes) frame is = ap (λ (f : List ℕ). Some (drop 2 f)) is

pub frame_into : (P : Settled → Type 0) (before frame : List ℕ) (into : SettledInto) → before ≡ [] → SettlesInto P true before frame into → into.is_owed ≡ true → IsFrame frame
frame_into P before frame into none i owed =
    owed_frame i.settled.reply frame (i.sent ∙ ap (λ (b : List ℕ). b ++ sent_for true i.settled.reply) none) i.short (sym (ap (λ (s : SettledInto). s.is_owed) i.told) ∙ owed)

-- what was settled is found again by its frame
pub settled_back : (P : Settled → Type 0) (before frame : List ℕ) (into : SettledInto) (settled : Settled) → before ≡ [] → SettlesInto P true before frame into → settled ≡ settled_of into frame → P settled
settled_back P before frame into settled none i is =
    let reply = framed_reply i.settled.reply frame (i.sent ∙ ap (λ (b : List ℕ). b ++ sent_for true i.settled.reply) none) in
    let same : settled_of into frame ≡ i.settled =
    ap (λ (t : SettledInto). settled_of t frame) i.told ∙ ap (λ (r : Option (List ℕ)). record { reply = r; length = i.settled.length; receipt = i.settled.receipt }) reply
    in
    subst P (sym (is ∙ same)) i.is

-- the reply that is all that a buffer has
plain_of : (reply : Option (List ℕ)) (bytes : List ℕ) → bytes ≡ sent_for false reply → (if is_some reply then Some bytes else None) ≡ reply
plain_of None bytes is = refl
plain_of (Some reply) bytes is = ap Some is

pub plain_reply : (P : Settled → Type 0) (before after bytes : List ℕ) (into : SettledInto) → before ≡ [] → bytes ≡ after → (i : SettlesInto P false before after into)
    → (if into.is_owed then Some bytes else None) ≡ i.settled.reply
plain_reply P before after bytes into none same i =
    ap (λ (t : SettledInto). if t.is_owed then Some bytes else None) i.told
    ∙ plain_of i.settled.reply bytes (same ∙ i.sent ∙ ap (λ (b : List ℕ). b ++ sent_for false i.settled.reply) none)

-- a reply that is owed is there
some_reply : (reply : Option (List ℕ)) → is_some reply ≡ true → IsSome reply
some_reply None owed = absurd cc
some_reply (Some bytes) owed = refl

pub is_replied : (P : Settled → Type 0) (framed : Bool) (before after : List ℕ) (into : SettledInto) → (i : SettlesInto P framed before after into) → into.is_owed ≡ true → IsSome i.settled.reply
is_replied P framed before after into i owed = some_reply i.settled.reply (sym (ap (λ (t : SettledInto). t.is_owed) i.told) ∙ owed)
