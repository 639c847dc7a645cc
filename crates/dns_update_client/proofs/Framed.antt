-- The frames of messages are read as the messages.
use Rattle.std.proofs.Common.{◌≡◌, ℕ, ◌+◌, ◌*◌, ◌/◌, ◌%◌, ◌≤◌, List, [], ◌∷◌, ◌++◌, length, map, refl, ap, ◌∙◌, append_assoc, arith, length-append}
use Rattle.std.proofs.lemmas.List.{take_at, drop_at}
use Rattle.std.specs.List.{AllByRecursion}
use Rattle.dns_frames.specs.Frames.{behind, ahead, frames}
use Rattle.dns_frames.proofs.Cutting.{frames-whole}
use Rattle.dns_wire.specs.declared.message.Message.{Message}
use Rattle.dns_wire.specs.MessageBytes.{message_bytes}
use Rattle.dns_update_client.specs.Exchange.{message_frames, Exchanges}
use Rattle.dns_update_client.specs.Framed.{frame, frames_of}
use Rattle.dns_update_client.proofs.Framing.{message_frame-is}
use Rattle.dns_update_client.proofs.FrameParts.{said}

-- messages whose length two bytes can say
abbrev pub AreShort : List (List ℕ) → Type 0
AreShort messages = AllByRecursion (λ message. length message ≤ 65535) messages

-- a message behind its length, whatever follows it
one-frame : (message rest : List ℕ) → length message ≤ 65535 → frames (frame message ++ rest) ≡ behind message (frames rest)
unfolding frame
one-frame message rest short =
    let high = length message / 256 % 256 in
    let low = length message % 256 in
    let size : high * 256 + low ≡ length message = said (length message) short in
    let fits : high * 256 + low ≤ length (message ++ rest) = omega (arith, size, length-append message rest) in
    frames-whole high low (message ++ rest) fits
    ∙ rw (size, take_at message rest (length message) refl, drop_at message rest (length message) refl) refl

pub frames-of : (messages : List (List ℕ)) (rest : List ℕ) → AreShort messages → frames (frames_of messages ++ rest) ≡ ahead messages (frames rest)
frames-of [] rest short = refl
frames-of (m ∷ ms) rest short =
    ap frames (append_assoc (frame m) (frames_of ms) rest)
    ∙ one-frame m (frames_of ms ++ rest) short.0
    ∙ ap (behind m) (frames-of ms rest short.1)

-- messages as they are sent
sent-frames : (messages : List Message) → message_frames messages ≡ frames_of (map message_bytes messages)
sent-frames [] = refl
sent-frames (m ∷ ms) = rw (message_frame-is m, sent-frames ms) refl

sent-short : (messages : List Message) (replies : List (List ℕ)) (codes : List ℕ) → Exchanges messages replies codes → AreShort (map message_bytes messages)
sent-short [] replies codes x = tt
sent-short (m ∷ ms) [] codes x = absurd x
sent-short (m ∷ ms) (b ∷ bs) [] x = absurd x
sent-short (m ∷ ms) (b ∷ bs) (c ∷ cs) x = (x.0.short, sent-short ms bs cs x.2)

received-short : (messages : List Message) (replies : List (List ℕ)) (codes : List ℕ) → Exchanges messages replies codes → AreShort replies
received-short [] [] codes x = tt
received-short [] (b ∷ bs) codes x = absurd x
received-short (m ∷ ms) [] codes x = absurd x
received-short (m ∷ ms) (b ∷ bs) [] x = absurd x
received-short (m ∷ ms) (b ∷ bs) (c ∷ cs) x = (x.1.short, received-short ms bs cs x.2)

pub frames-sent : (messages : List Message) (replies : List (List ℕ)) (codes rest : List ℕ) → Exchanges messages replies codes
    → frames (message_frames messages ++ rest) ≡ ahead (map message_bytes messages) (frames rest)
frames-sent messages replies codes rest x = rw (sent-frames messages) (frames-of (map message_bytes messages) rest (sent-short messages replies codes x))

pub frames-received : (messages : List Message) (replies : List (List ℕ)) (codes rest : List ℕ) → Exchanges messages replies codes
    → frames (frames_of replies ++ rest) ≡ ahead replies (frames rest)
frames-received messages replies codes rest x = frames-of replies rest (received-short messages replies codes x)
