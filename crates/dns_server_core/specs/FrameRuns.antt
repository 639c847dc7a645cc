-- Runs of a handler over the messages of a connection, and the bytes of their replies.
use Rattle.std.specs.Prelude.{◌≡◌, ◌⊎◌, ℕ, ◌+◌, List, [], ◌∷◌, ◌++◌, length, map, take, drop, Option, Some, None}
use Rattle.dns_book.specs.declared.ask.Ask.{Ask}
use Rattle.dns_book.specs.declared.ask.Settled.{Settled}
use Rattle.dns_frames.specs.Frames.{frame_of, frames}

-- the whole messages at the front of a stream, at most so many
abbrev pub first_messages : ℕ → List ℕ → List (List ℕ)
first_messages most bytes = take most (frames bytes).messages

-- how many bytes messages take on a stream, each behind the two bytes of its length
abbrev pub framed_size : List (List ℕ) → ℕ
framed_size [] = 0
framed_size (m ∷ ms) = 2 + length m + framed_size ms

-- what stands behind the first messages of a stream, at most so many
abbrev pub behind_first : ℕ → List ℕ → List ℕ
behind_first most bytes = drop (framed_size (first_messages most bytes)) bytes

-- the first messages of a stream, at most so many, each asked as this one
abbrev pub first_asks : Ask → ℕ → List ℕ → List Ask
first_asks ask most bytes = map (λ m. record ask { bytes = m }) (first_messages most bytes)

-- what is sent on a stream for a reply, where one is owed
abbrev pub frame_for : Option (List ℕ) → List ℕ
frame_for None = []
frame_for (Some bytes) = frame_of bytes

-- messages are settled in order, one step each, and these are the bytes of their replies, each behind its length
abbrev pub Run : {H : Type 0} → (H → Ask → Settled → H → Type 0) → H → List Ask → List ℕ → H → Type 0
Run serves before [] bytes after = (after ≡ before) × (bytes ≡ [])
Run {H} serves before (ask ∷ asks) bytes after = (settled : Settled) × (between : H) × (others : List ℕ)
    × serves before ask settled between × (bytes ≡ frame_for settled.reply ++ others) × Run serves between asks others after

-- all of them were settled, and the bytes of their replies added to those that there were
pub record Adds {H : Type 0} (serves : H → Ask → Settled → H → Type 0) (before : H) (asks : List Ask) (after : H)
    (old new : List ℕ) : Type 0 where
  pub bytes : List ℕ
  pub run : Run serves before asks bytes after
  pub added : new ≡ old ++ bytes

-- the first of them were settled, and the bytes of their replies added to those that there were; behind these came at most one call that
-- found no memory
pub record Halts {H : Type 0} (serves : H → Ask → Settled → H → Type 0) (skips : H → H → Type 0) (before : H) (asks : List Ask)
    (after : H) (old new : List ℕ) : Type 0 where
  pub first : List Ask
  pub others : List Ask
  pub parts : asks ≡ first ++ others
  pub last : H
  pub bytes : List ℕ
  pub run : Run serves before first bytes last
  pub added : new ≡ old ++ bytes
  pub end : (after ≡ last) ⊎ skips last after

-- the first of all messages were settled, and these are left
pub record AddsFront {H : Type 0} (serves : H → Ask → Settled → H → Type 0) (before : H) (all : List Ask) (after : H)
    (left : List Ask) (old new : List ℕ) : Type 0 where
  pub first : List Ask
  pub parts : all ≡ first ++ left
  pub adds : Adds serves before first after old new
