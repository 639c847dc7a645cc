-- A stream of messages, each behind the two bytes of its length (RFC 1035 4.2.2).
use Rattle.std.specs.Prelude.{◌≡◌, ℕ, ◌+◌, ◌*◌, List, [], ◌∷◌, ◌++◌, length, take, drop, nat_lt, if◌then◌else◌, zero, suc, Option, Some, None}
use Rattle.std.specs.Int.{w16, to_be_bytes}

-- a message behind its length
abbrev pub frame_of : List ℕ → List ℕ
frame_of message = to_be_bytes w16 (length message) ++ message

-- the whole messages of a stream, and the bytes behind the last of them
pub record Cut : Type 0 where
  pub messages : List (List ℕ)
  pub rest : List ℕ

-- a cut with a message in front
abbrev pub behind : List ℕ → Cut → Cut
behind message cut = record { messages = message ∷ cut.messages; rest = cut.rest }

-- a cut with messages in front
abbrev pub ahead : List (List ℕ) → Cut → Cut
ahead messages cut = record { messages = messages ++ cut.messages; rest = cut.rest }

-- the frames of a stream, at most this number of them. Where it begins with two bytes that make a number n, and n bytes follow
-- them, these are a message, and the frames of what remains follow. Else there is no message, and all of it is the rest.
unfoldable pub frames_by : ℕ → List ℕ → Cut
frames_by zero bytes = record { messages = []; rest = bytes }
frames_by (suc most) [] = record { messages = []; rest = [] }
frames_by (suc most) (a ∷ []) = record { messages = []; rest = a ∷ [] }
frames_by (suc most) (a ∷ b ∷ bytes) = if nat_lt (length bytes) (a * 256 + b)
    then record { messages = []; rest = a ∷ b ∷ bytes }
    else behind (take (a * 256 + b) bytes) (frames_by most (drop (a * 256 + b) bytes))

-- the frames of a stream: all of them, since each takes at least two bytes
unfoldable pub frames : List ℕ → Cut
frames bytes = frames_by (length bytes) bytes

-- the messages that were given, and those that are left with the rest, are the frames of all bytes that were fed
abbrev pub Accounts : List ℕ → List (List ℕ) → List ℕ → Type 0
Accounts fed given left = frames fed ≡ ahead given (frames left)

-- what is given of the bytes that are left: the first message, or none where none is whole
abbrev pub Gives : List ℕ → Option (List ℕ) → List ℕ → Type 0
Gives before (Some message) after = frames before ≡ behind message (frames after)
Gives before None after = (frames before ≡ record { messages = []; rest = before }) × (after ≡ before)
