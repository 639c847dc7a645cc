-- Bytes behind their length, as messages go over a connection (RFC 1035 4.2.2).
use Rattle.std.specs.Prelude.{◌≡◌, ℕ, ◌+◌, ◌*◌, ◌<◌, ◌≤◌, List, [], ◌∷◌, ◌++◌, length, Option}
use Rattle.std.specs.List.{flat_map}
use Rattle.dns_io.specs.Told.{Told}
use Rattle.dns_frames.specs.Frames.{frame_of}

-- a message behind its length, as proofs here do not look into it
unfoldable pub frame : List ℕ → List ℕ
frame bytes = frame_of bytes

-- the frames of messages, one behind another
abbrev pub frames_of : List (List ℕ) → List ℕ
frames_of messages = flat_map frame messages

-- the bytes end before the frame does that they begin with
abbrev pub IsUnfinished : List ℕ → Type 0
IsUnfinished [] = Unit {0}
IsUnfinished (high ∷ []) = Unit {0}
IsUnfinished (high ∷ low ∷ bytes) = length bytes < high * 256 + low

-- no more bytes than one frame has
abbrev pub IsPart : List ℕ → Type 0
IsPart [] = Unit {0}
IsPart (high ∷ []) = Unit {0}
IsPart (high ∷ low ∷ bytes) = length bytes ≤ high * 256 + low

-- these bytes were taken from the front, and all where they are fewer than were asked for
abbrev pub GivesUpTo : ℕ → Option (List ℕ) → Option (List ℕ) → List ℕ → Type 0
GivesUpTo count before now bytes = Told (λ left rest. (left ≡ bytes ++ rest) × (length bytes < count → rest ≡ [])) before now
