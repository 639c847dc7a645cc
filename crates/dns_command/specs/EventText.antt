-- The event text: a line an event, in words that are parted by one space each.
use Rattle.std.specs.Prelude.{ℕ, ◌+◌, ◌^◌, List, [], ◌∷◌, Option, Some, None, Result, Ok, Err, Bool, true, ◌==◌, if◌then◌else◌, codes}
use Rattle.std.specs.List.{slice_split}
use Rattle.std.specs.Str.{bytes_eq}
use Rattle.dns_presentation.specs.Lines.{lines_of}
use Rattle.dns_words.specs.Values.{◌>>=◌, decimal_of, peer_of, bytes_of}
use Rattle.dns_server_core.specs.declared.event.Event.{Event}
use Rattle.dns_server_core.specs.declared.event.Event.TheVariants.{Accepted, Bytes, Ended, Datagram, Tick, Stop}

-- the number of a connection
abbrev pub connection_of : List ℕ → Option ℕ
connection_of word = decimal_of (2 ^ 32) word

-- a moment or a limit, in milliseconds
abbrev pub milliseconds_of : List ℕ → Option ℕ
milliseconds_of word = decimal_of (2 ^ 64) word

-- the words of a datagram behind its letter: the moment, the sender's address and port, and the bytes
unfoldable pub datagram_of : List (List ℕ) → Option Event
datagram_of (at ∷ ip ∷ port ∷ hex ∷ []) = do
  moment ← milliseconds_of at
  peer ← peer_of ip port
  bytes ← bytes_of hex
  Some (Datagram moment peer bytes)
datagram_of words = None

-- of a connection that was accepted: the moment, its number, the peer's address and port, and the limit
unfoldable pub accepted_of : List (List ℕ) → Option Event
accepted_of (at ∷ conn ∷ ip ∷ port ∷ limit ∷ []) = do
  moment ← milliseconds_of at
  number ← connection_of conn
  peer ← peer_of ip port
  most ← milliseconds_of limit
  Some (Accepted moment number peer most)
accepted_of words = None

-- of bytes that came over a connection: the moment, its number, and the bytes
unfoldable pub piece_of : List (List ℕ) → Option Event
piece_of (at ∷ conn ∷ hex ∷ []) = do
  moment ← milliseconds_of at
  number ← connection_of conn
  bytes ← bytes_of hex
  Some (Bytes moment number bytes)
piece_of words = None

-- of a connection's end: the moment and its number
unfoldable pub end_of : List (List ℕ) → Option Event
end_of (at ∷ conn ∷ []) = do
  moment ← milliseconds_of at
  number ← connection_of conn
  Some (Ended moment number)
end_of words = None

-- of a moment that passed, and of a stop: the moment
unfoldable pub tick_of : List (List ℕ) → Option Event
tick_of (at ∷ []) = do
  moment ← milliseconds_of at
  Some (Tick moment)
tick_of words = None

unfoldable pub stop_of : List (List ℕ) → Option Event
stop_of (at ∷ []) = do
  moment ← milliseconds_of at
  Some (Stop moment)
stop_of words = None

-- the event of a letter and the words behind it, where it has no bytes
unfoldable pub plain_of : List ℕ → List (List ℕ) → Option Event
plain_of letter words =
    if bytes_eq letter (codes "A") then accepted_of words
    else if bytes_eq letter (codes "E") then end_of words
    else if bytes_eq letter (codes "T") then tick_of words
    else if bytes_eq letter (codes "S") then stop_of words
    else None

-- the event of a line's words: a letter, and what it stands for
unfoldable pub event_of : List (List ℕ) → Option Event
event_of [] = None
event_of (letter ∷ []) = None
event_of (letter ∷ word ∷ words) =
    if bytes_eq letter (codes "D") then datagram_of (word ∷ words)
    else if bytes_eq letter (codes "B") then piece_of (word ∷ words)
    else plain_of letter (word ∷ words)

-- the words of a line
abbrev pub words_in : List ℕ → List (List ℕ)
words_in line = slice_split (λ b. b == 32) line

-- a line that stands for nothing: an empty one, or one that begins with `#`
abbrev pub is_skipped : List ℕ → Bool
is_skipped [] = true
is_skipped (b ∷ bs) = b == 35

-- an event before the others
abbrev pub before : Event → Result (List Event) ℕ → Result (List Event) ℕ
before event (Ok events) = Ok (event ∷ events)
before event (Err line) = Err line

-- the events of lines, the first of which has this number; or the number of the first line outside the form
abbrev pub events_from : ℕ → List (List ℕ) → Result (List Event) ℕ
events_from number [] = Ok []
events_from number (line ∷ lines) =
    if is_skipped line then events_from (number + 1) lines
    else elim (event_of (words_in line)) [
      | Some event ↦ before event (events_from (number + 1) lines)
      | None ↦ Err number
    ]

-- the events of a text, or the first line outside the form, counted from 1
abbrev pub events_of : List ℕ → Result (List Event) ℕ
events_of text = events_from 1 (lines_of text)
