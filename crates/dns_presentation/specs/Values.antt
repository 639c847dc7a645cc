-- The values that words of a zone's text write: numbers, times, names, addresses and strings (RFC 1035 5.1).
use Rattle.std.specs.Prelude.{◌≡◌, ℕ, ◌+◌, ◌-◌, ◌*◌, ◌^◌, zero, suc, nat_lt, Bool, false, not, ◌==◌, ◌&&◌, if◌then◌else◌, List, [], ◌∷◌, ◌++◌, length, Option, Some, None, Result, Ok, Err, option_map}
use Rattle.std.specs.Option.{option_or}
use Rattle.std.specs.Int.{w128, from_be_bytes}
use Rattle.std.specs.Str.{str_eq_ignore_ascii_case, bytes_eq}
use Rattle.std.specs.Char.{to_ascii_lowercase}
use Rattle.std.specs.Net.Addr.{octets_of}
use Rattle.std.specs.Net.Reader.{read_ipv6, whole_value}
use lib.Chars.{codes}
use Rattle.dns_name.specs.Name.{fold_of, name_len}
use Rattle.dns_name.specs.Escapes.{is_digit, escape_of}
use Rattle.dns_name.specs.NameText.{name_of}
use Rattle.dns_name.specs.declared.fault.ProtoError.{ProtoError}
use Rattle.dns_presentation.specs.declared.fault.ValueFault.{ValueFault}
use Rattle.dns_presentation.specs.declared.fault.ValueFault.TheVariants.{Refused, OutOfMemory}
use Rattle.dns_presentation.specs.Words.{Word}

-- what comes of a value, if there is one
infixl 10 ◌>>=◌
abbrev pub ◌>>=◌ : {X Y : Type 0} → Option X → (X → Option Y) → Option Y
None >>= next = None
(Some x) >>= next = next x

-- the text of a word that stands in no quotes
abbrev pub plain_text : Word → Option (List ℕ)
plain_text word = if word.quoted then None else Some word.text

-- the word is this one, in capitals or not, and stands in no quotes (RFC 1035 2.3.3)
abbrev pub is_word : List ℕ → Word → Bool
is_word text word = not word.quoted && str_eq_ignore_ascii_case word.text text

-- a number below 2^32
abbrev pub below_32_bits : ℕ → Option ℕ
below_32_bits number = if nat_lt number (2 ^ 32) then Some number else None

-- the number that digits write behind others, if it is below 2^32
abbrev pub number_from : ℕ → List ℕ → Option ℕ
number_from number [] = Some number
number_from number (byte ∷ bytes) =
    if is_digit byte && nat_lt (10 * number + (byte - 48)) (2 ^ 32) then number_from (10 * number + (byte - 48)) bytes else None

-- a decimal number below 2^32; zeros may lead it
unfoldable pub number_of : List ℕ → Option ℕ
number_of [] = None
number_of (byte ∷ bytes) = number_from 0 (byte ∷ bytes)

-- a decimal number, at most this one, without leading zeros
unfoldable pub number_up_to : ℕ → List ℕ → Option ℕ
number_up_to most [] = None
number_up_to most (byte ∷ bytes) =
    if (byte == 48) && not (length bytes == 0) then None
    else number_from 0 (byte ∷ bytes) >>= λ number. if nat_lt most number then None else Some number

-- the seconds of a week, a day, an hour, a minute and a second, by the letter of the unit
abbrev pub unit_of : ℕ → Option ℕ
unit_of letter =
    if letter == 119 then Some 604800
    else if letter == 100 then Some 86400
    else if letter == 104 then Some 3600
    else if letter == 109 then Some 60
    else if letter == 115 then Some 1
    else None

-- a number with one digit more; where there is none yet it begins
abbrev pub longer_number : Option ℕ → ℕ → Option ℕ
longer_number None byte = below_32_bits (byte - 48)
longer_number (Some number) byte = below_32_bits (10 * number + (byte - 48))

-- the seconds of before, and those of a number of units more
abbrev pub more_seconds : ℕ → Option ℕ → ℕ → Option ℕ
more_seconds seconds None byte = None
more_seconds seconds (Some number) byte = unit_of (to_ascii_lowercase byte) >>= λ unit. below_32_bits (seconds + number * unit)

-- numbers, each with its unit behind it, beside the seconds of those before them; of the first number the digits so far
-- may be given
abbrev pub units_from : ℕ → Option ℕ → List ℕ → Option ℕ
units_from seconds None [] = Some seconds
units_from seconds (Some number) [] = None
units_from seconds number (byte ∷ text) =
    if is_digit byte then (longer_number number byte >>= λ longer. units_from seconds (Some longer) text)
    else (more_seconds seconds number byte >>= λ sum. units_from sum None text)

-- a time in seconds, below 2^32: a number, or numbers with their units, which are summed
unfoldable pub seconds_of : List ℕ → Option ℕ
seconds_of [] = None
seconds_of (byte ∷ text) = option_or (number_of (byte ∷ text)) (units_from 0 None (byte ∷ text))

-- the text ends in a dot that no backslash escapes
abbrev pub ends_in_dot : Bool → Bool → List ℕ → Bool
ends_in_dot escaped dot [] = dot
ends_in_dot escaped dot (byte ∷ bytes) = ends_in_dot (not escaped && (byte == 92)) (not escaped && (byte == 46)) bytes

-- the labels that were read, in small letters
abbrev pub folded : Result (List (List ℕ)) ProtoError → Option (List (List ℕ))
folded (Ok labels) = Some (fold_of labels)
folded (Err error) = None

-- a name below an origin, if it takes at most 255 bytes in a message (RFC 1035 2.3.4)
abbrev pub name_under : List (List ℕ) → List (List ℕ) → Option (List (List ℕ))
name_under origin name = if nat_lt 256 (name_len name + name_len origin) then None else Some (name ++ origin)

-- the name that a text writes, in small letters: `@` is the origin, and a name that ends in no dot is below the origin
unfoldable pub name_in : List (List ℕ) → List ℕ → Option (List (List ℕ))
name_in origin text =
    if bytes_eq text (codes "@") then Some origin
    else folded (name_of text) >>= λ name. if ends_in_dot false false text then Some name else name_under origin name

-- the byte that one byte before this text means, and how many bytes of the text belong to it
abbrev pub character_of : ℕ → List ℕ → Option (ℕ × ℕ)
character_of byte text = if byte == 92 then escape_of text else Some (byte, 0)

-- the bytes that a text means behind others, where this many bytes of the text belong to the character before it
abbrev pub string_from : ℕ → List ℕ → List ℕ → Option (List ℕ)
string_from passed bytes [] = Some bytes
string_from (suc passed) bytes (byte ∷ text) = string_from passed bytes text
string_from zero bytes (byte ∷ text) = character_of byte text >>= λ character. string_from character.1 (bytes ++ character.0 ∷ []) text

-- the bytes that a text means
unfoldable pub string_of : List ℕ → Option (List ℕ)
string_of text = string_from 0 [] text

-- an IPv4 address, of four numbers with dots between them (RFC 1035 3.4.1)
unfoldable pub address_from : List (List ℕ) → Option ℕ
address_from (first ∷ second ∷ third ∷ fourth ∷ []) = do
  a ← number_up_to 255 first
  b ← number_up_to 255 second
  c ← number_up_to 255 third
  d ← number_up_to 255 fourth
  Some (16777216 * a + 65536 * b + 256 * c + d)
address_from parts = None

-- the number of eight segments of sixteen bits
unfoldable pub segments_number : List ℕ → ℕ
segments_number segments = from_be_bytes w128 (octets_of segments)

-- an IPv6 address (RFC 4291 2.2)
unfoldable pub wide_address_of : List ℕ → Option ℕ
wide_address_of text = option_map segments_number (whole_value (read_ipv6 text))

-- a reading gave what is meant, or refused where nothing is, unless memory ran out
abbrev pub Gives : {X Y : Type 0} → (X → Y) → Result X ValueFault → Option Y → Type 0
Gives view (Ok x) meant = meant ≡ Some (view x)
Gives view (Err Refused) meant = meant ≡ None
Gives view (Err OutOfMemory) meant = Unit {0}
