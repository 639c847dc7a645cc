-- The records of a zone as text: a line for each, with all names absolute (RFC 1035 5.1; RFC 3597 5; RFC 4291 2.2).
use Rattle.std.specs.Prelude.{ℕ, ◌+◌, ◌/◌, ◌%◌, ◌^◌, nat_le, Bool, ◌==◌, ◌&&◌, ◌||◌, not, if◌then◌else◌, List, [], ◌∷◌, ◌++◌, length, map, take, drop}
use Rattle.std.specs.List.{flat_map}
use Rattle.std.specs.Fmt.{decimal}
use Rattle.std.specs.Char.{is_ascii_digit, is_ascii_lowercase}
use Rattle.std.specs.Net.Text.{dotted_text, groups_text}
use Rattle.hex.specs.Hex.{encode_lower}
use lib.Chars.{codes}
use Rattle.dns_wire.specs.declared.rdata.Data.{Data}
use Rattle.dns_wire.specs.declared.rdata.Data.TheVariants.{A, Aaaa, Ns, Cname, Ptr, Mx, Srv, Soa, Txt, Opaque, Empty}
use Rattle.dns_wire.specs.declared.record_type.TheConstants as record_type
use Rattle.dns_wire.specs.declared.record.Record.{Record}

-- a byte as a backslash and the three digits of its number
abbrev pub escaped : ℕ → List ℕ
escaped byte = 92 ∷ (48 + byte / 100) ∷ (48 + byte / 10 % 10) ∷ (48 + byte % 10) ∷ []

-- a small letter, a digit, a hyphen, an underscore or an asterisk
abbrev pub is_plain : ℕ → Bool
is_plain byte = (is_ascii_lowercase byte || is_ascii_digit byte) || ((byte == 45) || ((byte == 95) || (byte == 42)))

-- a byte of a label: it stands for itself, or is escaped
abbrev pub label_character : ℕ → List ℕ
label_character byte = if is_plain byte then byte ∷ [] else escaped byte

-- a label, and the dot behind it
abbrev pub label_text : List ℕ → List ℕ
label_text label = flat_map label_character label ++ 46 ∷ []

-- an absolute name: a dot stands behind each label, and the root is a dot alone
abbrev pub name_text : List (List ℕ) → List ℕ
name_text [] = 46 ∷ []
name_text (label ∷ labels) = flat_map label_text (label ∷ labels)

-- printable ASCII, from the space on, but for a quote and a backslash
abbrev pub is_shown : ℕ → Bool
is_shown byte = (nat_le 32 byte && nat_le byte 126) && (not (byte == 34) && not (byte == 92))

-- a byte of a string: it stands for itself, or is escaped
abbrev pub string_character : ℕ → List ℕ
string_character byte = if is_shown byte then byte ∷ [] else escaped byte

-- a string in quotes
abbrev pub string_text : List ℕ → List ℕ
string_text bytes = 34 ∷ flat_map string_character bytes ++ 34 ∷ []

-- the four bytes of an IPv4 address in decimal, with dots between them
abbrev pub address_text : ℕ → List ℕ
address_text address = dotted_text (address / 2 ^ 24) (address / 2 ^ 16 % 256) (address / 2 ^ 8 % 256) (address % 256)

-- the eight groups of 16 bits that an IPv6 address has
abbrev pub groups_of : ℕ → List ℕ
groups_of address =
    (address / 2 ^ 112) ∷ (address / 2 ^ 96 % 2 ^ 16) ∷ (address / 2 ^ 80 % 2 ^ 16) ∷ (address / 2 ^ 64 % 2 ^ 16)
    ∷ (address / 2 ^ 48 % 2 ^ 16) ∷ (address / 2 ^ 32 % 2 ^ 16) ∷ (address / 2 ^ 16 % 2 ^ 16) ∷ (address % 2 ^ 16) ∷ []

-- an IPv6 address in eight groups of small hex digits with colons between them; no group has zeros at its front
abbrev pub wide_address_text : ℕ → List ℕ
wide_address_text address = groups_text (groups_of address)

-- the words of a record's data, by its variant; that of a type without a form of its own is a backslash and a number sign,
-- the number of bytes, and their hex digits
abbrev pub data_words : Data → List (List ℕ)
data_words (A address) = address_text address ∷ []
data_words (Aaaa address) = wide_address_text address ∷ []
data_words (Ns host) = name_text host ∷ []
data_words (Cname target) = name_text target ∷ []
data_words (Ptr target) = name_text target ∷ []
data_words (Mx preference exchange) = decimal preference ∷ name_text exchange ∷ []
data_words (Srv priority weight port target) = decimal priority ∷ decimal weight ∷ decimal port ∷ name_text target ∷ []
data_words (Soa serial mname rname refresh retry expire minimum) =
    name_text mname ∷ name_text rname ∷ decimal serial ∷ decimal refresh ∷ decimal retry ∷ decimal expire ∷ decimal minimum ∷ []
data_words (Txt texts) = map string_text texts
data_words (Opaque bytes) = (92 ∷ 35 ∷ []) ∷ decimal (length bytes) ∷ encode_lower bytes ∷ []
data_words Empty = []

-- a type by its name, or by its number where it has no form of its own
abbrev pub type_text : ℕ → List ℕ
type_text number =
    if number == record_type.A then codes "A"
    else if number == record_type.NS then codes "NS"
    else if number == record_type.CNAME then codes "CNAME"
    else if number == record_type.SOA then codes "SOA"
    else if number == record_type.PTR then codes "PTR"
    else if number == record_type.MX then codes "MX"
    else if number == record_type.TXT then codes "TXT"
    else if number == record_type.AAAA then codes "AAAA"
    else if number == record_type.SRV then codes "SRV"
    else codes "TYPE" ++ decimal number

-- words with a space before each
abbrev pub spaced : List (List ℕ) → List ℕ
spaced words = flat_map (λ word. 32 ∷ word) words

-- what stands in the line of a record: owner, TTL, class IN, type and data
abbrev pub record_line : Record → List ℕ
record_line r = name_text r.name ++ spaced (decimal r.ttl ∷ codes "IN" ∷ type_text r.rtype ∷ data_words r.rdata)

-- the line of a record, with the line feed at its end
abbrev pub printed_line : Record → List ℕ
printed_line r = record_line r ++ 10 ∷ []

-- the text of a zone with these records: the line of each
abbrev pub zone_text : List Record → List ℕ
zone_text records = flat_map printed_line records

-- the line of the record at a place, from 0
abbrev pub line_at : List Record → ℕ → List ℕ
line_at records place = zone_text (take 1 (drop place records))
