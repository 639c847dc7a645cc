-- Addresses as people write them, and the words in which these stand, with hex digits in their place.
use Rattle.std.specs.Prelude.{ℕ, List, [], ◌++◌, length, Option, Some, None, nat_lt, ◌==◌, if◌then◌else◌, codes}
use Rattle.std.specs.List.{position_or_len, before_first, after_first}
use Rattle.std.specs.Option.{option_map, option_or, option_and_then, unwrap_or}
use Rattle.std.specs.Net.Addr.{octets_of}
use Rattle.std.specs.Net.Reader.{read_ipv4, read_ipv6, whole_value}
use Rattle.hex.specs.Hex.{encode_lower}
use Rattle.dns_words.specs.Keys.{behind}

-- the octets of an IPv4 address: four decimal numbers with dots between them (RFC 6943 3.1.1)
unfoldable pub dotted : List ℕ → Option (List ℕ)
dotted text = whole_value (read_ipv4 text)

-- the octets of an IPv6 address: groups of hex digits with colons between them (RFC 4291 2.2)
unfoldable pub coloned : List ℕ → Option (List ℕ)
coloned text = option_map octets_of (whole_value (read_ipv6 text))

-- what stands before the first such byte, and what stands behind it, where it stands in the text
unfoldable pub cut : ℕ → List ℕ → Option (List ℕ × List ℕ)
cut byte text =
    if nat_lt (position_or_len (λ b. b == byte) text) (length text) then Some (before_first (λ b. b == byte) text, after_first (λ b. b == byte) text) else None

-- a text whose part before the first such byte is an address: its hex digits, and then what follows the byte, behind a seam
unfoldable pub hex_before : (List ℕ → Option (List ℕ)) → ℕ → List ℕ → List ℕ → Option (List ℕ)
hex_before octets byte seam text =
    option_and_then (λ parts. option_map (λ bytes. encode_lower bytes ++ (seam ++ parts.1)) (octets parts.0)) (cut byte text)

-- an address and a port: `192.0.2.1:53`, or `[2001:db8::1]:53`
unfoldable pub hex_socket : List ℕ → Option (List ℕ)
hex_socket text = option_or (hex_before dotted 58 (codes ":") text) (option_and_then (hex_before coloned 93 []) (behind (codes "[") text))

-- a network: `192.0.2.0/24`, or `2001:db8::/32`
unfoldable pub hex_network : List ℕ → Option (List ℕ)
hex_network text = option_or (hex_before dotted 47 (codes "/") text) (hex_before coloned 47 (codes "/") text)

-- the word with a key, and what stands in the place of its text
abbrev pub hex_behind : (List ℕ → Option (List ℕ)) → List ℕ → List ℕ → Option (List ℕ)
hex_behind form key word = option_map (λ text. key ++ text) (option_and_then form (behind key word))

-- a word that names where to listen or what server to ask
unfoldable pub with_socket : List ℕ → Option (List ℕ)
with_socket word =
    option_or (hex_behind hex_socket (codes "--udp=") word)
    (option_or (hex_behind hex_socket (codes "--tcp=") word) (hex_behind hex_socket (codes "--server=") word))

-- a word that names who is let in or not
unfoldable pub with_network : List ℕ → Option (List ℕ)
with_network word = option_or (hex_behind hex_network (codes "--deny=") word) (hex_behind hex_network (codes "--allow=") word)

-- a word with its address in hex digits, where an address as people write it stands in it, and else the word
unfoldable pub hex_word : List ℕ → List ℕ
hex_word word = unwrap_or (option_or (with_socket word) (with_network word)) word
