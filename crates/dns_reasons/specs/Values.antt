-- Whether a text is a value of a form, as the programs' readers have it, and what it lacks.
use Rattle.std.specs.Prelude.{ℕ, ◌+◌, ◌==◌, List, [], ◌∷◌, Bool, false, not, nat_le, length, take, drop, position, Option, Some, None, is_some, if◌then◌else◌}
use Rattle.std.specs.Option.{option_map_or}
use Rattle.dns_io.specs.declared.peer.Ip.{Ip}
use Rattle.dns_io.specs.declared.peer.Ip.TheVariants.{V4, V6}
use Rattle.dns_words.specs.Values.{address_of, decimal_of, ip_of}
use Rattle.dns_reasons.specs.declared.keys.Form.{Form}
use Rattle.dns_reasons.specs.declared.keys.Form.TheVariants as form
use Rattle.dns_reasons.specs.declared.why.Why.{Why}
use Rattle.dns_reasons.specs.declared.why.Why.TheVariants as why

-- a decimal number in a range
abbrev pub takes_number : ℕ → ℕ → List ℕ → Bool
takes_number least most text = option_map_or (λ number. nat_le least number) (decimal_of (most + 1) text) false

-- how many bits an address has
abbrev pub width : Ip → ℕ
width (V4 bits) = 32
width (V6 bits) = 128

-- a number of bits that an address has
abbrev pub takes_prefix : Ip → List ℕ → Bool
takes_prefix ip text = takes_number 0 (width ip) text

-- an address, a stroke, and a number of its bits
unfoldable pub takes_network : List ℕ → Bool
takes_network text =
    option_map_or (λ place. option_map_or (λ ip. takes_prefix ip (drop (place + 1) text)) (ip_of (take place text)) false)
    (position (λ b. b == 47) text) false

-- a text is a value of a form
abbrev pub takes : Form → List ℕ → Bool
takes form.Nothing text = length text == 0
takes form.Path text = not (length text == 0)
takes form.Socket text = is_some (address_of text)
takes form.Network text = takes_network text
takes (form.Number least most) text = takes_number least most text

-- where nothing may stand, a sign and a value are too much, and any other text makes another word
unfoldable pub nothing_cause : List ℕ → Why
nothing_cause [] = why.Unknown
nothing_cause (b ∷ bs) = if b == 61 then why.Alone else why.Unknown

-- an address and a port lack a colon, or an address before it, or else a port
unfoldable pub socket_cause : List ℕ → Why
socket_cause text =
    option_map_or (λ place. if is_some (ip_of (take place text)) then why.Port else why.Host) (position (λ b. b == 58) text) why.Socket

-- a network lacks a stroke, or an address before it, or else a number of bits
unfoldable pub network_cause : List ℕ → Why
network_cause text =
    option_map_or (λ place. option_map_or (λ ip. why.Bits (width ip)) (ip_of (take place text)) why.Ip) (position (λ b. b == 47) text) why.Network

-- what a text lacks
abbrev pub cause : Form → List ℕ → Why
cause form.Nothing text = nothing_cause text
cause form.Path text = why.Path
cause form.Socket text = socket_cause text
cause form.Network text = network_cause text
cause (form.Number least most) text = why.Range least most

-- what a text lacks that is no value of a form
abbrev pub value_fault : Form → List ℕ → Option Why
value_fault form text = if takes form text then None else Some (cause form text)
