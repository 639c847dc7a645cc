-- The words of the command line.
use Rattle.std.specs.Prelude.{ℕ, ◌^◌, ◌==◌, List, [], ◌∷◌, Option, Some, None, is_some, Bool, true, nat_le, nat_lt, drop, count_by, ◌&&◌, ◌||◌, if◌then◌else◌, Result, Ok, Err, codes}
use Rattle.std.specs.List.{list_all, list_any, filter_map}
use Rattle.std.specs.Option.{option_map, option_and_then, unwrap_or}
use Rattle.std.specs.Str.{bytes_eq}
use Rattle.dns_name.specs.declared.fault.ProtoError.{ProtoError}
use Rattle.dns_name.specs.Name.{fold_of}
use Rattle.dns_name.specs.NameText.{name_of}
use Rattle.dns_book.specs.declared.access.IpNet.{IpNet}
use Rattle.dns_book.specs.Access.{Access}
use Rattle.dns_command.specs.NetworkText.{network_of}
use Rattle.dns_command.specs.declared.command_line.Options.{Options}
use Rattle.dns_command.specs.declared.command_line.Drawn.{Drawn}
use Rattle.dns_words.specs.Values.{◌>>=◌, decimal_of}
use Rattle.dns_words.specs.Keys.{behind, first_behind, is_path_word}
use Rattle.dns_generator.specs.Requests.{origin_name}

-- the path that a key names: what follows it in the first word behind the command and the origin that begins with it
abbrev pub path_of : List ℕ → List (List ℕ) → Option (List ℕ)
path_of key words = first_behind key (drop 2 words)

-- `--update`
abbrev pub is_update_word : List ℕ → Bool
is_update_word word = bytes_eq word (codes "--update")

-- the network of a word that begins with this key
abbrev pub net_behind : List ℕ → List ℕ → Option IpNet
net_behind key word = option_and_then network_of (behind key word)

-- the networks of the words that begin with this key, in order
abbrev pub nets_behind : List ℕ → List (List ℕ) → List IpNet
nets_behind key words = filter_map (net_behind key) words

-- how many bytes a datagram has at most: 512 to 65,507
unfoldable pub payload_of : List ℕ → Option ℕ
payload_of text = do
  most ← decimal_of 65508 text
  if nat_lt most 512 then None else Some most

-- `--payload=` and such a number
abbrev pub is_payload_word : List ℕ → Bool
is_payload_word word = is_some (option_and_then payload_of (behind (codes "--payload=") word))

-- that of the first word that begins so
abbrev pub payload_in : List (List ℕ) → Option ℕ
payload_in words = option_and_then payload_of (first_behind (codes "--payload=") words)

-- one option: `--update`, `--zone=` or `--journal=` and a path, `--deny=` or `--allow=` and a network, or `--payload=` and a number
abbrev pub is_option : List ℕ → Bool
is_option word =
    is_update_word word || is_path_word (codes "--zone=") word || is_path_word (codes "--journal=") word
    || is_some (net_behind (codes "--deny=") word) || is_some (net_behind (codes "--allow=") word) || is_payload_word word

-- `--update`, the zone text's path, the journal's path and the greatest datagram stand at most once each
abbrev pub has_no_double : List (List ℕ) → Bool
has_no_double words =
    nat_le (count_by is_update_word words) 1
    && nat_le (count_by (is_path_word (codes "--zone=")) words) 1 && nat_le (count_by (is_path_word (codes "--journal=")) words) 1
    && nat_le (count_by is_payload_word words) 1

-- options: none twice but for the networks
abbrev pub are_options : List (List ℕ) → Bool
are_options words = list_all is_option words && has_no_double words

-- the options with the folded name of this text as the origin, where it is a name (RFC 1035 5.1, 2.3.3)
abbrev pub options_for : Result (List (List ℕ)) ProtoError → Bool → List IpNet → List IpNet → ℕ → Option Options
options_for (Err e) allow_update denied allowed payload = None
options_for (Ok name) allow_update denied allowed payload =
    Some (record { origin = fold_of name; allow_update = allow_update; denied = denied; allowed = allowed; payload = payload; drawn = None })

-- what an origin and the options behind it ask for. Updates are let in where `--update` stands. A datagram has at most the 65,507 bytes
-- that IPv4 carries, where `--payload=` gives no other number.
abbrev pub options_behind : List ℕ → List (List ℕ) → Option Options
options_behind origin words =
    options_for (name_of origin) (list_any is_update_word words)
    (nets_behind (codes "--deny=") words) (nets_behind (codes "--allow=") words) (unwrap_or (payload_in words) 65507)

-- a count of messages, from 1 to 100,000
abbrev pub count_of : List ℕ → Option ℕ
count_of word = option_and_then (λ count. if count == 0 then None else Some count) (decimal_of 100001 word)

-- a seed below 2 ^ 64 and a count of messages, both in decimal
abbrev pub drawn_by : List ℕ → List ℕ → Option Drawn
drawn_by seed count = option_and_then (λ s. option_map (λ c. record { seed = s; count = c }) (count_of count)) (decimal_of (2 ^ 64) seed)

-- a list of events is drawn, for the zone example.com, and updates are let in, from everybody
abbrev pub options_drawn : Drawn → Options
options_drawn drawn =
    record { origin = origin_name; allow_update = true; denied = []; allowed = []; payload = 65507; drawn = Some drawn }

-- what legal words of `load` ask for behind the command: a seed, and a count of messages
abbrev pub load_options : List ℕ → List (List ℕ) → Option Options
load_options seed (count ∷ []) = option_map options_drawn (drawn_by seed count)
load_options seed words = None

-- what a command, the word behind it, and the words behind both ask for
abbrev pub options_by : List ℕ → List ℕ → List (List ℕ) → Option Options
options_by command word words =
    if bytes_eq command (codes "load") then load_options word words
    else if bytes_eq command (codes "events") && are_options words then options_behind word words
    else None

-- what legal words ask for: `events`, an origin, and options; or `load`, a seed and a count
unfoldable pub options_of : List (List ℕ) → Option Options
options_of [] = None
options_of (command ∷ []) = None
options_of (command ∷ word ∷ words) = options_by command word words

-- who is let in, and how large a datagram may go out: the networks of the options, and their number
abbrev pub access_of : Options → Access
access_of options = record { allowed = options.allowed; denied = options.denied; payload = options.payload }
