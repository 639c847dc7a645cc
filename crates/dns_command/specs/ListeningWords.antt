-- The words of the command `serve`: those of `events`, and where the program listens.
use Rattle.std.specs.Prelude.{ℕ, ◌+◌, ◌^◌, List, [], ◌∷◌, Option, Some, None, is_some, Bool, nat_le, count_by, ◌==◌, ◌&&◌, ◌||◌, if◌then◌else◌, codes}
use Rattle.std.specs.List.{list_all}
use Rattle.std.specs.Option.{option_map, option_and_then, unwrap_or}
use Rattle.std.specs.Str.{bytes_eq}
use Rattle.dns_io.specs.declared.peer.Peer.{Peer}
use Rattle.dns_words.specs.Values.{◌>>=◌, decimal_of, address_of}
use Rattle.dns_words.specs.Keys.{behind, first_behind}
use Rattle.dns_command.specs.CommandLine.{is_option, has_no_double, options_behind}
use Rattle.dns_command.specs.declared.listening_words.Listening.{Listening}
use Rattle.dns_command.specs.declared.listening_words.Service.{Service}

-- for how many milliseconds a connection may stay without a whole message, or 0 for any time
abbrev pub limit_of : List ℕ → Option ℕ
limit_of text = decimal_of (2 ^ 47) text

-- how many connections are served at once: 1 to 64
unfoldable pub workers_of : List ℕ → Option ℕ
workers_of text = do
  number ← decimal_of 65 text
  if number == 0 then None else Some number

-- a key, and what stands for a value of its kind
abbrev pub is_address_word : List ℕ → List ℕ → Bool
is_address_word key word = is_some (option_and_then address_of (behind key word))

abbrev pub is_limit_word : List ℕ → Bool
is_limit_word word = is_some (option_and_then limit_of (behind (codes "--limit=") word))

abbrev pub is_workers_word : List ℕ → Bool
is_workers_word word = is_some (option_and_then workers_of (behind (codes "--workers=") word))

-- one option of `serve`: one of `events`, or `--udp=` or `--tcp=` with an address and a port, `--limit=` or `--workers=`
abbrev pub is_serve_option : List ℕ → Bool
is_serve_option word =
    is_option word || is_address_word (codes "--udp=") word || is_address_word (codes "--tcp=") word
    || is_limit_word word || is_workers_word word

-- the value of the first word with a key
abbrev pub address_in : List ℕ → List (List ℕ) → Option Peer
address_in key words = option_and_then address_of (first_behind key words)

abbrev pub limit_in : List (List ℕ) → Option ℕ
limit_in words = option_and_then limit_of (first_behind (codes "--limit=") words)

abbrev pub workers_in : List (List ℕ) → Option ℕ
workers_in words = option_and_then workers_of (first_behind (codes "--workers=") words)

-- where the program listens: by UDP, by TCP or by both; 5 seconds and 16 connections where no other numbers stand
abbrev pub listening_of : List (List ℕ) → Listening
listening_of words = record {
  udp = address_in (codes "--udp=") words;
  tcp = address_in (codes "--tcp=") words;
  limit = unwrap_or (limit_in words) 5000;
  workers = unwrap_or (workers_in words) 16;
}

-- each at most once but for the networks, and at least one place to listen at
abbrev pub are_single : List (List ℕ) → Bool
are_single words =
    has_no_double words
    && nat_le (count_by (is_address_word (codes "--udp=")) words) 1 && nat_le (count_by (is_address_word (codes "--tcp=")) words) 1
    && nat_le (count_by is_limit_word words) 1 && nat_le (count_by is_workers_word words) 1
    && (is_some (address_in (codes "--udp=") words) || is_some (address_in (codes "--tcp=") words))

-- options of `serve`
abbrev pub are_serve_options : List (List ℕ) → Bool
are_serve_options words = list_all is_serve_option words && are_single words

-- what legal words of `serve` ask for: the command, an origin, and options
unfoldable pub service_of : List (List ℕ) → Option Service
service_of [] = None
service_of (command ∷ []) = None
service_of (command ∷ origin ∷ words) =
    if bytes_eq command (codes "serve") && are_serve_options words
    then option_map (λ options. record { options = options; listening = listening_of words }) (options_behind origin words)
    else None

-- so many where there is an address, else none
abbrev pub count_at : ℕ → Option Peer → ℕ
count_at count None = 0
count_at count (Some at) = count

-- how many workers serve: one for the socket, and as many for the connections as are served at once
abbrev pub sockets_of : Listening → ℕ
sockets_of listening = count_at 1 listening.udp

abbrev pub listeners_of : Listening → ℕ
listeners_of listening = count_at listening.workers listening.tcp

abbrev pub seats_of : Listening → ℕ
seats_of listening = sockets_of listening + listeners_of listening
