-- The words of the command `serve` as the program has it: those of the library's, and how many connections may be open at once.
use Rattle.std.specs.Prelude.{ℕ, List, [], ◌∷◌, Option, Some, None, is_some, Bool, nat_le, count_by, ◌==◌, ◌&&◌, ◌||◌, if◌then◌else◌, codes}
use Rattle.std.specs.List.{list_all}
use Rattle.std.specs.Option.{option_map, option_and_then, unwrap_or}
use Rattle.std.specs.Str.{bytes_eq}
use Rattle.dns_words.specs.Values.{◌>>=◌, decimal_of}
use Rattle.dns_words.specs.Keys.{behind, first_behind}
use Rattle.dns_command.specs.CommandLine.{options_behind, options_of}
use Rattle.dns_command.specs.ListeningWords.{address_in, are_single, is_serve_option, limit_in, workers_in}
use Rattle.dns_crowd_server.specs.declared.hub.Places.{Places}
use Rattle.dns_serve.specs.declared.words.Service.{Service}

-- how many connections may be open at once: 1 to 65,536
unfoldable pub connections_of : List ℕ → Option ℕ
connections_of text = do
  number ← decimal_of 65537 text
  if number == 0 then None else Some number

abbrev pub is_connections_word : List ℕ → Bool
is_connections_word word = is_some (option_and_then connections_of (behind (codes "--connections=") word))

abbrev pub connections_in : List (List ℕ) → Option ℕ
connections_in words = option_and_then connections_of (first_behind (codes "--connections=") words)

-- one option: one of the library's, or `--connections=`
abbrev pub is_own_option : List ℕ → Bool
is_own_option word = is_serve_option word || is_connections_word word

-- options: each at most once but for the networks, and at least one place to listen at
abbrev pub are_own_options : List (List ℕ) → Bool
are_own_options words = list_all is_own_option words && are_single words && nat_le (count_by is_connections_word words) 1

-- where the program listens: 5 seconds, one worker and 4,096 connections where no other numbers stand
abbrev pub places_of : List (List ℕ) → Places
places_of words = record {
  udp = address_in (codes "--udp=") words;
  tcp = address_in (codes "--tcp=") words;
  limit = unwrap_or (limit_in words) 5000;
  workers = unwrap_or (workers_in words) 1;
  connections = unwrap_or (connections_in words) 4096;
}

-- what legal words ask for: the command, an origin, and options
unfoldable pub serving_of : List (List ℕ) → Option Service
serving_of [] = None
serving_of (command ∷ []) = None
serving_of (command ∷ origin ∷ words) =
    if bytes_eq command (codes "serve") && are_own_options words
    then option_map (λ options. record { options = options; places = places_of words }) (options_behind origin words)
    else None

-- the words are a command: those of `serve`, or those of `events` or `load`
abbrev pub is_command : List (List ℕ) → Bool
is_command words = is_some (serving_of words) || is_some (options_of words)
