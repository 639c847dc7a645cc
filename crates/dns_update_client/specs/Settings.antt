-- The words of the command line: which server is sent to, and which ids the messages have.
use Rattle.std.specs.Prelude.{ℕ, List, [], ◌∷◌, Option, Some, None, codes}
use Rattle.std.specs.Option.{option_and_then}
use Rattle.dns_io.specs.declared.peer.Peer.{Peer}
use Rattle.dns_words.specs.Values.{◌>>=◌, decimal_of, address_of}
use Rattle.dns_words.specs.Keys.{behind}
use Rattle.dns_update_client.specs.declared.settings.Settings.{Settings}

-- the id of a message: a decimal number of 16 bits
abbrev pub id_of : List ℕ → Option ℕ
id_of text = decimal_of 65536 text

-- the address and port behind `--server=`
abbrev pub server_in : List ℕ → Option Peer
server_in word = option_and_then address_of (behind (codes "--server=") word)

-- the id behind `--id=`
abbrev pub id_in : List ℕ → Option ℕ
id_in word = option_and_then id_of (behind (codes "--id=") word)

-- what a word with the server and one with the id behind it ask for
unfoldable pub settings_by : List ℕ → List ℕ → Option Settings
settings_by server id = do
  at ← server_in server
  number ← id_in id
  Some (record { server = at; first_id = number })

-- what legal words ask for: two words, the one with the server and then the one with the id
unfoldable pub settings_of : List (List ℕ) → Option Settings
settings_of (server ∷ id ∷ []) = settings_by server id
settings_of words = None
