-- The words of the command line.
use Rattle.std.specs.Prelude.{ℕ, ◌≤◌, ◌^◌, nat_le, List, [], ◌∷◌, Option, Some, None, if◌then◌else◌, codes}
use Rattle.std.specs.Option.{option_map, option_and_then}
use Rattle.std.specs.Result.{result_ok}
use Rattle.std.specs.Str.{bytes_eq}
use Rattle.dns_name.specs.Name.{fold_of}
use Rattle.dns_name.specs.NameText.{name_of}
use Rattle.dns_words.specs.Values.{decimal_of}
use Rattle.dns_words.specs.Keys.{names_journal}
use Rattle.dns_follow.specs.declared.commands.Command.{Command}
use Rattle.dns_follow.specs.declared.commands.Command.TheVariants.{Feed, Follow}

-- the folded name of a text, where it is a name's (RFC 1035 5.1, 2.3.3)
abbrev pub origin_of : List ℕ → Option (List (List ℕ))
origin_of text = option_map fold_of (result_ok (name_of text))

-- the id of a row, from 1 on
abbrev pub not_zero : ℕ → Option ℕ
not_zero number = if nat_le 1 number then Some number else None

-- so it is in decimal, below 2 ^ 64
abbrev pub id_of : List ℕ → Option ℕ
id_of word = option_and_then not_zero (decimal_of (2 ^ 64) word)

-- what an origin and the words behind it ask `feed` for: an id, and then a journal
abbrev pub feed_by : List ℕ → List (List ℕ) → Option Command
feed_by origin [] = None
feed_by origin (from ∷ words) =
    if names_journal words then option_and_then (λ name. option_map (λ id. Feed name id) (id_of from)) (origin_of origin) else None

-- what they ask `follow` for
abbrev pub follow_by : List ℕ → List (List ℕ) → Option Command
follow_by origin words = if names_journal words then option_map (λ name. Follow name) (origin_of origin) else None

-- what a word, an origin and the words behind both ask for
abbrev pub command_by : List ℕ → List ℕ → List (List ℕ) → Option Command
command_by word origin words =
    if bytes_eq word (codes "feed") then feed_by origin words
    else if bytes_eq word (codes "follow") then follow_by origin words
    else None

-- what legal words ask for
unfoldable pub command_of : List (List ℕ) → Option Command
command_of [] = None
command_of (word ∷ []) = None
command_of (word ∷ origin ∷ words) = command_by word origin words

-- what is fed begins at a row, whose id is 1 at least
abbrev pub HasFrom : Command → Type 0
HasFrom (Feed origin from) = 1 ≤ from
HasFrom (Follow origin) = Unit {0}
