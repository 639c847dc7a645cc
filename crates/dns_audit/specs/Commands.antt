-- The words of the command line.
use Rattle.std.specs.Prelude.{ℕ, ◌^◌, ◌&&◌, ◌||◌, List, [], ◌∷◌, Option, None, Bool, true, false, if◌then◌else◌, codes}
use Rattle.std.specs.Option.{option_map, option_and_then}
use Rattle.std.specs.Result.{result_ok}
use Rattle.std.specs.Str.{bytes_eq}
use Rattle.dns_name.specs.Name.{fold_of}
use Rattle.dns_name.specs.NameText.{name_of}
use Rattle.dns_words.specs.Values.{decimal_of}
use Rattle.dns_words.specs.Keys.{is_path_word, is_journal_word, names_journal}
use Rattle.dns_audit.specs.declared.commands.Command.{Command}
use Rattle.dns_audit.specs.declared.commands.Command.TheVariants.{PrintZone, ListBatches, Compact}

-- the journal that is written: `--into=` and a path
abbrev pub is_into_word : List ℕ → Bool
is_into_word word = is_path_word (codes "--into=") word

-- at most the journal that is read, and then at most the one that is written
abbrev pub names_both : List (List ℕ) → Bool
names_both [] = true
names_both (word ∷ []) = is_journal_word word || is_into_word word
names_both (word ∷ other ∷ []) = is_journal_word word && is_into_word other
names_both (word ∷ other ∷ another ∷ words) = false

-- the folded name of a text, where it is a name's (RFC 1035 5.1, 2.3.3)
abbrev pub origin_of : List ℕ → Option (List (List ℕ))
origin_of text = option_map fold_of (result_ok (name_of text))

-- a number of rows, below 2 ^ 64 and in decimal
abbrev pub length_of : List ℕ → Option ℕ
length_of word = decimal_of (2 ^ 64) word

-- what an origin and the words behind it ask `zone` for: a number of rows, and then a journal
abbrev pub zone_by : List ℕ → List (List ℕ) → Option Command
zone_by origin [] = None
zone_by origin (count ∷ words) =
    if names_journal words
    then option_and_then (λ name. option_map (λ number. PrintZone name number) (length_of count)) (origin_of origin)
    else None

-- what they ask `list` for
abbrev pub list_by : List ℕ → List (List ℕ) → Option Command
list_by origin words = if names_journal words then option_map (λ name. ListBatches name) (origin_of origin) else None

-- what they ask `compact` for
abbrev pub compact_by : List ℕ → List (List ℕ) → Option Command
compact_by origin words = if names_both words then option_map (λ name. Compact name) (origin_of origin) else None

-- what a word, an origin and the words behind both ask for
abbrev pub command_by : List ℕ → List ℕ → List (List ℕ) → Option Command
command_by word origin words =
    if bytes_eq word (codes "zone") then zone_by origin words
    else if bytes_eq word (codes "list") then list_by origin words
    else if bytes_eq word (codes "compact") then compact_by origin words
    else None

-- what legal words ask for
unfoldable pub command_of : List (List ℕ) → Option Command
command_of [] = None
command_of (word ∷ []) = None
command_of (word ∷ origin ∷ words) = command_by word origin words
