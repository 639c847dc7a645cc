-- Why words are no command: the word that is wrong, or the one behind which another is missing, and why.
use Rattle.std.specs.Prelude.{ℕ, List, [], ◌∷◌, Bool, not, ◌||◌, find, Option, Some, None, is_some, if◌then◌else◌, codes}
use Rattle.std.specs.Option.{unwrap_or, option_map}
use Rattle.std.specs.Str.{bytes_eq}
use Rattle.dns_words.specs.Keys.{behind, first_behind}
use Rattle.dns_reasons.specs.Options.{is_repeated, is_wrong, why_wrong}
use Rattle.dns_reasons.specs.Places.{is_place, missing, refused}
use Rattle.dns_reasons.specs.Tools.{command_of, expected, first_place, keys_of, last_why, second_place}
use Rattle.dns_reasons.specs.declared.keys.Key.{Key}
use Rattle.dns_reasons.specs.declared.keys.Key.TheVariants as key
use Rattle.dns_reasons.specs.declared.places.Place.{Place}
use Rattle.dns_reasons.specs.declared.tools.Tool.{Tool}
use Rattle.dns_reasons.specs.declared.tools.Command.{Command}
use Rattle.dns_reasons.specs.declared.reasons.Reason.{Reason}
use Rattle.dns_reasons.specs.declared.why.Why.{Why}
use Rattle.dns_reasons.specs.declared.why.Why.TheVariants as why

-- the word that a reason names, or none, and why
abbrev pub told : Reason → Option (List ℕ) × Why
told reason = (option_map (λ word. word.now) reason.word, reason.why)

-- a word that asks for help, or for the version
abbrev pub is_lone : List ℕ → Bool
is_lone word = bytes_eq word (codes "--help") || bytes_eq word (codes "--version")

-- a word that begins as keys do
abbrev pub is_key : List ℕ → Bool
is_key word = is_some (behind (codes "--") word)

-- why a first word is no command
abbrev pub absent : Tool → List ℕ → Why
absent tool word = if is_lone word then why.Lone else expected tool

-- why a word may not stand at a place behind a command: it stands alone; or it is a key, so that the word of the place is missing; or it
-- is no value of the place
abbrev pub place_fault : Place → List ℕ → List ℕ → Option (Option (List ℕ) × Why)
place_fault place name word =
    if is_lone word then Some (Some word, why.Lone)
    else if is_key word then Some (Some name, missing place)
    else if is_place place word then None
    else Some (Some word, refused place)

-- the first word that is none of the keys with its value; else the first that may stand once alone and stands again
abbrev pub key_reason : List Key → List (List ℕ) → Option (Option (List ℕ) × Why)
key_reason keys words =
    elim (find (is_wrong keys) words) [
      | Some word ↦ Some (Some word, why_wrong keys word)
      | None ↦ option_map (λ word. (Some word, why.Again)) (find (is_repeated keys words) words)
    ]

-- else what is wrong with the command
abbrev pub option_reason : Command → List ℕ → List (List ℕ) → Option (List ℕ) × Why
option_reason command name words = unwrap_or (key_reason (keys_of command) words) (Some name, last_why command)

-- a word at a place, and keys behind it
unfoldable pub reason_at : Command → Place → List ℕ → List (List ℕ) → Option (List ℕ) × Why
reason_at command place name [] = (Some name, missing place)
reason_at command place name (word ∷ words) = unwrap_or (place_fault place name word) (option_reason command name words)

-- what stands behind the first word behind a command
abbrev pub second_reason : Command → List ℕ → List (List ℕ) → Option (List ℕ) × Why
second_reason command name words =
    elim (second_place command) [ Some place ↦ reason_at command place name words | None ↦ option_reason command name words ]

-- what stands behind a command
unfoldable pub reason_behind : Command → List ℕ → List (List ℕ) → Option (List ℕ) × Why
reason_behind command name [] = (Some name, missing (first_place command))
reason_behind command name (word ∷ words) = unwrap_or (place_fault (first_place command) name word) (second_reason command name words)

-- why words are no command of a program
unfoldable pub reason_of : Tool → List (List ℕ) → Option (List ℕ) × Why
reason_of tool [] = (None, expected tool)
reason_of tool (name ∷ words) =
    elim (command_of tool name) [ Some command ↦ reason_behind command name words | None ↦ (Some name, absent tool name) ]

-- one of these words begins with a key
abbrev pub has : List (List ℕ) → List ℕ → Bool
has words text = is_some (first_behind text words)

-- which word of the update client is missing
abbrev pub why_missing : List (List ℕ) → Why
why_missing words =
    if not (has words (codes "--server=")) then why.NoServer else if not (has words (codes "--id=")) then why.NoId else why.Order

-- why words are not those of the update client
abbrev pub update_reason : List (List ℕ) → Option (List ℕ) × Why
update_reason words = unwrap_or (key_reason (key.Server ∷ key.Id ∷ []) words) (None, why_missing words)
