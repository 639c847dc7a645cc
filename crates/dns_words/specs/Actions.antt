-- What the words of a command line ask for, whatever the program does.
use Rattle.std.specs.Prelude.{ℕ, List, [], ◌∷◌, if◌then◌else◌, codes}
use Rattle.std.specs.Str.{bytes_eq}
use Rattle.dns_words.specs.declared.actions.Action.{Action}
use Rattle.dns_words.specs.declared.actions.Action.TheVariants.{Help, Version, Command}

-- what a word asks for that stands alone
abbrev pub action_of_word : List ℕ → Action
action_of_word word = if bytes_eq word (codes "--help") then Help else if bytes_eq word (codes "--version") then Version else Command

-- what the words ask for
unfoldable pub action_of : List (List ℕ) → Action
action_of [] = Command
action_of (word ∷ []) = action_of_word word
action_of (word ∷ other ∷ words) = Command
