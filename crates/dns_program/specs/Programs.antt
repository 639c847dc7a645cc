-- Which program the words of the command line are for.
use Rattle.std.specs.Prelude.{ℕ, List, [], ◌∷◌, Bool, false, drop, ◌||◌, nat_eq, if◌then◌else◌, codes}
use Rattle.std.specs.List.{ends_with}
use Rattle.std.specs.Str.{bytes_eq}
use Rattle.dns_program.specs.declared.choices.programs.Program.{Program}
use Rattle.dns_program.specs.declared.choices.programs.Program.TheVariants.{Server, Auditor, Follower}
use Rattle.dns_program.specs.declared.choices.programs.Asked.{Asked}

-- a word is the auditor's: `audit` before its own words, or one of its commands
abbrev pub is_of_auditor : List ℕ → Bool
is_of_auditor word =
    bytes_eq word (codes "audit") || bytes_eq word (codes "zone") || bytes_eq word (codes "list") || bytes_eq word (codes "compact")

-- a word is a command of the follower
abbrev pub is_of_follower : List ℕ → Bool
is_of_follower word = bytes_eq word (codes "feed") || bytes_eq word (codes "follow")

-- the program of a first word
abbrev pub program_of : List ℕ → Program
program_of word = if is_of_auditor word then Auditor else if is_of_follower word then Follower else Server

-- a first word stands before those of its program
abbrev pub stands_before : List ℕ → Bool
stands_before word = bytes_eq word (codes "audit")

-- what words ask for
unfoldable pub asked_by_words : List (List ℕ) → Asked
asked_by_words [] = record { program = Server; are_behind = false }
asked_by_words (first ∷ others) = record { program = program_of first; are_behind = stands_before first }

-- a file of this name was called, by the name alone or behind a path
abbrev pub is_called : List ℕ → List ℕ → List ℕ → Bool
is_called bare behind_slash name = bytes_eq name bare || ends_with nat_eq name behind_slash

-- what is asked for: by the name of the program's file, and under any other name by the words
abbrev pub asked_by : List ℕ → List (List ℕ) → Asked
asked_by name words =
    if is_called (codes "dns-audit") (codes "/dns-audit") name then record { program = Auditor; are_behind = false }
    else if is_called (codes "dns-follow") (codes "/dns-follow") name then record { program = Follower; are_behind = false }
    else asked_by_words words

-- the words of the program that is asked for
abbrev pub own_words : {A : Type 0} → Bool → List A → List A
own_words are_behind words = if are_behind then drop 1 words else words
