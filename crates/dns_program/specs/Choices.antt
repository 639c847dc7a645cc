-- Which files the words of the command line name: the journals over which a command is done, and the zone text.
use Rattle.std.specs.Prelude.{◌≡◌, ℕ, Bool, true, false, List, [], ◌∷◌, Option, Some, None, is_some, if◌then◌else◌, codes}
use Rattle.std.specs.Str.{bytes_eq}
use Rattle.dns_command.specs.CommandLine as server
use Rattle.dns_serve.specs.Words.{is_command}
use Rattle.dns_words.specs.Keys.{path_of}
use Rattle.dns_audit.specs.Commands as auditor
use Rattle.dns_follow.specs.Commands as follower
use Rattle.dns_follow.specs.declared.commands.Command.{Command}
use Rattle.dns_follow.specs.declared.commands.Command.TheVariants.{Feed, Follow}
use Rattle.dns_program.specs.declared.choices.Chosen.{Chosen}
use Rattle.dns_program.specs.declared.choices.Chosen.TheVariants as chosen

-- the journal over which a command is done is this one, where words name this file, and that has to be there or not: one in memory only
-- where no file is named. Of none, for want of memory, nothing is said
abbrev pub IsChosen : Option (List ℕ) → Bool → Chosen → Type 0
IsChosen path is_present chosen.InMemory = path ≡ None
IsChosen path is_present (chosen.InFile at) = (path ≡ Some at.now) × (is_present ≡ false)
IsChosen path is_present (chosen.InPresentFile at) = (path ≡ Some at.now) × (is_present ≡ true)
IsChosen path is_present chosen.WithoutMemory = Unit {0}

-- the server's journal: the file that the words of a command name. For words that are no command none is opened
abbrev pub served_path : List (List ℕ) → Option (List ℕ)
served_path words = if is_command words then server.path_of (codes "--journal=") words else None

-- the file of the zone text
abbrev pub zone_path : List (List ℕ) → Option (List ℕ)
zone_path words = server.path_of (codes "--zone=") words

-- whether the words would have a server serve, legal or not: then standard input is what it serves until, and else a list of events
abbrev pub is_server : List (List ℕ) → Bool
is_server [] = false
is_server (command ∷ words) = bytes_eq command (codes "serve")

-- an auditor's journal: the file that a key names, where the words are a command
abbrev pub audited_path : List ℕ → List (List ℕ) → Option (List ℕ)
audited_path key words = if is_some (auditor.command_of words) then path_of key words else None

-- the follower's journal, where the words are a command
abbrev pub followed_path : List (List ℕ) → Option (List ℕ)
followed_path words = if is_some (follower.command_of words) then path_of (codes "--journal=") words else None

-- whether a command feeds from a journal
abbrev pub feeds : Option Command → Bool
feeds None = false
feeds (Some (Feed origin from)) = true
feeds (Some (Follow origin)) = false
