-- The commands of the programs: which words stand behind each.
use Rattle.std.specs.Prelude.{ℕ, List, [], ◌∷◌, Option, Some, None, if◌then◌else◌, codes}
use Rattle.std.specs.Str.{bytes_eq}
use Rattle.dns_reasons.specs.declared.keys.Key.{Key}
use Rattle.dns_reasons.specs.declared.keys.Key.TheVariants as key
use Rattle.dns_reasons.specs.declared.places.Place.{Place}
use Rattle.dns_reasons.specs.declared.places.Place.TheVariants as place
use Rattle.dns_reasons.specs.declared.tools.Tool.{Tool}
use Rattle.dns_reasons.specs.declared.tools.Tool.TheVariants as tool
use Rattle.dns_reasons.specs.declared.tools.Command.{Command}
use Rattle.dns_reasons.specs.declared.tools.Command.TheVariants as command
use Rattle.dns_reasons.specs.declared.why.Why.{Why}
use Rattle.dns_reasons.specs.declared.why.Why.TheVariants as why

-- the command of a program that a word is
abbrev pub command_of : Tool → List ℕ → Option Command
command_of tool.Server word =
    if bytes_eq word (codes "serve") then Some command.Serve
    else if bytes_eq word (codes "events") then Some command.Events
    else if bytes_eq word (codes "load") then Some command.Load
    else None
command_of tool.Auditor word =
    if bytes_eq word (codes "zone") then Some command.Zone
    else if bytes_eq word (codes "list") then Some command.List
    else if bytes_eq word (codes "compact") then Some command.Compact
    else None
command_of tool.Follower word =
    if bytes_eq word (codes "feed") then Some command.Feed
    else if bytes_eq word (codes "follow") then Some command.Follow
    else None

-- a command of this program was expected
abbrev pub expected : Tool → Why
expected tool.Server = why.Server
expected tool.Auditor = why.Auditor
expected tool.Follower = why.Follower

-- what stands behind a command
abbrev pub first_place : Command → Place
first_place command.Load = place.Seed
first_place _ = place.Origin

-- what stands behind that, before the keys
abbrev pub second_place : Command → Option Place
second_place command.Load = Some place.Count
second_place command.Zone = Some place.Length
second_place command.Feed = Some place.From
second_place _ = None

-- the keys of a command
abbrev pub keys_of : Command → List Key
keys_of command.Serve =
    key.Udp ∷ key.Tcp ∷ key.Connections ∷ key.Limit ∷ key.Workers ∷ key.Zone ∷ key.Journal ∷ key.Update ∷ key.Deny ∷ key.Allow ∷ key.Payload ∷ []
keys_of command.Events = key.Zone ∷ key.Journal ∷ key.Update ∷ key.Deny ∷ key.Allow ∷ key.Payload ∷ []
keys_of command.Load = []
keys_of command.Compact = key.Journal ∷ key.Into ∷ []
keys_of _ = key.Journal ∷ []

-- what is wrong with a command whose words are each right: no place to listen at, or their order
abbrev pub last_why : Command → Why
last_why command.Serve = why.NoPort
last_why _ = why.Order
