-- What the text of a configuration says, read as TOML.
use Rattle.std.specs.Prelude.{◌≡◌, ℕ, List, Bool, false, not, ◌||◌, if◌then◌else◌, codes, Option, Some, None, Result, Ok, Err}
use Rattle.std.specs.Str.{bytes_eq}
use Rattle.toml.specs.Data.{Data, as_str, Members, no_members, member, get_member}
use Rattle.toml.specs.Parse.{parse_document}
use Rattle.dns_configuration.specs.declared.config.ConfigFault.{ConfigFault}
use Rattle.dns_configuration.specs.declared.config.ConfigFault.TheVariants.{NotToml, UnknownKey, Missing, NotText, OutOfMemory}

-- the one key of a configuration: the path of the zone's text stands behind it
abbrev pub zone_path_key : List ℕ
zone_path_key = codes "zone_path"

-- whether a key other than this one stands
abbrev pub has_other_key : List ℕ → Members → Bool
has_other_key key no_members = false
has_other_key key (member k d rest) = not (bytes_eq k key) || has_other_key key rest

-- the text that a value is
abbrev pub text_of : Data → Result (List ℕ) ConfigFault
text_of d = elim (as_str d) [ Some text ↦ Ok text | None ↦ Err NotText ]

-- the text of the value that there is
abbrev pub text_in : Option Data → Result (List ℕ) ConfigFault
text_in None = Err Missing
text_in (Some d) = text_of d

-- the path that a table names, or what is wrong with the table
abbrev pub path_in : Option Members → Result (List ℕ) ConfigFault
path_in None = Err NotToml
path_in (Some members) = if has_other_key zone_path_key members then Err UnknownKey else text_in (get_member zone_path_key members)

-- the path that the text of a configuration names, or what is wrong with the text
unfoldable pub zone_path_of : List ℕ → Result (List ℕ) ConfigFault
zone_path_of text = path_in (parse_document text)

-- what is wrong with a text, unless memory ran out
abbrev pub Tells : Result (List ℕ) ConfigFault → ConfigFault → Type 0
Tells meant OutOfMemory = Unit {0}
Tells meant fault = meant ≡ Err fault
