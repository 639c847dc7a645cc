-- The line that a follower writes.
use Rattle.std.specs.Prelude.{ℕ, ◌++◌, List, Option, Some, None, codes}
use Rattle.std.specs.Option.{option_map}
use Rattle.std.specs.Fmt.{decimal}
use Rattle.dns_zone_map.specs.Zone.{Contents, serial_of}

-- a serial, or a dash where there is no zone
abbrev pub serial_text : Option ℕ → List ℕ
serial_text (Some serial) = decimal serial
serial_text None = codes "-"

-- the serial of a zone, if there is one
abbrev pub zone_serial : Option Contents → Option ℕ
zone_serial zone = option_map (λ z. serial_of z.records) zone

-- how many rows there are, and the serial of their zone
abbrev pub length_line : ℕ → Option ℕ → List ℕ
length_line count serial = codes "length " ++ (decimal count ++ (codes " serial " ++ (serial_text serial ++ codes "\n")))
