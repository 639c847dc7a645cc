-- The words that stand at a fixed place behind a command.
use Rattle.std.specs.Prelude.{ℕ, List, Bool, is_ok}
use Rattle.dns_name.specs.NameText.{name_of}
use Rattle.dns_reasons.specs.Values.{takes_number}
use Rattle.dns_reasons.specs.declared.places.Place.{Place}
use Rattle.dns_reasons.specs.declared.places.Place.TheVariants.{Origin, Length, From, Seed, Count}
use Rattle.dns_reasons.specs.declared.why.Why.{Why}
use Rattle.dns_reasons.specs.declared.why.Why.TheVariants as why

-- a word may stand at a place: a domain name (RFC 1035 5.1), or a number in a range
abbrev pub is_place : Place → List ℕ → Bool
is_place Origin word = is_ok (name_of word)
is_place Length word = takes_number 0 18446744073709551615 word
is_place From word = takes_number 1 18446744073709551615 word
is_place Seed word = takes_number 0 18446744073709551615 word
is_place Count word = takes_number 1 100000 word

-- why a word may not stand at a place
abbrev pub refused : Place → Why
refused Origin = why.Name
refused Length = why.Range 0 18446744073709551615
refused From = why.Range 1 18446744073709551615
refused Seed = why.Range 0 18446744073709551615
refused Count = why.Range 1 100000

-- the word at a place is missing
abbrev pub missing : Place → Why
missing Origin = why.NoOrigin
missing Length = why.NoLength
missing From = why.NoFrom
missing Seed = why.NoSeed
missing Count = why.NoCount
