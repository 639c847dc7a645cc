-- A zone that came from a file, and why none came.
use Rattle.std.specs.Prelude.{◌≡◌, ◌≤◌, ℕ, List, Option, Some, None, Result, Ok, Err}
use Rattle.dns_io.specs.Told.{Rose}
use Rattle.dns_wire.specs.declared.record.Record.{Record}
use Rattle.dns_zone_map.specs.Zone.{Contents}
use Rattle.dns_zone.specs.declared.zone_text.ZoneTextFault.{ZoneTextFault}
use Rattle.dns_zone.specs.declared.zone_text.ZoneTextFault.TheVariants.{Refused}
use Rattle.dns_zone.specs.ZoneText.{zone_of}
use Rattle.dns_configuration.specs.Files.{File, IsTextAt}
use Rattle.dns_configuration.specs.declared.handler.ZoneType.{ZoneType}
use Rattle.dns_configuration.specs.declared.handler.AxfrPolicy.{AxfrPolicy}
use Rattle.dns_configuration.specs.declared.handler.LoadFault.{LoadFault}
use Rattle.dns_configuration.specs.declared.handler.LoadFault.TheVariants.{Read, NoFile, Text, OutOfMemory}

-- a zone, the part that the server has in it, and who may transfer it
pub record Handled : Type 0 where
  pub zone : Contents
  pub zone_type : ZoneType
  pub axfr_policy : AxfrPolicy

-- a text stands at the path, where the files are told, and this is what it means as the text of a zone with this origin
pub record Means (files : Option (List File)) (path : List ℕ) (origin : List (List ℕ)) (meant : Result (List Record) ZoneTextFault) : Type 0 where
  pub text : List ℕ
  pub stands : IsTextAt files path (Some text)
  pub read : zone_of origin text ≡ meant

-- why no zone came from the path
abbrev pub TellsLoad : Option (List File) → List ℕ → List (List ℕ) → LoadFault → Type 0
TellsLoad files path origin Read = Unit {0}
TellsLoad files path origin NoFile = IsTextAt files path None
TellsLoad files path origin (Text line kind) = Means files path origin (Err (Refused line kind))
TellsLoad files path origin OutOfMemory = Unit {0}

-- why no text came from the path
abbrev pub MissesText : Option (List File) → List ℕ → LoadFault → Type 0
MissesText files path Read = Unit {0}
MissesText files path NoFile = IsTextAt files path None
MissesText files path (Text line kind) = ⊥
MissesText files path OutOfMemory = Unit {0}

-- what a call did to the count of faults of the files, by its answer: it rose where the read failed, and stood still where it did not
abbrev pub CountsAs : ℕ → ℕ → LoadFault → Type 0
CountsAs before now Read = Rose before now
CountsAs before now NoFile = now ≡ before
CountsAs before now (Text line kind) = now ≡ before
CountsAs before now OutOfMemory = now ≡ before

abbrev pub CountsBy : {T : Type 0} → ℕ → ℕ → Result T LoadFault → Type 0
CountsBy before now (Ok value) = now ≡ before
CountsBy before now (Err fault) = CountsAs before now fault

-- a count of faults before a call and after it: it never falls, it rises where the call answers Read, and only there
pub record LoadCause {T : Type 0} (before now : ℕ) (result : Result T LoadFault) : Type 0 where
  pub later : before ≤ now
  pub counts : CountsBy before now result

-- why a text is refused, unless memory ran out
abbrev pub TellsText : Result (List Record) ZoneTextFault → LoadFault → Type 0
TellsText meant Read = ⊥
TellsText meant NoFile = ⊥
TellsText meant (Text line kind) = meant ≡ Err (Refused line kind)
TellsText meant OutOfMemory = Unit {0}
