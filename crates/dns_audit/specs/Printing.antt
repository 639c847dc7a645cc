-- Zones that have a text.
use Rattle.std.specs.Prelude.{◌≡◌, true, false, Ok}
use Rattle.dns_zone_map.specs.Zone.{Contents}
use Rattle.dns_zone.specs.ZoneText.{zone_of}
use Rattle.dns_printed.specs.Lone.{has_alias_beside_other}
use Rattle.dns_printed.specs.Printed.{zone_text}
use Rattle.dns_audit.specs.declared.fault.AuditFault.{AuditFault}
use Rattle.dns_audit.specs.declared.fault.AuditFault.TheVariants as fault

-- no name owns an alias and a record of another type, and the zone's text is read as the zone
pub record IsPrintable (zone : Contents) : Type 0 where
  pub alone : has_alias_beside_other zone.records ≡ false
  pub back : zone_of zone.origin (zone_text zone.records) ≡ Ok zone.records

-- why a zone has no text: a name owns an alias and a record of another type, or memory ran out
abbrev pub TellsPrint : Contents → AuditFault → Type 0
TellsPrint zone fault.KeeperFault = ⊥
TellsPrint zone (fault.Short some) = ⊥
TellsPrint zone (fault.Recovery row kind) = ⊥
TellsPrint zone fault.AliasBesideOther = has_alias_beside_other zone.records ≡ true
TellsPrint zone fault.NotEmpty = ⊥
TellsPrint zone fault.OutOfMemory = Unit {0}
