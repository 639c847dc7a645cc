-- The faults of reading and writing journals, as faults of an audit.
use Rattle.dns_keeper.specs.declared.keeper.KeepFault.{KeepFault}
use Rattle.dns_keeper.specs.declared.keeper.KeepFault.TheVariants as keep
use Rattle.dns_store.specs.declared.opening.OpenKind.{OpenKind}
use Rattle.dns_store.specs.declared.opening.OpenKind.TheVariants as kind
use Rattle.dns_printed.specs.declared.fault.PrintFault.{PrintFault}
use Rattle.dns_printed.specs.declared.fault.PrintFault.TheVariants as print
use Rattle.dns_audit.specs.declared.fault.AuditFault.{AuditFault}
use Rattle.dns_audit.specs.declared.fault.AuditFault.TheVariants as fault

-- why a journal was not read back. No reading asks for a zone
abbrev pub of_kind : OpenKind → AuditFault
of_kind (kind.Recovery row why) = fault.Recovery row why
of_kind kind.KeeperFault = fault.KeeperFault
of_kind kind.NoZone = fault.OutOfMemory
of_kind kind.OutOfMemory = fault.OutOfMemory

-- and why a call of a keeper was refused
abbrev pub of_keeper : KeepFault → AuditFault
of_keeper keep.Failed = fault.KeeperFault
of_keeper keep.OutOfMemory = fault.OutOfMemory

-- and why a zone has no text
abbrev pub of_print : PrintFault → AuditFault
of_print print.AliasBesideOther = fault.AliasBesideOther
of_print print.OutOfMemory = fault.OutOfMemory
