-- Why the records of a zone are not printed.
use Rattle.std.specs.Prelude.{◌≡◌, true, List}
use Rattle.dns_wire.specs.declared.record.Record.{Record}
use Rattle.dns_printed.specs.declared.fault.PrintFault.{PrintFault}
use Rattle.dns_printed.specs.declared.fault.PrintFault.TheVariants.{AliasBesideOther, OutOfMemory}
use Rattle.dns_printed.specs.Lone.{has_alias_beside_other}

-- an alias stands beside another record, or memory ran out
abbrev pub Tells : List Record → PrintFault → Type 0
Tells records AliasBesideOther = has_alias_beside_other records ≡ true
Tells records OutOfMemory = Unit {0}
