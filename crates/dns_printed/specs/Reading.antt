-- What the line of a record says.
use Rattle.std.specs.Prelude.{◌≡◌, ℕ, Some, Ok}
use Rattle.dns_wire.specs.declared.record.Record.{Record}
use Rattle.dns_presentation.specs.declared.entry.Context.{Context}
use Rattle.dns_presentation.specs.declared.entry.Entry.TheVariants as entry
use Rattle.dns_presentation.specs.LogicalLines.{begun_line}
use Rattle.dns_presentation.specs.Entries.{entry_of}
use Rattle.dns_printed.specs.Printed.{record_line}

-- the line of a record, where it has this number, says the record and states its TTL
abbrev pub Says : Context → ℕ → Record → Type 0
Says context number r = entry_of context (begun_line number (record_line r)) ≡ Ok (entry.Record r (Some r.ttl))
