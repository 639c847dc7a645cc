-- Records that read as themselves where they were written.
use Rattle.std.specs.Prelude.{◌≡◌, false, List}
use Rattle.std.specs.List.{AllByRecursion}
use Rattle.dns_wire.specs.declared.record.Record.{Record}
use Rattle.dns_wire.specs.Messages.{is_opt}
use Rattle.dns_wire.specs.ReadBack.{IsOfItsType}
use Rattle.dns_update_script.specs.declared.line.Line.{Line}
use Rattle.dns_update_script.specs.declared.line.Line.TheVariants.{Prerequisite, Change}
use Rattle.dns_update_script.specs.declared.script.Sending.{Sending}

-- the data of a record is of its type, and it is no OPT
pub record IsPlainRecord (r : Record) : Type 0 where
  pub form : IsOfItsType r
  pub no_opt : is_opt r ≡ false

-- the records of a line, and of a sending, are such records
abbrev pub IsPlainLine : Line → Type 0
IsPlainLine (Prerequisite r) = IsPlainRecord r
IsPlainLine (Change r) = IsPlainRecord r
IsPlainLine other = Unit {0}

pub record IsPlainSending (sending : Sending) : Type 0 where
  pub prerequisites : AllByRecursion IsPlainRecord sending.prerequisites
  pub changes : AllByRecursion IsPlainRecord sending.changes

abbrev pub ArePlain : List Sending → Type 0
ArePlain = AllByRecursion IsPlainSending
