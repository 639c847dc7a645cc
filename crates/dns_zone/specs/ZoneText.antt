-- The records of a zone's text, or the first fault in it (RFC 1035 5).
use Rattle.std.specs.Prelude.{◌≡◌, ℕ, not, ◌&&◌, ◌||◌, if◌then◌else◌, List, [], ◌∷◌, Result, Ok, Err, codes}
use Rattle.std.specs.List.{list_any}
use Rattle.dns_wire.specs.declared.record.Record.{Record}
use Rattle.dns_name.specs.Name.{is_same_name, is_at_or_below}
use Rattle.dns_zone.specs.declared.zone_text.ZoneTextKind.{ZoneTextKind}
use Rattle.dns_zone.specs.declared.zone_text.ZoneTextKind.TheVariants.{Paren, Quote, Directive, Name, Ttl, RecordType, Data, OutOfZone, NotOneSoa, AliasBesideOther}
use Rattle.dns_zone.specs.declared.zone_text.ZoneTextFault.{ZoneTextFault}
use Rattle.dns_zone.specs.declared.zone_text.ZoneTextFault.TheVariants.{Refused, OutOfMemory}
use Rattle.dns_zone.specs.declared.zone_text.LineFault.{LineFault}
use Rattle.dns_zone.specs.declared.zone_text.LineFault.TheVariants.{Kind, OutOfMemory as NoMemory}
use Rattle.dns_wire.specs.declared.record_type.TheConstants.{SOA}
use Rattle.dns_zone_map.specs.Zone.{is_type, is_equal}
use Rattle.dns_zone_map.specs.Beside.{is_beside_alias}
use Rattle.dns_presentation.specs.declared.fault.EntryKind.{EntryKind}
use Rattle.dns_presentation.specs.declared.fault.EntryKind.TheVariants as kind
use Rattle.dns_presentation.specs.declared.entry.Context.{Context}
use Rattle.dns_presentation.specs.declared.entry.Entry.{Entry}
use Rattle.dns_presentation.specs.declared.entry.Entry.TheVariants as entry
use Rattle.dns_presentation.specs.LogicalLines.{LogicalLine, logical_lines}
use Rattle.dns_presentation.specs.Entries.{entry_of, first_context, context_after}

-- the records with one in the place of the first that is equal to it in name, type and data, or else at the end
abbrev pub put_in : List Record → Record → List Record
put_in [] r = r ∷ []
put_in (s ∷ records) r = if is_equal r s then r ∷ records else s ∷ put_in records r

-- the records with one more, or why it may not stand beside them
unfoldable pub placed : List (List ℕ) → List Record → Record → Result (List Record) ZoneTextKind
placed origin records r =
    if not (is_at_or_below r.name origin) then Err OutOfZone
    else if is_type SOA r && (not (is_same_name r.name origin) || list_any (is_type SOA) records) then Err NotOneSoa
    else if list_any (is_beside_alias r) records then Err AliasBesideOther
    else Ok (put_in records r)

-- what is wrong with an entry
abbrev pub kind_of : EntryKind → ZoneTextKind
kind_of kind.Paren = Paren
kind_of kind.Quote = Quote
kind_of kind.Directive = Directive
kind_of kind.Name = Name
kind_of kind.Ttl = Ttl
kind_of kind.RecordType = RecordType
kind_of kind.Data = Data

-- the word for it
abbrev pub kind_text : ZoneTextKind → List ℕ
kind_text Paren = codes "Paren"
kind_text Quote = codes "Quote"
kind_text Directive = codes "Directive"
kind_text Name = codes "Name"
kind_text Ttl = codes "Ttl"
kind_text RecordType = codes "Type"
kind_text Data = codes "Data"
kind_text OutOfZone = codes "OutOfZone"
kind_text NotOneSoa = codes "NotOneSoa"
kind_text AliasBesideOther = codes "AliasBesideOther"

-- the records with that of one more entry, if it is a record, or why it is refused
abbrev pub entered : List (List ℕ) → List Record → Entry → Result (List Record) ZoneTextKind
entered origin records (entry.Record r stated) = placed origin records r
entered origin records other = Ok records

-- the records with what one more logical line says, or why it is refused
abbrev pub placed_entry : List (List ℕ) → List Record → Result Entry EntryKind → Result (List Record) ZoneTextKind
placed_entry origin records (Err kind) = Err (kind_of kind)
placed_entry origin records (Ok one) = entered origin records one

-- what holds behind a logical line
abbrev pub context_behind : Context → Result Entry EntryKind → Context
context_behind context (Err kind) = context
context_behind context (Ok one) = context_after context one

-- the records at the end of the text, among which there is an SOA
unfoldable pub finished : List Record → Result (List Record) ZoneTextFault
finished records = if list_any (is_type SOA) records then Ok records else Err (Refused 0 NotOneSoa)

-- what comes after a line: the records go on, or the line and why it is refused
abbrev pub after_line : ℕ → Result (List Record) ZoneTextKind
    → (List Record → Result (List Record) ZoneTextFault) → Result (List Record) ZoneTextFault
after_line number (Ok records) more = more records
after_line number (Err kind) more = Err (Refused number kind)

-- the records behind these, of logical lines in a context
abbrev pub records_from : List (List ℕ) → Context → List Record → List LogicalLine → Result (List Record) ZoneTextFault
records_from origin context records [] = finished records
records_from origin context records (line ∷ lines) =
    after_line line.number (placed_entry origin records (entry_of context line))
    (λ more. records_from origin (context_behind context (entry_of context line)) more lines)

-- the records of the zone that has this origin and this text
abbrev pub zone_of : List (List ℕ) → List ℕ → Result (List Record) ZoneTextFault
zone_of origin text = records_from origin (first_context origin) [] (logical_lines 1 text)

-- why one line was not taken
abbrev pub TellsKind : Result (List Record) ZoneTextKind → LineFault → Type 0
TellsKind meant (Kind kind) = meant ≡ Err kind
TellsKind meant NoMemory = Unit {0}

-- why the text is refused, unless memory ran out
abbrev pub Tells : Result (List Record) ZoneTextFault → ZoneTextFault → Type 0
Tells meant (Refused line kind) = meant ≡ Err (Refused line kind)
Tells meant OutOfMemory = Unit {0}
