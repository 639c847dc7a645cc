-- What holds of the record of an entry that stands alone.
use Rattle.std.proofs.Common.{◌≡◌, ℕ, Bool, true, false, List, [], Option, Result, Ok, Err, refl, ap, ◌∙◌, arith}
use Rattle.dns_wire.specs.declared.record.Record.{Record}
use Rattle.dns_presentation.specs.declared.fault.EntryKind.{EntryKind}
use Rattle.dns_presentation.specs.declared.entry.Entry.{Entry}
use Rattle.dns_presentation.specs.declared.entry.Entry.TheVariants as entry
use Rattle.dns_presentation.specs.LogicalLines.{LogicalLine, logical_lines}
use Rattle.dns_presentation.specs.Entries.{◌>>=◌, entry_of}
use Rattle.dns_zone.specs.Contexts.{IsSound}
use Rattle.dns_zone.proofs.Readings.{IsRead}
use Rattle.dns_zone.proofs.Entering.{IsEntered-entry_of}
use Rattle.dns_update_script.specs.Entry.{alone, only_line, lacks_ttl, begins_directive, entered, line_entry, text_entry, in_zone_text, entry_in}

-- the record of an entry
entered-is : (directive lacks : Bool) (found : Result Entry EntryKind) (r : Record) → entered directive lacks found ≡ Ok r → (stated : Option ℕ) × (found ≡ Ok (entry.Record r stated))
entered-is directive lacks (Ok entry.Nothing) r is = absurd cc
entered-is directive lacks (Ok (entry.Origin origin)) r is = absurd cc
entered-is directive lacks (Ok (entry.DefaultTtl ttl)) r is = absurd cc
entered-is directive true (Ok (entry.Record s stated)) r is = absurd cc
entered-is directive false (Ok (entry.Record s stated)) r is = (stated, let same : s ≡ r = cc in ap (λ r. Ok (entry.Record r stated)) same)
entered-is directive lacks (Err wrong) r is = absurd cc

-- what came of a line came of some line
line_taken : (found : Result LogicalLine EntryKind) (next : LogicalLine → Result Record EntryKind) (r : Record) → (found >>= next) ≡ Ok r → (line : LogicalLine) × (next line ≡ Ok r)
line_taken (Ok line) next r is = (line, is)
line_taken (Err wrong) next r is = absurd cc

-- the root is a name in small letters
IsSound-alone : (ttl : Option ℕ) → IsSound (alone [] ttl)
IsSound-alone ttl = record { origin = record { folded = refl; short = omega arith }; owner = tt }

line_entry-read : (ttl : Option ℕ) (line : LogicalLine) (r : Record) → line_entry [] ttl line ≡ Ok r → IsRead r
line_entry-read ttl line r is =
    let found = entered-is (begins_directive line.words) (lacks_ttl ttl line.words) (entry_of (alone [] ttl) line) r is in
    let held = IsEntered-entry_of (alone [] ttl) line (entry.Record r found.0) (IsSound-alone ttl) found.1 in
    held.0

text_entry-read : (ttl : Option ℕ) (text : List ℕ) (r : Record) → text_entry [] ttl text ≡ Ok r → IsRead r
unfolding text_entry
text_entry-read ttl text r is =
    let line = line_taken (only_line (logical_lines 1 text)) (line_entry [] ttl) r is in
    line_entry-read ttl line.0 r line.1

pub entry_in-read : (ttl : Option ℕ) (text : List ℕ) (r : Record) → entry_in [] ttl text ≡ Ok r → IsRead r
entry_in-read ttl text r is = by_found (text_entry [] ttl text) refl is
  where
    by_found : (found : Result Record EntryKind) → text_entry [] ttl text ≡ found → in_zone_text found ≡ Ok r → IsRead r
    by_found (Ok s) found is = let same : s ≡ r = cc in text_entry-read ttl text r (found ∙ ap Ok same)
    by_found (Err wrong) found is = absurd cc
