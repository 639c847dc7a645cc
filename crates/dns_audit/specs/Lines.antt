-- The lines that the program writes.
use Rattle.std.specs.Prelude.{ℕ, ◌++◌, List, codes}
use Rattle.std.specs.List.{flat_map}
use Rattle.std.specs.Fmt.{decimal, signed_decimal}
use Rattle.dns_zone_map.specs.Zone.{Contents, serial_of}
use Rattle.dns_store.specs.declared.listing.ListedBatch.{ListedBatch}
use Rattle.dns_printed.specs.Printed.{zone_text}

-- the line behind a zone that so many rows make: a comment in its text (RFC 1035 5.1)
abbrev pub length_line : ℕ → ℕ → List ℕ
length_line count serial = codes "; length " ++ (decimal count ++ (codes " serial " ++ (decimal serial ++ codes "\n")))

-- a zone that so many rows make, and its length and serial
abbrev pub zone_output : ℕ → Contents → List ℕ
zone_output count zone = zone_text zone.records ++ length_line count (serial_of zone.records)

-- the line of a batch
abbrev pub batch_line : ListedBatch → List ℕ
batch_line b =
    codes "batch " ++ (signed_decimal b.first ++ (codes " " ++ (signed_decimal b.count
    ++ (codes " serial " ++ (signed_decimal b.serial ++ (codes " client " ++ (signed_decimal b.client ++ codes "\n")))))))

-- the lines of batches, in order
abbrev pub batch_lines : List ListedBatch → List ℕ
batch_lines listed = flat_map batch_line listed

-- the line of a journal into which so many rows were written
abbrev pub rows_line : ℕ → List ℕ
rows_line rows = codes "rows " ++ (decimal rows ++ codes "\n")
