-- What an update does to the records of a zone, and which of its records are journalled (RFC 2136 3.4.2, 3.6).
use Rattle.std.specs.Prelude.{ℕ, ◌+◌, ◌-◌, ◌%◌, ◌^◌, List, [], ◌∷◌, filter, length, Bool, ◌==◌, ◌&&◌, not, nat_lt, nat_le, if◌then◌else◌}
use Rattle.std.specs.List.{list_any}
use Rattle.std.specs.Cmp.Lexicographic.{pointwise}
use Rattle.dns_name.specs.Name.{fold_of, is_same_name}
use Rattle.dns_wire.specs.declared.record.Record.{Record}
use Rattle.dns_wire.specs.declared.class.TheConstants as class
use Rattle.dns_wire.specs.declared.record_type.TheConstants as record_type
use Rattle.dns_wire.specs.declared.record_type.TheConstants.{NS, CNAME, SOA}
use Rattle.dns_wire.specs.Folds.{fold_data}
use Rattle.dns_zone_map.specs.SameData.{lists_eq, data_eq}
use Rattle.dns_zone_map.specs.Zone.{is_type, set_of, serial_or, serial_of, is_equal, is_rival}
use Rattle.dns_zone_map.specs.Changes.{put_over, bears, is_taken_with_name, is_taken_with_set, set_serial}
use Rattle.dns_zone_map.specs.Existence.{owns_type}

-- a record with the ASCII capitals of its names made small
abbrev pub fold_record : Record → Record
fold_record r = record { name = fold_of r.name; rtype = r.rtype; class = r.class; ttl = r.ttl; rdata = fold_data r.rdata }

-- an addition: in the place of the SOA, of the CNAME of its name or of the record equal to it, or else at the end
-- (RFC 2136 3.4.2.2)
abbrev pub put : List Record → Record → List Record
put records r = put_over (is_rival r) r records

-- a deletion of class ANY takes all sets of a name where the type is ANY, else a set
abbrev pub is_taken_by_any : List (List ℕ) → Record → Record → Bool
is_taken_by_any origin r s =
    if r.rtype == record_type.ANY then is_taken_with_name origin r.name s else is_taken_with_set origin r.name r.rtype s

-- it is an NS record of the origin, which has so many
abbrev pub is_only_ns : List (List ℕ) → ℕ → Record → Bool
is_only_ns origin count s = is_type NS s && (bears origin s && (count == 1))

-- a deletion of class NONE takes the record equal to it, but no SOA, and not the origin's only NS (RFC 2136 3.4.2.4)
abbrev pub is_taken_by_none : List (List ℕ) → ℕ → Record → Record → Bool
is_taken_by_none origin count r s = is_equal r s && (not (is_type SOA s) && not (is_only_ns origin count s))

abbrev pub is_taken : List (List ℕ) → ℕ → Record → Record → Bool
is_taken origin count r s = if r.class == class.ANY then is_taken_by_any origin r s else is_taken_by_none origin count r s

-- the records that a test does not take
abbrev pub without : (Record → Bool) → List Record → List Record
without taken records = filter (λ s. not (taken s)) records

abbrev pub is_left : List (List ℕ) → ℕ → Record → Record → Bool
is_left origin count r s = not (is_taken origin count r s)

-- how many NS records the origin has
abbrev pub ns_count : List (List ℕ) → List Record → ℕ
ns_count origin records = length (set_of records origin NS)

-- a deletion: the records that it does not take
abbrev pub delete : List (List ℕ) → List Record → Record → List Record
delete origin records r = filter (is_left origin (ns_count origin records) r) records

-- one serial is greater than another: by 1 to 2^31 - 1, modulo 2^32 (RFC 1982 3.2)
abbrev pub is_newer : ℕ → ℕ → Bool
is_newer serial than = nat_le 1 ((serial + 2 ^ 32 - than) % 2 ^ 32) && nat_lt ((serial + 2 ^ 32 - than) % 2 ^ 32) (2 ^ 31)

-- the record is of the name, and of another type than CNAME
abbrev pub bears_other : List (List ℕ) → Record → Bool
bears_other name s = bears name s && not (is_type CNAME s)

-- an addition that is passed over: an SOA away from the origin or not newer than the zone's, a CNAME beside other
-- types, another type beside a CNAME (RFC 2136 3.4.2.2)
abbrev pub is_ignored : List (List ℕ) → List Record → Record → Bool
is_ignored origin records r =
    if r.rtype == SOA then not (is_same_name r.name origin && is_newer (serial_or r.rdata 0) (serial_of records))
    else if r.rtype == CNAME then list_any (bears_other r.name) records
    else owns_type records r.name CNAME

-- an addition where the class is IN, else a deletion
abbrev pub step : List (List ℕ) → List Record → Record → List Record
step origin records r = if r.class == class.IN then put records r else delete origin records r

-- what one update record does: nothing where it is ignored (RFC 2136 3.4.2.7)
abbrev pub change : List (List ℕ) → List Record → Record → List Record
change origin records r = if (r.class == class.IN) && is_ignored origin records r then records else step origin records r

-- additions and deletions, from the left
abbrev pub steps : List (List ℕ) → List Record → List Record → List Record
steps origin records [] = records
steps origin records (r ∷ rs) = steps origin (step origin records r) rs

-- what update records do, from the left, their names folded
abbrev pub changes : List (List ℕ) → List Record → List Record → List Record
changes origin records [] = records
changes origin records (r ∷ rs) = changes origin (change origin records (fold_record r)) rs

-- the two are equal in each field, the case of letters included
abbrev pub is_same_record : Record → Record → Bool
is_same_record r s =
    lists_eq r.name s.name && ((r.rtype == s.rtype) && ((r.class == s.class) && ((r.ttl == s.ttl) && data_eq r.rdata s.rdata)))

abbrev pub are_same_records : List Record → List Record → Bool
are_same_records = pointwise is_same_record

-- what an update record does leaves other records than there were
abbrev pub makes_change : List (List ℕ) → List Record → Record → Bool
makes_change origin records r = not (are_same_records (change origin records r) records)

-- the batch: of the update records, from the left and with their names folded, those that change what the ones before
-- them left
abbrev pub batch_of : List (List ℕ) → List Record → List Record → List Record
batch_of origin records [] = []
batch_of origin records (r ∷ rs) =
    if are_same_records (change origin records (fold_record r)) records then batch_of origin records rs
    else fold_record r ∷ batch_of origin (change origin records (fold_record r)) rs

-- the serial that a batch leaves: one more than that of the SOA then, modulo 2^32, where the batch is not empty
-- (RFC 2136 3.6, RFC 1982 3.1)
abbrev pub serial_after_batch : List (List ℕ) → List Record → List Record → ℕ
serial_after_batch origin records [] = serial_of records
serial_after_batch origin records (r ∷ rs) = (serial_of (steps origin records (r ∷ rs)) + 1) % 2 ^ 32

-- the serial that an update leaves
abbrev pub serial_after : List (List ℕ) → List Record → List Record → ℕ
serial_after origin records updates = serial_after_batch origin records (batch_of origin records updates)

-- the records after a batch, with the serial that it leaves
abbrev pub applied : List (List ℕ) → List Record → List Record → ℕ → List Record
applied origin records batch serial = set_serial serial (steps origin records batch)
