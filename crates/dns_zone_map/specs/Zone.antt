-- What contracts see of a zone, which lists of records are a zone's, and the sets in them (RFC 1034 4.2, RFC 2181 5).
use Rattle.std.specs.Prelude.{◌≡◌, ℕ, ◌<◌, nat_le, Bool, true, false, ◌==◌, ◌&&◌, ◌||◌, List, [], ◌∷◌, filter, length}
use Rattle.std.specs.List.{list_any, AllByRecursion, IsDistinct}
use Rattle.dns_name.specs.Name.{fold_of, is_same_name, is_at_or_below}
use Rattle.dns_wire.specs.declared.rdata.Data.{Data}
use Rattle.dns_wire.specs.declared.rdata.Data.TheVariants.{Soa}
use Rattle.dns_wire.specs.declared.record.Record.{Record}
use Rattle.dns_wire.specs.declared.class.TheConstants.{IN}
use Rattle.dns_wire.specs.declared.record_type.TheConstants.{CNAME, SOA, OPT}
use Rattle.dns_wire.specs.Forms.{form_of, variant_of}
use Rattle.dns_wire.specs.WireFormat.{data_bytes, IsShort}
use Rattle.dns_wire.specs.Folds.{fold_data}
use Rattle.dns_zone_map.specs.SameData.{data_eq}

-- the name at the top of a zone, and the zone's records in their order
pub record Contents : Type 0 where
  pub origin : List (List ℕ)
  pub records : List Record

-- the record is of the type
abbrev pub is_type : ℕ → Record → Bool
is_type rtype r = r.rtype == rtype

-- the record is of the name and the type
abbrev pub is_in_set : List (List ℕ) → ℕ → Record → Bool
is_in_set name rtype r = is_type rtype r && is_same_name r.name name

-- the records of one name and type, in their order (RFC 2181 5)
abbrev pub set_of : List Record → List (List ℕ) → ℕ → List Record
set_of records name rtype = filter (is_in_set name rtype) records

-- the serial of an SOA, or another number where the data is no SOA's
abbrev pub serial_or : Data → ℕ → ℕ
serial_or (Soa serial mname rname refresh retry expire minimum) other = serial
serial_or rdata other = other

-- the serial of the SOA, 0 where there is none (RFC 1035 3.3.13)
abbrev pub serial_of : List Record → ℕ
serial_of [] = 0
serial_of (r ∷ rs) = serial_or r.rdata (serial_of rs)

-- the serial of the first record, 0 where there is none or it is no SOA
abbrev pub first_serial : List Record → ℕ
first_serial [] = 0
first_serial (r ∷ rs) = serial_or r.rdata 0

-- a type that no record of a zone has: 0, OPT, and those that stand in questions and in messages (RFC 6895 3.1)
abbrev pub is_meta : ℕ → Bool
is_meta rtype = (rtype == 0) || ((rtype == OPT) || (nat_le 128 rtype && nat_le rtype 255))

-- a record that may stand in the zone of this origin
pub record IsEntry (origin : List (List ℕ)) (r : Record) : Type 0 where
  -- it is at the origin or below, and at the origin where it is an SOA
  pub within : is_at_or_below r.name origin ≡ true
  pub soa : is_type SOA r ≡ true → is_same_name r.name origin ≡ true
  -- its class is IN, and its data, at least one byte, has the form of its type
  pub class : r.class ≡ IN
  pub plain : is_meta r.rtype ≡ false
  pub form : form_of r.rtype (length (data_bytes r.rdata)) ≡ variant_of r.rdata
  pub filled : 0 < length (data_bytes r.rdata)
  pub short : IsShort r
  -- its names are in small letters
  pub owner : fold_of r.name ≡ r.name
  pub names : fold_data r.rdata ≡ r.rdata

-- the two are equal in name, type and data
abbrev pub is_equal : Record → Record → Bool
is_equal r s = (r.rtype == s.rtype) && (is_same_name r.name s.name && data_eq r.rdata s.rdata)

-- a zone has at most one of the two: SOAs, CNAMEs of one name, or records equal in name, type and data
abbrev pub is_rival : Record → Record → Bool
is_rival r s =
    (r.rtype == s.rtype)
    && ((r.rtype == SOA) || (is_same_name r.name s.name && ((r.rtype == CNAME) || data_eq r.rdata s.rdata)))

-- the records of a zone, among which one is its SOA
pub record IsZone (origin : List (List ℕ)) (records : List Record) : Type 0 where
  pub folded : fold_of origin ≡ origin
  pub entries : AllByRecursion (IsEntry origin) records
  pub distinct : IsDistinct is_rival records
  pub soa : list_any (is_type SOA) records ≡ true

-- records that may become those of a zone, while its text is read
pub record IsSoFar (origin : List (List ℕ)) (records : List Record) : Type 0 where
  pub entries : AllByRecursion (IsEntry origin) records
  pub distinct : IsDistinct is_rival records
