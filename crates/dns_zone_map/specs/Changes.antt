-- Records that come into a list, or leave it (RFC 2136 3.4.2).
use Rattle.std.specs.Prelude.{◌≡◌, ℕ, nat_lt, Bool, true, false, ◌==◌, ◌&&◌, ◌||◌, not, map, List, [], ◌∷◌, if◌then◌else◌, Option, Some, None}
use Rattle.std.specs.List.{AllByRecursion}
use Rattle.dns_name.specs.Name.{is_same_name}
use Rattle.dns_wire.specs.declared.rdata.Data.{Data}
use Rattle.dns_wire.specs.declared.rdata.Data.TheVariants.{Soa}
use Rattle.dns_wire.specs.declared.record.Record.{Record}
use Rattle.dns_wire.specs.declared.record_type.TheConstants.{NS, SOA}
use Rattle.dns_zone_map.specs.Zone.{is_type, is_in_set}
use Rattle.dns_zone_map.specs.Order.{Numbered}

-- a record in the place of the first at which a test passes, or else at the end
abbrev pub put_over : (Record → Bool) → Record → List Record → List Record
put_over test r [] = r ∷ []
put_over test r (s ∷ records) = if test s then r ∷ records else s ∷ put_over test r records

-- the first record at which a test passes
abbrev pub first_that : (Record → Bool) → List Record → Option Record
first_that test [] = None
first_that test (s ∷ records) = if test s then Some s else first_that test records

-- a record in the place of each one at which a test passes
abbrev pub replace_if : (Record → Bool) → Record → Record → Record
replace_if test r s = if test s then r else s

-- at most one passes
abbrev pub AtMostOne : (Record → Bool) → List Record → Type 0
AtMostOne test [] = Unit {0}
AtMostOne test (s ∷ records) = (test s ≡ true → AllByRecursion (λ t. test t ≡ false) records) × AtMostOne test records

-- a change of records that leaves their numbers
abbrev pub at_record : (Record → Record) → Numbered → Numbered
at_record f x = record { number = x.number; one = f x.one }

-- numbers that are changed so that their order stays
abbrev pub at_number : (ℕ → ℕ) → Numbered → Numbered
at_number f x = record { number = f x.number; one = x.one }

-- the order of two numbers stays
abbrev pub KeepsOrder : (ℕ → ℕ) → List Numbered → Type 0
KeepsOrder f [] = Unit {0}
KeepsOrder f (x ∷ xs) = AllByRecursion (λ y. nat_lt (f y.number) (f x.number) ≡ nat_lt y.number x.number) xs × KeepsOrder f xs

-- the record is of the name
abbrev pub bears : List (List ℕ) → Record → Bool
bears name r = is_same_name r.name name

-- the types whose sets stay at the origin whatever is deleted there (RFC 2136 3.4.2.3)
abbrev pub is_kept_type : ℕ → Bool
is_kept_type rtype = (rtype == SOA) || (rtype == NS)

abbrev pub is_kept_at : List (List ℕ) → Record → Bool
is_kept_at origin r = bears origin r && is_kept_type r.rtype

-- a deletion of all sets of a name takes the record (RFC 2136 3.4.2.3)
abbrev pub is_taken_with_name : List (List ℕ) → List (List ℕ) → Record → Bool
is_taken_with_name origin name r = bears name r && not (is_kept_at origin r)

-- a deletion of a set takes the record (RFC 2136 3.4.2.3)
abbrev pub is_taken_with_set : List (List ℕ) → List (List ℕ) → ℕ → Record → Bool
is_taken_with_set origin name rtype r = is_in_set name rtype r && not (is_kept_at origin r)

-- the record is of the origin, where it does not stay whatever is deleted there
abbrev pub is_free_at : List (List ℕ) → Record → Bool
is_free_at origin r = bears origin r && not (is_kept_type r.rtype)

-- data with this serial, where it is an SOA's
abbrev pub data_at : ℕ → Data → Data
data_at serial (Soa old mname rname refresh retry expire minimum) = Soa serial mname rname refresh retry expire minimum
data_at serial rdata = rdata

-- a record with this serial, where a test says so
abbrev pub at_if : Bool → ℕ → Record → Record
at_if true serial r = record { name = r.name; rtype = r.rtype; class = r.class; ttl = r.ttl; rdata = data_at serial r.rdata }
at_if false serial r = r

-- a record with this serial, where it is an SOA
abbrev pub at_serial : ℕ → Record → Record
at_serial serial r = at_if (is_type SOA r) serial r

-- records with this serial
abbrev pub set_serial : ℕ → List Record → List Record
set_serial serial = map (at_serial serial)
